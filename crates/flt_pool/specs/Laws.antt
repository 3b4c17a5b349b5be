-- What holds of a deque, or of the injector, between any two steps. All of it is this project's own rule.
use Rattle.std.specs.Prelude.{◌≡◌, ℕ, ◌+◌, ◌==◌, Bool, true, false, ◌&&◌, List, [], ◌∷◌, if◌then◌else◌}
use Rattle.flt_model.specs.declared.subject.Subject.{Subject}
use Rattle.flt_model.specs.declared.subject.Subject.TheVariants.{Operation, Activation, Item, Entry, Detach}
use Rattle.flt_pool.specs.declared.hand.Hand.{Hand}
use Rattle.flt_pool.specs.Rule.{Balanced}

-- the two tickets are of one kind and have the same numbers
abbrev pub is_same : Subject → Subject → Bool
is_same (Operation a) (Operation b) = a == b
is_same (Activation a) (Activation b) = a == b
is_same (Item a) (Item b) = a == b
is_same (Entry altitude serial) (Entry b other) = (altitude == b) && (serial == other)
is_same (Detach a) (Detach b) = a == b
is_same _ _ = false

-- how often the ticket stands in the list
abbrev pub times : Subject → List Subject → ℕ
times ticket [] = 0
times ticket (other ∷ others) = (if is_same other ticket then 1 else 0) + times ticket others

-- how often the ticket was put through these passes
abbrev pub times_put : Subject → List Hand → ℕ
times_put ticket [] = 0
times_put ticket (v ∷ others) = times ticket v.put + times_put ticket others

-- how often the ticket was taken through these passes
abbrev pub times_taken : Subject → List Hand → ℕ
times_taken ticket [] = 0
times_taken ticket (v ∷ others) = times ticket v.taken + times_taken ticket others

-- between any two steps each ticket was taken as often as it was put, less how often it is left
abbrev pub NoneIsTakenTwice : Type 0
NoneIsTakenTwice = (left : List Subject) (hands : List Hand) → Balanced left hands
    → (ticket : Subject) → times_taken ticket hands + times ticket left ≡ times_put ticket hands

-- tickets that count as the same are equal, and equal ones count as the same
abbrev pub SameMeansEqual : Type 0
SameMeansEqual = (a b : Subject) → (is_same a b ≡ true → a ≡ b) × (a ≡ b → is_same a b ≡ true)
