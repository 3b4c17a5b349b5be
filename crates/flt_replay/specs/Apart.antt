-- Events that leave a visit or an activation alone.
use Rattle.std.specs.Prelude.{ℕ, Bool, true, false, not, ◌==◌, List}
use Rattle.std.specs.List.{list_all, list_any}
use Rattle.flt_model.specs.declared.event.Event.{Event}
use Rattle.flt_model.specs.declared.event.Event.TheVariants.{Gain, Lose, Settle, End}
use Rattle.flt_model.specs.declared.event.Object.TheVariants.{Visit}

-- the visit isn't gained, lost or settled
abbrev pub is_apart : ℕ → Event → Bool
is_apart v (Gain a (Visit u)) = not (u == v)
is_apart v (Lose a (Visit u)) = not (u == v)
is_apart v (Settle u) = not (u == v)
is_apart v _ = true

-- by none of the events
abbrev pub are_apart : ℕ → List Event → Bool
are_apart v events = list_all (is_apart v) events

-- the activation neither gains nor loses
abbrev pub is_anothers : ℕ → Event → Bool
is_anothers a (Gain b o) = not (b == a)
is_anothers a (Lose b o) = not (b == a)
is_anothers a _ = true

-- the activation ends
abbrev pub is_end_of : ℕ → Event → Bool
is_end_of a (End b) = b == a
is_end_of a _ = false

-- in one of the events
abbrev pub ends_in : ℕ → List Event → Bool
ends_in a events = list_any (is_end_of a) events
