-- Hands: what was put and taken through a pass. All of it is this project's own rule.
use Rattle.std.specs.Prelude.{◌≡◌, List, [], ◌∷◌, ◌++◌, All}
use Rattle.flt_model.specs.declared.subject.Subject.{Subject}
use Rattle.flt_pool.specs.declared.hand.Hand.{Hand}

-- the hand of a pass by which nothing was put or taken
abbrev pub newcomer : Hand
newcomer = record { put = []; taken = [] }

-- nothing was put or taken by any of these passes
abbrev pub AreNewcomers : List Hand → Type 0
AreNewcomers hands = All (λ (v : Hand). v ≡ newcomer) hands

-- the hand once a ticket more was put
abbrev pub having_put : Subject → Hand → Hand
having_put ticket v = record { put = v.put ++ ticket ∷ []; taken = v.taken }

-- the hand once a ticket more was taken
abbrev pub having_taken : Subject → Hand → Hand
having_taken ticket v = record { put = v.put; taken = v.taken ++ ticket ∷ [] }
