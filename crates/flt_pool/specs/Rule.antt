-- The rule of a deque, or of the injector, between any two steps, and what a step tells its hand. All of it is this project's own rule.
use Rattle.std.specs.Prelude.{◌≡◌, ℕ, ◌+◌, List, [], ◌∷◌, ◌++◌}
use Rattle.flt_model.specs.declared.subject.Subject.{Subject}
use Rattle.flt_pool.specs.declared.hand.Hand.{Hand}

-- the weights of the tickets, added up
abbrev pub weigh : (Subject → ℕ) → List Subject → ℕ
weigh weight [] = 0
weigh weight (ticket ∷ others) = weight ticket + weigh weight others

-- what was put through these passes weighs this
abbrev pub weigh_put : (Subject → ℕ) → List Hand → ℕ
weigh_put weight [] = 0
weigh_put weight (v ∷ others) = weigh weight v.put + weigh_put weight others

-- what was taken through these passes weighs this
abbrev pub weigh_taken : (Subject → ℕ) → List Hand → ℕ
weigh_taken weight [] = 0
weigh_taken weight (v ∷ others) = weigh weight v.taken + weigh_taken weight others

-- however tickets are weighed, what was taken through all passes and what is left weigh what was put through them
abbrev pub Balanced : List Subject → List Hand → Type 0
Balanced left hands = (weight : Subject → ℕ) → weigh_taken weight hands + weigh weight left ≡ weigh_put weight hands

-- a hand before and after these tickets were put
abbrev pub HasPut : Hand → List Subject → Hand → Type 0
HasPut before tickets after = after ≡ record { put = before.put ++ tickets; taken = before.taken }

-- a hand before and after these tickets were taken
abbrev pub HasTaken : Hand → List Subject → Hand → Type 0
HasTaken before tickets after = after ≡ record { put = before.put; taken = before.taken ++ tickets }
