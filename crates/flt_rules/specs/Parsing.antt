-- Reading from left to right up to the first fault: I is what is left to read, F a fault, A what is read. This project's own.
use Rattle.std.specs.Prelude.{Result, Ok, Err}

-- what was read and what is left, or the first fault
abbrev pub Outcome : Type 0 → Type 0 → Type 0 → Type 0
Outcome I F A = Result (A × I) F

-- what reads the front of what is left
abbrev pub Parser : Type 0 → Type 0 → Type 0 → Type 0
Parser I F A = I → Outcome I F A

-- what is read after what was read
abbrev pub and_then : {I F A B : Type 0} → Outcome I F A → (A × I → Outcome I F B) → Outcome I F B
and_then (Ok x) f = f x
and_then (Err e) f = Err e

infixl 10 ◌>>=◌
-- one parser, then another that may ask what the first one read
abbrev pub ◌>>=◌ : {I F A B : Type 0} → Parser I F A → (A → Parser I F B) → Parser I F B
p >>= f = λ i. and_then (p i) (λ q. f q.0 q.1)

infixl 10 ◌>>◌
-- one parser, then another
abbrev pub ◌>>◌ : {I F A B : Type 0} → Parser I F A → Parser I F B → Parser I F B
p >> q = p >>= (λ _. q)

-- reads nothing
abbrev pub pure : {I F A : Type 0} → A → Parser I F A
pure a = λ i. Ok (a, i)
