-- What the variables of an activation are kept in.
use Rattle.std.specs.Prelude.{ℕ, zero, suc, Option, Some, None}

-- 0 is NULL, and each other code is the number before it
abbrev pub named_by : ℕ → Option ℕ
named_by zero = None
named_by (suc n) = Some n
