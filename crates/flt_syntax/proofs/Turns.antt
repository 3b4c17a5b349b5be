-- Recursions on a count, beside code that counts.
use Rattle.std.proofs.Common.{◌≡◌, ℕ, zero, suc, ◌+◌, ◌-◌, ◌<◌, ◌≤◌, refl, arith}
use Rattle.flt_syntax.specs.Cursor.{Input}
use Rattle.flt_syntax.specs.Scope.{Scope}
use Rattle.flt_syntax.specs.Statement.{block, braced}

-- one turn is left where not all have been taken
pub turn_left : (n at : ℕ) → at < n → n - at ≡ suc (n - (at + 1))
turn_left n at below = omega arith

-- no turn is left where all have been taken
pub none_left : (n at : ℕ) → n ≤ at → n - at ≡ 0
none_left n at done = omega arith

-- one level less is left for the blocks inside
pub block_inside : (scope : Scope) (depth repeats : ℕ) (i : Input) → 0 < depth →
    block scope depth repeats i ≡ braced scope (block scope (depth - 1)) repeats i
unfolding block
block_inside scope zero repeats i some = absurd (omega arith)
block_inside scope (suc n) repeats i some = let e : suc n - 1 ≡ n = omega arith in rw e refl
