-- Recursions on a count, beside code that counts.
use Rattle.std.proofs.Common.{◌≡◌, ℕ, zero, suc, ◌+◌, ◌-◌, ◌<◌, ◌≤◌, List, refl, arith}
use Rattle.flt_c_syntax.specs.Cursor.{Parser, ◌>>=◌, pure, here, many}
use Rattle.flt_c_syntax.specs.Expression.{level, link, expression, expression_as}
use Rattle.flt_c_syntax.specs.Made.{linked}
use Rattle.flt_c_syntax.specs.Statement.{nested, nested_as}
use Rattle.flt_c_syntax.specs.Tokens.{Input}
use Rattle.flt_c_syntax.specs.declared.class.Class.{Class}
use Rattle.flt_c_syntax.specs.declared.class.Nest.{Nest}
use Rattle.flt_c_syntax.specs.declared.class.Role.{Role}
use Rattle.flt_c_syntax.specs.declared.tree.Expression.{Expression}

-- one turn is left where not all have been taken
pub turn_left : (n at : ℕ) → at < n → n - at ≡ suc (n - (at + 1))
turn_left n at below = omega arith

-- no turn is left where all have been taken
pub none_left : (n at : ℕ) → n ≤ at → n - at ≡ 0
none_left n at done = omega arith

-- operands of a level, by those of the level below
pub level_inside : (known : List Class) (inner : Role → Parser Expression) (n : ℕ) (i : Input) → 0 < n →
    level known inner n i
    ≡ (here >>= (λ at. level known inner (n - 1) >>= (λ e. many (link known inner (suc (n - 1)) (level known inner (n - 1))) >>=
    (λ ls. pure (linked at e ls))))) i
unfolding level
level_inside known inner zero i some = absurd (omega arith)
level_inside known inner (suc n) i some = let e : suc n - 1 ≡ n = omega arith in rw e refl

-- one level of brackets less is left for what is inside
pub expression_inside : (known : List Class) (depth : ℕ) (role : Role) (i : Input) → 0 < depth →
    expression known depth role i ≡ expression_as known (expression known (depth - 1)) role i
unfolding expression
expression_inside known zero role i some = absurd (omega arith)
expression_inside known (suc n) role i some = let e : suc n - 1 ≡ n = omega arith in rw e refl

-- one level of blocks less is left for what is inside
pub nested_inside : (known : List Class) (depth : ℕ) (nest : Nest) (i : Input) → 0 < depth →
    nested known depth nest i ≡ nested_as known (depth - 1) (nested known (depth - 1)) nest i
unfolding nested
nested_inside known zero nest i some = absurd (omega arith)
nested_inside known (suc n) nest i some = let e : suc n - 1 ≡ n = omega arith in rw e refl
