-- Recursions on a count, beside code that counts.
use Rattle.std.proofs.Common.{◌≡◌, ℕ, zero, suc, ◌+◌, ◌-◌, ◌<◌, refl, arith, length, if◌then◌else◌}
use Rattle.std.specs.Prelude.{Option, Some, None}
use Rattle.flt_c_macros.specs.Texts.{Texts}
use Rattle.flt_c_tokens.specs.declared.token.Kind.TheVariants as k
use Rattle.flt_c_macros.specs.Macros.{Known, macro_of}
use Rattle.flt_c_macros.specs.Values.{Value, negation}
use Rattle.flt_c_macros.specs.Conditions.{Reader, Line, and_then, expect, more, more_by, named, named_by, next, operand, ranked, sees, sign}
use Rattle.flt_c_macros.specs.Conditions.{simple}

pub named_none : (texts : Texts) (macros : Known) (name : ℕ) → named texts macros 0 name ≡ None
unfolding named
named_none texts macros name = refl

pub named_step : (texts : Texts) (macros : Known) (depth name : ℕ) → 0 < depth →
    named texts macros depth name ≡ named_by texts macros (named texts macros (depth - 1)) (macro_of macros name)
unfolding named
named_step texts macros zero name some = absurd (omega arith)
named_step texts macros (suc n) name some = let e : suc n - 1 ≡ n = omega arith in rw e refl

pub more_none : (part : Reader Value) (rank turns : ℕ) (left : Value) (i : Line) → turns ≡ 0 → more part rank turns left i ≡ Some (left, i)
unfolding more
more_none part rank zero left i none = refl
more_none part rank (suc turns) left i none = absurd (omega arith)

pub more_step : (part : Reader Value) (rank at n : ℕ) (left : Value) (i : Line) → at < n →
    more part rank (n - at) left i ≡ more_by part (more part rank (n - (at + 1))) left i (sign rank i)
unfolding more
more_step part rank at n left i below = let e : n - at ≡ suc (n - (at + 1)) = omega arith in rw e refl

pub ranked_none : (part : Reader Value) (i : Line) → ranked part 0 i ≡ part i
unfolding ranked
ranked_none part i = refl

pub ranked_step : (part : Reader Value) (rank : ℕ) (i : Line) → 0 < rank →
    ranked part rank i ≡ and_then (ranked part (rank - 1) i) (λ q. more (ranked part (rank - 1)) (rank - 1) (length q.1) q.0 q.1)
unfolding ranked
ranked_step part zero i some = absurd (omega arith)
ranked_step part (suc n) i some = let e : suc n - 1 ≡ n = omega arith in rw e refl

pub operand_none : (texts : Texts) (macros : Known) (i : Line) → operand texts macros 0 i ≡ None
unfolding operand
operand_none texts macros i = refl

pub operand_step : (texts : Texts) (macros : Known) (depth : ℕ) (i : Line) → 0 < depth →
    operand texts macros depth i ≡
    (if sees k.Exclamation i then and_then (operand texts macros (depth - 1) (next i)) (λ q. Some (negation q.0, q.1))
    else (if sees k.OpenParen i
    then and_then (ranked (operand texts macros (depth - 1)) 4 (next i)) (λ q. and_then (expect k.CloseParen q.1) (λ e. Some (q.0, e.1)))
    else simple texts macros i))
unfolding operand
operand_step texts macros zero i some = absurd (omega arith)
operand_step texts macros (suc n) i some = let e : suc n - 1 ≡ n = omega arith in rw e refl
