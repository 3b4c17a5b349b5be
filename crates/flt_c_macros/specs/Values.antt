-- Values of conditions: a number, or none where it is unknown. C's rules for `#if`; what doesn't depend on the unknown is known.
use Rattle.std.specs.Prelude.{ℕ, Bool, true, false, not, ◌&&◌, ◌||◌, ◌==◌, nat_lt, nat_le, if◌then◌else◌, Option, Some, None}
use Rattle.flt_c_tokens.specs.declared.token.Kind.{Kind}
use Rattle.flt_c_tokens.specs.declared.token.Kind.TheVariants as k
use Rattle.flt_c_macros.specs.declared.value.Operator.{Operator}
use Rattle.flt_c_macros.specs.declared.value.Operator.TheVariants.{Either, Both, Equal, NotEqual, Less, LessEqual, Greater, GreaterEqual}
use Rattle.flt_c_macros.specs.Kinds.{same_kind}

abbrev pub Value : Type 0
Value = Option ℕ

abbrev pub is_false : Value → Bool
is_false (Some n) = n == 0
is_false None = false

abbrev pub is_true : Value → Bool
is_true (Some n) = not (n == 0)
is_true None = false

abbrev pub truth : Bool → Value
truth holds = if holds then Some 1 else Some 0

abbrev pub negation : Value → Value
negation (Some n) = truth (n == 0)
negation None = None

-- one true side is enough
abbrev pub either : Value → Value → Value
either a b = if is_true a || is_true b then Some 1 else (if is_false a && is_false b then Some 0 else None)

-- one false side is enough
abbrev pub both : Value → Value → Value
both a b = if is_false a || is_false b then Some 0 else (if is_true a && is_true b then Some 1 else None)

abbrev pub holds : Operator → ℕ → ℕ → Bool
holds Equal a b = a == b
holds NotEqual a b = not (a == b)
holds Less a b = nat_lt a b
holds LessEqual a b = nat_le a b
holds Greater a b = nat_lt b a
holds GreaterEqual a b = nat_le b a
holds Either a b = false
holds Both a b = false

abbrev pub compared : Operator → Value → Value → Value
compared operator (Some a) (Some b) = truth (holds operator a b)
compared operator (Some a) None = None
compared operator None b = None

abbrev pub applied : Operator → Value → Value → Value
applied Either a b = either a b
applied Both a b = both a b
applied Equal a b = compared Equal a b
applied NotEqual a b = compared NotEqual a b
applied Less a b = compared Less a b
applied LessEqual a b = compared LessEqual a b
applied Greater a b = compared Greater a b
applied GreaterEqual a b = compared GreaterEqual a b

-- the operators that bind alike: < <= > >= bind closest, then == !=, then &&, then ||
unfoldable pub operator_of : ℕ → Kind → Option Operator
operator_of rank kind =
    if rank == 0 then
    (if same_kind kind k.Less then Some Less else (if same_kind kind k.LessEqual then Some LessEqual
    else (if same_kind kind k.Greater then Some Greater else (if same_kind kind k.GreaterEqual then Some GreaterEqual else None))))
    else (if rank == 1 then (if same_kind kind k.Equal then Some Equal else (if same_kind kind k.NotEqual then Some NotEqual else None))
    else (if rank == 2 then (if same_kind kind k.LogicalAnd then Some Both else None)
    else (if same_kind kind k.LogicalOr then Some Either else None)))
