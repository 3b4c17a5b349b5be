-- Groups that are not looked at: each takes a token.
use Rattle.std.proofs.Common.{◌≡◌, ℕ, suc, ◌-◌, ◌<◌, Bool, true, false, nat_lt, [], ◌∷◌, length, ap, arith}
use Rattle.std.specs.Prelude.{Some, None, if◌then◌else◌, ◌&&◌, ◌==◌}
use Rattle.flt_c_tokens.specs.declared.token.Kind.TheVariants as k
use Rattle.flt_c_tokens.specs.declared.token.Token.{Token}
use Rattle.flt_c_syntax.specs.Groups.{opens, closes, ends_groups, behind_open, behind_group, behind_run, behind_semicolon}
use Rattle.flt_c_syntax.specs.Tokens.{Input, kind, sees}
use Rattle.flt_c_syntax.proofs.TokenKinds.{none_some, some_same}

open_by : (t : Token) (i o : Input) (deep : ℕ) (a b c d : Bool) →
    ((n : ℕ) → behind_open n i ≡ Some o → length o < length i) →
    (if a then None else (if b then behind_open (suc deep) i else (if c then (if d then behind_open (deep - 1) i else Some i)
    else behind_open deep i))) ≡ Some o →
    length o < length (t ∷ i)
open_by t i o deep true b c d h e = elim (none_some o e) [ ]
open_by t i o deep false true c d h e = omega (arith, h (suc deep) e)
open_by t i o deep false false true true h e = omega (arith, h (deep - 1) e)
open_by t i o deep false false true false h e = omega (arith, ap length (some_same i o e))
open_by t i o deep false false false d h e = omega (arith, h deep e)

open_less : (i o : Input) (deep : ℕ) → behind_open deep i ≡ Some o → length o < length i
open_less [] o deep e = elim (none_some o e) [ ]
open_less (t ∷ i) o deep e =
    open_by t i o deep (ends_groups t.kind) (opens t.kind) (closes t.kind) (nat_lt 1 deep) (λ n h. open_less i o n h) e

group_by : (i o : Input) (b : Bool) → (if b then behind_open 0 i else None) ≡ Some o → length o < length i
group_by i o true e = open_less i o 0 e
group_by i o false e = elim (none_some o e) [ ]

-- a group in brackets
pub group_less : (i o : Input) → behind_group i ≡ Some o → length o < length i
unfolding behind_group
group_less i o e = group_by i o (opens (kind i)) e

run_by : (t : Token) (i o : Input) (deep : ℕ) (a b c d f : Bool) →
    ((n : ℕ) → behind_run n i ≡ Some o → length o < length i) →
    (if a then None else (if b then behind_run (suc deep) i else (if c then (if d then None else behind_run (deep - 1) i)
    else (if f then Some i else behind_run deep i)))) ≡ Some o →
    length o < length (t ∷ i)
run_by t i o deep true b c d f h e = elim (none_some o e) [ ]
run_by t i o deep false true c d f h e = omega (arith, h (suc deep) e)
run_by t i o deep false false true true f h e = elim (none_some o e) [ ]
run_by t i o deep false false true false f h e = omega (arith, h (deep - 1) e)
run_by t i o deep false false false d true h e = omega (arith, ap length (some_same i o e))
run_by t i o deep false false false d false h e = omega (arith, h deep e)

run_less : (i o : Input) (deep : ℕ) → behind_run deep i ≡ Some o → length o < length i
run_less [] o deep e = elim (none_some o e) [ ]
run_less (t ∷ i) o deep e =
    run_by t i o deep (ends_groups t.kind) (opens t.kind) (closes t.kind) (deep == 0) (deep == 0 && sees k.Semicolon (t ∷ i))
    (λ n h. run_less i o n h) e

-- tokens up to a semicolon
pub semicolon_less : (i o : Input) → behind_semicolon i ≡ Some o → length o < length i
unfolding behind_semicolon
semicolon_less i o e = run_less i o 0 e
