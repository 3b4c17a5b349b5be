-- The laws of what tokens spell, for the answer of a function that reads.
use Rattle.std.proofs.Common.{◌≡◌, ◌≤◌, ℕ, Bool, true, false, List, length, drop, nat_lt, Result, Ok, Err, refl, subst, arith}
use Rattle.std.specs.Prelude.{IfOk, IfErr, MatchResult, if◌then◌else◌}
use borrow.Author.Tests.{ltb-true, ltb-false}
use Rattle.flt_c_syntax.specs.Body.{max_tokens, Spells, bounded_body, body_of, SpellsAtMostOne, IsFaultOf}
use Rattle.flt_c_syntax.specs.Cursor.{Outcome, Reads, fault_at}
use Rattle.flt_c_syntax.specs.Statement.{function_body}
use Rattle.flt_c_syntax.specs.Tokens.{Input}
use Rattle.flt_c_syntax.specs.declared.class.Class.{Class}
use Rattle.flt_c_syntax.specs.declared.fault.Fault.{Fault}
use Rattle.flt_c_syntax.specs.declared.fault.ReadError.{ReadError}
use Rattle.flt_c_syntax.specs.declared.fault.ReadError.TheVariants.{Syntax, OutOfMemory}
use Rattle.flt_c_syntax.specs.declared.fault.Reason.TheVariants as reasons
use Rattle.flt_c_syntax.specs.declared.tree.Statement.{Statement}
use Rattle.flt_c_syntax.proofs.Gives.{Gives, fails, gives_by, given}
use Rattle.flt_c_syntax.proofs.StatementComplete.{body_again}
use Rattle.flt_c_syntax.proofs.StatementSound.{body_gives}

few_tokens : (n : ℕ) → nat_lt max_tokens n ≡ false → n ≤ max_tokens
few_tokens n e = grind (arith, ltb-false max_tokens n e)

not_many : (n : ℕ) → n ≤ max_tokens → nat_lt max_tokens n ≡ false
not_many n h = by (nat_lt max_tokens n) refl
  where
    by : (b : Bool) → nat_lt max_tokens n ≡ b → b ≡ false
    by true e = absurd (omega (arith, ltb-true max_tokens n e, h))
    by false e = refl

body_of_by : (known : List Class) (i : Input) (b : Bool) → nat_lt max_tokens (length i) ≡ b →
    Gives (λ ss _. Spells known i ss) (if b then Err (fault_at reasons.TooLong (drop max_tokens i)) else function_body known i)
body_of_by known i true e = fails
body_of_by known i false e = gives_by (λ ss o p. record { grammar = p; few = few_tokens (length i) e }) (body_gives known i)

-- what is read is spelled
body_of_gives : (known : List Class) (i : Input) → Gives (λ ss _. Spells known i ss) (body_of known i)
unfolding bounded_body
body_of_gives known i = body_of_by known i (nat_lt max_tokens (length i)) refl

-- what is spelled is read
body_of_again : (known : List Class) (i : Input) (ss : List Statement) → Spells known i ss → (o : Input) × (body_of known i ≡ Ok (ss, o))
unfolding bounded_body
body_of_again known i ss p = let a = body_again known i ss p.grammar in (a.0, rw (not_many (length i) p.few) a.1)

-- ---- for the answer of a function that reads

pub is_spelled : (known : List Class) (i : Input) (r : Result (List Statement) ReadError) (o : Input) → Reads (body_of known i) r o →
    IfOk r (λ ss. Spells known i ss)
is_spelled known i (Ok ss) o e = given (subst (Gives (λ ss o. Spells known i ss)) e (body_of_gives known i))
is_spelled known i (Err e) o h = tt

same_statements : (r : Outcome (List Statement)) (x y : List Statement × Input) → r ≡ Ok x → r ≡ Ok y → x.0 ≡ y.0
same_statements r x y e h = cc

ok_or_err : (r : Outcome (List Statement)) (x : List Statement × Input) (f : Fault) → r ≡ Ok x → r ≡ Err f → ⊥
ok_or_err r x f e h = cc

pub is_found : (known : List Class) (i : Input) (r : Result (List Statement) ReadError) (o : Input) → Reads (body_of known i) r o →
    (ss : List Statement) → Spells known i ss → MatchResult r (λ found. found ≡ ss) (λ e. e ≡ OutOfMemory)
is_found known i (Ok found) o e ss p = let a = body_of_again known i ss p in same_statements (body_of known i) (found, o) (ss, a.0) e a.1
is_found known i (Err OutOfMemory) o e ss p = refl
is_found known i (Err (Syntax f)) o e ss p = let a = body_of_again known i ss p in elim (ok_or_err (body_of known i) (ss, a.0) f a.1 e) [ ]

pub is_fault : (known : List Class) (i : Input) (r : Result (List Statement) ReadError) (o : Input) → Reads (body_of known i) r o →
    IfErr r (IsFaultOf (body_of known i))
is_fault known i (Ok ss) o e = tt
is_fault known i (Err OutOfMemory) o e = tt
is_fault known i (Err (Syntax f)) o e = e

-- tokens spell at most one tree
pub only_one : SpellsAtMostOne
only_one known i ss rs p q =
    let a = body_of_again known i ss p in
    let b = body_of_again known i rs q in
    same_statements (body_of known i) (ss, a.0) (rs, b.0) a.1 b.1
