-- What fails by the relation beside the grammar, of that the reader says so: tokens.
use Rattle.std.proofs.Common.{◌≡◌, ℕ, Bool, true, false, Err, refl, sym, ap, ◌∙◌}
use Rattle.std.specs.Prelude.{Option, ◌&&◌}
use Rattle.std.proofs.lemmas.Bool.{lt-leb}
use Rattle.flt_syntax.specs.declared.token.Kind.{Kind}
use Rattle.flt_syntax.specs.declared.token.Kind.TheVariants as k
use Rattle.flt_syntax.specs.declared.fault.FaultKind.TheVariants.{E03}
use Rattle.flt_syntax.specs.declared.fault.SyntaxFault.{SyntaxFault}
use Rattle.flt_tree.specs.declared.variable.ContextVariable.{ContextVariable}
use Rattle.flt_tree.specs.Names.{Text}
use Rattle.flt_syntax.specs.Lex.{is_fault}
use Rattle.flt_syntax.specs.Words as words
use Rattle.flt_syntax.specs.Operand.{context_variable, other_context, with_context}
use Rattle.flt_syntax.specs.Call.{old, other_old}
use Rattle.flt_syntax.specs.Scope.{spelled}
use Rattle.flt_syntax.specs.Cursor.{Input, Outcome, and_then, kind, refusal, refusal_by, unknown}
use Rattle.flt_syntax.specs.Cursor.{fault_at, expect, name, known_or, number_within}
use Rattle.flt_syntax.proofs.TokenKinds.{differ, not_seen}
use Rattle.flt_syntax.proofs.Complete.{then_again, eat_again, context_again, sees_number}
use Rattle.flt_syntax.specs.WordFails as bad
use Rattle.flt_syntax.specs.WordFails.{Refused, Unknown, NextFails, MeantFails, KnownFails, NameFails, NumberFails}
use Rattle.flt_syntax.specs.WordFails.{ContextFails, OtherFails, OptionalFails, OtherOldFails}
use Rattle.flt_syntax.proofs.Ends.{context_self}

-- where the first part fails, both do
pub then_fails : {A B : Type 0} {o : Outcome A} {x : SyntaxFault} (f : A × Input → Outcome B) → o ≡ Err x → and_then o f ≡ Err x
then_fails f e = ap (λ o. and_then o f) e

-- one fault is reported
pub same_error : {A : Type 0} (f g : SyntaxFault) (x : Outcome A) → x ≡ Err f → x ≡ Err g → f ≡ g
same_error f g x e h = cc

-- ---- why nothing is read

other_kind : (a : Kind) → is_fault a ≡ false → refusal_by a ≡ E03
other_kind k.Stray e = elim (differ (sym e)) [ ]
other_kind k.Malformed e = elim (differ (sym e)) [ ]
other_kind _ e = refl

-- where no production reads the next token, that is reported
pub refuses : {i : Input} {f : SyntaxFault} → Refused i f → refusal i ≡ f
unfolding refusal
refuses (bad.stray {i = i} e) = ap (λ a. fault_at (refusal_by a) i) e
refuses (bad.malformed {i = i} e) = ap (λ a. fault_at (refusal_by a) i) e
refuses (bad.other {i = i} e) = ap (λ x. fault_at x i) (other_kind (kind i) e)

-- where no name of a kind is read, that is reported
pub unknowns : {i : Input} {f : SyntaxFault} → Unknown i f → unknown i ≡ f
unfolding unknown
unknowns (bad.unknown e) = rw e refl
unknowns (bad.no_word e h) = rw e (refuses h)

-- ---- tokens

-- a token of a kind: where it fails, that is reported
pub expect_tells : {kd : Kind} {i : Input} {f : SyntaxFault} → NextFails kd i f → expect kd i ≡ Err f
unfolding expect
expect_tells {kd = kd} (bad.missing {i = i} n h) = rw (not_seen kd i n) (ap (λ x. Err x) (refuses h))

-- a word of a table: where it fails, that is reported
pub meant_tells : {A : Type 0} {table : Kind → Option A} {i : Input} {f : SyntaxFault} → MeantFails table i f →
    known_or (refusal i) (table (kind i)) i ≡ Err f
meant_tells (bad.unmeant {i = i} e h) = ap (λ m. known_or (refusal i) m i) e ∙ ap (λ x. Err x) (refuses h)

-- a name of a table: where it fails, that is reported
pub known_tells : {A : Type 0} {table : Kind → Option A} {i : Input} {f : SyntaxFault} → KnownFails table i f →
    known_or (unknown i) (table (kind i)) i ≡ Err f
known_tells (bad.unnamed {i = i} e h) = ap (λ m. known_or (unknown i) m i) e ∙ ap (λ x. Err x) (unknowns h)

-- C: where it fails, that is reported
pub context_tells : {i : Input} {f : SyntaxFault} → ContextFails i f → context_variable i ≡ Err f
unfolding context_variable
context_tells h = known_tells h

-- NAME's token: where it fails, that is reported
pub word_tells : {i : Input} {f : SyntaxFault} → NameFails i f → name i ≡ Err f
unfolding name
word_tells (bad.no_name e h) = rw e (ap (λ x. Err x) (refuses h))

-- NAME: where it fails, that is reported
pub spelled_tells : (text : Text) {i : Input} {f : SyntaxFault} → NameFails i f → spelled text i ≡ Err f
unfolding spelled
spelled_tells text h = then_fails _ (word_tells h)

both_false : (b : Bool) → (b && false) ≡ false
both_false true = refl
both_false false = refl

-- NUMBER between two bounds: where it fails, that is reported
pub within_tells : {low high : ℕ} {i : Input} {f : SyntaxFault} → NumberFails low high i f → number_within low high i ≡ Err f
unfolding number_within
within_tells (bad.no_number {i = i} n h) = rw (not_seen k.Number i n) (ap (λ x. Err x) (refuses h))
within_tells (bad.too_low (words.number {t = t} {o = o} e) h) = rw (sees_number t o e, lt-leb _ _ h) refl
within_tells (bad.too_high (words.number {t = t} {o = o} e) h) = rw (sees_number t o e, lt-leb _ _ h, both_false) refl

-- ---- a variable once in a call

-- another C: where it fails, that is reported
pub other_tells : {first : ContextVariable} {i : Input} {f : SyntaxFault} → OtherFails first i f → other_context first i ≡ Err f
unfolding other_context
other_tells (bad.no_context h) = then_fails _ (context_tells h)
other_tells {first = first} (bad.twice p) = then_again _ (context_again p) (rw (context_self first) refl)

-- ---- parts that may be left out

-- [ "context" C ]: where it fails, that is reported
pub with_context_tells : {i : Input} {f : SyntaxFault} → OptionalFails k.Context i f → with_context i ≡ Err f
unfolding with_context
with_context_tells (bad.behind n h) = then_again _ (eat_again n) (then_fails _ (context_tells h))

-- [ "old" C ]: where it fails, that is reported
pub old_tells : {i : Input} {f : SyntaxFault} → OptionalFails k.Old i f → old i ≡ Err f
unfolding old
old_tells (bad.behind n h) = then_again _ (eat_again n) (then_fails _ (context_tells h))

-- [ "old" C ] of another C: where it fails, that is reported
pub other_old_tells : {first : ContextVariable} {i : Input} {f : SyntaxFault} → OtherOldFails first i f → other_old first i ≡ Err f
unfolding other_old
other_old_tells (bad.behind_old n h) = then_again _ (eat_again n) (then_fails _ (other_tells h))
