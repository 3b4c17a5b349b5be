-- What is spelled so is read: parts, tokens, repetition; and that each takes a token.
use Rattle.std.proofs.Common.{◌≡◌, ℕ, zero, suc, ◌+◌, ◌≤◌, ◌<◌, Bool, true, false, List, [], ◌∷◌, ◌++◌, length, Ok, refl}
use Rattle.std.proofs.Common.{sym, ap, ◌∙◌, append_assoc, arith}
use Rattle.std.specs.Prelude.{Option, Some, None, if◌then◌else◌}
use Rattle.std.proofs.lemmas.List.{append-nil}
use denote.Enum.Bare.{true_same}
use Rattle.flt_c_tokens.specs.contracts.token.Kind.{the_type}
use Rattle.flt_c_tokens.specs.declared.token.Kind.{Kind}
use Rattle.flt_c_tokens.specs.declared.token.Kind.TheVariants as k
use Rattle.flt_c_tokens.specs.declared.token.Token.{Token}
use Rattle.flt_c_syntax.specs.Cursor.{Outcome, Parser, and_then, expect, word, separator, many_from, many}
use Rattle.flt_c_syntax.specs.ExpressionGrammar as grammar
use Rattle.flt_c_syntax.specs.ExpressionGrammar.{SeparatorAt}
use Rattle.flt_c_syntax.specs.Expression.{type_name}
use Rattle.flt_c_syntax.specs.Tokens.{Input, kind, next, same_kind, sees, is_part, is_text_part, behind}
use Rattle.flt_c_syntax.specs.Types as types
use Rattle.flt_c_syntax.specs.Types.{TypeAt, begins_text}
use Rattle.flt_c_syntax.specs.Words as words
use Rattle.flt_c_syntax.specs.Words.{Next, WordAt}
use Rattle.flt_c_syntax.specs.declared.class.Part.{Part}
use Rattle.flt_c_syntax.specs.declared.class.Part.TheVariants as parts
use Rattle.flt_c_syntax.specs.declared.tree.TypeName.{TypeName}
use Rattle.flt_c_syntax.proofs.TokenKinds.{differ, kind_same, rest_is, sees_it, next_less}

-- reading two parts, where the first is read
pub then_again : {A B : Type 0} {o : Outcome A} {x : A × Input} {r : Outcome B} (f : A × Input → Outcome B) → o ≡ Ok x → f x ≡ r →
    and_then o f ≡ r
then_again f e h = ap (λ o. and_then o f) e ∙ h

-- ---- tokens

pub expect_again : {kd : Kind} {i o : Input} → Next kd i o → expect kd i ≡ Ok (tt, o)
unfolding expect
expect_again n = rw (sees_it n, rest_is n) refl

pub word_again : {kd : Kind} {i o : Input} {w : ℕ} → WordAt kd i w o → word kd i ≡ Ok (w, o)
unfolding word same_kind
word_again {kd = kd} (words.word {t = t} e) = rw (true_same the_type t.kind kd e) refl

pub separator_again : {close : Kind} {i o : Input} → SeparatorAt close i o → separator close i ≡ Ok (tt, o)
unfolding separator
separator_again (grammar.comma n) = rw (sees_it n, rest_is n) refl
separator_again (grammar.closed e h) = rw (e, h) refl

pub type_again : {i o : Input} {t : TypeName} → TypeAt i t o → type_name i ≡ Ok (t, o)
unfolding type_name
type_again (types.type e) = rw e refl

-- no text begins with a token of another kind
pub no_text : (kd : Kind) (i : Input) → kind i ≡ kd → same_kind kd k.Name ≡ false → same_kind kd k.Text ≡ false → begins_text i ≡ false
no_text kd i e h l = rw (ap (λ x. same_kind x k.Name) e ∙ h, ap (λ x. same_kind x k.Text) e ∙ l) refl

-- ---- repetition

-- a step reads something as often as there are items, and then stops; each takes a token
pub data Steps {A : Type 0} (step : Parser (Option A)) : Input → List A → Input → Type 0 where
  stops : {i : Input} → step i ≡ Ok (None, i) → Steps step i [] i
  goes : {i j o : Input} {x : A} {xs : List A} → step i ≡ Ok (Some x, j) → length j < length i → Steps step j xs o → Steps step i (x ∷ xs) o

from_again : {A : Type 0} {step : Parser (Option A)} {i o : Input} {xs : List A} → Steps step i xs o → (n : ℕ) (found : List A) →
    length i < n → many_from step n found i ≡ Ok (found ++ xs, o)
unfolding many_from
from_again (stops e) zero found h = absurd (omega arith)
from_again (stops e) (suc n) found h = then_again _ e (rw append-nil refl)
from_again (goes e l s) zero found h = absurd (omega arith)
from_again {o = o} (goes {x = x} {xs = xs} e l s) (suc n) found h =
    then_again _ e (from_again s n (found ++ x ∷ []) (omega arith) ∙ ap (λ ys. Ok (ys, o)) (append_assoc found (x ∷ []) xs))

pub many_again : {A : Type 0} {step : Parser (Option A)} {i o : Input} {xs : List A} → Steps step i xs o → many step i ≡ Ok (xs, o)
unfolding many
many_again {i = i} s = from_again s (suc (length i)) [] (omega arith)

-- ---- each takes a token

behind_by : (part : Part) (t : Token) (i : Input) (b : Bool) → length (behind part i) ≤ length i →
    length (if b then behind part i else t ∷ i) ≤ length (t ∷ i)
behind_by part t i true h = omega (arith, h)
behind_by part t i false h = omega arith

-- a run leaves no more than there was
pub behind_less : (part : Part) (i : Input) → length (behind part i) ≤ length i
behind_less part [] = omega arith
behind_less part (t ∷ i) = behind_by part t i (is_part part t.kind) (behind_less part i)

-- a run that begins here takes a token
run_less : (part : Part) (i : Input) → is_part part k.End ≡ false → is_part part (kind i) ≡ true → length (behind part i) < length i
run_less part [] h e = elim (differ (sym h ∙ e)) [ ]
run_less part (t ∷ i) h e = rw e (omega (arith, behind_less part i))

pub type_less : {i o : Input} {t : TypeName} → TypeAt i t o → length o < length i
type_less (types.type {i = i} e) = omega (arith, run_less parts.Type i refl e, behind_less parts.Star (behind parts.Type i))

text_kind : (i : Input) (b c : Bool) → sees k.Name i ≡ b → sees k.Text i ≡ c → (if b then sees k.Text (next i) else c) ≡ true →
    is_text_part (kind i) ≡ true
text_kind i true c e h l = ap is_text_part (kind_same _ _ e)
text_kind i false true e h l = ap is_text_part (kind_same _ _ h)
text_kind i false false e h l = elim (differ l) [ ]

pub text_less : (i : Input) → begins_text i ≡ true → length (behind parts.Text i) < length i
text_less i e = run_less parts.Text i refl (text_kind i (sees k.Name i) (sees k.Text i) refl refl e)

pub separator_less : {close : Kind} {i o : Input} → SeparatorAt close i o → length o ≤ length i
separator_less (grammar.comma n) = omega (arith, next_less n)
separator_less (grammar.closed e h) = omega arith
