-- Each reader ends: what it gives is spelled and over, and its fault is one by the relation beside the grammar. Tokens.
use Rattle.std.proofs.Common.{◌≡◌, ◌≢◌, ℕ, ◌≤◌, Bool, true, false, nat_le, cond, [], ◌∷◌, Ok, Err, refl, sym, ap, subst, ◌∙◌, rules}
use Rattle.std.specs.Prelude.{Option, Some, None, if◌then◌else◌, ◌&&◌}
use Rattle.std.proofs.lemmas.Bool.{leb-true, leb-false}
use denote.Enum.Bare.{same_true, true_same}
use Rattle.flt_tree.specs.contracts.variable.ContextVariable as variable
use Rattle.flt_syntax.specs.declared.token.Kind.{Kind}
use Rattle.flt_syntax.specs.declared.token.Kind.TheVariants as k
use Rattle.flt_syntax.specs.declared.token.Token.{Token}
use Rattle.flt_syntax.specs.declared.fault.FaultKind.TheVariants.{E04, E06, E08}
use Rattle.flt_syntax.specs.declared.fault.SyntaxFault.{SyntaxFault}
use Rattle.flt_tree.specs.declared.variable.ContextVariable.{ContextVariable}
use Rattle.flt_tree.specs.Names.{Text}
use Rattle.flt_syntax.specs.Lex.{same_kind, is_fault}
use Rattle.flt_syntax.specs.Words as words
use Rattle.flt_syntax.specs.Words.{Next, Meant, NameAt, NumberAt, ContextAt, OptionalAt}
use Rattle.flt_syntax.specs.Operand.{context_variable, context_variable_of, same_context, other_context, with_context}
use Rattle.flt_syntax.specs.Call.{old, other_old}
use Rattle.flt_syntax.specs.Scope.{spelled}
use Rattle.flt_syntax.specs.Cursor.{Input, Outcome, ◌<$>◌, pure, and_then, front, kind, next, is_word, bytes_of, refusal, refusal_by}
use Rattle.flt_syntax.specs.Cursor.{refuse, unknown, fault_at, fail, sees, eat, expect, name, known_or, number_within}
use Rattle.flt_syntax.proofs.TokenKinds.{differ, none_some, some_same, kind_same, unseen, took, meant_at, number_at}
use Rattle.flt_syntax.specs.Over.{OptionalOver}
use Rattle.flt_syntax.specs.WordFails as bad
use Rattle.flt_syntax.specs.WordFails.{Refused, Unknown, NextFails, MeantFails, KnownFails, NameFails, NumberFails}
use Rattle.flt_syntax.specs.WordFails.{ContextFails, OtherFails, OptionalFails, OtherOldFails}

-- what holds of the value and of what is left, or of the fault
pub data Ends {A : Type 0} (R : A → Input → Type 0) (F : SyntaxFault → Type 0) : Outcome A → Type 0 where
  gives : {a : A} {o : Input} → R a o → Ends R F (Ok (a, o))
  fails : {f : SyntaxFault} → F f → Ends R F (Err f)

-- reading two parts ends if each does: the first fault counts
pub then_ends : {A B : Type 0} {P : A → Input → Type 0} {E : SyntaxFault → Type 0} {R : B → Input → Type 0} {F : SyntaxFault → Type 0}
    {o : Outcome A} (f : A × Input → Outcome B) → Ends P E o → ((x : SyntaxFault) → E x → F x) →
    ((a : A) (j : Input) → P a j → Ends R F (f (a, j))) → Ends R F (and_then o f)
then_ends f (gives p) bad more = more _ _ p
then_ends f (fails e) bad more = fails (bad _ e)

-- what is read, or how it fails, said otherwise
pub ends_by : {A : Type 0} {P R : A → Input → Type 0} {E F : SyntaxFault → Type 0} {o : Outcome A} →
    ((a : A) (j : Input) → P a j → R a j) → ((x : SyntaxFault) → E x → F x) → Ends P E o → Ends R F o
ends_by h b (gives p) = gives (h _ _ p)
ends_by h b (fails e) = fails (b _ e)

-- ---- why nothing is read

refused_by : (i : Input) (kd : Kind) → kind i ≡ kd → Refused i (fault_at (refusal_by kd) i)
refused_by i k.Stray e = bad.stray e
refused_by i k.Malformed e = bad.malformed e
refused_by i _ e = bad.other (ap is_fault e)

-- why no production reads the next token, by the relation
pub refused : (i : Input) → Refused i (refusal i)
unfolding refusal
refused i = refused_by i (kind i) refl

unknown_by : (i : Input) (b : Bool) → is_word (kind i) ≡ b → Unknown i (if b then fault_at E04 i else refusal i)
unknown_by i true e = bad.unknown e
unknown_by i false e = bad.no_word e (refused i)

-- why no name of a kind is read, by the relation
pub unknown_at : (i : Input) → Unknown i (unknown i)
unfolding unknown
unknown_at i = unknown_by i (is_word (kind i)) refl

-- ---- tokens

expect_by : (i : Input) (kd : Kind) (b : Bool) → same_kind k.End kd ≡ false → sees kd i ≡ b →
    Ends (λ (_ : Unit {0}) o. Next kd i o) (NextFails kd i) (if b then Ok (tt {0}, next i) else Err (refusal i))
expect_by i kd true other e = gives (took i kd other (kind_same _ _ e))
expect_by i kd false other e = fails (bad.missing (unseen kd i e) (refused i))

-- a token of a kind: what is read is spelled and over, else it fails so
pub expect_ends : (i : Input) (kd : Kind) → same_kind k.End kd ≡ false →
    Ends (λ (_ : Unit {0}) o. Next kd i o) (NextFails kd i) (expect kd i)
unfolding expect
expect_ends i kd other = expect_by i kd (sees kd i) other refl

-- the token, or nothing
pub data Eaten (kd : Kind) (i : Input) : Bool → Input → Type 0 where
  eaten : {o : Input} → Next kd i o → Eaten kd i true o
  left : kind i ≢ kd → Eaten kd i false i

eat_by : (i : Input) (kd : Kind) (b : Bool) → same_kind k.End kd ≡ false → sees kd i ≡ b → Eaten kd i b (cond b (next i) i)
eat_by i kd true other e = eaten (took i kd other (kind_same _ _ e))
eat_by i kd false other e = left (unseen kd i e)

-- it never fails
pub eat_ends : {F : SyntaxFault → Type 0} (i : Input) (kd : Kind) → same_kind k.End kd ≡ false → Ends (Eaten kd i) F (eat kd i)
unfolding eat
eat_ends i kd other = gives (eat_by i kd (sees kd i) other refl)

-- a word of a table, where no name may stand
pub meant_ends : {A : Type 0} (table : Kind → Option A) (i : Input) (m : Option A) → table k.End ≡ None → table (kind i) ≡ m →
    Ends (Meant table i) (MeantFails table i) (known_or (refusal i) m i)
meant_ends table i None other e = fails (bad.unmeant e (refused i))
meant_ends table i (Some a) other e = gives (meant_at table i a other e)

-- a word of a table, where only names may stand
pub known_ends : {A : Type 0} (table : Kind → Option A) (i : Input) (m : Option A) → table k.End ≡ None → table (kind i) ≡ m →
    Ends (Meant table i) (KnownFails table i) (known_or (unknown i) m i)
known_ends table i None other e = fails (bad.unnamed e (unknown_at i))
known_ends table i (Some a) other e = gives (meant_at table i a other e)

-- C: what is read is spelled and over, else it fails so
pub context_ends : (i : Input) → Ends (ContextAt i) (ContextFails i) (context_variable i)
unfolding context_variable
context_ends i = known_ends context_variable_of i (context_variable_of (kind i)) refl refl

-- NAME, its token
pub data WordAt : Input → Token → Input → Type 0 where
  word : {t : Token} {o : Input} → is_word t.word.kind ≡ true → WordAt (t ∷ o) t o

-- the bytes of a token that is a name
pub name_of : (text : Text) {i o : Input} {t : Token} → WordAt i t o → NameAt text i (bytes_of text t) o
name_of text (word e) = words.name e

name_by : (i : Input) (b : Bool) → is_word (kind i) ≡ b →
    Ends (WordAt i) (NameFails i) (if b then Ok (front i, next i) else Err (refusal i))
name_by [] true e = elim (differ e) [ ]
name_by (t ∷ i) true e = gives (word e)
name_by i false e = fails (bad.no_name e (refused i))

-- NAME's token: what is read is spelled and over, else it fails so
pub word_ends : (i : Input) → Ends (WordAt i) (NameFails i) (name i)
unfolding name
word_ends i = name_by i (is_word (kind i)) refl

-- NAME: what is read is spelled and over, else it fails so
pub spelled_ends : (text : Text) (i : Input) → Ends (NameAt text i) (NameFails i) (spelled text i)
unfolding spelled
spelled_ends text i = then_ends _ (word_ends i) (λ x h. h) (λ t o p. gives (name_of text p))

-- a number between two others
pub record WithinAt (low high : ℕ) (i : Input) (n : ℕ) (o : Input) : Type 0 where
  pub at : NumberAt i n o
  pub from : low ≤ n
  pub up_to : n ≤ high

within_by : (low high : ℕ) (i : Input) (b c d : Bool) → sees k.Number i ≡ b → nat_le low (front i).word.value ≡ c →
    nat_le (front i).word.value high ≡ d →
    Ends (WithinAt low high i) (NumberFails low high i)
    (if b then (if c && d then Ok ((front i).word.value, next i) else fail E06 i) else refuse i)
within_by low high i true true true e h l =
    gives (record { at = number_at i (kind_same _ _ e); from = leb-true _ _ h; up_to = leb-true _ _ l })
within_by low high i true true false e h l = fails (bad.too_high (number_at i (kind_same _ _ e)) (leb-false _ _ l))
within_by low high i true false d e h l = fails (bad.too_low (number_at i (kind_same _ _ e)) (leb-false _ _ h))
within_by low high i false c d e h l = fails (bad.no_number (unseen k.Number i e) (refused i))

-- NUMBER between two bounds: what is read is spelled and over, else it fails so
pub within_ends : (low high : ℕ) (i : Input) → Ends (WithinAt low high i) (NumberFails low high i) (number_within low high i)
unfolding number_within
within_ends low high i = within_by low high i _ _ _ refl refl refl

-- ---- a variable once in a call

same_contexts : (a b : ContextVariable) → same_context a b ≡ true → a ≡ b
unfolding same_context
same_contexts a b e = same_true variable.the_type (search rules) a b e

-- a variable is the same as itself
pub context_self : (a : ContextVariable) → same_context a a ≡ true
unfolding same_context
context_self a = true_same variable.the_type a a refl

contexts_differ : (a b : ContextVariable) → same_context a b ≡ false → a ≢ b
contexts_differ a b h e = differ (sym h ∙ ap (λ x. same_context x b) e ∙ context_self b)

other_by : (first : ContextVariable) (i : Input) (c : ContextVariable) (o : Input) (b : Bool) → ContextAt i c o → same_context c first ≡ b →
    Ends (λ c o. ContextAt i c o × (c ≢ first)) (OtherFails first i) (if b then fail E08 i else Ok (c, o))
other_by first i c o true p e = fails (bad.twice (subst (λ x. ContextAt i x o) (same_contexts c first e) p))
other_by first i c o false p e = gives (p, contexts_differ c first e)

-- another C: what is read is spelled and over, else it fails so
pub other_ends : (first : ContextVariable) (i : Input) →
    Ends (λ c o. ContextAt i c o × (c ≢ first)) (OtherFails first i) (other_context first i)
unfolding other_context
other_ends first i =
    then_ends _ (context_ends i) (λ x h. bad.no_context h) (λ c o p. other_by first i c o (same_context c first) p refl)

-- ---- parts that may be left out

abbrev pub OptionalHere : Kind → Input → Option ContextVariable → Input → Type 0
OptionalHere kd i c o = (p : OptionalAt kd i c o) × OptionalOver p

optional_of : (kd : Kind) (i : Input) (b : Bool) (j : Input) → Eaten kd i b j →
    Ends (OptionalHere kd i) (OptionalFails kd i) ((if b then (Some <$> context_variable) else pure None) j)
optional_of kd i true j (eaten n) = then_ends _ (context_ends j) (λ x h. bad.behind n h) (λ c o p. gives (words.behind n p, tt))
optional_of kd i false j (left h) = gives (words.without, h)

-- [ "context" C ]: what is read is spelled and over, else it fails so
pub with_context_ends : (i : Input) → Ends (OptionalHere k.Context i) (OptionalFails k.Context i) (with_context i)
unfolding with_context same_kind
with_context_ends i = then_ends _ (eat_ends i k.Context refl) (λ x h. h) (λ b j e. optional_of k.Context i b j e)

-- [ "old" C ]: what is read is spelled and over, else it fails so
pub old_ends : (i : Input) → Ends (OptionalHere k.Old i) (OptionalFails k.Old i) (old i)
unfolding old same_kind
old_ends i = then_ends _ (eat_ends i k.Old refl) (λ x h. h) (λ b j e. optional_of k.Old i b j e)

abbrev pub OtherOldHere : ContextVariable → Input → Option ContextVariable → Input → Type 0
OtherOldHere first i d o = (p : OptionalAt k.Old i d o) × OptionalOver p × (d ≢ Some first)

other_old_of : (first : ContextVariable) (i : Input) (b : Bool) (j : Input) → Eaten k.Old i b j →
    Ends (OtherOldHere first i) (OtherOldFails first i) ((if b then (Some <$> other_context first) else pure None) j)
other_old_of first i true j (eaten n) =
    then_ends _ (other_ends first j) (λ x h. bad.behind_old n h)
    (λ c o p. gives (words.behind n p.0, tt, λ e. p.1 (some_same c first e)))
other_old_of first i false j (left h) = gives (words.without, h, λ e. none_some first e)

-- [ "old" C ] of another C: what is read is spelled and over, else it fails so
pub other_old_ends : (first : ContextVariable) (i : Input) → Ends (OtherOldHere first i) (OtherOldFails first i) (other_old first i)
unfolding other_old same_kind
other_old_ends first i = then_ends _ (eat_ends i k.Old refl) (λ x h. h) (λ b j e. other_old_of first i b j e)
