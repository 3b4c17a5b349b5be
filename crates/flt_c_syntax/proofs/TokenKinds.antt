-- Kinds of tokens: whether two are the same, and what the next token is by its kind.
use Rattle.std.proofs.Common.{◌≡◌, ◌<◌, ℕ, true, false, [], ◌∷◌, length, refl, sym, ap, ◌∙◌, rules, arith}
use Rattle.std.specs.Prelude.{Option, Some, None}
use denote.Enum.Bare.{same_true, true_same}
use Rattle.flt_c_tokens.specs.contracts.token.Kind.{the_type}
use Rattle.flt_c_tokens.specs.declared.token.Kind.{Kind}
use Rattle.flt_c_tokens.specs.declared.token.Kind.TheVariants as k
use Rattle.flt_c_syntax.specs.Tokens.{Input, front, kind, next, same_kind, sees}
use Rattle.flt_c_syntax.specs.Words as words
use Rattle.flt_c_syntax.specs.Words.{Next, WordAt, Meant}

-- what can be neither true nor false is absurd
pub differ : false ≡ true → ⊥
differ e = cc

-- nothing is no value
pub none_some : {A : Type 0} (a : A) → None ≡ Some a → ⊥
none_some a e = cc

-- a value determines itself
pub some_same : {A : Type 0} (a b : A) → Some a ≡ Some b → a ≡ b
some_same a b e = cc

-- the test of two kinds is their equality
pub kind_same : (a b : Kind) → same_kind a b ≡ true → a ≡ b
unfolding same_kind
kind_same a b e = same_true the_type (search rules) a b e

kind_self : (a : Kind) → same_kind a a ≡ true
unfolding same_kind
kind_self a = true_same the_type a a refl

-- ---- the next token, which is there where its kind isn't that of the end

-- a token of a kind is taken
pub took : (i : Input) (kd : Kind) → same_kind k.End kd ≡ false → kind i ≡ kd → Next kd i (next i)
took [] kd other e = elim (differ (sym other ∙ (ap (λ x. same_kind x kd) e ∙ kind_self kd))) [ ]
took (t ∷ i) kd other e = words.next e

-- a word of a kind is taken
pub took_word : (i : Input) (kd : Kind) → same_kind k.End kd ≡ false → kind i ≡ kd → WordAt kd i (front i).word (next i)
took_word [] kd other e = elim (differ (sym other ∙ (ap (λ x. same_kind x kd) e ∙ kind_self kd))) [ ]
took_word (t ∷ i) kd other e = words.word e

-- a token of a table is taken
pub took_meant : {A : Type 0} (table : Kind → Option A) (i : Input) (a : A) → table k.End ≡ None → table (kind i) ≡ Some a →
    Meant table i a (next i)
took_meant table [] a other e = elim (none_some a (sym other ∙ e)) [ ]
took_meant table (t ∷ i) a other e = words.meant e

-- ---- what is spelled is there

-- the kind of a token
pub kind_is : {kd : Kind} {i o : Input} → Next kd i o → kind i ≡ kd
kind_is (words.next e) = e

-- what is left behind it
pub rest_is : {kd : Kind} {i o : Input} → Next kd i o → next i ≡ o
rest_is (words.next e) = refl

-- a token of the kind is seen
pub sees_it : {kd : Kind} {i o : Input} → Next kd i o → sees kd i ≡ true
unfolding same_kind
sees_it {kd = kd} (words.next {t = t} e) = true_same the_type t.kind kd e

-- the kind of a word
pub word_kind_is : {kd : Kind} {i o : Input} {w : ℕ} → WordAt kd i w o → kind i ≡ kd
word_kind_is (words.word e) = e

-- what is left behind a word, and that it is seen
pub word_rest_is : {kd : Kind} {i o : Input} {w : ℕ} → WordAt kd i w o → next i ≡ o
word_rest_is (words.word e) = refl

pub sees_word : {kd : Kind} {i o : Input} {w : ℕ} → WordAt kd i w o → sees kd i ≡ true
unfolding same_kind
sees_word {kd = kd} (words.word {t = t} e) = true_same the_type t.kind kd e

-- a token of a table: what it means, and what is left behind it
pub means : {A : Type 0} {table : Kind → Option A} {i o : Input} {a : A} → Meant table i a o → table (kind i) ≡ Some a
means (words.meant e) = e

pub left_is : {A : Type 0} {table : Kind → Option A} {i o : Input} {a : A} → Meant table i a o → next i ≡ o
left_is (words.meant e) = refl

-- ---- each takes a token

pub next_less : {kd : Kind} {i o : Input} → Next kd i o → length o < length i
next_less (words.next e) = omega arith

pub word_less : {kd : Kind} {i o : Input} {w : ℕ} → WordAt kd i w o → length o < length i
word_less (words.word e) = omega arith

pub meant_less : {A : Type 0} {table : Kind → Option A} {i o : Input} {a : A} → Meant table i a o → length o < length i
meant_less (words.meant e) = omega arith
