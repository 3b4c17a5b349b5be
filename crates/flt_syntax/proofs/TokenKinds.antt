-- Kinds of tokens: whether two are the same, and what the next token is by its kind.
use Rattle.std.proofs.Common.{◌≡◌, ◌≢◌, ℕ, suc, false, true, [], ◌∷◌, refl, sym, ap, ◌∙◌, rules, arith}
use Rattle.std.specs.Prelude.{Option, Some, None}
use denote.Enum.Bare.{same_true, true_same, false_same}
use Rattle.flt_syntax.specs.contracts.token.Kind.{the_type}
use Rattle.flt_syntax.specs.declared.token.Kind.{Kind}
use Rattle.flt_syntax.specs.declared.token.Kind.TheVariants as k
use Rattle.flt_syntax.specs.Lex.{same_kind}
use Rattle.flt_syntax.specs.Words as words
use Rattle.flt_syntax.specs.Words.{Next, Meant, NumberAt}
use Rattle.flt_syntax.specs.Cursor.{Input, front, kind, next, sees}

-- ---- what can't be equal

-- what can be neither true nor false is absurd
pub differ : false ≡ true → ⊥
differ e = cc

-- nothing is no value
pub none_some : {A : Type 0} (a : A) → None ≡ Some a → ⊥
none_some a e = cc

-- a value determines itself
pub some_same : {A : Type 0} (a b : A) → Some a ≡ Some b → a ≡ b
some_same a b e = cc

-- a successor is not 0
pub suc_some : (n : ℕ) → suc n ≡ 0 → ⊥
suc_some n e = omega arith

-- ---- kinds

-- the test of two kinds is their equality
pub kind_same : (a b : Kind) → same_kind a b ≡ true → a ≡ b
unfolding same_kind
kind_same a b e = same_true the_type (search rules) a b e

kind_self : (a : Kind) → same_kind a a ≡ true
unfolding same_kind
kind_self a = true_same the_type a a refl

-- a kind is not another one
pub apart_kinds : (a b c : Kind) → a ≡ b → same_kind b c ≡ false → a ≢ c
unfolding same_kind
apart_kinds a b c e h x = differ (sym h ∙ true_same the_type b c (sym e ∙ x))

-- a token that isn't seen is of another kind, and the other way round
pub unseen : (kd : Kind) (i : Input) → sees kd i ≡ false → kind i ≢ kd
unfolding same_kind
unseen kd i e h = differ (sym e ∙ true_same the_type (kind i) kd h)

-- a token of another kind is not seen
pub not_seen : (kd : Kind) (i : Input) → kind i ≢ kd → sees kd i ≡ false
unfolding same_kind
not_seen kd i h = false_same the_type (search rules) (kind i) kd h

-- ---- the next token, which is there where its kind isn't that of the end

-- a token of a kind is taken
pub took : (i : Input) (kd : Kind) → same_kind k.End kd ≡ false → kind i ≡ kd → Next kd i (next i)
took [] kd other e = elim (differ (sym other ∙ ap (λ x. same_kind x kd) e ∙ kind_self kd)) [ ]
took (t ∷ i) kd other e = words.next e

-- a token that a table knows
pub meant_at : {A : Type 0} (table : Kind → Option A) (i : Input) (a : A) → table k.End ≡ None → table (kind i) ≡ Some a →
    Meant table i a (next i)
meant_at table [] a other e = elim (none_some a (sym other ∙ e)) [ ]
meant_at table (t ∷ i) a other e = words.meant e

end_number : k.End ≡ k.Number → ⊥
end_number e = cc

-- a number is taken
pub number_at : (i : Input) → kind i ≡ k.Number → NumberAt i (front i).word.value (next i)
number_at [] e = elim (end_number e) [ ]
number_at (t ∷ i) e = words.number e
