-- What is read is spelled so: parts, tokens, repetition.
use Rattle.std.proofs.Common.{◌≡◌, ℕ, zero, suc, Bool, true, false, List, [], ◌∷◌, ◌++◌, length, Ok, Err, refl, sym, subst}
use Rattle.std.proofs.Common.{◌∙◌, append_assoc}
use Rattle.std.specs.Prelude.{Option, Some, None, if◌then◌else◌}
use Rattle.std.proofs.lemmas.List.{append-nil}
use Rattle.flt_c_tokens.specs.declared.token.Kind.{Kind}
use Rattle.flt_c_tokens.specs.declared.token.Kind.TheVariants as k
use Rattle.flt_c_syntax.specs.Cursor.{Outcome, Parser, and_then, refusal, expect, word, separator, go_on, many_from, many}
use Rattle.flt_c_syntax.specs.ExpressionGrammar as grammar
use Rattle.flt_c_syntax.specs.ExpressionGrammar.{SeparatorAt}
use Rattle.flt_c_syntax.specs.Expression.{type_name}
use Rattle.flt_c_syntax.specs.Tokens.{Input, front, kind, next, same_kind, sees, is_type_part}
use Rattle.flt_c_syntax.specs.Types as types
use Rattle.flt_c_syntax.specs.Types.{TypeAt, type_of, behind_type}
use Rattle.flt_c_syntax.specs.Words.{Next, WordAt}
use Rattle.flt_c_syntax.specs.declared.fault.Fault.{Fault}
use Rattle.flt_c_syntax.proofs.TokenKinds.{kind_same, took, took_word}

-- what holds of the value and of what is left, where there is no fault
pub data Gives {A : Type 0} (R : A → Input → Type 0) : Outcome A → Type 0 where
  gives : {a : A} {o : Input} → R a o → Gives R (Ok (a, o))
  fails : {f : Fault} → Gives R (Err f)

-- reading two parts
pub then_gives : {A B : Type 0} {P : A → Input → Type 0} {R : B → Input → Type 0} {o : Outcome A} (f : A × Input → Outcome B) →
    Gives P o → ((a : A) (j : Input) → P a j → Gives R (f (a, j))) → Gives R (and_then o f)
then_gives f (gives p) more = more _ _ p
then_gives f fails more = fails

-- what holds gives something else
pub gives_by : {A : Type 0} {P R : A → Input → Type 0} {o : Outcome A} → ((a : A) (j : Input) → P a j → R a j) → Gives P o → Gives R o
gives_by h (gives p) = gives (h _ _ p)
gives_by h fails = fails

-- what was read, where nothing is refused
pub given : {A : Type 0} {R : A → Input → Type 0} {a : A} {o : Input} → Gives R (Ok (a, o)) → R a o
given (gives p) = p

-- ---- tokens

expect_by : (i : Input) (kd : Kind) (b : Bool) → same_kind k.End kd ≡ false → sees kd i ≡ b →
    Gives (λ (_ : Unit {0}) o. Next kd i o) (if b then Ok (tt {0}, next i) else Err (refusal i))
expect_by i kd true other e = gives (took i kd other (kind_same _ _ e))
expect_by i kd false other e = fails

-- a token of a kind
pub expect_gives : (i : Input) (kd : Kind) → same_kind k.End kd ≡ false → Gives (λ (_ : Unit {0}) o. Next kd i o) (expect kd i)
unfolding expect
expect_gives i kd other = expect_by i kd (sees kd i) other refl

word_by : (i : Input) (kd : Kind) (b : Bool) → same_kind k.End kd ≡ false → sees kd i ≡ b →
    Gives (WordAt kd i) (if b then Ok ((front i).word, next i) else Err (refusal i))
word_by i kd true other e = gives (took_word i kd other (kind_same _ _ e))
word_by i kd false other e = fails

-- a word of a kind
pub word_gives : (i : Input) (kd : Kind) → same_kind k.End kd ≡ false → Gives (WordAt kd i) (word kd i)
unfolding word
word_gives i kd other = word_by i kd (sees kd i) other refl

separator_by : (i : Input) (close : Kind) (b c : Bool) → same_kind k.End k.Comma ≡ false → sees k.Comma i ≡ b → sees close i ≡ c →
    Gives (λ (_ : Unit {0}) o. SeparatorAt close i o) (if b then Ok (tt {0}, next i) else (if c then Ok (tt {0}, i) else Err (refusal i)))
separator_by i close true c other e h = gives (grammar.comma (took i k.Comma other (kind_same _ _ e)))
separator_by i close false true other e h = gives (grammar.closed e h)
separator_by i close false false other e h = fails

-- a comma, or the closing bracket, which stays
pub separator_gives : (i : Input) (close : Kind) → Gives (λ (_ : Unit {0}) o. SeparatorAt close i o) (separator close i)
unfolding separator same_kind
separator_gives i close = separator_by i close (sees k.Comma i) (sees close i) refl refl refl

type_by : (i : Input) (b : Bool) → is_type_part (kind i) ≡ b →
    Gives (TypeAt i) (if b then Ok (type_of i, behind_type i) else Err (refusal i))
type_by i true e = gives (types.type e)
type_by i false e = fails

-- a type
pub type_gives : (i : Input) → Gives (TypeAt i) (type_name i)
unfolding type_name
type_gives i = type_by i (is_type_part (kind i)) refl

-- ---- repetition

-- a step that stops, or that goes on with something
pub data Turn {A : Type 0} (All : Input → List A → Input → Type 0) (i : Input) : Option A → Input → Type 0 where
  over : All i [] i → Turn All i None i
  on : {x : A} {j : Input} → ((xs : List A) (o : Input) → All j xs o → All i (x ∷ xs) o) → Turn All i (Some x) j

module _ {A : Type 0} (All : Input → List A → Input → Type 0) (step : Parser (Option A)) (steps : (i : Input) →
    Gives (Turn All i) (step i)) where
  -- what was found before, and the rest
  After : List A → Input → List A → Input → Type 0
  After found i all o = (xs : List A) × (all ≡ found ++ xs) × All i xs o

  turn_gives : (found : List A) (more : List A → Parser (List A)) (i : Input) →
      ((x : A) (j : Input) → Gives (After (found ++ x ∷ []) j) (more (found ++ x ∷ []) j)) →
      (m : Option A) (j : Input) → Turn All i m j → Gives (After found i) (go_on step found more m j)
  unfolding After
  turn_gives found more i rest None j (over p) = gives ([], sym (append-nil found), p)
  turn_gives found more i rest (Some x) j (on h) =
      gives_by (λ all o a. (x ∷ a.0, a.1 ∙ append_assoc found (x ∷ []) a.0, h a.0 o a.2)) (rest x j)

  from_gives : (n : ℕ) (found : List A) (i : Input) → Gives (After found i) (many_from step n found i)
  unfolding many_from
  from_gives zero found i = fails
  from_gives (suc n) found i =
      then_gives _ (steps i) (λ m j t. turn_gives found (many_from step n) i (λ x l. from_gives n (found ++ x ∷ []) l) m j t)

  -- steps while they read something
  pub many_gives : (i : Input) → Gives (All i) (many step i)
  unfolding many After
  many_gives i = gives_by (λ all o a. subst (λ xs. All i xs o) (sym a.1) a.2) (from_gives (suc (length i)) [] i)
