-- How tokens are read, from left to right, up to the first fault that is met.
use Rattle.std.specs.Prelude.{◌≡◌, ℕ, zero, suc, Bool, if◌then◌else◌, List, [], ◌∷◌, ◌++◌, length, Option, Some, None, Result, Ok, Err}
use Rattle.flt_rules.specs.Parsing as parsing
pub use Rattle.flt_rules.specs.Parsing.{and_then, ◌>>=◌, ◌>>◌, pure}
use Rattle.flt_c_tokens.specs.declared.token.Kind.{Kind}
use Rattle.flt_c_tokens.specs.declared.token.Kind.TheVariants as k
use Rattle.flt_c_syntax.specs.Tokens.{Input, front, kind, place, next, sees}
use Rattle.flt_c_syntax.specs.declared.fault.Fault.{Fault}
use Rattle.flt_c_syntax.specs.declared.fault.ReadError.{ReadError}
use Rattle.flt_c_syntax.specs.declared.fault.ReadError.TheVariants.{Syntax, OutOfMemory}
use Rattle.flt_c_syntax.specs.declared.fault.Reason.{Reason}
use Rattle.flt_c_syntax.specs.declared.fault.Reason.TheVariants as reasons
use Rattle.flt_c_syntax.specs.declared.tree.Place.{Place}

-- what was read and what is left, or the first fault
abbrev pub Outcome : Type 0 → Type 0
Outcome = parsing.Outcome Input Fault

-- a parser reads from the front of the tokens
abbrev pub Parser : Type 0 → Type 0
Parser = parsing.Parser Input Fault

infixr 11 ◌<$>◌
-- makes something of what is read
abbrev pub ◌<$>◌ : {A B : Type 0} → (A → B) → Parser A → Parser B
f <$> p = p >>= (λ x. pure (f x))

-- ---- faults

-- a fault at the next token
abbrev pub fault_at : Reason → Input → Fault
fault_at r i = record { reason = r; kind = kind i; place = place i }

-- why no production reads a token
abbrev pub refusal_by : Kind → Reason
refusal_by k.Stray = reasons.Stray
refusal_by k.Unclosed = reasons.Unclosed
refusal_by k.Joined = reasons.Joined
refusal_by k.OpenComment = reasons.OpenComment
refusal_by k.Assembler = reasons.Assembler
refusal_by k.CPlusPlus = reasons.CPlusPlus
refusal_by _ = reasons.Unexpected

-- why no production reads the next token
unfoldable pub refusal : Input → Fault
refusal i = fault_at (refusal_by (kind i)) i

-- reads nothing, since no production reads the next token
abbrev pub refuse : {A : Type 0} → Parser A
refuse = λ i. Err (refusal i)

-- reads nothing, for a fault at the next token
abbrev pub fail : {A : Type 0} → Reason → Parser A
fail r = λ i. Err (fault_at r i)

-- ---- tokens

-- the kind of the next token, which stays
abbrev pub peek : Parser Kind
peek = λ i. Ok (kind i, i)

-- the place of the next token, which stays
abbrev pub here : Parser Place
here = λ i. Ok (place i, i)

-- the next token, whatever its kind: its word
abbrev pub take_token : Parser ℕ
take_token = λ i. Ok ((front i).word, next i)

-- what is left behind the next token, if that is of the kind
abbrev pub after : Kind → Input → Input
after k i = if sees k i then next i else i

-- reads a token of the kind, if it is the next one
unfoldable pub eat : Kind → Parser Bool
eat k = λ i. Ok (sees k i, after k i)

-- reads a token of the kind
unfoldable pub expect : Kind → Parser (Unit {0})
expect k = λ i. if sees k i then Ok (tt, next i) else refuse i

-- reads a token of the kind: its word
unfoldable pub word : Kind → Parser ℕ
word k = λ i. if sees k i then Ok ((front i).word, next i) else refuse i

-- reads a comma, or stops before the closing bracket
unfoldable pub separator : Kind → Parser (Unit {0})
separator close = λ i. if sees k.Comma i then Ok (tt, next i) else (if sees close i then Ok (tt, i) else refuse i)

-- what was read, if a token of the kind ends it
abbrev pub ended_by : {A : Type 0} → Kind → A → Parser A
ended_by k x = expect k >> pure x

-- what was read, if a comma or the closing bracket follows
abbrev pub separated : {A : Type 0} → Kind → A → Parser (Option A)
separated close x = separator close >> pure (Some x)

-- ---- repetition

module _ {A : Type 0} (step : Parser (Option A)) where
  -- what goes on, or stops, by what a step read
  abbrev pub go_on : List A → (List A → Parser (List A)) → Option A → Parser (List A)
  go_on found more None = pure found
  go_on found more (Some x) = more (found ++ x ∷ [])

  -- steps while they read something, after what was found; the number bounds the turns
  unfoldable pub many_from : ℕ → List A → Parser (List A)
  many_from zero found = refuse
  many_from (suc n) found = step >>= go_on found (many_from n)

  -- Steps while they read something. Each takes a token, so there are turns enough.
  unfoldable pub many : Parser (List A)
  many = λ i. many_from (suc (length i)) [] i

-- ---- what a function ensures that reads

-- it gives the parser's outcome, unless memory runs out
abbrev pub Reads : {A : Type 0} → Outcome A → Result A ReadError → Input → Type 0
Reads outcome (Ok a) new = outcome ≡ Ok (a, new)
Reads outcome (Err OutOfMemory) new = Unit {0}
Reads outcome (Err (Syntax f)) new = outcome ≡ Err f

-- it gives the value, unless memory runs out
abbrev pub Makes : {A : Type 0} → A → Result A ReadError → Type 0
Makes x result = (i : Input) → Reads (Ok (x, i)) result i
