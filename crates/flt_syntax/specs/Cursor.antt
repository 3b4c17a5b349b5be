-- How the tokens of a text are read, from left to right, up to the first fault that is met.
use Rattle.std.specs.Prelude.{◌≡◌, ◌-◌, ℕ, Bool, true, false, not, ◌&&◌, if◌then◌else◌, List, [], ◌∷◌, ◌++◌}
use Rattle.std.specs.Prelude.{length, take, min, slice_range, nat_le, Option, Some, None, Result, Ok, Err}
use Rattle.flt_rules.specs.Parsing as parsing
pub use Rattle.flt_rules.specs.Parsing.{and_then, ◌>>=◌, ◌>>◌, pure}
use Rattle.flt_tree.specs.Filter.{no_span}
use Rattle.flt_tree.specs.Names.{Text}
use Rattle.flt_syntax.specs.Lex.{word, same_kind}
use Rattle.flt_syntax.specs.declared.fault.FaultKind.{FaultKind}
use Rattle.flt_syntax.specs.declared.fault.FaultKind.TheVariants.{E01, E02, E03, E04, E06}
use Rattle.flt_syntax.specs.declared.fault.ParseError.{ParseError}
use Rattle.flt_syntax.specs.declared.fault.ParseError.TheVariants.{OutOfMemory, Syntax}
use Rattle.flt_syntax.specs.declared.fault.SyntaxFault.{SyntaxFault}
use Rattle.flt_tree.specs.declared.filter.Position.{Position}
use Rattle.flt_tree.specs.declared.filter.Span.{Span}
use Rattle.flt_syntax.specs.declared.token.Kind.{Kind}
use Rattle.flt_syntax.specs.declared.token.Kind.TheVariants as k
use Rattle.flt_syntax.specs.declared.token.Token.{Token}

-- ---- the tokens that are left

-- what is left to read
abbrev pub Input : Type 0
Input = List Token

-- the next token; past the last one, which is never read, an end that stands nowhere
abbrev pub front : Input → Token
front [] = record { word = word k.End; position = record { line = 1; column = 1 }; start = 0; end = 0 }
front (t ∷ i) = t

-- the kind of the next token
abbrev pub kind : Input → Kind
kind i = (front i).word.kind

-- where the next token stands
abbrev pub position : Input → Position
position i = (front i).position

-- what is left behind the next token
abbrev pub next : Input → Input
next [] = []
next (t ∷ i) = i

-- ---- where tokens stand

-- the last of a token and those behind it
abbrev pub last : Token → Input → Token
last t [] = t
last t (u ∷ i) = last u i

-- where tokens stand: the line of the first, and the bytes from it up to the end of the last
abbrev pub span_of : Input → Span
span_of [] = no_span
span_of (t ∷ i) = record { line = t.position.line; start = t.start; end = (last t i).end }

-- where those stand that were read: the first list was left before, the other one is left now
unfoldable pub span : Input → Input → Span
span i o = span_of (take (length i - length o) i)

-- ---- kinds of token

-- the symbols
abbrev pub is_symbol : Kind → Bool
is_symbol k.OpenBrace = true
is_symbol k.CloseBrace = true
is_symbol k.Assign = true
is_symbol k.Equal = true
is_symbol k.NotEqual = true
is_symbol k.Less = true
is_symbol k.Plus = true
is_symbol k.Minus = true
is_symbol _ = false

-- numbers, the end, and what is no token
abbrev pub is_other : Kind → Bool
is_other k.Number = true
is_other k.Stray = true
is_other k.Malformed = true
is_other k.End = true
is_other _ = false

-- the words, each of which may be a name
abbrev pub is_word : Kind → Bool
is_word kind = not (is_symbol kind) && not (is_other kind)

-- the bytes of a token of a text
abbrev pub bytes_of : Text → Token → Text
bytes_of text t = let end = min t.end (length text) in slice_range text (min t.start end) end

-- ---- parsers

-- what was read and what is left, or the first fault
abbrev pub Outcome : Type 0 → Type 0
Outcome = parsing.Outcome Input SyntaxFault

-- a parser reads from the front of the tokens
abbrev pub Parser : Type 0 → Type 0
Parser = parsing.Parser Input SyntaxFault

infixr 11 ◌<$>◌
-- makes something of what is read
abbrev pub ◌<$>◌ : {A B : Type 0} → (A → B) → Parser A → Parser B
f <$> p = p >>= (λ x. pure (f x))

-- what is read, behind what was read before
abbrev pub onto : {A : Type 0} → List A → Parser A → Parser (List A)
onto found p = p >>= (λ x. pure (found ++ x ∷ []))

-- ---- faults

-- a fault at a place
abbrev pub fault : FaultKind → Position → SyntaxFault
fault f at = record { line = at.line; column = at.column; kind = f }

-- a fault at the next token
abbrev pub fault_at : FaultKind → Input → SyntaxFault
fault_at f i = fault f (position i)

-- what the next token is where no production reads it
abbrev pub refusal_by : Kind → FaultKind
refusal_by k.Stray = E01
refusal_by k.Malformed = E02
refusal_by _ = E03

-- why no production reads the next token
unfoldable pub refusal : Input → SyntaxFault
refusal i = fault_at (refusal_by (kind i)) i

-- reads nothing, since no production reads the next token
abbrev pub refuse : {A : Type 0} → Parser A
refuse = λ i. Err (refusal i)

-- reads nothing, for a fault at the next token
abbrev pub fail : {A : Type 0} → FaultKind → Parser A
fail f = λ i. Err (fault_at f i)

-- why no name of the kind that is asked is read: a word that is none is unknown
unfoldable pub unknown : Input → SyntaxFault
unknown i = if is_word (kind i) then fault_at E04 i else refusal i

-- ---- tokens and names

-- the kind of the next token, which stays
abbrev pub peek : Parser Kind
peek = λ i. Ok (kind i, i)

-- the place of the next token, which stays
abbrev pub place : Parser Position
place = λ i. Ok (position i, i)

-- the tokens that are left, which stay
abbrev pub here : Parser Input
here = λ i. Ok (i, i)

-- the next token, whatever its kind
abbrev pub take_token : Parser Token
take_token = λ i. Ok (front i, next i)

-- whether the next token is of the kind
abbrev pub sees : Kind → Input → Bool
sees k i = same_kind (kind i) k

-- what is left behind the next token, if that is of the kind
abbrev pub after : Kind → Input → Input
after k i = if sees k i then next i else i

-- reads a token of the kind, if it is the next one
unfoldable pub eat : Kind → Parser Bool
eat k = λ i. Ok (sees k i, after k i)

-- reads a token of the kind
unfoldable pub expect : Kind → Parser (Unit {0})
expect k = λ i. if sees k i then Ok (tt, next i) else refuse i

-- NAME, which any word is: its token
unfoldable pub name : Parser Token
name = λ i. if is_word (kind i) then Ok (front i, next i) else refuse i

-- NUMBER from the first bound up to the other; another one is a limit passed
unfoldable pub number_within : ℕ → ℕ → Parser ℕ
number_within low high = λ i.
    if sees k.Number i
    then (let n = (front i).word.value in if nat_le low n && nat_le n high then Ok (n, next i) else fail E06 i)
    else refuse i

-- reads a token that stands for a value
abbrev pub known_or : {A : Type 0} → SyntaxFault → Option A → Parser A
known_or f None = λ i. Err f
known_or f (Some a) = λ i. Ok (a, next i)

-- a value that is there, else the fault
abbrev pub found_or : {A : Type 0} → SyntaxFault → Option A → Parser A
found_or f None = λ i. Err f
found_or f (Some a) = λ i. Ok (a, i)

-- goes on with a value if it is there, else with the other parser
abbrev pub given : {A B : Type 0} → Option A → (A → Parser B) → Parser B → Parser B
given None f p = p
given (Some a) f p = f a

-- why no block is read where none may stand
unfoldable pub too_deep : Input → SyntaxFault
too_deep i = if sees k.OpenBrace i then fault_at E06 i else refusal i

-- ---- what a function ensures that reads

-- it gives the parser's outcome, unless memory runs out
abbrev pub Reads : {A : Type 0} → Outcome A → Result A ParseError → Input → Type 0
Reads outcome (Ok a) new = outcome ≡ Ok (a, new)
Reads outcome (Err OutOfMemory) new = Unit {0}
Reads outcome (Err (Syntax f)) new = outcome ≡ Err f

-- The same of what a function puts into a value that it was lent: `more` is the value as it is then.
abbrev pub ReadsOnto : {A : Type 0} → Outcome A → Result (Unit {0}) ParseError → A → Input → Type 0
ReadsOnto outcome (Ok u) more new = outcome ≡ Ok (more, new)
ReadsOnto outcome (Err OutOfMemory) more new = Unit {0}
ReadsOnto outcome (Err (Syntax f)) more new = outcome ≡ Err f
