-- The texts of tokens, as a listing has them. This project's own rule.
use Rattle.std.specs.Prelude.{ℕ, ◌==◌, if◌then◌else◌, List, [], ◌∷◌, ◌++◌, codes, flat_map, slice_get, Option, Some, None}
use Rattle.flt_shown.specs.Shown.{shown}
use Rattle.flt_c_tokens.specs.Bytes.{Text}
use Rattle.flt_c_tokens.specs.declared.token.Kind.{Kind}
use Rattle.flt_c_tokens.specs.declared.token.Kind.TheVariants as k
use Rattle.flt_c_tokens.specs.declared.token.Token.{Token}

-- the text of a word by its number
abbrev pub text_or_none : Option Text → Text
text_or_none None = []
text_or_none (Some w) = w

abbrev pub text_at : List Text → ℕ → Text
text_at texts n = text_or_none (slice_get texts n)

-- The text of a token that has no word, by its kind: of a digraph the sign that it stands for. What has no text of its own is `?`.
abbrev pub sign_text : Kind → Text
sign_text k.OpenParen = codes "("
sign_text k.CloseParen = codes ")"
sign_text k.OpenBracket = codes "["
sign_text k.CloseBracket = codes "]"
sign_text k.OpenBrace = codes "{"
sign_text k.CloseBrace = codes "}"
sign_text k.Semicolon = codes ";"
sign_text k.Comma = codes ","
sign_text k.Colon = codes ":"
sign_text k.DoubleColon = codes "::"
sign_text k.Question = codes "?"
sign_text k.Dot = codes "."
sign_text k.Arrow = codes "->"
sign_text k.Ellipsis = codes "..."
sign_text k.Assign = codes "="
sign_text k.AssignSum = codes "+="
sign_text k.AssignDifference = codes "-="
sign_text k.AssignProduct = codes "*="
sign_text k.AssignQuotient = codes "/="
sign_text k.AssignRemainder = codes "%="
sign_text k.AssignAnd = codes "&="
sign_text k.AssignOr = codes "|="
sign_text k.AssignXor = codes "^="
sign_text k.AssignLeft = codes "<<="
sign_text k.AssignRight = codes ">>="
sign_text k.Plus = codes "+"
sign_text k.Minus = codes "-"
sign_text k.Star = codes "*"
sign_text k.Slash = codes "/"
sign_text k.Percent = codes "%"
sign_text k.Ampersand = codes "&"
sign_text k.Bar = codes "|"
sign_text k.Caret = codes "^"
sign_text k.Tilde = codes "~"
sign_text k.Exclamation = codes "!"
sign_text k.Increment = codes "++"
sign_text k.Decrement = codes "--"
sign_text k.ShiftLeft = codes "<<"
sign_text k.ShiftRight = codes ">>"
sign_text k.Less = codes "<"
sign_text k.Greater = codes ">"
sign_text k.LessEqual = codes "<="
sign_text k.GreaterEqual = codes ">="
sign_text k.Equal = codes "=="
sign_text k.NotEqual = codes "!="
sign_text k.LogicalAnd = codes "&&"
sign_text k.LogicalOr = codes "||"
sign_text k.Hash = codes "#"
sign_text k.HashHash = codes "##"
sign_text k.Directive = codes "#"
sign_text k.GroupElse = codes "#else"
sign_text k.GroupEnd = codes "#endif"
sign_text _ = codes "?"

-- the text of a token
abbrev pub text_of : List Text → Token → Text
text_of texts t = if t.word == 0 then sign_text t.kind else text_at texts t.word

-- as it is shown
unfoldable pub token_text : List Text → Token → Text
token_text texts t = shown (text_of texts t)

-- the texts of tokens, each behind a blank
abbrev pub more_tokens : List Text → List Token → Text
more_tokens texts = flat_map (λ (t : Token). codes " " ++ token_text texts t)

-- with a blank between two
abbrev pub tokens_text : List Text → List Token → Text
tokens_text texts [] = []
tokens_text texts (t ∷ ts) = token_text texts t ++ more_tokens texts ts
