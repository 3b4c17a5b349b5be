-- Kinds of token, and how tokens are spelled.
use Rattle.std.specs.Prelude.{ℕ, Bool, true, false, if◌then◌else◌, List, [], ◌∷◌, map}
use denote.Enum.Bare.{sameb}
use Rattle.flt_c_tokens.specs.Bytes.{Text}
use Rattle.flt_c_macros.specs.Texts.{Texts, text_of}
use Rattle.flt_c_tokens.specs.declared.token.Kind.{Kind}
use Rattle.flt_c_tokens.specs.declared.token.Token.{Token}
use Rattle.flt_c_tokens.specs.contracts.token.Kind.{the_type}
use Rattle.flt_c_macros.specs.declared.kind.TheConstants.{SIGNS}

-- `==` on kinds
unfoldable pub same_kind : Kind → Kind → Bool
same_kind = sameb the_type

-- the spelling of a kind in a table, or nothing
abbrev pub lookup : Kind → List (Kind × Text) → Text
lookup kind [] = []
lookup kind (e ∷ es) = if same_kind e.0 kind then e.1 else lookup kind es

-- a sign is spelled as it is, what can't be read by `?`
abbrev pub sign : Kind → Text
sign kind = lookup kind (map (λ e. (e.0, e.1.now)) SIGNS)

abbrev pub spelling_by : Text → Texts → Token → Text
spelling_by [] texts t = text_of texts t.word
spelling_by (b ∷ z) texts t = b ∷ z

-- how a token is spelled
unfoldable pub spelling : Texts → Token → Text
spelling texts t = spelling_by (sign t.kind) texts t
