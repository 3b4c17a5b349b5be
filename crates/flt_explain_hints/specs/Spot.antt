-- Where a text is refused, and what stands there. This project's own program.
use Rattle.std.specs.Prelude.{◌≡◌, Bool, ◌&&◌, ◌==◌, if◌then◌else◌, nat_lt, List, [], length, Option, Some, None}
use Rattle.std.specs.List.{find}
use Rattle.flt_syntax.specs.Cursor.{bytes_of}
use Rattle.flt_syntax.specs.Lex.{tokens}
use Rattle.flt_syntax.specs.TextFails.{Fails}
use Rattle.flt_syntax.specs.declared.fault.SyntaxFault.{SyntaxFault}
use Rattle.flt_syntax.specs.declared.token.Token.{Token}
use Rattle.flt_rules.specs.Limits.{max_text}
use Rattle.flt_tree.specs.Names.{Text}
use Rattle.flt_explain_hints.specs.declared.spot.Spot.{Spot}

-- whether a token begins where a fault is
abbrev pub stands_at : SyntaxFault → Token → Bool
stands_at f t = t.position.line == f.line && t.position.column == f.column

-- the tokens of a text; one that is too large isn't cut into tokens
abbrev pub tokens_of : Text → List Token
tokens_of text = if nat_lt max_text (length text) then [] else tokens text

-- the bytes of a token, if there is one
abbrev pub bytes_at : Text → Option Token → Text
bytes_at text None = []
bytes_at text (Some t) = bytes_of text t

-- a text fails so, and the first token that begins there is this one, with these bytes
pub record IsSpot (text : Text) (s : Spot) : Type 0 where
  pub refused : Fails text s.fault
  pub token : s.token ≡ find (stands_at s.fault) (tokens_of text)
  pub bytes : s.bytes.now ≡ bytes_at text s.token
