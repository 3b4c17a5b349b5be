-- What stands before a token of a text. This project's own program.
use Rattle.std.specs.Prelude.{nat_lt, List, [], ◌∷◌, if◌then◌else◌}
use Rattle.std.specs.List.{fold}
use Rattle.flt_syntax.specs.declared.token.Kind.TheVariants as k
use Rattle.flt_syntax.specs.declared.token.Token.{Token}
use Rattle.flt_explain_hints.specs.declared.before.KindsBefore.{KindsBefore}

-- the tokens of a text up to one of them
abbrev pub tokens_before : Token → List Token → List Token
tokens_before t [] = []
tokens_before t (o ∷ os) = if nat_lt o.start t.start then o ∷ tokens_before t os else []

-- nothing stands before the first
abbrev pub at_the_beginning : KindsBefore
at_the_beginning = record { last = k.End; earlier = k.End; line = 0 }

-- the last two kinds, where another token follows
abbrev pub and_then : KindsBefore → Token → KindsBefore
and_then so_far t = record { last = t.word.kind; earlier = so_far.last; line = t.position.line }

-- the kinds of the two tokens before one, and the line of the last of them
unfoldable pub kinds_before : List Token → Token → KindsBefore
kinds_before tokens t = fold and_then at_the_beginning (tokens_before t tokens)
