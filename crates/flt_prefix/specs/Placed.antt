-- The place that the parser has for a token is the one that is counted in the text.
use Rattle.std.specs.Prelude.{◌≡◌, ◌≢◌}
use Rattle.std.specs.List.{All}
use Rattle.flt_places.specs.Places.{place_in}
use Rattle.flt_syntax.specs.Lex.{tokens}
use Rattle.flt_syntax.specs.declared.token.Kind.TheVariants.{End}
use Rattle.flt_syntax.specs.declared.token.Token.{Token}
use Rattle.flt_tree.specs.Names.{Text}

-- a token stands where its first byte does; the end of a text, which has no byte, isn't counted so
abbrev pub IsPlacedIn : Text → Token → Type 0
IsPlacedIn text t = t.word.kind ≢ End → t.position ≡ place_in text t.start

abbrev pub TokensArePlaced : Type 0
TokensArePlaced = (text : Text) → All (IsPlacedIn text) (tokens text)
