-- What is one at most, where a name is given one thing at most. This project's own rule.
use Rattle.std.specs.Prelude.{◌≡◌, List, Option}
use Rattle.flt_c_tokens.specs.Bytes.{Text}
use Rattle.flt_c_tokens.specs.declared.lexer.Excess.{Excess}
use Rattle.flt_c_tokens.specs.declared.token.Token.{Token}
use Rattle.flt_c_headers.specs.Reading.{AreIncluded, Giving, IsUnincluded}
use Rattle.flt_c_headers.specs.World.{World}

-- one thing at most is given for a name
abbrev pub GivesOne : Giving → Type 0
GivesOne gives = (name : Text) (found other : Option Text) → gives name found → gives name other → found ≡ other

-- tokens with their headers are read in one way at most
abbrev pub LinksAtMostOne : Giving → Type 0
LinksAtMostOne gives =
    (folders : List Text) (name file : Text) (tokens : List Token) (texts : List Text) (h : World) (linked others : List Token)
    (next last : List Text) (end final : World) → AreIncluded gives folders name file tokens texts h linked next end →
    AreIncluded gives folders name file tokens texts h others last final → (linked ≡ others) × (next ≡ last) × (end ≡ final)

-- for one reason at most they aren't
abbrev pub RefusesAtMostOne : Giving → Type 0
RefusesAtMostOne gives =
    (folders : List Text) (name file : Text) (tokens : List Token) (texts : List Text) (h : World) (excess reason : Excess) →
    IsUnincluded gives folders name file tokens texts h excess → IsUnincluded gives folders name file tokens texts h reason →
    excess ≡ reason

-- those that are read aren't refused
abbrev pub NeverBoth : Giving → Type 0
NeverBoth gives =
    (folders : List Text) (name file : Text) (tokens : List Token) (texts : List Text) (h : World) (linked : List Token)
    (next : List Text) (end : World) (excess : Excess) → AreIncluded gives folders name file tokens texts h linked next end →
    IsUnincluded gives folders name file tokens texts h excess → ⊥
