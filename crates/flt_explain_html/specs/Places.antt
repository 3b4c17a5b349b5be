-- Lines of texts that rows of the reports name. This project's own page.
use Rattle.std.specs.Prelude.{ℕ, suc, List, [], ◌∷◌, ◌++◌, Option, Some, None, codes, drop, length, map, eqb, if◌then◌else◌, take_while}
use Rattle.std.specs.Char.{is_ascii_digit}
use Rattle.std.specs.Fmt.{decimal}
use Rattle.std.specs.List.{starts_with}
use Rattle.std.specs.Str.{bytes_eq}
use Rattle.flt_explain_html.specs.Escaping.{Text}
use Rattle.flt_explain_html.specs.declared.places.Place.{Place}
use Rattle.flt_explain_html.specs.declared.texts.ShownText.{ShownText}

-- the anchor of a line of a text, by the digits of its number
unfoldable pub anchor : ℕ → Text → Text
anchor text line = codes "f" ++ decimal text ++ codes "-l" ++ line

-- the beginning of rows that name a line of a text of this name
unfoldable pub head : Text → Text
head name = codes "  --> " ++ name ++ codes ":"

-- the same of some texts
abbrev pub heads : List ShownText → List Text
heads texts = map (λ (t : ShownText). head t.name) texts

-- the digits with which bytes begin
abbrev pub digits_at : Text → Text
digits_at bytes = take_while is_ascii_digit bytes

-- the anchor of the line that a row names, where so many texts come before those with these heads
abbrev pub anchor_from : ℕ → List Text → Text → Option Text
anchor_from text [] row = None
anchor_from text (h ∷ hs) row =
    if starts_with eqb row h then Some (anchor text (digits_at (drop (length h) row))) else anchor_from (suc text) hs row

-- the anchor of the line that a row names: it begins as the first text with such a head wants it
abbrev pub anchor_in : List Text → Text → Option Text
anchor_in heads row = anchor_from 0 heads row

-- a row of some number, where it names a line
abbrev pub placed : ℕ → Option Text → List Place
placed row None = []
placed row (Some anchor) = record { row = row; anchor = anchor } ∷ []

-- the rows that name a line, where so many rows come before these
abbrev pub places_from : List Text → ℕ → List Text → List Place
places_from heads n [] = []
places_from heads n (row ∷ rows) = placed n (anchor_in heads row) ++ places_from heads (suc n) rows

abbrev pub places : List Text → List Text → List Place
places heads rows = places_from heads 0 rows

-- the first row that names the line of an anchor
abbrev pub row_on : List Place → Text → Option ℕ
row_on [] anchor = None
row_on (p ∷ ps) anchor = if bytes_eq p.anchor anchor then Some p.row else row_on ps anchor
