-- The page on texts, byte by byte but for its style sheet. This project's own page; its elements are those of HTML.
use Rattle.std.specs.Prelude.{◌≡◌, ◌==◌, true, List, [], ◌∷◌, ◌++◌, codes}
use Rattle.std.specs.List.{slice_split}
use Rattle.flt_explain_html.specs.Escaping.{Text, escaped}
use Rattle.flt_explain_html.specs.Places.{heads, places}
use Rattle.flt_explain_html.specs.Read.{is_plain}
use Rattle.flt_explain_html.specs.Reports.{rows_from}
use Rattle.flt_explain_html.specs.Texts.{links_from, texts_from}
use Rattle.flt_explain_html.specs.declared.places.Place.{Place}
use Rattle.flt_explain_html.specs.declared.texts.ShownText.{ShownText}

-- the last row but one, where these two come before some rows
abbrev pub last_from : Text → Text → List Text → Text
last_from last next [] = last
last_from last next (r ∷ rs) = last_from next r rs

-- the last row but one, since nothing is behind the end of the last line; nothing where there are fewer
abbrev pub last_row : List Text → Text
last_row rows = last_from [] [] rows

-- what is in front of the links to the texts
unfoldable pub opening : Text → Text → Text
opening style summary =
    codes "<!DOCTYPE html>\n<html lang=\"en\"><head><meta charset=\"utf-8\"><title>" ++ (escaped summary
    ++ (codes " - fltstack explain</title><meta name=\"viewport\" content=\"width=device-width\"><style>" ++ (style
    ++ (codes "</style></head><body><header><h1>fltstack explain</h1><p><a href=\"#reports\">" ++
    (escaped summary ++ codes "</a></p><nav>")))))

-- the lines of what is printed, without their ends
abbrev pub lines_in : Text → List Text
lines_in printed = slice_split (λ b. b == 10) printed

-- the page with a style sheet, where rows that name lines begin so, and these are the rows that do
unfoldable pub parts : Text → List ShownText → List Text → List Text → List Text → List Place → Text
parts style texts rows pictures heads places =
    opening style (last_row rows) ++ (links_from 0 texts ++ (codes "</nav></header><main><div class=\"texts\">"
    ++ (texts_from places 0 texts ++ (codes "</div><div class=\"reports\" id=\"reports\">"
    ++ (rows_from heads pictures 0 rows ++ codes "</pre></div></article></div></main></body></html>\n")))))

-- the page with a style sheet, where these are the rows of the reports
abbrev pub page : Text → List ShownText → List Text → List Text → Text
page style texts rows pictures = parts style texts rows pictures (heads texts) (places (heads texts) rows)

-- the page on what is printed of texts, with some style sheet, which ends no element
pub record IsPage (texts : List ShownText) (printed : Text) (pictures : List Text) (written : Text) : Type 0 where
  pub style : Text
  pub plain : is_plain style ≡ true
  pub whole : written ≡ page style texts (lines_in printed) pictures
