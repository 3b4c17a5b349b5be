-- Texts on the page, with links to the reports on their lines. This project's own page.
use Rattle.std.specs.Prelude.{ℕ, suc, List, [], ◌∷◌, ◌++◌, Option, Some, None, codes}
use Rattle.std.specs.Fmt.{decimal}
use Rattle.flt_explain_html.specs.Escaping.{Text, escaped}
use Rattle.flt_explain_html.specs.Places.{anchor, row_on}
use Rattle.flt_explain_html.specs.declared.places.Place.{Place}
use Rattle.flt_explain_html.specs.declared.texts.ShownText.{ShownText}

-- where a line's number leads: to the first row that names the line, else to the line itself
abbrev pub target : Option ℕ → Text → Text
target (Some row) own = codes "\" class=\"place\"><a href=\"#r" ++ decimal row
target None own = codes "\"><a href=\"#" ++ own

-- a line with its number, where it has this anchor
unfoldable pub line_at : List Place → Text → ℕ → Text → Text
line_at places own number line =
    codes "<span id=\"" ++ own ++ target (row_on places own) own ++ codes "\">" ++ decimal number ++ codes "</a>" ++ escaped line
    ++ codes "\n</span>"

-- a line of a text, from 1, with its number
abbrev pub line : List Place → ℕ → ℕ → Text → Text
line places text number bytes = line_at places (anchor text (decimal number)) number bytes

-- lines of a text before which so many come
abbrev pub lines_from : List Place → ℕ → ℕ → List Text → Text
lines_from places text n [] = []
lines_from places text n (l ∷ ls) = line places text (suc n) l ++ lines_from places text (suc n) ls

-- a text under its name
unfoldable pub text : List Place → ℕ → ShownText → Text
text places number t =
    codes "<section id=\"f" ++ (decimal number ++ (codes "\"><h2>" ++ (escaped t.name ++ (codes "</h2><pre>"
    ++ (lines_from places number 0 t.lines ++ codes "</pre></section>")))))

-- texts before which so many come
abbrev pub texts_from : List Place → ℕ → List ShownText → Text
texts_from places n [] = []
texts_from places n (t ∷ ts) = text places n t ++ texts_from places (suc n) ts

-- a link to a text
unfoldable pub link : ℕ → ShownText → Text
link number t = codes "<a href=\"#f" ++ decimal number ++ codes "\">" ++ escaped t.name ++ codes "</a> "

-- links to texts before which so many come
abbrev pub links_from : ℕ → List ShownText → Text
links_from n [] = []
links_from n (t ∷ ts) = link n t ++ links_from (suc n) ts
