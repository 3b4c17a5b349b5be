-- Reports on the page, row by row. This project's own page.
use Rattle.std.specs.Prelude.{ℕ, zero, suc, List, [], ◌∷◌, ◌++◌, Option, Some, None, codes, if◌then◌else◌}
use Rattle.std.specs.Fmt.{decimal}
use Rattle.flt_explain_html.specs.Escaping.{Text, escaped}
use Rattle.flt_explain_html.specs.Places.{anchor_in}
use Rattle.flt_explain_html.specs.Rows.{begins, is_run, kind_word}

-- ---- elements

-- the beginning of a report that begins with a row
unfoldable pub beginning : Text → Text
beginning row = codes "<article class=\"" ++ kind_word row ++ codes "\"><div><pre>"

-- the end of a report, and the beginning of the next one
unfoldable pub next_report : Text → Text
next_report row = codes "</pre></div></article>" ++ beginning row

-- the beginning of the rows of a run, behind its picture
unfoldable pub picture_before : Text → Text
picture_before picture = codes "</pre></div><div class=\"run\"><figure>" ++ picture ++ codes "</figure><pre>"

-- the tags between a row and the one before it, where the next picture is this one
abbrev pub tags_between : Text → Text → Text
tags_between row picture =
    if begins row then next_report row else (if is_run row then picture_before picture else [])

-- the end of the row before a row, and the tags between them
abbrev pub between : Text → Text → Text
between row picture = 10 ∷ tags_between row picture

-- what is in front of a row, from 0
abbrev pub before : ℕ → Text → Text → Text
before zero row picture = beginning row
before (suc n) row picture = between row picture

-- ---- words

-- a row that names a line, as a link to it
unfoldable pub link : Text → ℕ → Text → Text
link anchor number row =
    codes "<a id=\"r" ++ decimal number ++ codes "\" href=\"#" ++ anchor ++ codes "\">" ++ escaped row ++ codes "</a>"

-- a row that names none
abbrev pub plain : Text → Text
plain row = if begins row then codes "<b>" ++ escaped row ++ codes "</b>" else escaped row

abbrev pub words_by : Option Text → ℕ → Text → Text
words_by (Some anchor) number row = link anchor number row
words_by None number row = plain row

-- the words of a row
abbrev pub words : List Text → ℕ → Text → Text
words heads number row = words_by (anchor_in heads row) number row

-- ---- rows

-- the next picture; nothing where there is none
abbrev pub first_of : List Text → Text
first_of [] = []
first_of (p ∷ ps) = p

-- the pictures that are left behind a row that says what a run breaks, or another one
abbrev pub left_after : List Text → Text → List Text
left_after [] row = []
left_after (p ∷ ps) row = if is_run row then ps else p ∷ ps

-- rows before which so many come, where these pictures are left
abbrev pub rows_from : List Text → List Text → ℕ → List Text → Text
rows_from heads pictures n [] = []
rows_from heads pictures n (r ∷ rs) =
    before n r (first_of pictures) ++ words heads n r ++ rows_from heads (left_after pictures r) (suc n) rs
