-- Where the rows of entries are cut.
use Rattle.std.proofs.Common.{◌≡◌, ◌<◌, ◌≤◌, ◌+◌, ℕ, true, false, List, [], ◌∷◌, ◌++◌}
use Rattle.std.proofs.Common.{add-one, append_assoc, ap, drop, get_or, length, sym, ◌∙◌}
use Rattle.std.proofs.Math.Seq.{drop-cons}
use Rattle.std.proofs.lemmas.List.{drop_all}
use Rattle.flt_explain_timeline.specs.Rows.{joins, rows_after}
use Rattle.flt_explain_timeline.specs.declared.rows.Row.{Row}
use Rattle.flt_explain_timeline.specs.declared.telling.Who.{Who}

on_by : (first count : ℕ) (last next : Who) (whos : List Who) → joins last next ≡ true →
    rows_after first count last (next ∷ whos) ≡ rows_after first (count + 1) next whos
unfolding rows_after
on_by first count last next whos e = rw e

cut_by : (first count : ℕ) (last next : Who) (whos : List Who) → joins last next ≡ false →
    rows_after first count last (next ∷ whos) ≡ record { first = first; count = count } ∷ rows_after (first + count) 1 next whos
unfolding rows_after
cut_by first count last next whos e = rw e

-- an entry joins the row that has begun
pub joined : (rows : List Row) (row : Row) (last who : Who) (whos : List Who) → joins last who ≡ true →
    rows ++ rows_after row.first (row.count + 1) who whos ≡ rows ++ rows_after row.first row.count last (who ∷ whos)
joined rows row last who whos j = ap (λ rs. rows ++ rs) (sym (on_by row.first row.count last who whos j))

-- it begins the next one
pub cut : (rows grown : List Row) (row : Row) (last who : Who) (whos : List Who) → joins last who ≡ false → grown ≡ rows ++ row ∷ [] →
    grown ++ rows_after (row.first + row.count) 1 who whos ≡ rows ++ rows_after row.first row.count last (who ∷ whos)
cut rows grown row last who whos j g =
    ap (λ rs. rs ++ rows_after (row.first + row.count) 1 who whos) g ∙ append_assoc rows (row ∷ []) _
    ∙ ap (λ rs. rows ++ rs) (sym (cut_by row.first row.count last who whos j))

-- the same, behind the rows so far
pub one_more : (rows grown all : List Row) (row new : Row) (whos : List Who) (place : ℕ) (last d : Who) → place < length whos →
    ((ws : List Who) → grown ++ rows_after new.first new.count (get_or whos place d) ws
    ≡ rows ++ rows_after row.first row.count last (get_or whos place d ∷ ws)) →
    rows ++ rows_after row.first row.count last (drop place whos) ≡ all →
    grown ++ rows_after new.first new.count (get_or whos place d) (drop (place + 1) whos) ≡ all
one_more rows grown all row new whos place last d within step so_far =
    step (drop (place + 1) whos)
    ∙ ap (λ k. rows ++ rows_after row.first row.count last (get_or whos place d ∷ drop k whos)) (add-one place)
    ∙ ap (λ ws. rows ++ rows_after row.first row.count last ws) (sym (drop-cons whos place d within)) ∙ so_far

-- the last row
pub last_row : (rows all : List Row) (row : Row) (whos : List Who) (place : ℕ) (last : Who) →
    rows ++ rows_after row.first row.count last (drop place whos) ≡ all → length whos ≤ place → rows ++ row ∷ [] ≡ all
unfolding rows_after
last_row rows all row whos place last e h =
    ap (λ ws. rows ++ rows_after row.first row.count last ws) (sym (drop_all place whos h)) ∙ e
