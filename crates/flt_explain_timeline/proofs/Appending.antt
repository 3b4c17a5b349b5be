-- One more row, or one more block, behind those that are there.
use Rattle.std.proofs.Common.{◌≡◌, ◌≤◌, ◌+◌, ℕ, List, [], ◌∷◌, ◌++◌, sym, ap, ◌∙◌}
use Rattle.flt_explain_timeline.specs.Folds.{AreFolds, IsFold}
use Rattle.flt_explain_timeline.specs.Rows.{Cover}
use Rattle.flt_explain_timeline.specs.declared.folds.Fold.{Fold}
use Rattle.flt_explain_timeline.specs.declared.rows.Row.{Row}

-- rows that end where another one begins, with that one
pub cover_append : (rows : List Row) (first : ℕ) (r : Row) (end : ℕ) → Cover first rows r.first → 1 ≤ r.count → r.first + r.count ≡ end →
    Cover first (rows ++ r ∷ []) end
cover_append [] first r end e some ends = (sym e, some, ap (λ (n : ℕ). n + r.count) e ∙ ends)
cover_append (q ∷ qs) first r end (e, h, covered) some ends = (e, h, cover_append qs (first + q.count) r end covered some ends)

-- blocks that end where another one begins, with that one
pub folds_append : (told : List ℕ) (rows : List Row) (folds : List Fold) (first : ℕ) (f : Fold) (end : ℕ) →
    AreFolds told rows first folds f.first → IsFold told rows f → f.first + f.block + f.repeated ≡ end →
    AreFolds told rows first (folds ++ f ∷ []) end
folds_append told rows [] first f end e fold ends = (sym e, fold, ap (λ (n : ℕ). n + f.block + f.repeated) e ∙ ends)
folds_append told rows (g ∷ gs) first f end (e, h, folds) fold ends =
    (e, h, folds_append told rows gs (first + g.block + g.repeated) f end folds fold ends)
