-- What holds of each filter so far, and of one more.
use Rattle.std.proofs.Common.{◌≡◌, ℕ, ◌+◌, ◌<◌, List, [], ◌∷◌, ◌++◌, length, get_or, take}
use Rattle.std.proofs.lemmas.Slice.Zip.{all_zipped_more}
use Rattle.std.specs.List.{AllZip}
use Rattle.flt_model.specs.Program.{filters_of}
use Rattle.flt_tree.proofs.Parts.{one_more}
use Rattle.flt_tree.specs.declared.filter.Filter.{Filter}
use Rattle.flt_tree.specs.declared.tree.Tree.{Tree}

module _ (trees : List Tree) (i : ℕ) (tree d : Tree) (h : i < length trees) (at : tree ≡ get_or trees i d) where
  -- what holds of each tree so far and of one more
  pub zipped_more : {Y : Type 0} (R : Filter → Y → Type 0) (ys more : List Y) (y : Y) → AllZip R (filters_of (take i trees)) ys →
      R tree.filter y → more ≡ ys ++ y ∷ [] → AllZip R (filters_of (take (i + 1) trees)) more
  zipped_more R ys more y all one pushed =
      let read : filters_of (take (i + 1) trees) ≡ filters_of (take i trees) ++ tree.filter ∷ [] =
      one_more (λ t. t.filter) trees i tree d h at in
      rw (read, pushed) (all_zipped_more _ _ _ tree.filter y all one)
