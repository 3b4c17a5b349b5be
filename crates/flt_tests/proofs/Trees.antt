-- Trees whose filters are well-formed: one more.
use Rattle.std.proofs.Common.{◌≡◌, List, [], ◌∷◌, ◌++◌, ap, ◌∙◌}
use Rattle.std.proofs.lemmas.List.{map_push}
use Rattle.std.proofs.lemmas.List.Elements.{All-push}
use Rattle.std.specs.List.{All}
use Rattle.flt_model.specs.Program.{filters_of}
use Rattle.flt_tree.specs.WellFormed.{IsWellFormed}
use Rattle.flt_tree.specs.declared.tree.Tree.{Tree}

-- one more well-formed filter
pub one_more : (trees more : List Tree) (tree : Tree) → All IsWellFormed (filters_of trees) → IsWellFormed tree.filter →
    more ≡ trees ++ tree ∷ [] → All IsWellFormed (filters_of more)
one_more trees more tree all fine pushed =
    let filters : filters_of more ≡ filters_of trees ++ tree.filter ∷ [] = ap filters_of pushed
    ∙ map_push (λ (t : Tree). t.filter) trees tree in
    rw filters (All-push IsWellFormed (filters_of trees) tree.filter all fine)
