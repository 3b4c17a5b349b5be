-- Callbacks within the limits, one more at a time.
use Rattle.std.proofs.Common.{List, [], ◌∷◌, ◌++◌, arith}
use Rattle.std.proofs.lemmas.Grind.{common_steps}
use Rattle.std.specs.List.{list_all}
use Rattle.std.specs.Prelude.{IsTrue}
use Rattle.flt_tree.specs.Measures.{is_small}
use Rattle.flt_tree.specs.declared.filter.Callback.{Callback}

-- one more callback that is small leaves all small
pub all_small : (found : List Callback) (c : Callback) → IsTrue (list_all is_small found) → IsTrue (is_small c) →
    IsTrue (list_all is_small (found ++ c ∷ []))
all_small found c before here = grind (arith, common_steps)
