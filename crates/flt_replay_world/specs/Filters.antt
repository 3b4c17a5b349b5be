-- The filters of a run, from the highest altitude to the lowest.
use Rattle.std.specs.Prelude.{List, map}
use Rattle.std.specs.Borrow.{Bor}
use Rattle.flt_tree.specs.declared.filter.Filter.{Filter}
pub use Rattle.flt_model.specs.Program.{filters_of, first_lower}

-- the filters behind some references
abbrev pub filters_behind : List (Bor Filter) → List Filter
filters_behind fs = map (λ f. f.now) fs
