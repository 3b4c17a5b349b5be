use Rattle.std.proofs.Common.{◌≡◌, map, take}
use Rattle.std.specs.Borrow.{Bor}
use Rattle.flt_model.specs.Program.{filters_of}
use Rattle.flt_explain_timeline.specs.Timelines.{files_for}
use Rattle.flt_tree.specs.declared.filter.Filter.{Filter}
use Rattle.flt_explain_timeline.proofs.timeline.files_in.Given as goal

-- those of the filters so far
abbrev pub invariant-loop-filter : goal.invariant-loop-filter
invariant-loop-filter l = l.all ≡ map (λ (f : Bor Filter). files_for (filters_of l.trees) l.files f.now) (take l.filter-index l.filters)
