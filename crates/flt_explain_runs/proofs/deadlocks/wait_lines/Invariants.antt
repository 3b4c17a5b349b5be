use Rattle.std.proofs.Common.{◌≡◌, ◌++◌, drop}
use Rattle.flt_explain_runs.specs.Deadlocked.{wait_lines}
use Rattle.flt_explain_runs.proofs.deadlocks.wait_lines.Given as goal

abbrev pub invariant-loop-wait : goal.invariant-loop-wait
invariant-loop-wait l =
    l.page.out.items ++ wait_lines l.files l.home l.tree.filter (drop l.wait-index l.waits) ≡ wait_lines l.files l.home l.tree.filter
    l.waits
