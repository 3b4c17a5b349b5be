use Rattle.flt_commands_explain.proofs.FindingRuns.{none_added, run_added}
use Rattle.flt_commands_explain.proofs.finding_runs.add_broken.Goals as goal

pub returns-in-None : goal.returns-in-None
returns-in-None c =
    none_added c.args.parsed.now.trees.items c.args.parsed.now.files.items _ c.args.noted.now c.args.broken.now _ _ _ _
    (rw c.as_slice.ensures.value at c.own_trees-own.ensures) (rw c.as_slice-2.ensures.value at c.own_files-files.ensures)
    c.in_ok-found.ensures c.in-None.is

pub returns-in_ok-push-in-Some : goal.returns-in_ok-push-in-Some
returns-in_ok-push-in-Some c =
    run_added c.args.parsed.now.trees.items c.args.parsed.now.files.items _ c.args.noted.now c.args.broken.now _ _ _ _
    (rw c.as_slice.ensures.value at c.own_trees-own.ensures) (rw c.as_slice-2.ensures.value at c.own_files-files.ensures)
    c.in_ok-found.ensures c.in-Some.flow _ _
    c.in-Some.is c.in_ok-run-in-Some.ensures c.in_ok-push-in-Some.ensures.items
