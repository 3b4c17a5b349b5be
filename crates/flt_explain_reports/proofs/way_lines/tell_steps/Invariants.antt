use Rattle.std.proofs.Common.{◌≡◌, ◌++◌, drop}
use Rattle.flt_explain_reports.specs.Indents.{headed, headed_from}
use Rattle.flt_explain_reports.specs.Ways.{branch_lines}
use Rattle.flt_explain_reports.proofs.way_lines.tell_steps.Given as goal

abbrev pub invariant-loop-step : goal.invariant-loop-step
invariant-loop-step l =
    l.page.out.items
    ++ headed_from l.told l.word
    (branch_lines l.scene.files l.home l.scene.lines.now l.scene.graph.now l.callback (drop l.step-index l.steps))
    ≡ l.initial.page.out.items
    ++ headed l.word (branch_lines l.scene.files l.home l.scene.lines.now l.scene.graph.now l.callback l.steps)
