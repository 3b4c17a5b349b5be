use Rattle.std.proofs.Common.{◌≡◌, ◌-◌}
use Rattle.flt_graph.specs.Graph.{points_at}
use Rattle.flt_explain_warnings.specs.Flow.{settled}
use Rattle.flt_explain_warnings.proofs.flow.settle.Given as goal

-- what the passes that are left mark is what all mark
abbrev pub invariant-loop-pass : goal.invariant-loop-pass
invariant-loop-pass l =
    settled l.graph l.callback l.trail (l._pass-end - l._pass) l.marks
    ≡ settled l.graph l.callback l.trail (points_at l.graph l.callback) l.fn.marks
