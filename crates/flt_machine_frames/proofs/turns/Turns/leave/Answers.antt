use Rattle.std.proofs.Common.{◌≡◌, ◌<◌, ◌∙◌, true, List, sym, ap}
use Rattle.flt_graph.specs.declared.turns.Turn.{Turn}
use Rattle.flt_machine_frames.proofs.Padding.{one_less, some_are_used}
use Rattle.flt_machine_frames.proofs.turns.Turns.leave.Goals as goal
use Rattle.flt_machine_frames.specs.Turns.{has_first}

pub invariant_of-self : goal.invariant_of-self
invariant_of-self c =
    let is : has_first c.args.point c.args.self.now ≡ true = sym c.has_first.ensures ∙ c.if-has_first.true in
    let some : 0 < c.self.inside.used = some_are_used c.args.point c.self.inside.turns c.self.inside.used c.self.invariant
    (ap (λ (l : List Turn). has_first c.args.point l) c.self.view_is ∙ is) in
    rw c.without_first-self-inside.ensures (one_less c.self.inside.turns c.self.inside.used c.self.invariant some).0
