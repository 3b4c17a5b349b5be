use Rattle.flt_replay_records.proofs.PlaceSets.FirstLinked.{linked_first}
use Rattle.flt_replay_records.proofs.linked.Contexts.linked_at.Goals as goal

pub returns : goal.returns
returns c =
    let h = rw c.key_code.ensures at c.first.ensures in
    rw (← c.self.view_is)
    (linked_first c.self.inside.list c.self.inside.links.set c.args.link c.first.result c.self.invariant h)
