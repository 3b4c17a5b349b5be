use Rattle.std.proofs.Common.{◌≡◌, [], map, sym, ap, drop, ◌∙◌}
use Rattle.ilist_core.specs.NodeLists.{nodes_of}
use Rattle.flt_cbdq.specs.Kept.{entry_at}
use Rattle.flt_cbdq.specs.Queues.{front_of}
use Rattle.flt_cbdq.proofs.Searches.{none_after}
use Rattle.flt_cbdq.proofs.walk.Walk.next_entry.Goals as goal

pub returns-in_err-node-clause-first : goal.returns-in_err-node-clause-first
returns-in_err-node-clause-first c =
    let left : c.args.self.now ≡ [] = sym c.self.view_is ∙ ap (map (entry_at c.self.inside.entries.now))
    (none_after (nodes_of c.self.inside.lists.now.lists c.self.inside.list) c.self.inside.at c.in_err-node.was) in
    c.from_residual.ensures ∙ ap front_of (sym left)

pub returns-in_err-node-clause-rest : goal.returns-in_err-node-clause-rest
returns-in_err-node-clause-rest c =
    let left : c.args.self.now ≡ [] = sym c.self.view_is ∙ ap (map (entry_at c.self.inside.entries.now))
    (none_after (nodes_of c.self.inside.lists.now.lists c.self.inside.list) c.self.inside.at c.in_err-node.was) in
    left ∙ ap (drop 1) (sym left)
