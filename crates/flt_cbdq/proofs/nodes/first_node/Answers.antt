use Rattle.std.proofs.Common.{◌∙◌, Some, get_or, sym, arith}
use Rattle.ilist_core.specs.NodeLists.{nodes_of}
use Rattle.flt_cbdq.proofs.Searches.{found_none, found_now, found_still, found_all, first_is, none_is}
use Rattle.flt_cbdq.proofs.nodes.first_node.Goals as goal

pub loop-visit-init : goal.loop-visit-init
loop-visit-init c = found_none c.args.entries.now (nodes_of c.args.lists.now.lists c.args.list)

pub loop-visit-preserved-in_default : goal.loop-visit-preserved-in_default
loop-visit-preserved-in_default c =
    found_still c.args.entries.now c.args.visits.now
    (nodes_of c.args.lists.now.lists c.args.list) c.loop-visit.visit-index c.loop-visit-test.true c.loop-visit.found c.loop-visit.invariant
    (first_is c.args.entries.now (nodes_of c.args.lists.now.lists c.args.list) _ _ _
    (c.requires.noted (get_or c.args.visits.now c.loop-visit.visit-index 0)) (sym c.in_default.is ∙ c.first.ensures))

pub loop-visit-preserved : goal.loop-visit-preserved
loop-visit-preserved c =
    found_now c.args.entries.now c.args.visits.now
    (nodes_of c.args.lists.now.lists c.args.list) c.loop-visit.visit-index c.loop-visit-test.true (Some c.in-Some.node)
    (none_is c.loop-visit.found (sym c.is_some.ensures ∙ c.if-is_some.false) ∙ c.loop-visit.invariant)
    (first_is c.args.entries.now (nodes_of c.args.lists.now.lists c.args.list) _ _ _
    (c.requires.noted (get_or c.args.visits.now c.loop-visit.visit-index 0)) (sym c.in-Some.is ∙ c.first.ensures))

pub returns : goal.returns
returns c = found_all c.args.entries.now c.args.visits.now
    (nodes_of c.args.lists.now.lists c.args.list) c.loop-visit.visit-index c.loop-visit.found (omega arith) c.loop-visit.invariant
