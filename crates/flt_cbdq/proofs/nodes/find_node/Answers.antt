use Rattle.std.proofs.Common.{◌∙◌, sym}
use Rattle.flt_cbdq.proofs.Searches.{walk_found, walk_on}
use Rattle.flt_cbdq.proofs.nodes.find_node.Goals as goal

pub returns-then-contains : goal.returns-then-contains
returns-then-contains c =
    let here = rw c.in-Some.is at c.loop-at.invariant.within in
    walk_found c.args.entries.now c.args.visits.now _ _ _ c.in-Some.node c.entry_of.result.now c.loop-at.invariant.same
    c.in-Some.is (c.next-next.ensures.from c.args.list here) c.entry_of.ensures (sym c.contains.ensures.value ∙ c.if-contains.true)

pub loop-at-preserved : goal.loop-at-preserved
loop-at-preserved c =
    let here = rw c.in-Some.is at c.loop-at.invariant.within in
    record {
      within = c.next-next.ensures.within c.args.list here;
      same = walk_on c.args.entries.now c.args.visits.now _ _ _ c.in-Some.node c.entry_of.result.now c.loop-at.invariant.same
          c.in-Some.is (c.next-next.ensures.from c.args.list here) c.entry_of.ensures (sym c.contains.ensures.value ∙ c.if-contains.false);
    }
