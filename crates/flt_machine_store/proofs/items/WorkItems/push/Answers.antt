use Rattle.std.proofs.Common.{arith}
use Rattle.flt_machine_store.proofs.Counts.{pushed_fits, pushed_here, pushed_past}
use Rattle.flt_machine_store.proofs.items.WorkItems.push.Goals as goal

pub overflow_add-index_mut : goal.overflow_add-index_mut
overflow_add-index_mut c =
    let few = pushed_fits c.self.inside.items.items c.self.inside.waiting.items c.args.item c.self.invariant
    c.push.new.list.items c.in_ok-push.ensures.items c.index_mut.result.now (omega (arith, c.if-item-len.true, c.len.ensures))
    c.index_mut.ensures.value in
    omega (arith, few, c.push.new.list.ok.0, c.push.new.list.small)

pub invariant_of-self-then-item-len : goal.invariant_of-self-then-item-len
invariant_of-self-then-item-len c =
    pushed_here c.self.inside.items.items c.self.inside.waiting.items c.args.item c.self.invariant
    c.push.new.list.items c.in_ok-push.ensures.items c.index_mut.result.now (omega (arith, c.if-item-len.true, c.len.ensures))
    c.index_mut.ensures.value

pub invariant_of-self-else-item-len : goal.invariant_of-self-else-item-len
invariant_of-self-else-item-len c =
    pushed_past c.self.inside.items.items c.self.inside.waiting.items c.args.item c.self.invariant
    c.push.new.list.items c.in_ok-push.ensures.items (omega (arith, c.if-item-len.false, c.len.ensures))
