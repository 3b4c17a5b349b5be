use Rattle.std.proofs.Common.{List, subst}
use Rattle.flt_machine_frames.specs.Loading.{AreLoaded}
use Rattle.flt_tree.specs.declared.filter.Filter.{Filter}
use Rattle.flt_stack_threads.proofs.stack.Stack.machine.Goals as goal

pub returns : goal.returns
returns g c =
    subst (λ (trees : List Filter). AreLoaded trees c.machine.result.now) c.args.self.now.named c.machine.ensures
