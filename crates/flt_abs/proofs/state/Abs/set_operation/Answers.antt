use Rattle.flt_abs.proofs.Stays.{proper_operations}
use Rattle.flt_abs.specs.State.{state_of}
use Rattle.flt_abs.proofs.state.Abs.set_operation.Goals as goal

pub invariant_of-self : goal.invariant_of-self
invariant_of-self c =
    proper_operations (state_of c.self.inside.contexts c.self.inside.operations c.self.inside.modes c.self.inside.draining
    c.self.inside.locks)
    c.place-place.result c.args.statuses c.self.invariant c.requires
