use Rattle.std.proofs.Common.{sym}
use Rattle.flt_machine_dispatch.proofs.moves.decide.Goals as goal

pub returns-in-Detached-clause-decided : goal.returns-in-Detached-clause-decided
returns-in-Detached-clause-decided c p actors activations loaded same =
    rw (c.in-Detached.is, sym (c.number-in-Detached.ensures p loaded)) (c.detached.ensures.decided p actors activations)
