-- A teardown begins with the filter's detaching alone.
use Rattle.std.proofs.Common.{subst, sym}
use Rattle.flt_machine_store.specs.Changes.{IsPossible}
use Rattle.flt_machine.proofs.Entered.{no_torn, torn_down}
use Rattle.flt_machine.proofs.Quieted.{quiet_teardown}
use Rattle.flt_machine.proofs.tickets.teardown_by.Goals as goal

pub returns-in-Some : goal.returns-in-Some
returns-in-Some c s possible =
    rw (c.in-Detach.is)
    (torn_down s c.in-Detach.filter (subst (IsPossible s) c.in-Detach.is possible) c.args.loaded.now.altitudes _
    (sym c.in-Some.ensures.value))

pub returns-in-None : goal.returns-in-None
returns-in-None c s possible =
    rw (c.in-Detach.is)
    (no_torn s c.in-Detach.filter (subst (IsPossible s) c.in-Detach.is possible) c.args.loaded.now.altitudes (sym c.in-None.ensures.value))

pub returns-in_default : goal.returns-in_default
returns-in_default c s possible = quiet_teardown s c.args.change c.args.loaded.now.altitudes c.in_default.not-Detach
