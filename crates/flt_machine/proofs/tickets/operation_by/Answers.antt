use Rattle.std.proofs.Common.{subst, sym, ◌∙◌}
use Rattle.flt_machine_store.specs.Changes.{IsPossible}
use Rattle.flt_machine.proofs.Followed.{arrived, passed_on, lowered_left, lowered_over}
use Rattle.flt_machine.proofs.Quieted.{quiet_operations}
use Rattle.flt_machine.proofs.tickets.operation_by.Goals as goal

pub returns-in-Arrive : goal.returns-in-Arrive
returns-in-Arrive c = rw (c.in-Arrive.is, c.operations.ensures) (arrived c.args.store.now _)

pub returns-in-Skip : goal.returns-in-Skip
returns-in-Skip c = rw (c.in-Skip.is)
    (passed_on c.args.store.now _ _ (subst (IsPossible c.args.store.now) c.in-Skip.is c.requires.possible))

pub returns-then-is_spent : goal.returns-then-is_spent
returns-then-is_spent c =
    rw (c.in-Lower.is)
    (lowered_over c.args.store.now _ (subst (IsPossible c.args.store.now) c.in-Lower.is c.requires.possible)
    (sym c.is_spent.ensures ∙ c.if-is_spent.true))

pub returns-else-is_spent : goal.returns-else-is_spent
returns-else-is_spent c =
    rw (c.in-Lower.is)
    (lowered_left c.args.store.now _ (subst (IsPossible c.args.store.now) c.in-Lower.is c.requires.possible)
    (sym c.is_spent.ensures ∙ c.if-is_spent.false))

pub returns-in_default : goal.returns-in_default
returns-in_default c =
    quiet_operations c.args.store.now c.args.change c.in_default.not-Arrive c.in_default.not-Skip
    c.in_default.not-Lower c.in_default.not-Settle
