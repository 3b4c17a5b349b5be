use Rattle.std.proofs.Common.{length-append}
use Rattle.flt_model.specs.declared.subject.Subject.TheVariants as subject
use Rattle.flt_machine.proofs.Passing.{newcomer_one}
use Rattle.flt_machine.proofs.Quieted.{quiet_items}
use Rattle.flt_machine.proofs.tickets.item_by.Goals as goal

pub returns-in-Queue : goal.returns-in-Queue
returns-in-Queue c = rw (c.in-Queue.is, c.items.ensures) (newcomer_one subject.Item _ _ (length-append c.args.store.now.items _))

pub returns-in_default : goal.returns-in_default
returns-in_default c = quiet_items c.args.store.now c.args.change c.in_default.not-Queue
