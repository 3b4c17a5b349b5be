use Rattle.std.proofs.Common.{◌∙◌}
use Rattle.flt_machine_store.specs.Parts.{entry_of}
use Rattle.flt_machine.proofs.Entered.{stands_there}
use Rattle.flt_machine.proofs.tickets.stands.Goals as goal

pub returns : goal.returns
returns c = c.is_some.ensures ∙ stands_there c.args.store.now c.args.filter c.args.serial entry_of
    c.first_entry.result c.first_entry.ensures
