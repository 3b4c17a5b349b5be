use Rattle.std.proofs.Common.{◌∙◌, sym}
use Rattle.flt_explain_outcomes.proofs.readings.Readings.add_unparsed.Goals as goal

pub add_other-requires-clause-other : goal.add_other-requires-clause-other
add_other-requires-clause-other c =
    record { fault = c.args.fault; unread = c.requires.fault; taken = sym c.kind_of.ensures ∙ c.in-Some.is }

pub add_unread-requires-clause-fault : goal.add_unread-requires-clause-fault
add_unread-requires-clause-fault c = record { fault = c.requires.fault; plain = sym c.kind_of.ensures ∙ c.in-None.is }
