use Rattle.flt_machine_calls.proofs.contexts.set_there.Goals as goal

pub returns-in-Keep-clause-planned : goal.returns-in-Keep-clause-planned
returns-in-Keep-clause-planned c = rw (c.in-Keep.is, ← c.in-Some.ensures) c.kept.ensures.planned
