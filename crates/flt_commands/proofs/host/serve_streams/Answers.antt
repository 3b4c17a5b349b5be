use Rattle.flt_commands.proofs.host.serve_streams.Goals as goal

pub returns-in-Ok : goal.returns-in-Ok
returns-in-Ok c = (_, _, _, _, c.in-Ok.ensures.served)
