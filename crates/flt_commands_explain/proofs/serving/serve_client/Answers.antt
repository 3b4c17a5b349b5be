use Rattle.flt_commands_explain.proofs.NewServers.{serves, serves_so_far}
use Rattle.flt_commands_explain.proofs.serving.serve_client.Goals as goal

pub returns-clause-served : goal.returns-clause-served
returns-clause-served g c = serves _ (c.new-server.ensures.phase, c.new-server.ensures.documents) _ _ _ _ _ _ c.serve.ensures.served

pub returns-clause-so_far : goal.returns-clause-so_far
returns-clause-so_far g c = serves_so_far _ (c.new-server.ensures.phase, c.new-server.ensures.documents) _ _ _ _ c.serve.ensures.so_far
