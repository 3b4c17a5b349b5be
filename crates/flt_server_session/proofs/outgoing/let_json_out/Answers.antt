use Rattle.std.proofs.Common.{[]}
use Rattle.json.specs.Print.{print_from}
use Rattle.flt_server_session.proofs.outgoing.let_json_out.Goals as goal

pub returns-in-Err : goal.returns-in-Err
unfolding print_from
returns-in-Err c = ([], λ utf8. absurd (c.in-Err.ensures.cases.0 utf8), tt, c.new.ensures.items)
