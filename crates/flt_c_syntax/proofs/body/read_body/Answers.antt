use Rattle.flt_c_syntax.proofs.Laws.{is_found}
use Rattle.flt_c_syntax.proofs.body.read_body.Goals as goal

pub returns-clause-read : goal.returns-clause-read
returns-clause-read c =
    is_found c.args.known.now c.args.tokens.now c.bounded_body.result c.bounded_body.new.tokens.rest.now c.bounded_body.ensures
