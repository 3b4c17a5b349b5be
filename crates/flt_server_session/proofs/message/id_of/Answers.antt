use Rattle.json.specs.Value.{value_view}
use Rattle.flt_server_session.proofs.Ids.{part_has_numbers}
use Rattle.flt_server_session.proofs.message.id_of.Goals as goal

pub returns-clause-numbers : goal.returns-clause-numbers
returns-clause-numbers c = part_has_numbers _ (value_view c.args.value.now) _ c.requires.numbers c.get.ensures
