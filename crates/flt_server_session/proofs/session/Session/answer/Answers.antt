use Rattle.std.proofs.Common.{Err, Some, ap}
use Rattle.json.specs.Value.{value_view}
use Rattle.flt_server_session.proofs.Answering.{answered, not_read}
use Rattle.flt_server_session.proofs.session.Session.answer.Goals as goal

pub returns-in-Ok-clause-answered : goal.returns-in-Ok-clause-answered
returns-in-Ok-clause-answered g c =
    answered _ _ c.value.result c.args.self.now c.value.new.self c.args.body.now (Some (value_view c.in-Ok.value)) c.in-Ok.ensures.ok
    c.value.ensures.answers c.value.ensures.report c.value.ensures.phase c.value.ensures.documents

pub returns-in-Err-Invalid-clause-answered : goal.returns-in-Err-Invalid-clause-answered
returns-in-Err-Invalid-clause-answered g c =
    not_read _ _ c.refusing.result c.args.self.now c.args.body.now
    (c.in-Err-Invalid.ensures.invalid (ap Err c.in-Err-Invalid.field-0-is)) c.refusing.ensures
