use Rattle.flt_server_session.proofs.session.Session.asked.Goals as goal

pub returns-then-eq-2-clause-documents : goal.returns-then-eq-2-clause-documents
returns-then-eq-2-clause-documents g c = c.shut_down.ensures.documents g.L.Language.most
