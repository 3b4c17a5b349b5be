use Rattle.flt_server_session.proofs.session.Session.noticed.Goals as goal

pub returns-in-Closed-clause-documents : goal.returns-in-Closed-clause-documents
returns-in-Closed-clause-documents g c = c.closed.ensures.documents g.L.Language.most
