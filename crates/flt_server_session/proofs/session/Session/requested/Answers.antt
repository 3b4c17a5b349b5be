use Rattle.flt_server_session.proofs.session.Session.requested.Goals as goal

pub returns-in-Fresh-clause-documents : goal.returns-in-Fresh-clause-documents
returns-in-Fresh-clause-documents g c = c.first.ensures.documents g.L.Language.most
