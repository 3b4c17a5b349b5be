use Rattle.std.proofs.Common.{◌≡◌, drop, find}
use Rattle.flt_server_session.specs.Commands.{is_named}
use Rattle.flt_server_session.proofs.document.document_of.Given as goal

abbrev pub invariant-loop-document : goal.invariant-loop-document
invariant-loop-document l = find (is_named l.uri) (drop l.document-index l.documents) ≡ find (is_named l.uri) l.documents
