use Rattle.std.proofs.Common.{◌≡◌, length}
use Rattle.flt_server_session.proofs.GoingOut.{GoneOut}
use Rattle.flt_server_session.proofs.outgoing.put_tokens.Given as goal

abbrev pub invariant-loop-token : goal.invariant-loop-token
invariant-loop-token l = record {
  before : l.writer.before ≡ l.fn.writer.before;
  gone : GoneOut l.fn.reader l.reader l.fn.writer.tokens l.writer.tokens;
}

abbrev pub decreases-loop-token : goal.decreases-loop-token
decreases-loop-token l = length l.reader
