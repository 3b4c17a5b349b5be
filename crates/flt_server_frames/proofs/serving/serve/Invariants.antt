use Rattle.std.proofs.Common.{◌≡◌}
use Rattle.flt_server_frames.proofs.Served.{HasServed}
use Rattle.flt_server_frames.proofs.serving.serve.Given as goal

abbrev pub invariant-loop : goal.invariant-loop
invariant-loop g l = record {
  served : HasServed g.H.Handler.answers l.fn.handler l.handler (g.R.Incoming.left l.fn.reader) (g.R.Incoming.left l.reader)
      (g.O.Sink.taken l.fn.out) (g.O.Sink.taken l.out) l.counter;
  fine : g.O.Sink.failures l.out ≡ g.O.Sink.failures l.fn.out;
  readable : g.R.Incoming.failures l.reader ≡ g.R.Incoming.failures l.fn.reader;
}
