use Rattle.std.proofs.Common.{◌≤◌, ◌+◌}
use Rattle.flt_analyse.specs.Least.{HasRoom}
use Rattle.flt_analyse.proofs.Certificates.{Columns}
use Rattle.flt_analyse.proofs.analyser.analyse.Given as goal

abbrev pub invariant-walks : goal.invariant-walks
invariant-walks g l = record {
  room : HasRoom l.graph;
  columns : Columns l.graph l.callback l.callbacks;
  before : l.callback ≤ g.row.CALLBACK → l.ticks ≤ l.fn.ticks;
  after : l.ticks ≤ l.fn.ticks + 31;
}
