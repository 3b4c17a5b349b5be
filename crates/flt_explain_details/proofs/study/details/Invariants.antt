use Rattle.std.proofs.Common.{◌≡◌, length, take}
use Rattle.flt_explain_details.specs.Alike.{AreLike}
use Rattle.flt_explain_details.specs.Stages.{AreDetailsBy}
use Rattle.flt_explain_details.proofs.study.details.Given as goal

abbrev pub invariant-loop-finding : goal.invariant-loop-finding
invariant-loop-finding l = record {
  long : length l.all ≡ length (take l.finding-index l.found);
  each : AreDetailsBy l.source.files l.source.text.now l.tree.filter l.graph l.found l.traces.shown l.all;
  like : AreLike l.found l.all;
}
