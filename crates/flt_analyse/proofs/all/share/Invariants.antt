use Rattle.std.proofs.Common.{◌≡◌, ◌<◌, ◌+◌, ◌-◌, ◌*◌, length}
use Rattle.flt_analyse.specs.All.{AreAnswers}
use Rattle.flt_analyse.proofs.all.share.Given as goal

abbrev pub invariant-places : goal.invariant-places
invariant-places g l = record {
  turn : l.place ≡ l.worker + l.workers * length l.answers;
  near : l.place < length l.graphs + l.workers;
  each : AreAnswers l.graphs l.workers l.worker l.answers;
}

abbrev pub decreases-places : goal.decreases-places
decreases-places g l = length l.graphs - l.place
