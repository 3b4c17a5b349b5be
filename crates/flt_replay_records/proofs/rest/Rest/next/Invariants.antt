use Rattle.std.proofs.Common.{◌≡◌, length}
use Rattle.flt_replay_records.specs.Kept.{contents}
use Rattle.flt_replay_records.specs.Rest.{remains}
use Rattle.flt_replay_records.proofs.rest.Rest.next.Given as goal

abbrev pub invariant-loop-self : goal.invariant-loop-self
invariant-loop-self l = record {
  rest : remains l.self (contents l.kept).after ≡ remains l.fn.self (contents l.fn.kept).after;
  others : contents l.kept ≡ record (contents l.fn.kept) { after = (contents l.kept).after };
}

abbrev pub decreases-loop-self : goal.decreases-loop-self
decreases-loop-self l = length (contents l.kept).after
