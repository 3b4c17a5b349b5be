use Rattle.std.proofs.Common.{◌≡◌, true}
use Rattle.std.specs.Option.{IfSome}
use Rattle.flt_replay_records.specs.Unsettled.{is_visit_of, end_of}
use Rattle.flt_replay_records.proofs.VisitLinks.{AreListed}
use Rattle.flt_replay_records.proofs.visit_list.Visits.of.Given as goal

abbrev pub invariant-loop-latest : goal.invariant-loop-latest
invariant-loop-latest l = record {
  there : IfSome l.latest (λ n. is_visit_of l.operation l.self-inside.visits.items n ≡ true);
  so_far : AreListed l.self-inside.visits.items l.operation l.latest l.numbers.items;
}

abbrev pub decreases-loop-latest : goal.decreases-loop-latest
decreases-loop-latest l = end_of l.latest
