use Rattle.std.proofs.Common.{◌≡◌, ◌||◌, length}
use Rattle.flt_kinds.specs.Rounds.{all_carried, any_carries}
use Rattle.flt_kinds.proofs.rounds.carry_all.Given as goal

abbrev pub invariant-loop-flows : goal.invariant-loop-flows
invariant-loop-flows l =
    record {
      carried : all_carried l.at.callback l.at.point l.cells l.flows ≡ all_carried l.at.callback l.at.point l.initial.cells l.initial.flows;
      changed : (l.changed || any_carries l.at.callback l.at.point l.cells l.flows)
          ≡ any_carries l.at.callback l.at.point l.initial.cells l.initial.flows;
    }

abbrev pub decreases-loop-flows : goal.decreases-loop-flows
decreases-loop-flows l = length l.flows
