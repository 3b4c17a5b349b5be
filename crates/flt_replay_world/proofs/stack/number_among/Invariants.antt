use Rattle.std.proofs.Common.{◌≡◌, ◌+◌, ◌-◌, ◌≤◌, length, drop}
use Rattle.flt_model.specs.Program.{filter_of}
use Rattle.flt_replay_world.specs.Filters.{filters_behind}
use Rattle.flt_replay_world.proofs.stack.number_among.Given as goal

abbrev pub invariant-loop-number : goal.invariant-loop-number
invariant-loop-number l = record {
  within : l.number ≤ length l.filters;
  so_far : filter_of (filters_behind l.filters) l.altitude ≡ l.number + filter_of (filters_behind (drop l.number l.filters)) l.altitude;
}

abbrev pub decreases-loop-number : goal.decreases-loop-number
decreases-loop-number l = length l.filters - l.number
