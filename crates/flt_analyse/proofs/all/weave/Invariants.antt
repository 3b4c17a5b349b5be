use Rattle.std.proofs.Common.{◌<◌, ◌≤◌, ◌++◌, length, drop, reverse}
use Rattle.std.specs.List.{AllZip}
use Rattle.flt_analyse.specs.All.{IsAnswer, AreShares}
use Rattle.flt_analyse.proofs.all.weave.Given as goal

abbrev pub invariant-places : goal.invariant-places
invariant-places l = record {
  some : 0 < length l.shares.items;
  within : l.place ≤ length l.graphs;
  shares : AreShares l.graphs (length l.shares.items) l.place l.shares.items;
  answers : AllZip IsAnswer (drop l.place l.graphs) (reverse l.backwards);
}

abbrev pub decreases-places : goal.decreases-places
decreases-places l = l.place

abbrev pub invariant-turns : goal.invariant-turns
invariant-turns l = AllZip IsAnswer l.graphs (l.answers.items ++ reverse l.backwards)

abbrev pub decreases-turns : goal.decreases-turns
decreases-turns l = length l.backwards
