use Rattle.std.proofs.Common.{◌≡◌, take}
use Rattle.flt_explain_origins.specs.Gathering.{ArePlaced}
use Rattle.flt_explain_origins.specs.Grouping.{groups_in}
use Rattle.flt_explain_origins.proofs.grouping.groups.Given as goal

abbrev pub invariant-loop-traced : goal.invariant-loop-traced
invariant-loop-traced l = record {
  places : ArePlaced l.gathered;
  groups : l.gathered.groups.items ≡ groups_in l.found (take l.traced-index l.found);
}
