use Rattle.std.proofs.Common.{ap, sym, ◌∙◌}
use Rattle.std.specs.Map.{lookup}
use Rattle.flt_explain_origins.specs.Gathering.{same, added, place_in}
use Rattle.flt_explain_origins.proofs.Gathering.{none_left, more_taken}
use Rattle.flt_explain_origins.proofs.grouping.groups.Goals as goal

pub loop-traced-init : goal.loop-traced-init
loop-traced-init c = record {
  places = λ k. ap (lookup (same k)) c.new-2.ensures.empty ∙ sym (ap (place_in k) c.new.ensures.items);
  groups = c.new.ensures.items ∙ sym (none_left c.args.found.now);
}

pub loop-traced-preserved : goal.loop-traced-preserved
loop-traced-preserved c = record {
  places = c.in_ok-add.ensures.places;
  groups = c.in_ok-add.ensures.groups ∙ ap (added _) c.loop-traced.invariant.groups
      ∙ sym (more_taken c.args.found.now c.loop-traced.traced-index _ c.loop-traced-test.true);
}
