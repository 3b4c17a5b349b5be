use Rattle.std.proofs.Common.{[], ◌∷◌}
use Rattle.flt_sound.proofs.laws.worked_filter_breaks_nothing.Goals as goal
use Rattle.flt_sound.proofs.run.Accepting.{alone_accepted, worked_accepted, worked_orderly}
use Rattle.flt_sound.specs.Worked.{worked}

pub returns : goal.returns
returns c =
    let one = worked_accepted c.filters_have_graphs.ensures c.covering_is_faultless.ensures.covers in
    record {
      accepted = one;
      orderly = worked_orderly c.filters_have_graphs.ensures c.covering_is_faultless.ensures.covers;
      clean = λ transitions. c.accepted_runs_break_nothing.ensures (worked ∷ []) transitions
          (alone_accepted worked one);
    }
