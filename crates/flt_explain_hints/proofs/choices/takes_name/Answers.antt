use Rattle.flt_explain_hints.specs.Trial.{gap_of}
use Rattle.flt_explain_hints.proofs.Tried.{takes_name}
use Rattle.flt_explain_hints.proofs.choices.takes_name.Goals as goal

pub returns : goal.returns
returns c =
    takes_name c.the_fault_is_the_one_told.ensures (gap_of c.args.gap) c.args.text.now _ _
    (rw c.as_slice.ensures.value c.in_ok-name.ensures) c.in_ok-taken.ensures
