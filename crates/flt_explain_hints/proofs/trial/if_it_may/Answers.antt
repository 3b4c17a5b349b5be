use Rattle.flt_explain_hints.specs.Trial.{gap_of}
use Rattle.flt_explain_hints.proofs.Tried.{it_may}
use Rattle.flt_explain_hints.proofs.trial.if_it_may.Goals as goal

pub returns-then-branch-clause-stands : goal.returns-then-branch-clause-stands
returns-then-branch-clause-stands c =
    it_may c.the_fault_is_the_one_told.ensures (gap_of c.args.gap) c.in-Some.word.now c.in_ok-may_stand.field-0 c.in_ok-may_stand.ensures
    c.if-branch.true
