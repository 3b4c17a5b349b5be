use Rattle.flt_explain_warning_details.specs.Contexts.{lost_help}
use Rattle.flt_explain_warning_details.proofs.contexts.tell_lost_help.Goals as goal

pub returns-in-Some : goal.returns-in-Some
unfolding lost_help
returns-in-Some c =
    rw (
      ← c.instruction-instruction.ensures,
      ← c.worked_on.ensures,
      ← c.context_part-own.ensures,
      ← c.found_in.ensures,
      c.in-Some.is,
      ← c.context.ensures,
    ) c.say.ensures

pub returns-in-None : goal.returns-in-None
unfolding lost_help
returns-in-None c =
    rw (← c.instruction-instruction.ensures, ← c.worked_on.ensures, ← c.context_part-own.ensures, ← c.found_in.ensures, c.in-None.is)
    c.say-in-None.ensures
