use Rattle.flt_stack_crew.proofs.Aiming.{prepared_aimed}
use Rattle.flt_stack_crew.proofs.running.run.Goals as goal

pub drive-driven-requires-clause-script : goal.drive-driven-requires-clause-script
drive-driven-requires-clause-script g c κs within =
    prepared_aimed _ _ c.in_ok-loaded.field-0.loaded c.in_ok-loaded.field-0.script c.in_ok-loaded.ensures.ok
