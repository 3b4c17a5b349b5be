-- What contracts see of what a stack's lock guards. This project's own rule.
use Rattle.flt_machine.specs.Situations.{Situation}
use Rattle.flt_stack_core.specs.declared.choices.Choices.{Choices}

-- the board, and the system's choices
pub record Guarded : Type 0 where
  pub board : Situation
  pub choices : Choices
