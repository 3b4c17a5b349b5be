-- How points come out on paths, in words. This project's own program.
use Rattle.std.specs.Prelude.{ℕ, ◌==◌, Bool, if◌then◌else◌, ◌++◌, Option, Some, None, codes, is_some, length}
use Rattle.flt_rules.specs.Table.{row}
use Rattle.flt_tree.specs.Names.{Text}
use Rattle.flt_graph.specs.Graph.{instruction_at, span_at}
use Rattle.flt_graph.specs.Instruction.{roles}
use Rattle.flt_graph.specs.declared.graph.Graph.{Graph}
use Rattle.flt_graph.specs.declared.instruction.Instruction.{Instruction}
use Rattle.flt_graph.specs.declared.instruction.Instruction.TheVariants as instruction
use Rattle.flt_graph.specs.declared.instruction.Invocation.{Invocation}
use Rattle.flt_places.specs.Places.{bytes_of}
use Rattle.flt_explain_origins.specs.declared.answer.Step.{Step}
use Rattle.flt_shown.specs.Shown.{shown}

-- how a call comes out; nothing where it can't fail
abbrev pub call_outcome : Invocation → Bool → Option Text
call_outcome c granted =
    if is_some (row c.call).on_fail then Some (if granted then codes "succeeds" else codes "fails") else None

-- how an instruction comes out; nothing where nothing is asked
abbrev pub outcome : Instruction → Bool → Option Text
outcome (instruction.Test t succeeds fails) granted = Some (if granted then codes "is true" else codes "is false")
outcome (instruction.Repeat turns block next) granted = Some (if granted then codes "takes a turn" else codes "has no turn left")
outcome (instruction.Call c succeeds fails) granted = call_outcome (roles c) granted
outcome _ granted = None

-- the same of calls alone
abbrev pub outcome_of_call : Instruction → Bool → Option Text
outcome_of_call (instruction.Call c succeeds fails) granted = call_outcome (roles c) granted
outcome_of_call _ granted = None

-- the same of a step of a callback
abbrev pub step_outcome : Graph → ℕ → Step → Option Text
step_outcome g callback s = outcome (instruction_at g callback s.point) s.granted

abbrev pub step_call_outcome : Graph → ℕ → Step → Option Text
step_call_outcome g callback s = outcome_of_call (instruction_at g callback s.point) s.granted

-- what is asked, and how it comes out
abbrev pub branch : Text → Text → Text
branch asked outcome = if length asked == 0 then shown outcome else codes "`" ++ (shown asked ++ (codes "` " ++ shown outcome))

-- the same at a point of a callback
abbrev pub branch_at : Text → Graph → ℕ → ℕ → Text → Text
branch_at text g callback point outcome = branch (bytes_of text (span_at g callback point)) outcome
