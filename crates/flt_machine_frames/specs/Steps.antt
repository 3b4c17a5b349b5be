-- Local steps of a standing, by the instruction at its point. That they are the machine's local steps is what `advance` promises.
use Rattle.std.specs.Prelude.{ℕ, zero, suc, Bool, if◌then◌else◌, [], Option, Some, None, option_map}
use Rattle.flt_graph.specs.Turns.{left_at, turns_round}
use Rattle.flt_graph.specs.declared.instruction.Instruction.{Instruction}
use Rattle.flt_graph.specs.declared.instruction.Instruction.TheVariants as instruction
use Rattle.flt_model.specs.LocalSteps.{after_action, holds_test}
use Rattle.flt_machine_frames.specs.Standings.{activation_with, with_variables}
use Rattle.flt_machine_frames.specs.Turns.{with_turn}
use Rattle.flt_machine_frames.specs.declared.standing.Standing.{Standing}

-- a `repeat` with so many turns left goes on in its body, with one turn less, or behind it
abbrev pub turned_with : ℕ → ℕ → ℕ → Standing → Option Standing
turned_with zero body behind s = Some (record s { point = behind; turns = turns_round s.point s.turns })
turned_with (suc left) body behind s =
    option_map (λ turns. record s { point = body; turns = turns })
    (with_turn (record { point = s.point; left = left }) (turns_round s.point s.turns))

-- so does the `repeat` at the standing's point, whose text has so many turns
abbrev pub turned : ℕ → ℕ → ℕ → Standing → Option Standing
turned text body behind s = turned_with (left_at s.point text s.turns) body behind s

-- the standing after an instruction, where the step is local
abbrev pub stepped : Bool → Instruction → Standing → Option Standing
stepped draining (instruction.Act action next) s =
    option_map (λ act. record (with_variables s act) { point = next }) (after_action (activation_with s []) action)
stepped draining (instruction.Test test granted refused) s =
    option_map (λ b. record s { point = if b then granted else refused }) (holds_test draining (activation_with s []) test)
stepped draining (instruction.Repeat text body behind) s = turned text body behind s
stepped draining (instruction.Call call granted refused) s = None
stepped draining (instruction.Return status) s = None
stepped draining instruction.End s = None
