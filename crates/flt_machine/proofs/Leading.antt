-- An instruction whose step others see leads on, unless it ends its callback.
use Rattle.std.proofs.Common.{◌≡◌, ℕ, Bool, true, false, if◌then◌else◌, List, Option, Some, None, refl}
use Rattle.flt_tree.specs.declared.filter.Callback.{Callback}
use Rattle.flt_tree.specs.declared.filter.Filter.{Filter}
use Rattle.flt_graph.specs.declared.instruction.Instruction.{Instruction}
use Rattle.flt_graph.specs.declared.instruction.Instruction.TheVariants as instruction
use Rattle.flt_model.specs.declared.event.Event.{Event}
use Rattle.flt_model.specs.Effects.{Step}
use Rattle.flt_model.specs.Steps.{board}
use Rattle.flt_model.specs.World.{World, activation_at}
use Rattle.flt_machine_frames.specs.Firsts.{Remains, RepeatsFirst}
use Rattle.flt_machine_frames.specs.declared.standing.Standing.{Standing}
use Rattle.flt_machine_calls.specs.Plans.{is_ending}
use Rattle.flt_machine_calls.specs.Continuing.{leads_on}

abbrev nothing : Option Step
nothing = None

neither : (b : Bool) → (if b then nothing else nothing) ≡ nothing
neither true = refl
neither false = refl

module _ (p : List Filter) (t : List Event) (w : World) (a : ℕ) (choice : Bool) (step : Step) (lives : (activation_at w a).ended ≡ false)
    (made : board p t w a choice ≡ Some step) where
  -- no `repeat` stands where others see the next step
  repeats_not : (s : Standing) (turns : ℕ) → RepeatsFirst s (activation_at w a).rest turns → ⊥
  repeats_not s turns x = let none : board p t w a choice ≡ None = rw (lives, x.rest_is, x.text) (neither choice) in absurd (cc)

  -- the instruction leads on
  pub leads : (cs : List Callback) (s : Standing) (i : Instruction) →
      Remains cs s (activation_at w a).rest i → is_ending i ≡ false → leads_on i ≡ true
  leads cs s (instruction.Act x on) r goes = refl
  leads cs s (instruction.Call k granted refused) r goes = refl
  leads cs s (instruction.Test x granted refused) r goes = refl
  leads cs s (instruction.Repeat turns body behind) r goes = absurd (repeats_not s _ r)
  leads cs s (instruction.Return st) r goes = absurd (cc)
  leads cs s instruction.End r goes = absurd (cc)
