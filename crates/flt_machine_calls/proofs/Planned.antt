-- Plans of instructions are plans of the step at which the caller stands.
use Rattle.std.proofs.Common.{◌≡◌, inl, inr, ℕ, Bool, true, false, List, [], Option, Some, None, Result, Ok, Err, get_or, refl, ap, subst}
use Rattle.std.specs.Prelude.{IfOk}
use Rattle.std.proofs.lemmas.Result.{IfOk-at_ok, IfOk-weaker}
use Rattle.flt_tree.specs.Registered.{numbered}
use Rattle.flt_tree.specs.declared.filter.Action.{Action}
use Rattle.flt_tree.specs.declared.filter.FallibleCall.{FallibleCall}
use Rattle.flt_tree.specs.declared.filter.Filter.{Filter}
use Rattle.flt_tree.specs.declared.filter.PlainCall.{PlainCall}
use Rattle.flt_tree.specs.declared.filter.Routine.{Routine}
use Rattle.flt_tree.specs.declared.filter.Statement.{Statement}
use Rattle.flt_tree.specs.declared.filter.Status.{Status}
use Rattle.flt_tree.specs.declared.filter.Test.{Test}
use Rattle.flt_graph.specs.declared.instruction.Instruction.{Instruction}
use Rattle.flt_graph.specs.declared.instruction.Instruction.TheVariants as instruction
use Rattle.flt_graph.specs.declared.instruction.ResolvedCall.{ResolvedCall}
use Rattle.flt_graph.specs.declared.instruction.ResolvedCall.TheVariants as resolved
use Rattle.flt_model.specs.Effects.{Step}
use Rattle.flt_model.specs.Program.{callbacks_at}
use Rattle.flt_model.specs.Returns.{returns}
use Rattle.flt_model.specs.Steps.{act_step, plain_step, fallible_step, test_step, board}
use Rattle.flt_model.specs.World.{World, Store, Actor, Activation, nobody, activation_at}
use Rattle.flt_model.specs.declared.event.Event.{Event}
use Rattle.flt_machine_frames.specs.Firsts.{Remains}
use Rattle.flt_machine_frames.specs.Loading.{AreLoaded}
use Rattle.flt_machine_frames.specs.Standings.{StandsFor}
use Rattle.flt_machine_frames.specs.declared.loaded.Loaded.{Loaded}
use Rattle.flt_machine_calls.specs.Plans.{IsCaller, IsCounted, IsPlanned, Plans, PlansBy, choice_at, choice_of, remaining_by, world_of}
use Rattle.flt_machine_calls.specs.declared.caller.Caller.{Caller}
use Rattle.flt_machine_calls.specs.declared.plans.Plan.{Plan}
use Rattle.flt_machine_calls.proofs.Stepped.{act_case, call_case, ask_case, test_case, return_case, end_case, repeat_case}

-- what a plan says of the step
abbrev pub IsStep : Loaded → Store → Caller → Bool → Plan → Type 0
IsStep l s c grant plan =
    (p : List Filter) (t : List Event) (actors : List Actor) (acts : List Activation) (choice : Bool) (step : Step) →
    AreLoaded p l → IsCaller actors acts c → IsCounted t c.activation c.standing →
    StandsFor (callbacks_at p c.filter) c.standing (get_or acts c.activation nobody) →
    choice ≡ choice_at (get_or acts c.activation nobody).rest grant →
    board p t (world_of s actors acts) c.activation choice ≡ Some step →
    IsPlanned (world_of s actors acts) c.activation plan [] (remaining_by (get_or acts c.activation nobody).rest true)
    (remaining_by (get_or acts c.activation nobody).rest false) step

-- what the instruction says of what remains
abbrev pub Told : Loaded → Caller → Instruction → Type 0
Told l c i = (p : List Filter) (act : Activation) →
    AreLoaded p l → StandsFor (callbacks_at p c.filter) c.standing act → Remains (callbacks_at p c.filter) c.standing act.rest i

-- what holds of the plan where there is one holds of the result
pub if_ok : {E : Type 0} (r : Result Plan E) (P : Plan → Type 0) → ((x : Plan) → r ≡ Ok x → P x) → IfOk r P
if_ok (Ok x) P holds = holds x refl
if_ok (Err e) P holds = tt

module _ (l : Loaded) (s : Store) (c : Caller) (grant : Bool) where
  -- a plan of the action at which the caller stands is a plan of its step
  pub act_ends : {E : Type 0} (r : Result Plan E) (action : Action) (next : ℕ) → Told l c (instruction.Act action next) →
      ((p : List Filter) (t : List Event) (actors : List Actor) (acts : List Activation) (granted refused : List Statement) (step : Step) →
      IsCaller actors acts c →
      act_step p t (world_of s actors acts) c.activation granted action ≡ Some step →
      IfOk r (λ (plan : Plan). IsPlanned (world_of s actors acts) c.activation plan [] granted refused step)) →
      IfOk r (IsStep l s c grant)
  act_ends r action next told planned =
      if_ok r (IsStep l s c grant) (λ plan is p t actors acts choice step loaded h counted stands choice_is board_is.
      let w = world_of s actors acts in
      let rest = (activation_at w c.activation).rest in
      IfOk-at_ok (λ (x : Plan). IsPlanned w c.activation x [] (remaining_by rest true) (remaining_by rest false) step) is
      (planned p t actors acts (remaining_by rest true) (remaining_by rest false) step h
      (act_case p t w c.activation choice step (callbacks_at p c.filter) c.standing action next
      (ap (λ (act : Activation). act.ended) h.act) board_is (told p (activation_at w c.activation) loaded stands))))

  -- a plan of the test at which the caller stands is a plan of its step
  pub test_ends : {E : Type 0} (r : Result Plan E) (test : Test) (m n : ℕ) → Told l c (instruction.Test test m n) →
      ((p : List Filter) (t : List Event) (actors : List Actor) (acts : List Activation) (granted refused : List Statement) (step : Step) →
      IsCaller actors acts c →
      test_step p t (world_of s actors acts) c.activation granted refused test ≡ Some step →
      IfOk r (λ (plan : Plan). IsPlanned (world_of s actors acts) c.activation plan [] granted refused step)) →
      IfOk r (IsStep l s c grant)
  test_ends r test m n told planned =
      if_ok r (IsStep l s c grant) (λ plan is p t actors acts choice step loaded h counted stands choice_is board_is.
      let w = world_of s actors acts in
      let rest = (activation_at w c.activation).rest in
      IfOk-at_ok (λ (x : Plan). IsPlanned w c.activation x [] (remaining_by rest true) (remaining_by rest false) step) is
      (planned p t actors acts (remaining_by rest true) (remaining_by rest false) step h
      (test_case p t w c.activation choice step (callbacks_at p c.filter) c.standing test m n
      (ap (λ (act : Activation). act.ended) h.act) board_is (told p (activation_at w c.activation) loaded stands))))

  -- a plan of the call at which the caller stands, plain or one that can fail, is a plan of its step
  pub call_ends : {E : Type 0} (r : Result Plan E) (made : ResolvedCall) (m n : ℕ) → Told l c (instruction.Call made m n) →
      ((p : List Filter) (t : List Event) (call : PlainCall) → AreLoaded p l → made ≡ resolved.Plain call →
      IfOk r (λ (plan : Plan). Plans s c plan
      (λ (w : World) (granted refused : List Statement). plain_step p t w c.activation granted call))) →
      ((p : List Filter) (t : List Event) (call : FallibleCall Routine) →
      AreLoaded p l → made ≡ resolved.Fallible (numbered (callbacks_at p c.filter) call) →
      IfOk r (λ (plan : Plan). Plans s c plan
      (λ (w : World) (granted refused : List Statement). fallible_step p t w c.activation (choice_of call grant) granted refused call))) →
      IfOk r (IsStep l s c grant)
  call_ends r made m n told plain fallible =
      if_ok r (IsStep l s c grant) (λ plan is p t actors acts choice step loaded h counted stands choice_is board_is.
      let w = world_of s actors acts in
      let a = c.activation in
      let rest = (activation_at w a).rest in
      let lives = ap (λ (act : Activation). act.ended) h.act in
      elim (told p (activation_at w a) loaded stands) [
        | inl x ↦ subst (IsPlanned w a plan [] (remaining_by rest true) (remaining_by rest false))
            (call_case p t w a choice step (callbacks_at p c.filter) c.standing made m n lives board_is x)
            (IfOk-at_ok (λ (y : Plan). Plans s c y (λ (u : World) (granted refused : List Statement). plain_step p t u a granted x.call)) is
            (plain p t x.call loaded x.made_is) actors acts (remaining_by rest true) (remaining_by rest false) h)
        | inr x ↦ subst (IsPlanned w a plan [] (remaining_by rest true) (remaining_by rest false))
            (ask_case p t w a choice step (callbacks_at p c.filter) c.standing made m n grant lives board_is choice_is x)
            (IfOk-at_ok (λ (y : Plan). Plans s c y
            (λ (u : World) (granted refused : List Statement). fallible_step p t u a (choice_of x.call grant) granted refused x.call)) is
            (fallible p t x.call loaded x.made_is) actors acts (remaining_by rest true) (remaining_by rest false) h)
      ])

  -- a plan of the return at which the caller stands is a plan of its step
  pub return_ends : {E : Type 0} (r : Result Plan E) (status : Option Status) → Told l c (instruction.Return status) →
      IfOk r (λ (plan : Plan). (p : List Filter) → AreLoaded p l →
      PlansBy s c plan (λ (t : List Event) (w : World) (granted refused : List Statement). returns p t w c.activation status)) →
      IfOk r (IsStep l s c grant)
  return_ends r status told planned = IfOk-weaker r
      (λ (plan : Plan). (p : List Filter) → AreLoaded p l →
      PlansBy s c plan (λ (t : List Event) (w : World) (granted refused : List Statement). returns p t w c.activation status))
      (IsStep l s c grant) (λ plan held p t actors acts choice step loaded h counted stands choice_is board_is.
      let w = world_of s actors acts in
      let rest = (activation_at w c.activation).rest in
      subst (IsPlanned w c.activation plan [] (remaining_by rest true) (remaining_by rest false))
      (return_case p t w c.activation choice step status (ap (λ (act : Activation). act.ended) h.act) board_is
      (told p (activation_at w c.activation) loaded stands))
      (held p loaded t counted actors acts (remaining_by rest true) (remaining_by rest false) h)) planned

  -- at the end of a callback, a plan of a return without a status is a plan of the caller's step
  pub end_ends : {E : Type 0} (r : Result Plan E) → Told l c instruction.End →
      IfOk r (λ (plan : Plan). (p : List Filter) → AreLoaded p l →
      PlansBy s c plan (λ (t : List Event) (w : World) (granted refused : List Statement). returns p t w c.activation None)) →
      IfOk r (IsStep l s c grant)
  end_ends r told planned = IfOk-weaker r
      (λ (plan : Plan). (p : List Filter) → AreLoaded p l →
      PlansBy s c plan (λ (t : List Event) (w : World) (granted refused : List Statement). returns p t w c.activation None))
      (IsStep l s c grant) (λ plan held p t actors acts choice step loaded h counted stands choice_is board_is.
      let w = world_of s actors acts in
      let rest = (activation_at w c.activation).rest in
      subst (IsPlanned w c.activation plan [] (remaining_by rest true) (remaining_by rest false))
      (end_case p t w c.activation choice step (ap (λ (act : Activation). act.ended) h.act) board_is
      (told p (activation_at w c.activation) loaded stands))
      (held p loaded t counted actors acts (remaining_by rest true) (remaining_by rest false) h)) planned

  -- where the caller stands at a `repeat` others see no step, so every plan is one of it
  pub repeat_ends : (plan : Plan) (turns m n : ℕ) → Told l c (instruction.Repeat turns m n) → IsStep l s c grant plan
  repeat_ends plan turns m n told = λ p t actors acts choice step loaded h counted stands choice_is board_is.
      let w = world_of s actors acts in
      absurd (repeat_case p t w c.activation choice step c.standing turns (ap (λ (act : Activation). act.ended) h.act) board_is
      (told p (activation_at w c.activation) loaded stands))
