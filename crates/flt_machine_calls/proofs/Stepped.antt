-- The step of the statement that remains first is the step of the instruction.
use Rattle.std.proofs.Common.{◌≡◌, ℕ, Bool, true, false, if◌then◌else◌, List, [], ◌∷◌, ◌++◌, Option, Some, None, sym, ap, ◌∙◌}
use Rattle.std.proofs.lemmas.Option.{none-some, same_Some}
use Rattle.flt_tree.specs.declared.filter.Action.{Action}
use Rattle.flt_tree.specs.declared.filter.Callback.{Callback}
use Rattle.flt_tree.specs.declared.filter.Condition.TheVariants as condition
use Rattle.flt_tree.specs.declared.filter.Filter.{Filter}
use Rattle.flt_tree.specs.declared.filter.Statement.{Statement, out-Statement}
use Rattle.flt_tree.specs.declared.filter.Statement.TheOpen.{Statement-F}
use Rattle.flt_tree.specs.declared.filter.Status.{Status}
use Rattle.flt_tree.specs.declared.filter.Test.{Test}
use Rattle.flt_graph.specs.Points.{remaining_of}
use Rattle.flt_graph.specs.Turns.{left_at}
use Rattle.flt_graph.specs.declared.instruction.ResolvedCall.{ResolvedCall}
use Rattle.flt_model.specs.Effects.{Step}
use Rattle.flt_model.specs.Returns.{returns}
use Rattle.flt_model.specs.Steps.{may_go, act_step, plain_step, fallible_step, test_step, statement_step, first_step, list_step, board}
use Rattle.flt_model.specs.World.{World, activation_at}
use Rattle.flt_model.specs.declared.event.Event.{Event}
use Rattle.flt_machine_frames.specs.Firsts.{ActsFirst, CallsFirst, AsksCallFirst, TestsFirst, ReturnsFirst, RepeatsFirst}
use Rattle.flt_machine_frames.specs.declared.standing.Standing.{Standing}
use Rattle.flt_machine_calls.specs.Plans.{choice_at, choice_of, leaves_choice_by, list_or_none, remaining_by}

remains : (rest later : List Statement) (first : Statement) (text : Statement-F Statement) (outcome : Bool) →
    rest ≡ first ∷ later → out-Statement first ≡ text →
    remaining_by rest outcome ≡ list_or_none (remaining_of text later outcome)
remains rest later first text outcome rest_is text_is =
    ap (λ (l : List Statement). remaining_by l outcome) rest_is ∙
    ap (λ (s : Statement-F Statement). list_or_none (remaining_of s later outcome)) text_is

chosen : (rest later : List Statement) (first : Statement) (text : Statement-F Statement) (grant : Bool) →
    rest ≡ first ∷ later → out-Statement first ≡ text →
    choice_at rest grant ≡ (if leaves_choice_by text then grant else true)
chosen rest later first text grant rest_is text_is =
    ap (λ (l : List Statement). choice_at l grant) rest_is ∙
    ap (λ (s : Statement-F Statement). if leaves_choice_by s then grant else true) text_is

allowed : (b : Bool) (x : Option Step) (step : Step) → (if b then x else None) ≡ Some step → x ≡ Some step
allowed true x step h = h
allowed false x step h = absurd (none-some step h)

module _ (p : List Filter) (t : List Event) (w : World) (a : ℕ) (choice : Bool) (step : Step) where
  going : (activation_at w a).ended ≡ false → board p t w a choice ≡ Some step →
      list_step p t w a (activation_at w a).rest choice ≡ Some step
  going lives is = sym (ap (λ (b : Bool). if b then None else list_step p t w a (activation_at w a).rest choice) lives) ∙ is

  first_going : (first : Statement) (later : List Statement) (text : Statement-F Statement) →
      (activation_at w a).ended ≡ false → board p t w a choice ≡ Some step →
      (activation_at w a).rest ≡ first ∷ later → out-Statement first ≡ text → statement_step p t w a later choice text ≡ Some step
  first_going first later text lives is rest_is text_is =
      let same = ap (λ (l : List Statement). list_step p t w a l choice) rest_is ∙
      ap (λ (s : Statement-F Statement). first_step p t w a later choice s) text_is in
      allowed (may_go w a choice text) (statement_step p t w a later choice text) step (sym same ∙ going lives is)

  -- where an action remains first, the step that others see is that of the action
  pub act_case : (cs : List Callback) (s : Standing) (action : Action) (next : ℕ) →
      (activation_at w a).ended ≡ false → board p t w a choice ≡ Some step →
      ActsFirst cs s (activation_at w a).rest action next → act_step p t w a (remaining_by (activation_at w a).rest true) action ≡ Some step
  act_case cs s action next lives is x =
      ap (λ (l : List Statement). act_step p t w a l action)
      (remains (activation_at w a).rest x.later x.first (Statement-F.Act x.span action) true x.rest_is x.text)
      ∙ first_going x.first x.later (Statement-F.Act x.span action) lives is x.rest_is x.text

  -- where a plain call remains first, the step that others see is that of the call
  pub call_case : (cs : List Callback) (s : Standing) (made : ResolvedCall) (m n : ℕ) →
      (activation_at w a).ended ≡ false → board p t w a choice ≡ Some step →
      (x : CallsFirst cs s (activation_at w a).rest made m n) →
      plain_step p t w a (remaining_by (activation_at w a).rest true) x.call ≡ step
  call_case cs s made m n lives is x =
      ap (λ (l : List Statement). plain_step p t w a l x.call)
      (remains (activation_at w a).rest x.later x.first (Statement-F.Call x.span x.call) true x.rest_is x.text)
      ∙ same_Some (plain_step p t w a x.later x.call) step
      (first_going x.first x.later (Statement-F.Call x.span x.call) lives is x.rest_is x.text)

  -- where a call that can fail remains first, the step that others see is that of the call, with the choice that was made
  pub ask_case : (cs : List Callback) (s : Standing) (made : ResolvedCall) (m n : ℕ) (grant : Bool) →
      (activation_at w a).ended ≡ false → board p t w a choice ≡ Some step →
      choice ≡ choice_at (activation_at w a).rest grant → (x : AsksCallFirst cs s (activation_at w a).rest made m n) →
      fallible_step p t w a (choice_of x.call grant) (remaining_by (activation_at w a).rest true)
      (remaining_by (activation_at w a).rest false) x.call ≡ step
  ask_case cs s made m n grant lives is choice_is x =
      let text : Statement-F Statement = Statement-F.If x.span (condition.Succeeds x.call) x.granted_block x.refused_block in
      let rest = (activation_at w a).rest in
      ap (λ (b : Bool). fallible_step p t w a b (remaining_by rest true) (remaining_by rest false) x.call)
      (sym (choice_is ∙ chosen rest x.later x.first text grant x.rest_is x.text))
      ∙ ap (λ (l : List Statement). fallible_step p t w a choice l (remaining_by rest false) x.call)
      (remains rest x.later x.first text true x.rest_is x.text)
      ∙ ap (λ (l : List Statement). fallible_step p t w a choice (x.granted_block ++ x.later) l x.call)
      (remains rest x.later x.first text false x.rest_is x.text)
      ∙ same_Some (fallible_step p t w a choice (x.granted_block ++ x.later) (x.refused_block ++ x.later) x.call) step
      (first_going x.first x.later text lives is x.rest_is x.text)

  -- where a test remains first, the step that others see is that of the test
  pub test_case : (cs : List Callback) (s : Standing) (test : Test) (m n : ℕ) →
      (activation_at w a).ended ≡ false → board p t w a choice ≡ Some step →
      TestsFirst cs s (activation_at w a).rest test m n →
      test_step p t w a (remaining_by (activation_at w a).rest true) (remaining_by (activation_at w a).rest false) test ≡ Some step
  test_case cs s test m n lives is x =
      let text : Statement-F Statement = Statement-F.If x.span (condition.Test test) x.granted_block x.refused_block in
      let rest = (activation_at w a).rest in
      ap (λ (l : List Statement). test_step p t w a l (remaining_by rest false) test)
      (remains rest x.later x.first text true x.rest_is x.text)
      ∙ ap (λ (l : List Statement). test_step p t w a (x.granted_block ++ x.later) l test)
      (remains rest x.later x.first text false x.rest_is x.text)
      ∙ first_going x.first x.later text lives is x.rest_is x.text

  -- where a return remains first, the step that others see is that of the return
  pub return_case : (status : Option Status) → (activation_at w a).ended ≡ false → board p t w a choice ≡ Some step →
      ReturnsFirst (activation_at w a).rest status → returns p t w a status ≡ step
  return_case status lives is x =
      same_Some (returns p t w a status) step (first_going x.first x.later (Statement-F.Return x.span status) lives is x.rest_is x.text)

  -- where nothing remains, the step that others see is a return without a status
  pub end_case : (activation_at w a).ended ≡ false → board p t w a choice ≡ Some step → (activation_at w a).rest ≡ [] →
      returns p t w a None ≡ step
  end_case lives is rest_is =
      same_Some (returns p t w a None) step (allowed choice (Some (returns p t w a None)) step
      (sym (ap (λ (l : List Statement). list_step p t w a l choice) rest_is) ∙ going lives is))

  -- where a `repeat` remains first, there is no step that others see
  pub repeat_case : (s : Standing) (turns : ℕ) → (activation_at w a).ended ≡ false → board p t w a choice ≡ Some step →
      RepeatsFirst s (activation_at w a).rest turns → ⊥
  repeat_case s turns lives is x = none-some step
      (first_going x.first x.later (Statement-F.Repeat x.span (left_at s.point turns s.turns) x.block) lives is x.rest_is x.text)
