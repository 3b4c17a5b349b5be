-- Plans of calls that complete an operation.
use Rattle.std.proofs.Common.{◌≡◌, ◌≤◌, ℕ, Bool, true, false, if◌then◌else◌, List, [], ◌∷◌, length}
use Rattle.std.proofs.Common.{Option, Some, None, option_map, arith, ap, sym, subst, refl, ◌∙◌}
use Rattle.flt_rules.specs.declared.call.Call.TheVariants as call
use Rattle.flt_rules.specs.declared.call.Possessed.{Possessed}
use Rattle.flt_tree.specs.Filter.{context_of}
use Rattle.flt_tree.specs.Variable.{whose}
use Rattle.flt_tree.specs.declared.filter.Filter.{Filter}
use Rattle.flt_tree.specs.declared.filter.Statement.{Statement}
use Rattle.flt_tree.specs.declared.filter.Status.{Status}
use Rattle.flt_tree.specs.declared.variable.OperationVariable.{OperationVariable}
use Rattle.flt_tree.specs.declared.variable.OperationVariable.TheVariants.{Data}
use Rattle.flt_model.specs.Calls.{completed, complete_by, complete_pre, complete_post_by, complete_post, status_of, status_of_post}
use Rattle.flt_model.specs.declared.event.Answer.{Answer}
use Rattle.flt_model.specs.declared.event.Answer.TheVariants.{CompletesPre, CompletesPost}
use Rattle.flt_model.specs.declared.event.Event.{Event}
use Rattle.flt_model.specs.declared.event.Event.TheVariants as event
use Rattle.flt_model.specs.Effects.{Step, calling, operation, optional, loses_context}
use Rattle.flt_model.specs.Settling.{makes_frame}
use Rattle.flt_model.specs.Variables.{operation_in, named_in}
use Rattle.flt_model.specs.World.{World, Store, Actor, Activation, activation_at}
use Rattle.flt_machine_calls.specs.Completing.{IsLed, IsSettledBy, answer_told, completes, needs_of_completion, settles_by}
use Rattle.flt_machine_calls.specs.Own.{AreOwn}
use Rattle.flt_machine_calls.specs.Plans.{IsPlanned, world_of}
use Rattle.flt_machine_calls.specs.declared.plans.Plan.{Plan}
use Rattle.flt_machine_calls.specs.declared.settling.Completion.{Completion}
use Rattle.flt_machine_calls.specs.declared.settling.Settlement.{Settlement}
use Rattle.flt_machine_calls.proofs.Owned.{AreUpTo, joined, loses_up_to, own_call}

-- ---- what is settled is what the answer settles

module _ (p : List Filter) (w : World) (a : ℕ) (rest : List Statement) where
  led_is : (v : ℕ) (x : Option ℕ) (answer : Answer) (settled : Option Settlement) →
      IsLed p w.store v x answer settled → settles_by w a rest settled ≡ completed w a p rest v x answer
  led_is v x answer None h = absurd h
  led_is v x answer (Some e) h = rw (h.0, h.1, h.2) refl

  pre_effect : (d : OperationVariable) (st : Status) (v : Option ℕ) (c : Option (Option ℕ)) (settled : Option Settlement) →
      IsSettledBy p w.store (record { visit = v; context = c }) (option_map (λ (u : ℕ). CompletesPre (whose d) u st) v) settled →
      settles_by w a rest settled ≡ complete_by w a p d st rest v c
  pre_effect d st None c settled h = rw (h) refl
  pre_effect d st (Some v) (Some None) settled h = rw (h) refl
  pre_effect d st (Some v) (Some (Some x)) settled h = led_is v (Some x) (CompletesPre (whose d) v st) settled h
  pre_effect d st (Some v) None settled h = led_is v None (CompletesPre (whose d) v st) settled h

  post_effect : (v : Option ℕ) (settled : Option Settlement) →
      IsSettledBy p w.store (record { visit = v; context = None }) (option_map CompletesPost v) settled →
      settles_by w a rest settled ≡ complete_post_by w a p rest v
  post_effect None settled h = rw (h) refl
  post_effect (Some v) settled h = led_is v None (CompletesPost v) settled h

  pre_told : (d : OperationVariable) (st : Status) (v : Option ℕ) →
      answer_told a (option_map (λ (u : ℕ). CompletesPre (whose d) u st) v) ≡ status_of w a p d st v
  pre_told d st None = refl
  pre_told d st (Some v) = refl

  post_told : (v : Option ℕ) → answer_told a (option_map CompletesPost v) ≡ status_of_post w a p v
  post_told None = refl
  post_told (Some v) = refl

  -- the call by what it names
  abbrev pre_step : OperationVariable → Status → Option ℕ → Option (Option ℕ) → Step
  pre_step d st v c = calling w a (call.CompletePendedPreOperation (whose d)) (status_of w a p d st v) (operation v ∷ optional c)
      (complete_by w a p d st rest v c)

  abbrev post_step : Option ℕ → Step
  post_step v = calling w a call.CompletePendedPostOperation (status_of_post w a p v) (operation v ∷ []) (complete_post_by w a p rest v)

  -- a pre completion by the operands that were read is that of the statement
  pub pre_is : (d : OperationVariable) (st : Status) (k : Possessed) (v : Option ℕ) (c : Option (Option ℕ)) (answer : Option Answer)
      (settled : Option Settlement) →
      k ≡ whose d → v ≡ operation_in (activation_at w a) d → c ≡ named_in (activation_at w a) (context_of st) →
      answer ≡ option_map (λ (u : ℕ). CompletesPre (whose d) u st) v →
      IsSettledBy p w.store (record { visit = v; context = c }) answer settled →
      completes w a
      (record { call = call.CompletePendedPreOperation k; answer = answer; named = record { visit = v; context = c }; settled = settled })
      rest ≡ complete_pre w a p d st rest
  pre_is d st k v c answer settled whose_is visit_is context_is answer_is h =
      let effect = pre_effect d st v c settled
      (subst (λ (o : Option Answer). IsSettledBy p w.store (record { visit = v; context = c }) o settled) answer_is h) in
      ap (λ (o : Possessed). calling w a (call.CompletePendedPreOperation o) (answer_told a answer) (operation v ∷ optional c)
      (settles_by w a rest settled)) whose_is
      ∙ ap (λ (e : Step). calling w a (call.CompletePendedPreOperation (whose d)) (answer_told a answer)
      (operation v ∷ optional c) e) effect
      ∙ ap (λ (es : List Event). calling w a (call.CompletePendedPreOperation (whose d)) es (operation v ∷ optional c)
      (complete_by w a p d st rest v c)) (ap (answer_told a) answer_is ∙ pre_told d st v)
      ∙ ap (λ (u : Option ℕ). pre_step d st u c) visit_is
      ∙ ap (λ (x : Option (Option ℕ)). pre_step d st (operation_in (activation_at w a) d) x) context_is

  -- a post completion by the operand that was read is that of the statement
  pub post_is : (v : Option ℕ) (answer : Option Answer) (settled : Option Settlement) →
      v ≡ operation_in (activation_at w a) Data → answer ≡ option_map CompletesPost v →
      IsSettledBy p w.store (record { visit = v; context = None }) answer settled →
      completes w a
      (record { call = call.CompletePendedPostOperation; answer = answer; named = record { visit = v; context = None }; settled = settled })
      rest ≡ complete_post w a p rest
  post_is v answer settled visit_is answer_is h =
      let effect = post_effect v settled
      (subst (λ (o : Option Answer). IsSettledBy p w.store (record { visit = v; context = None }) o settled) answer_is h) in
      ap (λ (e : Step). calling w a call.CompletePendedPostOperation (answer_told a answer) (operation v ∷ []) e) effect
      ∙ ap (λ (es : List Event). calling w a call.CompletePendedPostOperation es (operation v ∷ []) (complete_post_by w a p rest v))
      (ap (answer_told a) answer_is ∙ post_told v)
      ∙ ap (λ (u : Option ℕ). post_step u) visit_is

-- ---- the events are the activation's own

answer_up_to : (a : ℕ) (answer : Option Answer) → AreUpTo a 1 (answer_told a answer)
answer_up_to a None = (tt, omega arith)
answer_up_to a (Some answer) = ((tt, tt), omega arith)

few_needed : (v : Option ℕ) (c : Option (Option ℕ)) → length (operation v ∷ optional c) ≤ 4
few_needed v None = omega arith
few_needed v (Some x) = omega arith

lost_up_to : (a : ℕ) (b : Bool) (x : Option ℕ) → AreUpTo a 1 (if b then loses_context a x else [])
lost_up_to a true x = loses_up_to a x
lost_up_to a false x = (tt, omega arith)

settled_up_to : (w : World) (a : ℕ) (rest : List Statement) (settled : Option Settlement) → AreUpTo a 8 (settles_by w a rest settled).events
settled_up_to w a rest None = (tt, omega arith)
settled_up_to w a rest (Some e) =
    let frame = makes_frame w.store e.visit e.way in
    let behind = joined a 1 1 (if frame then loses_context a e.context else []) (event.Settle e.visit ∷ []) (lost_up_to a frame e.context)
    ((tt, tt), omega arith) in
    ((refl, behind.0), omega (arith, behind.1))

-- the events of a planned completion are the activation's own
pub completion_own : (s : Store) (a : ℕ) (completion : Completion) (plan : Plan) →
    ((actors : List Actor) (acts : List Activation) (granted refused : List Statement) →
    IsPlanned (world_of s actors acts) a plan [] granted refused (completes (world_of s actors acts) a completion granted)) →
    AreOwn a plan.events
completion_own s a completion plan planned =
    let w = world_of s [] [] in
    subst (AreOwn a) (sym (planned [] [] [] []).events)
    (own_call w a completion.call (answer_told a completion.answer) (needs_of_completion completion) (settles_by w a [] completion.settled)
    (answer_up_to a completion.answer) (few_needed completion.named.visit completion.named.context)
    (settled_up_to w a [] completion.settled))
