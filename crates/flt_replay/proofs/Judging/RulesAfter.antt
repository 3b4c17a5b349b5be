-- The rules of statuses, levels, locks and places, and whether an activation holds its own visit, can be read after a step of
-- the activation, where it has the locks that it had before.
use Rattle.std.proofs.Common.{◌≡◌, ◌<◌, ℕ, Bool, true, List, [], ◌∷◌, Option, Some, None, length, ap, sym, subst, refl, ◌∙◌, arith}
use Rattle.std.proofs.Math.ListN.{get_or}
use Rattle.std.proofs.lemmas.Bool.{eqb-true, and_parts}
use Rattle.std.proofs.lemmas.List.{get_or-set_same, length-set}
use Rattle.std.specs.List.{list_all}
use Rattle.std.specs.Prelude.{◌&&◌}
use Rattle.flt_rules.specs.declared.call.Call.{Call}
use Rattle.flt_rules.specs.declared.call.Call.TheVariants as call
use Rattle.flt_rules.specs.declared.held.HeldLock.{HeldLock}
use Rattle.flt_tree.specs.declared.filter.Filter.{Filter}
use Rattle.flt_tree.specs.declared.filter.Status.{Status}
use Rattle.flt_tree.specs.declared.variable.OperationVariable.TheVariants.{Data}
use Rattle.flt_model.specs.declared.event.Answer.{Answer}
use Rattle.flt_model.specs.declared.event.Answer.TheVariants.{Returned, CompletesPre, CompletesPost}
use Rattle.flt_model.specs.declared.event.Event.{Event}
use Rattle.flt_model.specs.declared.event.Event.TheVariants as event
use Rattle.flt_model.specs.declared.verdict.Violation.{Violation}
use Rattle.flt_model.specs.declared.verdict.Violation.TheVariants.{V1, V2, V3, V4, V5, V6, V7, V8}
use Rattle.flt_model.specs.Effects.{Step}
use Rattle.flt_model.specs.Statuses.{is_returned_legally, may_answer, is_packet, may_pend}
use Rattle.flt_model.specs.Steps.{board}
use Rattle.flt_model.specs.Variables.{operation_in}
use Rattle.flt_model.specs.Violations.{is_legal, is_low_enough, is_disciplined, is_in_place}
use Rattle.flt_model.specs.World.{World, Activation, activation_at, nobody}
use Rattle.flt_replay.proofs.Machine.Frames.{Stepped, stepped}
use Rattle.flt_replay.specs.Judging.{is_by, keeps_rule, with_locks}
use Rattle.flt_replay_world.specs.Happening.{holds_visit, holds_given}

-- ---- worlds that the rules can't tell apart, where the events are an activation's

pub record Alike (u w : World) (a : ℕ) : Type 0 where
  pub actors : u.actors ≡ w.actors
  pub visits : u.store.visits ≡ w.store.visits
  pub arrivals : u.store.arrivals ≡ w.store.arrivals
  pub given : operation_in (activation_at u a) Data ≡ operation_in (activation_at w a) Data
  pub locks : (activation_at u a).locks ≡ (activation_at w a).locks

module _ (p : List Filter) (t : List Event) (u w : World) (a : ℕ) (h : Alike u w a) where
  returned_alike : (st : Status) (v : Option ℕ) → is_returned_legally p u t a st v ≡ is_returned_legally p w t a st v
  returned_alike st None = refl
  returned_alike st (Some v) = rw (h.actors, h.visits, h.arrivals) refl

  answer_alike : (answer : Answer) → may_answer p u t a answer ≡ may_answer p w t a answer
  answer_alike (Returned None) = refl
  answer_alike (Returned (Some st)) =
      returned_alike st (operation_in (activation_at u a) Data) ∙ ap (λ v. is_returned_legally p w t a st v) h.given
  answer_alike (CompletesPre whose v st) = rw (h.actors, h.visits) refl
  answer_alike (CompletesPost v) = rw h.visits refl

  packet_alike : (v : Option ℕ) → is_packet p u t a v ≡ is_packet p w t a v
  packet_alike None = refl
  packet_alike (Some v) = rw (h.visits, h.arrivals) refl

  given_packet : is_packet p u t a (operation_in (activation_at u a) Data) ≡ is_packet p w t a (operation_in (activation_at w a) Data)
  given_packet = packet_alike (operation_in (activation_at u a) Data) ∙ ap (λ v. is_packet p w t a v) h.given

  pend_alike : (k : Call) → may_pend p u t a k ≡ may_pend p w t a k
  pend_alike call.InsertIo = given_packet
  pend_alike call.QueueDeferredIoWorkItem = given_packet
  pend_alike _ = refl

  module _ (b : ℕ) (same : b ≡ a) where
    status_alike : (answer : Answer) → may_answer p u t b answer ≡ may_answer p w t b answer
    status_alike answer = subst (λ c. may_answer p u t c answer ≡ may_answer p w t c answer) (sym same) (answer_alike answer)

    pended_alike : (k : Call) → may_pend p u t b k ≡ may_pend p w t b k
    pended_alike k = subst (λ c. may_pend p u t c k ≡ may_pend p w t c k) (sym same) (pend_alike k)

    locks_alike : (activation_at u b).locks ≡ (activation_at w b).locks
    locks_alike = subst (λ c. (activation_at u c).locks ≡ (activation_at w c).locks) (sym same) h.locks

  legal_alike : (e : Event) → is_by a e ≡ true → is_legal p u t e ≡ is_legal p w t e
  legal_alike (event.Status b answer) k = status_alike b (eqb-true b a k) answer
  legal_alike (event.Call b c) k = pended_alike b (eqb-true b a k) c
  legal_alike _ k = refl

  low_alike : (e : Event) → is_by a e ≡ true → is_low_enough p u t e ≡ is_low_enough p w t e
  low_alike (event.Call b c) k = rw (h.actors, locks_alike b (eqb-true b a k)) refl
  low_alike _ k = refl

  disciplined_alike : (e : Event) → is_by a e ≡ true → is_disciplined p u t e ≡ is_disciplined p w t e
  disciplined_alike (event.Lock b l) k = rw (locks_alike b (eqb-true b a k)) refl
  disciplined_alike (event.Unlock b l) k = rw (locks_alike b (eqb-true b a k)) refl
  disciplined_alike (event.End b) k = rw (locks_alike b (eqb-true b a k)) refl
  disciplined_alike _ k = refl

  place_alike : (e : Event) → is_by a e ≡ true → is_in_place p u t e ≡ is_in_place p w t e
  place_alike (event.Call b c) k = rw h.actors refl
  place_alike _ k = refl

-- two tests that agree where a third one passes
all_alike : (test f g : Event → Bool) → ((e : Event) → test e ≡ true → f e ≡ g e) → (es : List Event) → list_all test es ≡ true →
    list_all f es ≡ list_all g es
all_alike test f g h [] k = refl
all_alike test f g h (e ∷ es) k =
    let parts = and_parts (test e) (list_all test es) k in
    ap (λ b. b && list_all f es) (h e parts.0) ∙ ap (λ b. g e && b) (all_alike test f g h es parts.1)

-- rules can't tell worlds apart that are alike for the activation whose events are judged
pub rules_alike : (p : List Filter) (t : List Event) (u w : World) (a : ℕ) → Alike u w a → (es : List Event) →
    list_all (is_by a) es ≡ true →
    (v : Violation) → keeps_rule p u t es v ≡ keeps_rule p w t es v
rules_alike p t u w a h es by V1 = refl
rules_alike p t u w a h es by V2 = refl
rules_alike p t u w a h es by V3 = refl
rules_alike p t u w a h es by V4 = refl
rules_alike p t u w a h es by V5 = all_alike (is_by a) (is_legal p u t) (is_legal p w t) (legal_alike p t u w a h) es by
rules_alike p t u w a h es by V6 = all_alike (is_by a) (is_low_enough p u t) (is_low_enough p w t) (low_alike p t u w a h) es by
rules_alike p t u w a h es by V7 = all_alike (is_by a) (is_disciplined p u t) (is_disciplined p w t) (disciplined_alike p t u w a h) es by
rules_alike p t u w a h es by V8 = all_alike (is_by a) (is_in_place p u t) (is_in_place p w t) (place_alike p t u w a h) es by

-- ---- after a step, with the locks from before it

module _ (w : World) (a : ℕ) (s : Step) (h : Stepped w a s) where
  pub activation_after : activation_at s.world a ≡ h.framed.act
  activation_after =
      ap (λ acts. get_or acts a nobody) h.framed.one_activation ∙ get_or-set_same w.activations a h.framed.act nobody h.within

  pub length_after : length s.world.activations ≡ length w.activations
  length_after = ap length h.framed.one_activation ∙ length-set w.activations a h.framed.act

  module _ (locks : List HeldLock) where
    within_after : a < length s.world.activations
    within_after = omega (arith, length_after, h.within)

    with_locks_at : activation_at (with_locks s.world a locks) a ≡ record (activation_at s.world a) { locks = locks }
    with_locks_at = get_or-set_same s.world.activations a (record (activation_at s.world a) { locks = locks }) nobody within_after

    data_after : operation_in (activation_at (with_locks s.world a locks) a) Data ≡ operation_in (activation_at w a) Data
    data_after =
        ap (λ act. operation_in act Data) with_locks_at ∙ (ap (λ act. operation_in act Data) activation_after ∙ h.framed.same_data)

  -- the world after a step, with the locks that the activation had, is like the world before it
  pub alike_after : Alike (with_locks s.world a (activation_at w a).locks) w a
  alike_after = record {
    actors = h.framed.same_actors;
    visits = h.framed.same_visits;
    arrivals = h.framed.same_arrivals;
    given = data_after (activation_at w a).locks;
    locks = ap (λ (act : Activation). act.locks) (with_locks_at (activation_at w a).locks);
  }

module _ (p : List Filter) (t : List Event) (w : World) (a : ℕ) (grant : Bool) (s : Step) (e : board p t w a grant ≡ Some s) where
  -- any locks would do
  pub same_given_with : (locks : List HeldLock) → holds_given t (with_locks s.world a locks) a ≡ holds_given t w a
  same_given_with locks = ap (λ v. holds_visit t a v) (data_after w a s (stepped p t w a grant s e) locks)

  pub same_given : holds_given t (with_locks s.world a (activation_at w a).locks) a ≡ holds_given t w a
  same_given = same_given_with (activation_at w a).locks

  pub same_rules : (v : Violation) →
      keeps_rule p w t s.events v ≡ keeps_rule p (with_locks s.world a (activation_at w a).locks) t s.events v
  same_rules v =
      let h = stepped p t w a grant s e in
      sym (rules_alike p t (with_locks s.world a (activation_at w a).locks) w a (alike_after w a s h) s.events h.framed.by_actor v)
