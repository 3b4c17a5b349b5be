-- A planned step of an activation, with what is kept of it then.
use Rattle.std.proofs.Common.{◌≡◌, ℕ, Bool, true, false, List, [], ◌++◌, Option, Some, None}
use Rattle.std.proofs.Common.{length, if◌then◌else◌, ap, sym, subst, refl, ◌∙◌, arith}
use Rattle.std.proofs.Math.ListN.{set}
use Rattle.std.proofs.lemmas.List.{length-set}
use Rattle.std.specs.Prelude.{slice_get}
use Rattle.flt_tree.specs.declared.filter.Callback.{Callback}
use Rattle.flt_tree.specs.declared.filter.Filter.{Filter}
use Rattle.flt_tree.specs.declared.filter.Statement.{Statement}
use Rattle.flt_tree.specs.declared.variable.ContextVariable.{ContextVariable}
use Rattle.flt_graph.specs.Turns.{StandsWith}
use Rattle.flt_model.specs.declared.event.Event.{Event}
use Rattle.flt_model.specs.declared.event.Object.TheVariants.{Visit}
use Rattle.flt_model.specs.Effects.{Step, onward, after_unlink}
use Rattle.flt_model.specs.Program.{callbacks_at, body_of}
use Rattle.flt_model.specs.Runs.{Moment}
use Rattle.flt_model.specs.Settling as settling
use Rattle.flt_model.specs.declared.settling.Way.{Way}
use Rattle.flt_model.specs.Trace.{gains, loses}
use Rattle.flt_model.specs.declared.parts.Presence.TheVariants.{Detaching, Detached}
use Rattle.flt_model.specs.World.{Store, Activation, activation_at, actor_at, context_at, is_freed, route_at}
use Rattle.flt_model.specs.World.{visit_at, with_context, with_route}
use Rattle.flt_machine_store.specs.Changes.{after_change}
use Rattle.flt_machine_store.specs.declared.change.Change.{Change}
use Rattle.flt_machine_store.specs.declared.change.Change.TheVariants as change
use Rattle.flt_machine_calls.specs.Own.{AreOf}
use Rattle.flt_machine_calls.specs.Plans.{written, is_end, IsPlanned, IsWritten, IsCountedOn, remaining_by}
use Rattle.flt_machine_calls.specs.declared.plans.Plan.{Plan}
use Rattle.flt_machine_calls.specs.declared.plans.Write.{Write}
use Rattle.flt_machine_calls.specs.declared.plans.Write.TheVariants as write
use Rattle.flt_machine_frames.specs.Standings.{StandsFor, activation_with}
use Rattle.flt_machine_frames.specs.declared.standing.Standing.{Standing}
use Rattle.flt_machine.specs.Situations.{IsKept}
use Rattle.flt_machine.proofs.Stepped.{IsStepped, gains-append, loses-append}

-- ---- no change makes filters more or fewer

-- a store by cases has as many filters as both
either : (n : ℕ) (b : Bool) (s t : Store) → length s.presences ≡ n → length t.presences ≡ n → length (if b then s else t).presences ≡ n
either n true s t one other = one
either n false s t one other = other

module _ (s : Store) where
  linked_over : (y : ℕ) (old : Option ContextVariable) → length (after_unlink s y old).presences ≡ length s.presences
  linked_over y None = refl
  linked_over y (Some d) = refl

  settled_on : (v : ℕ) (x : Option ℕ) (way : Way) → length (settling.settled_by s v x way).presences ≡ length s.presences
  settled_on v x way =
      either (length s.presences) (settling.settles_visit way)
      (record (settling.lead s v x way) { settled = set (settling.lead s v x way).settled v true }) s
      (either (length s.presences) (settling.is_led s v)
      (with_route s (visit_at s v).operation (settling.led (visit_at s v).filter x way (route_at s (visit_at s v).operation))) s
      refl refl) refl

  -- after a change there are as many filters as before
  pub filters_stay : (c : Change) → length (after_change s c).presences ≡ length s.presences
  filters_stay change.Nothing = refl
  filters_stay (change.Allocate owner) = refl
  filters_stay (change.AddReference x) = refl
  filters_stay (change.DropReference x) = refl
  filters_stay (change.Write x value) =
      either (length s.presences) (is_freed (context_at s x)) s (with_context s x (record (context_at s x) { value = value })) refl refl
  filters_stay (change.Link x f k None old) = refl
  filters_stay (change.Link x f k (Some y) None) = refl
  filters_stay (change.Link x f k (Some y) (Some d)) = refl
  filters_stay (change.Unlink x None) = refl
  filters_stay (change.Unlink x (Some d)) = refl
  filters_stay (change.TakeLock f l a access) = refl
  filters_stay (change.GiveUpLock f l a) = refl
  filters_stay (change.Insert f v x) = refl
  filters_stay (change.RemoveNext f) = refl
  filters_stay (change.RemoveOf f o v) = refl
  filters_stay (change.Queue f r v x) = refl
  filters_stay (change.Start i) = refl
  filters_stay (change.Settle v x way) = settled_on v x way
  filters_stay (change.Arrive kind mode file) = refl
  filters_stay (change.StartPre o f) = refl
  filters_stay (change.Skip o f) = refl
  filters_stay (change.Lower o) = refl
  filters_stay (change.StartPost o f x) = refl
  filters_stay (change.StartDraining o f x) = refl
  filters_stay (change.Cancel o) = refl
  filters_stay (change.Detach f) = length-set s.presences f Detaching
  filters_stay (change.Finish f) = length-set s.presences f Detached

-- ---- what is kept after a planned step

-- what is written doesn't depend on the statements that remain
written_with : (x : Write) (s later : Standing) (list : List Statement) →
    is_end x ≡ false → activation_with later [] ≡ written x (activation_with s []) →
    written x (activation_with s list) ≡ activation_with later list
written_with x s later list goes same = same_rest x goes ∙ ap (λ (act : Activation). record act { rest = list }) (sym same)
  where
    same_rest : (x : Write) →
        is_end x ≡ false → written x (activation_with s list) ≡ record (written x (activation_with s [])) { rest = list }
    same_rest write.Nothing goes = refl
    same_rest (write.Number n value) goes = refl
    same_rest (write.Output None x) goes = refl
    same_rest (write.Output (Some d) x) goes = refl
    same_rest (write.Removed o v d x) goes = refl
    same_rest (write.Take l access) goes = refl
    same_rest (write.GiveUp l) goes = refl
    same_rest write.End goes = absurd (cc)

ended_by : (x : Write) (act : Activation) → is_end x ≡ true → (written x act).ended ≡ true
ended_by write.Nothing act ends = absurd (cc)
ended_by (write.Number n value) act ends = absurd (cc)
ended_by (write.Output d x) act ends = absurd (cc)
ended_by (write.Removed o v d x) act ends = absurd (cc)
ended_by (write.Take l access) act ends = absurd (cc)
ended_by (write.GiveUp l) act ends = absurd (cc)
ended_by write.End act ends = refl

chosen : (list : List Statement) (granted : Bool) →
    (if granted then remaining_by list true else remaining_by list false) ≡ remaining_by list granted
chosen list true = refl
chosen list false = refl

module _ (p : List Filter) (m : Moment) (a : ℕ) (cs : List Callback) (s : Standing) (plan : Plan) (step : Step)
    (kept : IsKept cs m.trace a (activation_at m.world a) s)
    (planned : IsPlanned m.world a plan [] (remaining_by (activation_at m.world a).rest
    true) (remaining_by (activation_at m.world a).rest false) step) where
  abbrev rest : List Statement
  rest = (activation_at m.world a).rest

  abbrev last : Activation
  last = written plan.write (onward m.world a
      (if plan.granted then remaining_by (activation_at m.world a).rest true else remaining_by (activation_at m.world a).rest false))

  world_is : step.world
      ≡ record m.world {
        activations = set m.world.activations a
            (written plan.write (onward m.world a
            (if plan.granted then remaining_by (activation_at m.world a).rest true
            else remaining_by (activation_at m.world a).rest false)));
        store = after_change m.world.store plan.change;
      }
  world_is = planned.world

  -- a standing that is written so is kept
  pub kept_on : (later : Standing) → is_end plan.write ≡ false → IsWritten cs s later plan (activation_at m.world a).rest →
      IsCountedOn a s later plan →
      IsKept cs (m.trace ++ step.events) a (written plan.write (onward m.world a
      (if plan.granted then remaining_by (activation_at m.world a).rest true else remaining_by (activation_at m.world a).rest false))) later
  kept_on later goes w counts = record {
    stands = subst (StandsFor cs later) (sym act_is) (record { same = refl; stands = stands });
    counted = record {
      gained = λ v is. let g = counts.gained v (sym w.given ∙ is) in let k = kept.counted.gained v (sym w.given ∙ is) in
          let e = ap (λ (es : List Event). gains es a (Visit v)) planned.events in
          omega (arith, g, k, e, gains-append m.trace step.events a (Visit v));
      lost = λ v is. let g = counts.lost v (sym w.given ∙ is) in let k = kept.counted.lost v (sym w.given ∙ is) in
          let e = ap (λ (es : List Event). loses es a (Visit v)) planned.events in
          omega (arith, g, k, e, loses-append m.trace step.events a (Visit v));
    };
  }
    where
      act_is : written plan.write (onward m.world a
          (if plan.granted then remaining_by (activation_at m.world a).rest true else remaining_by (activation_at m.world a).rest false)) ≡
          activation_with later (remaining_by (activation_at m.world a).rest plan.granted)
      act_is =
          ap (λ (l : List Statement). written plan.write (onward m.world a l)) (chosen (activation_at m.world a).rest plan.granted) ∙
          ap (λ (act : Activation). written plan.write (record act { rest = remaining_by (activation_at m.world a).rest plan.granted }))
          kept.stands.same ∙
          written_with plan.write s later (remaining_by (activation_at m.world a).rest plan.granted) goes w.variables

      stands : StandsWith (body_of (slice_get cs later.callback)) later.point later.turns
          (remaining_by (activation_at m.world a).rest plan.granted)
      stands = subst (λ (k : ℕ). StandsWith (body_of (slice_get cs k)) later.point later.turns
          (remaining_by (activation_at m.world a).rest plan.granted)) (sym w.callback)
          w.stands

-- a planned step that goes on
pub planned_on : (p : List Filter) (m : Moment) (a : ℕ) (s later : Standing) (plan : Plan) (step : Step) →
    IsKept (callbacks_at p (actor_at m.world a).filter) m.trace a (activation_at m.world a) s →
    IsPlanned m.world a plan [] (remaining_by (activation_at m.world a).rest true)
    (remaining_by (activation_at m.world a).rest false) step → AreOf a plan.events → is_end plan.write ≡ false →
    IsWritten (callbacks_at p (actor_at m.world a).filter) s later plan (activation_at m.world a).rest → IsCountedOn a s later plan →
    IsStepped p m a (Some later) (after_change m.world.store plan.change) step
planned_on p m a s later plan step kept planned own goes w counts = record {
  act = written plan.write (onward m.world a
      (if plan.granted then remaining_by (activation_at m.world a).rest true else remaining_by (activation_at m.world a).rest false));
  world = planned.world;
  filters = filters_stay m.world.store plan.change;
  own = subst (AreOf a) planned.events own;
  kept = kept_on p m a (callbacks_at p (actor_at m.world a).filter) s plan step kept planned later goes w counts;
}

-- a planned step that ends the activation
pub planned_end : (p : List Filter) (m : Moment) (a : ℕ) (plan : Plan) (step : Step) →
    IsPlanned m.world a plan [] (remaining_by (activation_at m.world a).rest true)
    (remaining_by (activation_at m.world a).rest false) step → AreOf a plan.events → is_end plan.write ≡ true →
    IsStepped p m a None (after_change m.world.store plan.change) step
planned_end p m a plan step planned own ends = record {
  act = written plan.write (onward m.world a
      (if plan.granted then remaining_by (activation_at m.world a).rest true else remaining_by (activation_at m.world a).rest false));
  world = planned.world;
  filters = filters_stay m.world.store plan.change;
  own = subst (AreOf a) planned.events own;
  kept = ended_by plan.write (onward m.world a
      (if plan.granted then remaining_by (activation_at m.world a).rest true else remaining_by (activation_at m.world a).rest false)) ends;
}
