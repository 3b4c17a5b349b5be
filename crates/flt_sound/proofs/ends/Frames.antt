-- Visits that an activation's variables own or name, and the frames that are made for them. A context that goes with a status is
-- lost only where a frame takes it over, so FltCompletePendedPreOperation and `return` must find that one is made.
-- p is the program, m the moment, a the activation, s its shadow; v is a visit, d a variable, c the status's context variable.
use Rattle.std.proofs.Common.{◌≡◌, ℕ, ◌<◌, Bool, true, List, length, Option, Some, ap, refl, arith, [], false, None}
use Rattle.std.proofs.lemmas.Bool.{and_from}
use Rattle.std.specs.Prelude.{is_some, if◌then◌else◌}
use Rattle.flt_rules.specs.declared.place.Stage.{Stage}
use Rattle.flt_rules.specs.declared.place.Stage.TheVariants as stage
use Rattle.flt_tree.specs.Filter.{context_of}
use Rattle.flt_tree.specs.declared.filter.Filter.{Filter}
use Rattle.flt_tree.specs.declared.filter.Status.{Status}
use Rattle.flt_tree.specs.declared.filter.Status.TheVariants as status
use Rattle.flt_tree.specs.declared.variable.ContextVariable.{ContextVariable}
use Rattle.flt_tree.specs.declared.variable.OperationVariable.{OperationVariable}
use Rattle.flt_tree.specs.declared.variable.OperationVariable.TheVariants.{Removed, Data}
use Rattle.flt_model.specs.declared.event.Answer.{Answer}
use Rattle.flt_model.specs.declared.event.Object.TheVariants.{Visit}
use Rattle.flt_model.specs.Runs.{Moment}
use Rattle.flt_model.specs.Settling.{given_by, is_returned, way_of, way_by, asks_for_frame, is_led, makes_frame}
use Rattle.flt_model.specs.World.{visit_at}
use Rattle.flt_model.specs.Effects.{loses_context}
use Rattle.flt_model.specs.Violations.{in_some}
use Rattle.flt_sound.proofs.sums.Counts.{Has}
use Rattle.flt_sound.proofs.sums.Shadows.{Owns, value_of, Shadow, operation_slot}
use Rattle.flt_sound.proofs.points.Kept.{IsAt}
use Rattle.flt_sound.proofs.points.Rows.{was}
use Rattle.flt_sound.proofs.calls.Effects.{own_filter, own_place, given_as}
use Rattle.flt_sound.proofs.ends.Settling.{has_post_of}
use Rattle.flt_sound.proofs.points.Stored.{given_is}

-- a status that names a context asks for a frame, before the filters below and where a post callback is
asks_frame : (post : Bool) (g : Stage) (returned : Bool) (st : Status) (c : ContextVariable) → context_of st ≡ Some c →
    g ≡ stage.Pre → post ≡ true →
    asks_for_frame (way_by post g returned (Some st)) ≡ true
asks_frame post g returned (status.WithCallback x) c e h i = rw (h, i) refl
asks_frame post g returned (status.Synchronize x) c e h i = rw (h, i) refl
asks_frame post g returned status.NoCallback c e h i = absurd (cc)
asks_frame post g returned (status.Complete f) c e h i = absurd (cc)
asks_frame post g returned status.Pending c e h i = absurd (cc)
asks_frame post g returned status.DisallowFastIo c e h i = absurd (cc)
asks_frame post g returned status.FinishedProcessing c e h i = absurd (cc)
asks_frame post g returned status.MoreProcessingRequired c e h i = absurd (cc)

-- the context is lost whether the test of the frame is asked or not, since there is a frame where there is a context
pub context_taken : (a : ℕ) (framed : Bool) (x : Option ℕ) → (is_some x ≡ true → framed ≡ true) →
    (if framed then loses_context a x else []) ≡ loses_context a x
context_taken a true x h = refl
context_taken a false None h = refl
context_taken a false (Some x) h = let bad : false ≡ true = h refl in absurd (cc)

-- its reference too is taken over, whether the test is asked or not
pub reference_taken : (framed : Bool) (x : Option ℕ) → (is_some x ≡ true → framed ≡ true) → (y : ℕ) →
    (if framed then in_some y x else 0) ≡ in_some y x
reference_taken true x h y = refl
reference_taken false None h y = refl
reference_taken false (Some x) h y = let bad : false ≡ true = h refl in absurd (cc)

module _ {p : List Filter} {m : Moment} {a : ℕ} {s : Shadow} (at : IsAt p m a s) where
  -- a visit of the activation's filter, whose operation has a route
  pub record IsOwnVisit (v : ℕ) : Type 0 where
    pub there : v < length m.world.store.visits
    pub filter_is : (visit_at m.world.store v).filter ≡ own_filter at
    pub route_there : (visit_at m.world.store v).operation < length m.world.store.routes

  -- the visit that the callback was given is such a visit
  pub given_visit : (v : ℕ) → value_of (operation_slot s Data) ≡ Some v → IsOwnVisit v
  given_visit v e =
      let g = given_is m.world.store.visits m.world.store.arrivals (own_filter at) s.mode (own_place at) v (given_as at (Some v) e) in
      record { there = g.visit.there; filter_is = g.visit.filter; route_there = omega (arith, g.visit.operation, at.kept.stored.paths) }

  -- a visit that a variable owns is such a visit
  pub owned_visit : (d : OperationVariable) (v : ℕ) → operation_slot s d ≡ Owns v → IsOwnVisit v
  owned_visit (Removed o) v e =
      let h = (was at).removed o v e in
      record { there = h.there; filter_is = h.filter; route_there = omega (arith, h.operation, at.kept.stored.paths) }
  owned_visit Data v e = given_visit v (ap value_of e)

  -- a visit before the filters below that the activation has isn't settled and doesn't drain: its operation is led
  led_before : (v : ℕ) → v < length m.world.store.visits → (visit_at m.world.store v).stage ≡ stage.Pre → Has m.trace a (Visit v) →
      is_led m.world.store v ≡ true
  led_before v there e h = rw (at.owned v h, (at.kept.stored.before v there e).calm) refl

  -- an answer whose status names a context makes a frame for such a visit, where a post callback is
  pub frame_made : (v : ℕ) (answer : Answer) (st : Status) (c : ContextVariable) → given_by answer ≡ Some st → context_of st ≡ Some c →
      v < length m.world.store.visits → (visit_at m.world.store v).stage ≡ stage.Pre → has_post_of p m.world.store v ≡ true →
      Has m.trace a (Visit v) →
      makes_frame m.world.store v (way_of p m.world.store v answer) ≡ true
  frame_made v answer st c gives named there before post has =
      let asks = asks_frame (has_post_of p m.world.store v) (visit_at m.world.store v).stage (is_returned answer) st c named before post in
      and_from _ _ (rw gives asks) (led_before v there before has)
