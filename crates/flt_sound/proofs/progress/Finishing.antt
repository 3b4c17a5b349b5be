-- Callbacks can end. Each step of an activation lowers what it may still spend, and as long as one runs one can go on; so going on comes to
-- an end, and there all have ended.
-- Here p is the program, m a moment, a and b are activations, x is a transition, s its step.
use Rattle.std.proofs.Common.{◌≡◌, ℕ, zero, suc, ◌+◌, ◌<◌, ◌≤◌, Bool, true, false, List, [], ◌∷◌, length}
use Rattle.std.proofs.Common.{Option, Some, None, ap, sym, subst, refl, ◌∙◌, arith, inl, inr, ◌⊎◌, sum_by}
use Rattle.std.specs.Prelude.{◌||◌, is_some, option_and_then, option_map, if◌then◌else◌}
use Rattle.std.specs.List.{list_all}
use Rattle.std.proofs.Math.ListN.{get_or}
use Rattle.std.proofs.lemmas.Bool.{and_from}
use Rattle.std.proofs.lemmas.List.{get_or_past}
use Rattle.std.proofs.lemmas.List.Sums.{get_or-le-sum_by, sum_by-set}
use Rattle.flt_tree.specs.declared.filter.Filter.{Filter}
use Rattle.flt_tree.specs.Measures.{cost}
use Rattle.flt_costs.specs.Costs.{left_in, Spends}
use Rattle.flt_model.specs.declared.event.Event.{Event}
use Rattle.flt_model.specs.Effects.{Step}
use Rattle.flt_model.specs.Runs.{Moment, run_from, after, next}
use Rattle.flt_model.specs.LocalSteps.{local_step}
use Rattle.flt_model.specs.Steps.{Transition, Local, Board, local, board, moved_on}
use Rattle.flt_model.specs.declared.parts.Presence.TheVariants.{Detached}
use Rattle.flt_model.specs.World.{World, Activation, nobody, actor_at, activation_at, presence_at, is_attached}
use Rattle.flt_sound.specs.Progress.{AreOrderly, is_own_step, CallbacksCanEnd}
use Rattle.flt_sound.proofs.points.Local.{AfterStep}
use Rattle.flt_sound.proofs.points.Placed.{Laws}
use Rattle.flt_sound.proofs.rest.Gone.{Rests, at_step, rests_after, rests_on, there_on}
use Rattle.flt_sound.proofs.rest.Passing.{unless}
use Rattle.flt_sound.proofs.progress.Dwindling.{Dwindles, same_dwindles, both_dwindle, list_small}
use Rattle.flt_sound.proofs.progress.Waiting.{modest_list, can_go_modestly, one_goes, accepted_of}

-- what flt_costs proves of steps: each spends
pub record Spending : Type 0 where
  pub local_spends : (p : List Filter) (t : List Event) (w : World) (a : ℕ) (s : Step) → local p t w a ≡ Some s →
      Spends w a s.world.activations
  pub board_spends : (p : List Filter) (t : List Event) (w : World) (a : ℕ) (grant : Bool) (s : Step) → board p t w a grant ≡ Some s →
      Spends w a s.world.activations

-- what all may still spend
abbrev pub left : World → ℕ
left w = sum_by left_in w.activations

-- one that hasn't ended may spend
left_running : (act : Activation) → act.ended ≡ false → 1 ≤ left_in act
left_running act on = by act.ended on
  where
    by : (b : Bool) → b ≡ false → 1 ≤ (if b then 0 else cost act.rest + 1)
    by true e = absurd (cc)
    by false e = omega arith

-- all have ended, or one hasn't
running_or : (acts : List Activation) → ((a : ℕ) → (get_or acts a nobody).ended ≡ true) ⊎
    ((a : ℕ) × ((get_or acts a nobody).ended ≡ false))
running_or [] = inl (λ a. refl)
running_or (act ∷ acts) = by act.ended refl (running_or acts)
  where
    all : act.ended ≡ true → ((a : ℕ) → (get_or acts a nobody).ended ≡ true) → (a : ℕ) → (get_or (act ∷ acts) a nobody).ended ≡ true
    all e h zero = e
    all e h (suc a) = h a

    by : (b : Bool) → act.ended ≡ b →
        ((a : ℕ) → (get_or acts a nobody).ended ≡ true) ⊎ ((a : ℕ) × ((get_or acts a nobody).ended ≡ false)) →
        ((a : ℕ) → (get_or (act ∷ acts) a nobody).ended ≡ true) ⊎ ((a : ℕ) × ((get_or (act ∷ acts) a nobody).ended ≡ false))
    by false e others = inr (zero, e)
    by true e (inl h) = inl (all e h)
    by true e (inr h) = inr (suc h.0, h.1)

-- a step that is there
some_of : (o : Option Step) → is_some o ≡ true → (s : Step) × (o ≡ Some s)
some_of None h = absurd (cc)
some_of (Some s) h = (s, refl)

-- a step of an activation at a moment, after which less may be spent, and no more is left of filters that aren't attached
pub record Onward (p : List Filter) (m : Moment) : Type 0 where
  pub transition : Transition
  pub own : is_own_step transition ≡ true
  pub step : Step
  pub is : next p m transition ≡ Some step
  pub less : left step.world + 1 ≤ left m.world
  pub dwindles : (f : ℕ) → is_attached (presence_at m.world.store f) ≡ false → Dwindles f m.world.store step.world.store

-- steps of the callbacks that run lead to a moment at which all have ended; of a filter that isn't attached no more is left there
pub record EndsCalmly (p : List Filter) (m : Moment) (f : ℕ) : Type 0 where
  pub steps : List Transition
  pub own : list_all is_own_step steps ≡ true
  pub last : Moment
  pub leads : run_from p m steps ≡ Some last
  pub ended : (a : ℕ) → (activation_at last.world a).ended ≡ true
  pub rests : Rests p last
  pub dwindles : Dwindles f m.world.store last.world.store

-- a local step leaves the store as it is
local_store : (p : List Filter) (m : Moment) (a : ℕ) → AfterStep (next p m (Local a)) (λ s. s.world.store ≡ m.world.store)
local_store p m a = unless (λ s. s.world.store ≡ m.world.store) (activation_at m.world a).ended _ (λ on.
    moved (local_step (actor_at m.world a).draining (activation_at m.world a) (activation_at m.world a).rest))
  where
    moved : (o : Option Activation) → AfterStep (option_map (moved_on p m.trace m.world a) o) (λ s. s.world.store ≡ m.world.store)
    moved None = tt
    moved (Some act) = refl

-- a step that others see leaves no more of a filter that isn't attached, where nothing is granted that may be refused
board_small : (p : List Filter) (m : Moment) (a f : ℕ) → is_attached (presence_at m.world.store f) ≡ false →
    AfterStep (next p m (Board a (modest_list (activation_at m.world a).rest))) (λ s. Dwindles f m.world.store s.world.store)
board_small p m a f off = unless (λ s. Dwindles f m.world.store s.world.store) (activation_at m.world a).ended _ (λ on.
    list_small m.world a f (λ e. ap (λ i. is_attached (presence_at m.world.store i)) e ∙ off) p m.trace (activation_at m.world a).rest)

-- no filter past all is attached
past_all : (w : World) → is_attached (presence_at w.store (length w.store.presences)) ≡ false
past_all w = ap is_attached (get_or_past w.store.presences (length w.store.presences) Detached (omega arith))

module _ (spending : Spending) (p : List Filter) where
  -- what one spends all spend
  spends_all : (w : World) (b : ℕ) (acts : List Activation) → b < length w.activations → Spends w b acts →
      sum_by left_in acts + 1 ≤ left w
  spends_all w b acts there h =
      subst (λ l. sum_by left_in l + 1 ≤ left w) (sym h.acts_are)
      (omega (arith, sum_by-set left_in w.activations b h.act nobody there, h.less))

  -- an activation that can go on makes a step
  onward : (m : Moment) (b : ℕ) → b < length m.world.activations → can_go_modestly p m b ≡ true → Onward p m
  onward m b there h = by (next p m (Local b)) refl h
    where
      seen : Transition
      seen = Board b (modest_list (activation_at m.world b).rest)

      by : (o : Option Step) → next p m (Local b) ≡ o → (is_some o || is_some (next p m seen)) ≡ true → Onward p m
      by (Some s) e h =
          let same = at_step (λ s. s.world.store ≡ m.world.store) (next p m (Local b)) s (local_store p m b) e in
          record {
            transition = Local b;
            own = refl;
            step = s;
            is = e;
            less = spends_all m.world b s.world.activations there (spending.local_spends p m.trace m.world b s e);
            dwindles = λ f off. subst (λ x. Dwindles f m.world.store x) (sym same) (same_dwindles f m.world.store);
          }
      by None e h =
          let s = some_of (next p m seen) h in
          record {
            transition = seen;
            own = refl;
            step = s.0;
            is = s.1;
            less = spends_all m.world b s.0.world.activations there
                (spending.board_spends p m.trace m.world b (modest_list (activation_at m.world b).rest) s.0 s.1);
            dwindles = λ f off.
                at_step (λ s. Dwindles f m.world.store s.world.store) (next p m seen) s.0 (board_small p m b f off) s.1;
          }

  -- a step and what follows it
  after_step : (m : Moment) (f : ℕ) → is_attached (presence_at m.world.store f) ≡ false → (o : Onward p m) →
      EndsCalmly p (after m o.step) f → EndsCalmly p m f
  after_step m f off o c = record {
    steps = o.transition ∷ c.steps;
    own = and_from _ _ o.own c.own;
    last = c.last;
    leads = ap (λ (x : Option Step). option_and_then (λ s. run_from p (after m s) c.steps) x) o.is ∙ c.leads;
    ended = c.ended;
    rests = c.rests;
    dwindles = both_dwindle f m.world.store o.step.world.store c.last.world.store (o.dwindles f off) c.dwindles;
  }

  module _ (laws : Laws) (ok : AreOrderly p) where
    -- all have ended already
    at_once : (m : Moment) (f : ℕ) → Rests p m → ((a : ℕ) → (activation_at m.world a).ended ≡ true) → EndsCalmly p m f
    at_once m f r done =
        record { steps = []; own = refl; last = m; leads = refl; ended = done; rests = r; dwindles = same_dwindles f m.world.store }

    -- going on comes to an end
    pub can_end : (fuel : ℕ) (m : Moment) (f : ℕ) → Rests p m → is_attached (presence_at m.world.store f) ≡ false → left m.world ≤ fuel →
        EndsCalmly p m f
    can_end zero m f r off h = elim (running_or m.world.activations) [
      | inl done ↦ at_once m f r done
      | inr one ↦
          let there = there_on p m r.kept 0 one.0 one.1 in
          absurd (omega (
            arith,
            h,
            left_running (activation_at m.world one.0) one.1,
            get_or-le-sum_by left_in m.world.activations one.0 nobody there,
          ))
    ]
    can_end (suc fuel) m f r off h = elim (running_or m.world.activations) [
      | inl done ↦ at_once m f r done
      | inr one ↦
          let b = one_goes p m r ok one.0 one.1 in
          let o = onward m b.by (there_on p m r.kept 0 b.by b.runs) b.modestly in
          let later : is_attached (presence_at o.step.world.store f) ≡ false =
          ap (λ l. is_attached (get_or l f Detached)) (o.dwindles f off).presences ∙ off in
          after_step m f off o (can_end fuel (after m o.step) f (rests_on laws p (accepted_of p ok) m r o.transition o.step o.is) later
          (omega (arith, h, o.less)))
    ]

-- callbacks can end
pub callbacks_can_end : Laws → Spending → CallbacksCanEnd
callbacks_can_end laws spending p xs m ok e =
    let rests = rests_after laws p (accepted_of p ok) xs m e in
    let c = can_end spending p laws ok (left m.world) m (length m.world.store.presences) rests (past_all m.world) (omega arith) in
    record { steps = c.steps; own = c.own; last = c.last; leads = c.leads; ended = c.ended }
