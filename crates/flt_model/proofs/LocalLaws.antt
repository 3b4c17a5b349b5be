-- A local step has no events and changes its activation alone, which goes on. Each visit has as many owners after it as before, and
-- each lock the same holders.
use Rattle.std.proofs.Common.{◌≡◌, ℕ, zero, suc, ◌+◌, Bool, true, false, List, [], ◌∷◌, ◌++◌}
use Rattle.std.proofs.Common.{length, Option, Some, None, ap, sym, subst, refl, ◌∙◌}
use Rattle.std.proofs.Math.ListN.{set, get_or}
use Rattle.std.proofs.lemmas.List.{append-nil}
use Rattle.std.specs.Prelude.{not, cond, ◌&&◌, ◌==◌, if◌then◌else◌, sum_by, option_map}
use Rattle.flt_tree.specs.declared.filter.Action.{Action}
use Rattle.flt_tree.specs.declared.filter.Action.TheVariants as action
use Rattle.flt_tree.specs.declared.filter.Filter.{Filter}
use Rattle.flt_tree.specs.declared.filter.Statement.{Statement, out-Statement}
use Rattle.flt_tree.specs.declared.filter.Statement.TheOpen.{Statement-F}
use Rattle.flt_model.specs.declared.event.Event.{Event}
use Rattle.flt_model.specs.declared.event.Object.TheVariants.{Visit}
use Rattle.flt_model.specs.declared.verdict.Violation.{Violation}
use Rattle.flt_model.specs.declared.verdict.Violation.TheVariants.{V4, V7}
use Rattle.flt_model.specs.Effects.{Step}
use Rattle.flt_model.specs.LocalSteps.{after_action, goes_on_to, holds_condition, after_statement, local_step, GoesOnAlone}
use Rattle.flt_model.specs.Locks.{locks_exclude}
use Rattle.flt_model.specs.Runs.{Moment, next, broken}
use Rattle.flt_model.specs.Steps.{Local, moved_on}
use Rattle.flt_model.specs.Trace.{is_held}
use Rattle.flt_model.specs.Violations.{holding, holders_from, in_queue, in_item, owners, is_owned, all_below, one_owner}
use Rattle.flt_model.specs.World.{World, Activation, nobody, activation_at, actor_at, is_settled}

-- ---- a local step goes on

-- whether an activation has ended, if there is one
abbrev ended_in : Bool → Option Activation → Bool
ended_in b None = b
ended_in b (Some act) = act.ended

module _ (act next_act : Activation) (rest : List Statement) where
  action_ended : (a : Action) → option_map (goes_on_to rest) (after_action act a) ≡ Some next_act → next_act.ended ≡ act.ended
  action_ended (action.SetNumber n x) e = ap (ended_in act.ended) (sym e)
  action_ended (action.ClearContext c) e = ap (ended_in act.ended) (sym e)
  action_ended (action.ClearOperation o) e = ap (ended_in act.ended) (sym e)
  action_ended (action.ReadValue n c) e = absurd (cc)
  action_ended (action.ReadFile n d) e = absurd (cc)
  action_ended (action.WriteValue c x) e = absurd (cc)

  branch_ended : (granted refused : List Statement) (o : Option Bool) →
      option_map (λ b. goes_on_to ((if b then granted else refused) ++ rest) act) o ≡ Some next_act → next_act.ended ≡ act.ended
  branch_ended granted refused None e = absurd (cc)
  branch_ended granted refused (Some b) e = ap (ended_in act.ended) (sym e)

  statement_ended : (draining : Bool) (layer : Statement-F Statement) → after_statement draining act rest layer ≡ Some next_act →
      next_act.ended ≡ act.ended
  statement_ended draining (Statement-F.Act span a) e = action_ended a e
  statement_ended draining (Statement-F.Call span c) e = absurd (cc)
  statement_ended draining (Statement-F.Return span st) e = absurd (cc)
  statement_ended draining (Statement-F.If span asked granted refused) e =
      branch_ended granted refused (holds_condition draining act asked) e
  statement_ended draining (Statement-F.Repeat span turns block) e = ap (ended_in act.ended) (sym e)

step_ended : (draining : Bool) (act next_act : Activation) (list : List Statement) → local_step draining act list ≡ Some next_act →
    next_act.ended ≡ act.ended
step_ended draining act next_act [] e = absurd (cc)
step_ended draining act next_act (s ∷ rest) e = statement_ended act next_act rest draining (out-Statement s) e

-- ---- owners

holding_same : (t : List Event) (v a : ℕ) (old act : Activation) → act.ended ≡ old.ended → holding t v a act ≡ holding t v a old
unfolding holding
holding_same t v a old act h = ap (λ b. if not b && is_held t a (Visit v) then 1 else 0) h

holders_set : (t : List Event) (v n : ℕ) (acts : List Activation) (a : ℕ) (act : Activation) → act.ended ≡ (get_or acts a nobody).ended →
    holders_from t v n (set acts a act) ≡ holders_from t v n acts
holders_set t v n [] a act h = refl
holders_set t v n (x ∷ acts) zero act h = ap (λ k. k + holders_from t v (n + 1) acts) (holding_same t v n x act h)
holders_set t v n (x ∷ acts) (suc a) act h = ap (λ k. holding t v n x + k) (holders_set t v (n + 1) acts a act h)

module _ (p : List Filter) (w : World) (t : List Event) (a : ℕ) (act : Activation) where
  owners_same : (v : ℕ) → act.ended ≡ (activation_at w a).ended → owners (moved_on p t w a act).world t v ≡ owners w t v
  unfolding owners
  owners_same v h =
      ap (λ k. k + sum_by (in_queue v) w.store.queues + sum_by (in_item v) w.store.items) (holders_set t v 0 w.activations a act h)

  owned_same : (v : ℕ) → act.ended ≡ (activation_at w a).ended → is_owned (moved_on p t w a act).world t v ≡ is_owned w t v
  owned_same v h = ap (λ k. k == (if is_settled w.store v then 0 else 1)) (owners_same v h)

below_same : (n : ℕ) (f g : ℕ → Bool) → ((v : ℕ) → f v ≡ g v) → all_below n f ≡ all_below n g
below_same zero f g h = refl
below_same (suc n) f g h = ap (λ b. b && all_below n f) (h n) ∙ ap (λ b. g n && b) (below_same n f g h)

-- ---- the law

-- what a step without events breaks: V4 where a visit hasn't its owner, V7 where a lock isn't exclusive
abbrev broken_by : Bool → Bool → Option Violation
broken_by owned exclusive = if owned then (if exclusive then None else Some V7) else Some V4

record Quiet (p : List Filter) (m : Moment) (a : ℕ) (s : Step) : Type 0 where
  events : s.events ≡ []
  alone : GoesOnAlone m.world a s.world
  breaks : broken p m s ≡ broken_by (one_owner m.world m.trace) (locks_exclude m.world)

-- the same, as it is searched for
searched : (owned exclusive : Bool) → cond (not owned) (Some V4) (cond (not exclusive) (Some V7) None) ≡ broken_by owned exclusive
searched true true = refl
searched true false = refl
searched false exclusive = refl

module _ (p : List Filter) (m : Moment) (a : ℕ) where
  owners_stay : (act : Activation) → act.ended ≡ (activation_at m.world a).ended →
      one_owner (moved_on p m.trace m.world a act).world (m.trace ++ []) ≡ one_owner m.world m.trace
  owners_stay act h =
      ap (λ t. one_owner (moved_on p m.trace m.world a act).world t) (append-nil m.trace)
      ∙ below_same (length m.world.store.visits) (is_owned (moved_on p m.trace m.world a act).world m.trace) (is_owned m.world m.trace)
      (λ v. owned_same p m.world m.trace a act v h)

  moved_quiet : (act : Activation) → (activation_at m.world a).ended ≡ false → act.ended ≡ (activation_at m.world a).ended →
      Quiet p m a (moved_on p m.trace m.world a act)
  moved_quiet act went h =
      let none : Option Violation = None in
      let exclusive = locks_exclude m.world in
      record {
        events = refl;
        alone = record { act = act; changes = refl; went_on = went; goes_on = h ∙ went };
        breaks = ap (λ b. cond (not b) (Some V4) (cond (not exclusive) (Some V7) none)) (owners_stay act h)
            ∙ searched (one_owner m.world m.trace) exclusive;
      }

  quiet_by : (b : Bool) (o : Option Activation) (s : Step) → (activation_at m.world a).ended ≡ b →
      ((act : Activation) → o ≡ Some act → act.ended ≡ (activation_at m.world a).ended) →
      (if b then None else option_map (moved_on p m.trace m.world a) o) ≡ Some s → Quiet p m a s
  quiet_by true o s went kept e = absurd (cc)
  quiet_by false None s went kept e = absurd (cc)
  quiet_by false (Some act) s went kept e =
      let same : moved_on p m.trace m.world a act ≡ s = cc in
      subst (λ q. Quiet p m a q) same (moved_quiet act went (kept act refl))

  local_quiet_step : (s : Step) → next p m (Local a) ≡ Some s → Quiet p m a s
  local_quiet_step s e =
      let act = activation_at m.world a in
      let draining = (actor_at m.world a).draining in
      quiet_by act.ended (local_step draining act act.rest) s refl (λ n. step_ended draining act n act.rest) e

-- a local step has no events
pub local_silent : (p : List Filter) (m : Moment) (a : ℕ) (s : Step) → next p m (Local a) ≡ Some s → s.events ≡ []
local_silent p m a s e = (local_quiet_step p m a s e).events

-- a local step changes its activation alone, which goes on
pub local_alone : (p : List Filter) (m : Moment) (a : ℕ) (s : Step) → next p m (Local a) ≡ Some s → GoesOnAlone m.world a s.world
local_alone p m a s e = (local_quiet_step p m a s e).alone

-- a local step breaks nothing but V4 and V7, and these where they were broken before
pub local_breaks : (p : List Filter) (m : Moment) (a : ℕ) (s : Step) → next p m (Local a) ≡ Some s →
    broken p m s ≡ (if one_owner m.world m.trace then (if locks_exclude m.world then None else Some V7) else Some V4)
local_breaks p m a s e = (local_quiet_step p m a s e).breaks

-- a local step breaks nothing where each visit had its owner and locks were exclusive
pub local_clean : (p : List Filter) (m : Moment) (a : ℕ) (s : Step) → one_owner m.world m.trace ≡ true → locks_exclude m.world ≡ true →
    next p m (Local a) ≡ Some s → broken p m s ≡ None
local_clean p m a s owned exclusive e =
    local_breaks p m a s e ∙ ap (λ b. broken_by b (locks_exclude m.world)) owned ∙ ap (broken_by true) exclusive
