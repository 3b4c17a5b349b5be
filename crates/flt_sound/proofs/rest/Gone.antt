-- Unloading leaks nothing. Of a filter that is detached nothing is left, at each moment of a run: its teardown ends where nothing is left,
-- and no step brings anything of it back. Its visits are then settled and its contexts freed, by the sums that the invariant keeps: an
-- unsettled visit and a context's reference would have to stand somewhere.
-- Here p is the program, m the moment, k its invariant, f the filter, a an activation, v a visit, x a context.
use Rattle.std.proofs.Common.{◌≡◌, ◌≢◌, ℕ, zero, suc, ◌<◌, Bool, true, false, List, [], ◌∷◌, ◌++◌, length, map}
use Rattle.std.proofs.Common.{replicate, Option, Some, None, ap, sym, subst, refl, ◌∙◌, arith, inl, inr}
use Rattle.std.specs.Prelude.{if◌then◌else◌, option_map, option_and_then}
use Rattle.std.proofs.Math.ListN.{get_or}
use Rattle.std.proofs.lemmas.Bool.{cases_eq, cases_lt}
use Rattle.std.proofs.lemmas.List.{length-map}
use Rattle.flt_tree.specs.declared.filter.Action.{Action}
use Rattle.flt_tree.specs.declared.filter.Action.TheVariants as action
use Rattle.flt_tree.specs.declared.filter.Filter.{Filter}
use Rattle.flt_tree.specs.declared.filter.Statement.{Statement, out-Statement}
use Rattle.flt_tree.specs.declared.filter.Statement.TheOpen.{Statement-F}
use Rattle.flt_tree.specs.declared.variable.OperationVariable.TheVariants.{Removed}
use Rattle.flt_model.specs.Effects.{Step}
use Rattle.flt_model.specs.LocalSteps.{after_action, after_statement, goes_on_to, holds_condition, turns_left, local_step}
use Rattle.flt_model.specs.Variables.{with_number, with_context_in, with_operation_in, expression_value}
use Rattle.flt_model.specs.Runs.{Moment, start, after, next, run, run_from}
use Rattle.flt_model.specs.Steps.{Transition, Make, Local, Board, list_step, moved_on}
use Rattle.flt_model.specs.declared.parts.Holder.{Holder}
use Rattle.flt_model.specs.declared.parts.Presence.TheVariants.{Attached, Detached}
use Rattle.flt_model.specs.World.{World, Activation, opening, holders_at}
use Rattle.flt_model.specs.World.{nobody, no_actor, actor_at, activation_at, presence_at, queue_at}
use Rattle.flt_sound.specs.Rest.{IsGone, UnloadingLeaksNothing}
use Rattle.flt_sound.specs.Soundness.{AreAccepted}
use Rattle.flt_sound.proofs.sums.Eaches.{Each, within}
use Rattle.flt_sound.proofs.sums.Shadows.{plain}
use Rattle.flt_sound.proofs.points.Kept.{Kept, Good}
use Rattle.flt_sound.proofs.points.Local.{AfterStep}
use Rattle.flt_sound.proofs.points.Placed.{Laws}
use Rattle.flt_sound.proofs.run.Sound.{step_good, opens}
use Rattle.flt_sound.proofs.rest.Parts.{IsEmpty}
use Rattle.flt_sound.proofs.rest.Holding.{AreHeld, Holds}
use Rattle.flt_sound.proofs.rest.Visiting.{AreVisited}
use Rattle.flt_sound.proofs.rest.Others.{LeavesIt, still}
use Rattle.flt_sound.proofs.rest.Leaving.{board_apart}
use Rattle.flt_sound.proofs.rest.Passing.{Passes, passes_by, move_passes}
use Rattle.flt_sound.proofs.rest.Unowned.{gone}

-- ---- a local step keeps locks

action_locks : (act : Activation) (x : Action) (rest : List Statement) (new : Activation) →
    option_map (goes_on_to rest) (after_action act x) ≡ Some new → new.locks ≡ act.locks
action_locks act (action.SetNumber n x) rest new e = let same : goes_on_to rest (with_number act n (expression_value act x)) ≡ new = cc in
    ap (λ (b : Activation). b.locks) (sym same)
action_locks act (action.ClearContext c) rest new e = let same : goes_on_to rest (with_context_in act c None) ≡ new = cc in
    ap (λ (b : Activation). b.locks) (sym same)
action_locks act (action.ClearOperation o) rest new e = let same : goes_on_to rest (with_operation_in act (Removed o) None) ≡ new = cc in
    ap (λ (b : Activation). b.locks) (sym same)
action_locks act (action.ReadValue n c) rest new e = absurd (cc)
action_locks act (action.ReadFile n d) rest new e = absurd (cc)
action_locks act (action.WriteValue c x) rest new e = absurd (cc)

chosen_locks : (act : Activation) (o : Option Bool) (granted refused rest : List Statement) (new : Activation) →
    option_map (λ b. goes_on_to ((if b then granted else refused) ++ rest) act) o ≡ Some new → new.locks ≡ act.locks
chosen_locks act None granted refused rest new e = absurd (cc)
chosen_locks act (Some b) granted refused rest new e =
    let same : goes_on_to ((if b then granted else refused) ++ rest) act ≡ new = cc in ap (λ (b : Activation). b.locks) (sym same)

layer_locks : (draining : Bool) (act : Activation) (rest : List Statement) (layer : Statement-F Statement) (new : Activation) →
    after_statement draining act rest layer ≡ Some new → new.locks ≡ act.locks
layer_locks draining act rest (Statement-F.Act span x) new e = action_locks act x rest new e
layer_locks draining act rest (Statement-F.Call span c) new e = absurd (cc)
layer_locks draining act rest (Statement-F.Return span st) new e = absurd (cc)
layer_locks draining act rest (Statement-F.If span asked granted refused) new e =
    chosen_locks act (holds_condition draining act asked) granted refused rest new e
layer_locks draining act rest (Statement-F.Repeat span turns block) new e =
    let same : goes_on_to (turns_left span turns block rest) act ≡ new = cc in ap (λ (b : Activation). b.locks) (sym same)

-- a local step leaves the locks of its activation
pub local_locks : (draining : Bool) (act : Activation) (list : List Statement) (new : Activation) →
    local_step draining act list ≡ Some new → new.locks ≡ act.locks
local_locks draining act [] new e = absurd (cc)
local_locks draining act (s ∷ rest) new e = layer_locks draining act rest (out-Statement s) new e

-- ---- what holds of a step that is there

-- what is shown of a step, from what else is shown of it
map_step : (P Q : Step → Type 0) (o : Option Step) → ((s : Step) → o ≡ Some s → P s → Q s) → AfterStep o P → AfterStep o Q
map_step P Q None h k = tt
map_step P Q (Some s) h k = h s refl k

-- what is shown of a step that is there
pub at_step : (P : Step → Type 0) (o : Option Step) (s : Step) → AfterStep o P → o ≡ Some s → P s
at_step P None s k e = absurd (cc)
at_step P (Some r) s k e = let same : r ≡ s = cc in subst P same k

-- a step that there isn't
none_step : (P : Step → Type 0) (o : Option Step) → ((s : Step) → o ≡ Some s → ⊥) → AfterStep o P
none_step P None h = tt
none_step P (Some s) h = absurd (h s refl)

-- a step that there is where a test doesn't hold
untested : (b : Bool) (o : Option Step) (s : Step) → (if b then None else o) ≡ Some s → b ≡ false
untested true o s e = absurd (cc)
untested false o s e = refl

module _ (p : List Filter) (m : Moment) (k : Kept p m) (f : ℕ) where
  abbrev w : World
  w = m.world

  -- actors and activations are as many
  pub as_many : length w.actors ≡ length w.activations
  as_many = k.long ∙ sym (ap length k.same ∙ length-map k.shadows plain)

  -- ---- steps of activations

  -- an activation that goes on is there
  pub there_on : (a : ℕ) → (activation_at w a).ended ≡ false → a < length w.activations
  there_on a on = within w.activations a nobody
      (λ d. let bad : true ≡ false = ap (λ (act : Activation). act.ended) (sym d) ∙ on in absurd (cc))

  -- a step of another filter's activation leaves nothing of the filter
  left_passes : (a : ℕ) (ne : (actor_at w a).filter ≢ f) (there : a < length w.activations) (s : Step) → LeavesIt w a f ne there s →
      Passes f w s.world
  left_passes a ne there s l = passes_by f w as_many s.world l.apart.presences l.held l.visited (λ d e. record {
    frames = omega (arith, e.frames, l.apart.frames);
    queue = l.apart.queue ∙ e.queue;
    items = omega (arith, e.items, l.apart.items);
    links = omega (arith, e.links, l.apart.links);
    active = λ b same. elim (cases_eq b a) [
      | inl is ↦
          let own : (actor_at w a).filter ≡ f =
          ap (λ i. (actor_at w i).filter) (sym is) ∙ (ap (λ l. (get_or l b no_actor).filter) (sym l.actors) ∙ same) in
          absurd (ne own)
      | inr other ↦ ap (λ (act : Activation). act.ended) (l.others b other)
          ∙ e.active b (ap (λ l. (get_or l b no_actor).filter) (sym l.actors) ∙ same)
    ];
  })

  -- a step of the filter's own activation: there is none where nothing of the filter is left
  own_passes : (a : ℕ) → (actor_at w a).filter ≡ f → (activation_at w a).ended ≡ false → (s : Step) →
      s.world.store.presences ≡ w.store.presences → (AreHeld w → AreHeld s.world) →
      (AreVisited w.store → AreVisited s.world.store) → Passes f w s.world
  own_passes a same on s presences held visited = passes_by f w as_many s.world presences held visited
      (λ d e. let bad : true ≡ false = sym (e.active a same) ∙ on in absurd (cc))

  not_next : (n : ℕ) → n ≢ suc n
  not_next n e = absurd (omega (arith, e))

  on_board : (a : ℕ) (grant : Bool) (s : Step) → next p m (Board a grant) ≡ Some s → (activation_at w a).ended ≡ false
  on_board a grant s e = untested (activation_at w a).ended (list_step p m.trace w a (activation_at w a).rest grant) s e

  board_passes : (a : ℕ) (grant : Bool) → AfterStep (next p m (Board a grant)) (λ s. Passes f w s.world)
  board_passes a grant = elim (cases_lt a (length w.activations)) [
    | inl there ↦ elim (cases_eq (actor_at w a).filter f) [
      | inl same ↦
          let g = suc (actor_at w a).filter in
          map_step (LeavesIt w a g (not_next (actor_at w a).filter) there) (λ s. Passes f w s.world) (next p m (Board a grant))
          (λ s e l. own_passes a same (on_board a grant s e) s l.apart.presences l.held l.visited)
          (board_apart p m k a grant g (not_next (actor_at w a).filter) there)
      | inr ne ↦ map_step (LeavesIt w a f ne there) (λ s. Passes f w s.world) (next p m (Board a grant))
          (λ s e l. left_passes a ne there s l)
          (board_apart p m k a grant f ne there)
    ]
    | inr past ↦ none_step (λ s. Passes f w s.world) (next p m (Board a grant))
        (λ s e. let h = there_on a (on_board a grant s e) in absurd (omega (arith, h, past)))
  ]

  moved_passes : (a : ℕ) → (activation_at w a).ended ≡ false → (o : Option Activation) →
      ((act : Activation) → o ≡ Some act → act.locks ≡ (activation_at w a).locks) →
      AfterStep (option_map (moved_on p m.trace w a) o) (λ s. Passes f w s.world)
  moved_passes a on None locks = tt
  moved_passes a on (Some act) locks = elim (cases_eq (actor_at w a).filter f) [
    | inl same ↦
        let g = suc (actor_at w a).filter in
        let l = still w a g (not_next (actor_at w a).filter) (there_on a on) act (locks act refl) in
        own_passes a same on (moved_on p m.trace w a act) refl l.held l.visited
    | inr ne ↦ left_passes a ne (there_on a on) (moved_on p m.trace w a act) (still w a f ne (there_on a on) act (locks act refl))
  ]

  local_passes : (a : ℕ) → AfterStep (next p m (Local a)) (λ s. Passes f w s.world)
  local_passes a = by (activation_at w a).ended refl
    where
      by : (b : Bool) → (activation_at w a).ended ≡ b →
          AfterStep (if b then None else option_map (moved_on p m.trace w a)
          (local_step (actor_at w a).draining (activation_at w a) (activation_at w a).rest)) (λ s. Passes f w s.world)
      by true on = tt
      by false on = moved_passes a on (local_step (actor_at w a).draining (activation_at w a) (activation_at w a).rest)
          (local_locks (actor_at w a).draining (activation_at w a) (activation_at w a).rest)

  -- each step
  pub step_passes : (x : Transition) → AfterStep (next p m x) (λ s. Passes f w s.world)
  step_passes (Make x) = move_passes p f w as_many k.settled_long x
  step_passes (Local a) = local_passes a
  step_passes (Board a grant) = board_passes a grant

-- ---- runs

-- the invariant, and that nothing is left of a filter that is detached
pub record Rests (p : List Filter) (m : Moment) : Type 0 where
  pub kept : Kept p m
  pub rest : (f : ℕ) → presence_at m.world.store f ≡ Detached → IsEmpty f m.world
  -- who holds a lock has it in its list
  pub held : AreHeld m.world
  -- an operation that stands in a visit has it
  pub visited : AreVisited m.world.store
  -- each filter is there, or was
  pub filters : length m.world.store.presences ≡ length p

-- before the first move nothing is there
opening_rests : (p : List Filter) → Rests p (start p)
opening_rests p = record {
  kept = opens p;
  rest = λ f e. record {
    frames = refl;
    queue = no_queue p f;
    items = refl;
    links = refl;
    active = λ a h. refl;
  };
  held = λ f n. no_holder p f n;
  visited = λ o h. absurd (cc);
  filters = length-map p (λ _. Attached);
}
  where
    eight : (n : ℕ) (P : Holder → Type 0) → Each P (get_or (replicate 8 []) n [])
    eight zero P = tt
    eight (suc zero) P = tt
    eight (suc (suc zero)) P = tt
    eight (suc (suc (suc zero))) P = tt
    eight (suc (suc (suc (suc zero)))) P = tt
    eight (suc (suc (suc (suc (suc zero))))) P = tt
    eight (suc (suc (suc (suc (suc (suc zero)))))) P = tt
    eight (suc (suc (suc (suc (suc (suc (suc zero))))))) P = tt
    eight (suc (suc (suc (suc (suc (suc (suc (suc n)))))))) P = tt

    no_holder_of : (q : List Filter) (P : Holder → Type 0) (f n : ℕ) →
        Each P (get_or (get_or (map (λ (_ : Filter). replicate 8 []) q) f []) n [])
    no_holder_of [] P f n = tt
    no_holder_of (x ∷ q) P zero n = eight n P
    no_holder_of (x ∷ q) P (suc f) n = no_holder_of q P f n

    no_holder : (q : List Filter) (f n : ℕ) → Each (Holds (opening p) f n) (get_or (holders_at (opening q).store f) n [])
    no_holder q f n = no_holder_of q (Holds (opening p) f n) f n

    no_queue : (q : List Filter) (f : ℕ) → queue_at (opening q).store f ≡ []
    no_queue [] f = refl
    no_queue (x ∷ q) zero = refl
    no_queue (x ∷ q) (suc f) = no_queue q f

module _ (laws : Laws) (p : List Filter) (ok : AreAccepted p) where
  -- a step keeps it
  pub rests_on : (m : Moment) → Rests p m → (x : Transition) (s : Step) → next p m x ≡ Some s → Rests p (after m s)
  rests_on m r x s e =
      let good = at_step (Good p m) (next p m x) s (step_good laws p ok m r.kept x) e in
      record {
        kept = good.kept;
        rest = λ g. (at_step (λ s. Passes g m.world s.world) (next p m x) s (step_passes p m r.kept g x) e).empty (r.rest g);
        held = (at_step (λ s. Passes 0 m.world s.world) (next p m x) s (step_passes p m r.kept 0 x) e).held r.held;
        visited = (at_step (λ s. Passes 0 m.world s.world) (next p m x) s (step_passes p m r.kept 0 x) e).visited r.visited;
        filters = (at_step (λ s. Passes 0 m.world s.world) (next p m x) s (step_passes p m r.kept 0 x) e).filters ∙ r.filters;
      }

  -- what is shown of a moment after a run, for one filter: nothing is left of a detached one, and it stays so
  pub record Later (f : ℕ) (m later : Moment) : Type 0 where
    pub rests : Rests p later
    pub stays : presence_at m.world.store f ≡ Detached → presence_at later.world.store f ≡ Detached

  -- a step, and what follows it
  on_one : (f : ℕ) (xs : List Transition) (m last : Moment) → Rests p m → (x : Transition) (o : Option Step) → next p m x ≡ o →
      ((s : Step) → Rests p (after m s) → run_from p (after m s) xs ≡ Some last → Later f (after m s) last) →
      option_and_then (λ s. run_from p (after m s) xs) o ≡ Some last → Later f m last
  on_one f xs m last r x None is h e = absurd (cc)
  on_one f xs m last r x (Some s) is h e =
      let l = h s (rests_on m r x s is) e in
      let pass = at_step (λ s. Passes f m.world s.world) (next p m x) s (step_passes p m r.kept f x) is in
      record { rests = l.rests; stays = λ d. l.stays (pass.stays d) }

  -- all three parts hold for one filter after any further transitions that lead from such a moment
  pub later : (f : ℕ) (xs : List Transition) (m last : Moment) → Rests p m → run_from p m xs ≡ Some last → Later f m last
  later f [] m last r e = let same : m ≡ last = cc in subst (λ n. Later f m n) same (record { rests = r; stays = λ d. d })
  later f (x ∷ xs) m last r e = on_one f xs m last r x (next p m x) refl (λ s k h. later f xs (after m s) last k h) e

  -- a run from a run is a run, at the end of which all rests
  pub rests_after : (xs : List Transition) (m : Moment) → run p xs ≡ Some m → Rests p m
  rests_after xs m e = (later 0 xs (start p) m (opening_rests p) e).rests

  -- nothing is left of a filter that was detached
  pub nothing_left : (xs more : List Transition) (m last : Moment) (f : ℕ) → run p xs ≡ Some m → presence_at m.world.store f ≡ Detached →
      run_from p m more ≡ Some last → IsGone last.world f
  nothing_left xs more m last f e d r =
      let l = later f more m last (rests_after xs m e) r in
      gone p last l.rests.kept f (l.rests.rest f (l.stays d)) l.rests.held

-- unloading leaks nothing
pub unloading_leaks_nothing : Laws → UnloadingLeaksNothing
unloading_leaks_nothing laws p xs more m last f ok e d r = nothing_left laws p ok xs more m last f e d r
