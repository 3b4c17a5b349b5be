-- What a transition is said to start, it starts.
use Rattle.std.proofs.Common.{◌≡◌, ℕ, Bool, true, false, List, length, Option, Some, None, refl, ap, subst, ◌∙◌}
use Rattle.std.proofs.lemmas.List.{length-set}
use Rattle.std.specs.Prelude.{◌&&◌, ◌||◌, not, if◌then◌else◌, nat_lt, find, option_map}
use Rattle.flt_rules.specs.Place.{fits_mode}
use Rattle.flt_rules.specs.declared.place.Operation.{Operation}
use Rattle.flt_tree.specs.Registered.{is_pre_of, is_post_of}
use Rattle.flt_tree.specs.declared.filter.Filter.{Filter}
use Rattle.flt_costs.specs.Costs.{Spends}
use Rattle.flt_model.specs.declared.event.Event.{Event}
use Rattle.flt_model.specs.declared.moves.Move.{Move}
use Rattle.flt_model.specs.declared.moves.Move.TheVariants as move
use Rattle.flt_model.specs.Effects.{Step}
use Rattle.flt_model.specs.Moves.{calls_pre, pre_at, skip_at, lower_at, last_frame, pre_of, post_of, post_by, post_at, is_done}
use Rattle.flt_model.specs.Moves.{is_entry_of, canceled_by, work_of, work_by, is_frame_of, drain_by, unlink_by, is_drained, make}
use Rattle.flt_model.specs.Program.{callbacks_at, filter_of, is_canceled}
use Rattle.flt_model.specs.Runs.{Moment, next}
use Rattle.flt_model.specs.Steps.{Transition, Make, Local, Board, board, local}
use Rattle.flt_model.specs.declared.parts.Entry.{Entry}
use Rattle.flt_model.specs.declared.parts.Item.{Item}
use Rattle.flt_model.specs.declared.parts.Position.{Position}
use Rattle.flt_model.specs.declared.parts.Position.TheVariants.{Down, Visiting, Up}
use Rattle.flt_model.specs.World.{World, Activation, Frame, Route, arrival_at}
use Rattle.flt_model.specs.World.{is_attached, is_detaching, item_at, linked_at, presence_at, queue_at, route_at}
use Rattle.flt_starts.specs.Starts.{Callee, Starts, callee, pre_callee, post_callee, item_callee, started_by, starts_callback}
use Rattle.flt_starts.proofs.Found.{body_found}

-- this callback has started, or there are the activations that there were
abbrev pub Begins : List Filter → Option Callee → World → World → Type 0
Begins p None before later = length later.activations ≡ length before.activations
Begins p (Some c) before later = Starts p c before later

module _ (p : List Filter) (w : World) where
  abbrev To : Option Callee → Step → Type 0
  To c s = Begins p c w s.world

  some_begins : (c : Option Callee) (r s : Step) → To c r → Some r ≡ Some s → To c s
  some_begins c r s h e = let same : r ≡ s = cc in subst (To c) same h

  when_begins : (c : Option Callee) (b : Bool) (o : Option Step) (s : Step) →
      (o ≡ Some s → To c s) → (if b then o else None) ≡ Some s → To c s
  when_begins c true o s h e = h e
  when_begins c false o s h e = absurd (cc)

  unless_begins : (c : Option Callee) (b : Bool) (o : Option Step) (s : Step) →
      (o ≡ Some s → To c s) → (if b then None else o) ≡ Some s → To c s
  unless_begins c true o s h e = absurd (cc)
  unless_begins c false o s h e = h e

  pre_begins : (o : ℕ) (kind : Operation) (at : Position) (s : Step) → pre_at p w o kind at ≡ Some s → To (pre_callee p kind at) s
  pre_begins o kind (Down f) s e =
      when_begins (Some (callee p (is_pre_of kind) f)) (nat_lt f (length p) && calls_pre p w.store f kind) _ s
      (λ k.
      some_begins (Some (callee p (is_pre_of kind) f)) (pre_of p w o kind f) s
      (record {
        actor = _;
        act = _;
        actors_are = refl;
        activations_are = refl;
        filter_is = refl;
        body_is = body_found (is_pre_of kind) (callbacks_at p f);
      }) k) e
  pre_begins o kind Visiting s e = absurd (cc)
  pre_begins o kind Up s e = absurd (cc)

  skip_begins : (o : ℕ) (kind : Operation) (at : Position) (s : Step) → skip_at p w o kind at ≡ Some s → To None s
  skip_begins o kind (Down f) s e =
      when_begins None (nat_lt f (length p) && not (calls_pre p w.store f kind)) _ s (λ k. some_begins None _ s refl k) e
  skip_begins o kind Visiting s e = absurd (cc)
  skip_begins o kind Up s e = absurd (cc)

  lower_begins : (o : ℕ) (at : Position) (s : Step) → lower_at p w o at ≡ Some s → To None s
  lower_begins o (Down f) s e = unless_begins None (nat_lt f (length p)) _ s (λ k. some_begins None _ s refl k) e
  lower_begins o Visiting s e = absurd (cc)
  lower_begins o Up s e = absurd (cc)

  post_begins : (o : ℕ) (frame : Frame) (draining : Bool) (route : Route) →
      To (Some (post_callee p (arrival_at w.store o).kind frame)) (post_of p w o frame draining route)
  post_begins o frame draining route = record {
    actor = _;
    act = _;
    actors_are = refl;
    activations_are = refl;
    filter_is = refl;
    body_is = body_found (is_post_of (arrival_at w.store o).kind) (callbacks_at p frame.filter);
  }

  frame_begins : (o : ℕ) (route : Route) (frame : Option Frame) (s : Step) → post_by p w o route frame ≡ Some s →
      To (option_map (post_callee p (arrival_at w.store o).kind) frame) s
  frame_begins o route None s e = absurd (cc)
  frame_begins o route (Some frame) s e =
      some_begins (Some (post_callee p (arrival_at w.store o).kind frame)) (post_of p w o frame false _) s (post_begins o frame false _) e

  up_begins : (o : ℕ) (route : Route) (at : Position) (s : Step) → post_at p w o route at ≡ Some s →
      To (option_map (post_callee p (arrival_at w.store o).kind) (last_frame route.frames)) s
  up_begins o route Up s e = frame_begins o route (last_frame route.frames) s e
  up_begins o route (Down f) s e = absurd (cc)
  up_begins o route Visiting s e = absurd (cc)

  entry_begins : (f o : ℕ) (entry : Option Entry) (s : Step) → canceled_by p w f o entry ≡ Some s → To (Some (callee p is_canceled f)) s
  entry_begins f o None s e = absurd (cc)
  entry_begins f o (Some entry) s e =
      some_begins (Some (callee p is_canceled f)) _ s
      (record {
        actor = _;
        act = _;
        actors_are = refl;
        activations_are = refl;
        filter_is = refl;
        body_is = body_found is_canceled (callbacks_at p f);
      }) e

  item_begins : (i : ℕ) (item : Option Item) (s : Step) → work_by p w i item ≡ Some s → To (option_map item_callee item) s
  item_begins i None s e = absurd (cc)
  item_begins i (Some item) s e =
      some_begins (Some (item_callee item)) (work_of p w i item) s
      (record { actor = _; act = _; actors_are = refl; activations_are = refl; filter_is = refl; body_is = refl }) e

  drain_begins : (f o : ℕ) (frame : Option Frame) (s : Step) →
      drain_by p w f o frame ≡ Some s → To (option_map (post_callee p (arrival_at w.store o).kind) frame) s
  drain_begins f o None s e = absurd (cc)
  drain_begins f o (Some frame) s e =
      some_begins (Some (post_callee p (arrival_at w.store o).kind frame)) (post_of p w o frame true _) s (post_begins o frame true _) e

  unlink_begins : (x : Option ℕ) (s : Step) → unlink_by w x ≡ Some s → To None s
  unlink_begins None s e = absurd (cc)
  unlink_begins (Some x) s e = some_begins None _ s refl e

  -- what a move starts
  make_begins : (x : Move) (s : Step) → make p w x ≡ Some s → To (started_by p w x) s
  make_begins (move.Arrive kind mode file) s e =
      when_begins None (fits_mode kind mode && nat_lt file 1024) _ s (λ k. some_begins None _ s refl k) e
  make_begins (move.Pre o) s e = pre_begins o (arrival_at w.store o).kind (route_at w.store o).position s e
  make_begins (move.Skip o) s e = skip_begins o (arrival_at w.store o).kind (route_at w.store o).position s e
  make_begins (move.Lower o) s e = lower_begins o (route_at w.store o).position s e
  make_begins (move.Post o) s e = up_begins o (route_at w.store o) (route_at w.store o).position s e
  make_begins (move.Cancel o) s e =
      unless_begins None (is_done w.store o || (route_at w.store o).cancelled) _ s (λ k. some_begins None _ s refl k) e
  make_begins (move.Canceled altitude o) s e =
      let f = filter_of p altitude in
      let entry = find (is_entry_of w.store o) (queue_at w.store f) in
      when_begins (Some (callee p is_canceled f)) ((route_at w.store o).cancelled || is_detaching (presence_at w.store f))
      (canceled_by p w f o entry) s (λ k. entry_begins f o entry s k) e
  make_begins (move.Work i) s e = item_begins i (item_at w.store i) s e
  make_begins (move.Detach altitude) s e =
      when_begins None (is_attached (presence_at w.store (filter_of p altitude))) _ s (λ k. some_begins None _ s refl k) e
  make_begins (move.Drain altitude o) s e =
      let f = filter_of p altitude in
      let frame = find (is_frame_of f) (route_at w.store o).frames in
      when_begins (option_map (post_callee p (arrival_at w.store o).kind) frame) (is_detaching (presence_at w.store f))
      (drain_by p w f o frame) s (λ k. drain_begins f o frame s k) e
  make_begins (move.Unlink altitude key) s e =
      let f = filter_of p altitude in
      let x = linked_at w.store (record { filter = f; key = key }) in
      when_begins None (is_detaching (presence_at w.store f)) (unlink_by w x) s (λ k. unlink_begins x s k) e
  make_begins (move.Detached altitude) s e =
      let f = filter_of p altitude in
      when_begins None (is_detaching (presence_at w.store f) && is_drained w f) _ s (λ k. some_begins None _ s refl k) e

-- what flt_costs proves of steps: they leave the other activations as they are
pub record Spending : Type 0 where
  pub hidden : (p : List Filter) (t : List Event) (w : World) (a : ℕ) (s : Step) → local p t w a ≡ Some s → Spends w a s.world.activations
  pub seen : (p : List Filter) (t : List Event) (w : World) (a : ℕ) (grant : Bool) (s : Step) → board p t w a grant ≡ Some s →
      Spends w a s.world.activations

as_many : (w : World) (a : ℕ) (acts : List Activation) → Spends w a acts → length acts ≡ length w.activations
as_many w a acts h = ap (λ (l : List Activation). length l) h.acts_are ∙ length-set w.activations a h.act

-- what a transition starts
begins : Spending → (p : List Filter) (m : Moment) (x : Transition) (s : Step) → next p m x ≡ Some s →
    Begins p (starts_callback p m.world x) m.world s.world
begins h p m (Make x) s e = make_begins p m.world x s e
begins h p m (Local a) s e = as_many m.world a s.world.activations (h.hidden p m.trace m.world a s e)
begins h p m (Board a grant) s e = as_many m.world a s.world.activations (h.seen p m.trace m.world a grant s e)

-- a transition that is said to start a callback starts that one
pub one : Spending → (p : List Filter) (m : Moment) (x : Transition) (s : Step) (c : Callee) → next p m x ≡ Some s →
    starts_callback p m.world x ≡ Some c → Starts p c m.world s.world
one h p m x s c e is = subst (λ (o : Option Callee). Begins p o m.world s.world) is (begins h p m x s e)

-- a transition that is said to start no callback starts no activation
pub none : Spending → (p : List Filter) (m : Moment) (x : Transition) (s : Step) → next p m x ≡ Some s →
    starts_callback p m.world x ≡ None → length s.world.activations ≡ length m.world.activations
none h p m x s e is = subst (λ (o : Option Callee). Begins p o m.world s.world) is (begins h p m x s e)
