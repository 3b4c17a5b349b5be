-- What holds of the steps of all moves, by what a move does to the store and which callback it starts.
use Rattle.std.proofs.Common.{◌≡◌, ℕ, ◌+◌, Bool, true, false, List, [], Option, Some, None, length, subst, refl}
use Rattle.std.proofs.Math.ListN.{set}
use Rattle.std.specs.Prelude.{not, ◌&&◌, ◌||◌, nat_lt, if◌then◌else◌, find}
use Rattle.flt_rules.specs.Place.{fits_mode}
use Rattle.flt_rules.specs.declared.place.Operation.{Operation}
use Rattle.flt_tree.specs.declared.filter.Filter.{Filter}
use Rattle.flt_tree.specs.declared.filter.Statement.{Statement}
use Rattle.flt_model.specs.declared.moves.Move.{Move}
use Rattle.flt_model.specs.declared.moves.Move.TheVariants.{Arrive, Pre, Skip, Lower, Post, Cancel, Canceled}
use Rattle.flt_model.specs.declared.moves.Move.TheVariants.{Work, Detach, Drain, Unlink, Detached}
use Rattle.flt_model.specs.Effects.{Step, freed_by_drop, after_unlink}
use Rattle.flt_model.specs.Moves.{stores, starts, with_visit, with_arrival, calls_pre, pre_at, pre_of, skip_at}
use Rattle.flt_model.specs.Moves.{carried_out, lower_at, last_frame, post_by, post_at, is_done, is_entry_of, other_entries}
use Rattle.flt_model.specs.Moves.{canceled_by, work_by, is_frame_of, drain_by, unlink_by, is_drained, make}
use Rattle.flt_model.specs.Program.{filter_of}
use Rattle.flt_model.specs.declared.parts.Arrival.{Arrival}
use Rattle.flt_model.specs.declared.parts.Entry.{Entry}
use Rattle.flt_model.specs.declared.parts.Item.{Item}
use Rattle.flt_model.specs.declared.parts.Position.{Position}
use Rattle.flt_model.specs.declared.parts.Position.TheVariants.{Down, Visiting, Up}
use Rattle.flt_model.specs.declared.parts.Presence.{Presence}
use Rattle.flt_model.specs.World.{World, Actor, Frame, Route}
use Rattle.flt_model.specs.World.{Visit, is_attached, is_detaching, presence_at, queue_at, arrival_at}
use Rattle.flt_model.specs.World.{route_at, item_at, linked_at, with_route, with_queue, with_presence}

-- ---- each kind of move

-- something holds of the step of each kind of move
pub record EachMove (R : Step → Type 0) (w : World) : Type 0 where
  pub routes : (o : ℕ) (r : Route) → R (stores w (with_route w.store o r) [])
  pub arrives : (arrival : Arrival) → R (stores w (with_arrival w.store arrival) [])
  pub presences : (f : ℕ) (presence : Presence) → R (stores w (with_presence w.store f presence) [])
  pub unlinks : (x : ℕ) → R (stores w (after_unlink w.store x None) (freed_by_drop w.store x))
  -- a pre or a post callback starts, about a new visit
  pub visits : (o : ℕ) (r : Route) (visit : Visit) (actor : Actor) (body : List Statement) (arg : Option ℕ) →
      R (starts w (with_visit (with_route w.store o r) visit) actor body (Some (length w.store.visits)) arg)
  -- an entry leaves its queue
  pub entries : (f o : ℕ) (e : Entry) (actor : Actor) (body : List Statement) →
      find (is_entry_of w.store o) (queue_at w.store f) ≡ Some e →
      R (starts w (with_queue w.store f (other_entries w.store o (queue_at w.store f))) actor body (Some e.visit) e.context)
  -- a work item is carried out
  pub items : (i : ℕ) (item : Item) (actor : Actor) (body : List Statement) → item_at w.store i ≡ Some item →
      R (starts w (record w.store { items = set w.store.items i None }) actor body item.visit item.context)

module _ (R : Step → Type 0) (p : List Filter) (w : World) (h : EachMove R w) where
  some_move : (r s : Step) → R r → Some r ≡ Some s → R s
  some_move r s k e = let same : r ≡ s = cc in subst (λ q. R q) same k

  if_move : (b : Bool) (r s : Step) → R r → (if b then Some r else None) ≡ Some s → R s
  if_move true r s k e = some_move r s k e
  if_move false r s k e = absurd (cc)

  unless_move : (b : Bool) (r s : Step) → R r → (if b then None else Some r) ≡ Some s → R s
  unless_move true r s k e = absurd (cc)
  unless_move false r s k e = some_move r s k e

  when_move : (b : Bool) (o : Option Step) (s : Step) → (o ≡ Some s → R s) → (if b then o else None) ≡ Some s → R s
  when_move true o s k e = k e
  when_move false o s k e = absurd (cc)

  pre_move : (o : ℕ) (kind : Operation) (at : Position) (s : Step) → pre_at p w o kind at ≡ Some s → R s
  pre_move o kind (Down f) s e =
      if_move (nat_lt f (length p) && calls_pre p w.store f kind) (pre_of p w o kind f) s (h.visits _ _ _ _ _ _) e
  pre_move o kind Visiting s e = absurd (cc)
  pre_move o kind Up s e = absurd (cc)

  skip_move : (o : ℕ) (kind : Operation) (at : Position) (s : Step) → skip_at p w o kind at ≡ Some s → R s
  skip_move o kind (Down f) s e =
      if_move (nat_lt f (length p) && not (calls_pre p w.store f kind))
      (stores w (with_route w.store o (record (route_at w.store o) { position = Down (f + 1) })) []) s (h.routes _ _) e
  skip_move o kind Visiting s e = absurd (cc)
  skip_move o kind Up s e = absurd (cc)

  lower_move : (o : ℕ) (at : Position) (s : Step) → lower_at p w o at ≡ Some s → R s
  lower_move o (Down f) s e =
      unless_move (nat_lt f (length p)) (stores w (with_route w.store o (carried_out (route_at w.store o))) []) s (h.routes _ _) e
  lower_move o Visiting s e = absurd (cc)
  lower_move o Up s e = absurd (cc)

  post_frame : (o : ℕ) (route : Route) (frame : Option Frame) (s : Step) → post_by p w o route frame ≡ Some s → R s
  post_frame o route None s e = absurd (cc)
  post_frame o route (Some frame) s e = some_move _ s (h.visits _ _ _ _ _ _) e

  post_move : (o : ℕ) (route : Route) (at : Position) (s : Step) → post_at p w o route at ≡ Some s → R s
  post_move o route Up s e = post_frame o route (last_frame route.frames) s e
  post_move o route (Down f) s e = absurd (cc)
  post_move o route Visiting s e = absurd (cc)

  canceled_entry : (f o : ℕ) (entry : Option Entry) (s : Step) → find (is_entry_of w.store o) (queue_at w.store f) ≡ entry →
      canceled_by p w f o entry ≡ Some s → R s
  canceled_entry f o None s found e = absurd (cc)
  canceled_entry f o (Some entry) s found e = some_move _ s (h.entries f o entry _ _ found) e

  work_item : (i : ℕ) (item : Option Item) (s : Step) → item_at w.store i ≡ item → work_by p w i item ≡ Some s → R s
  work_item i None s found e = absurd (cc)
  work_item i (Some item) s found e = some_move _ s (h.items i item _ _ found) e

  drain_frame : (f o : ℕ) (frame : Option Frame) (s : Step) → drain_by p w f o frame ≡ Some s → R s
  drain_frame f o None s e = absurd (cc)
  drain_frame f o (Some frame) s e = some_move _ s (h.visits _ _ _ _ _ _) e

  unlink_context : (x : Option ℕ) (s : Step) → unlink_by w x ≡ Some s → R s
  unlink_context None s e = absurd (cc)
  unlink_context (Some x) s e = some_move _ s (h.unlinks x) e

  -- what holds of every change of the store and every callback that starts holds of each move's step
  pub each_move : (x : Move) (s : Step) → make p w x ≡ Some s → R s
  each_move (Arrive kind mode file) s e = if_move (fits_mode kind mode && nat_lt file 1024) _ s (h.arrives _) e
  each_move (Pre o) s e = pre_move o (arrival_at w.store o).kind (route_at w.store o).position s e
  each_move (Skip o) s e = skip_move o (arrival_at w.store o).kind (route_at w.store o).position s e
  each_move (Lower o) s e = lower_move o (route_at w.store o).position s e
  each_move (Post o) s e = post_move o (route_at w.store o) (route_at w.store o).position s e
  each_move (Cancel o) s e = unless_move (is_done w.store o || (route_at w.store o).cancelled) _ s (h.routes _ _) e
  each_move (Canceled altitude o) s e =
      let f = filter_of p altitude in
      let entry = find (is_entry_of w.store o) (queue_at w.store f) in
      when_move ((route_at w.store o).cancelled || is_detaching (presence_at w.store f)) (canceled_by p w f o entry) s
      (λ k. canceled_entry f o entry s refl k) e
  each_move (Work i) s e = work_item i (item_at w.store i) s refl e
  each_move (Detach altitude) s e = if_move (is_attached (presence_at w.store (filter_of p altitude))) _ s (h.presences _ _) e
  each_move (Drain altitude o) s e =
      let f = filter_of p altitude in
      let frame = find (is_frame_of f) (route_at w.store o).frames in
      when_move (is_detaching (presence_at w.store f)) (drain_by p w f o frame) s (λ k. drain_frame f o frame s k) e
  each_move (Unlink altitude key) s e =
      let f = filter_of p altitude in
      let x = linked_at w.store (record { filter = f; key = key }) in
      when_move (is_detaching (presence_at w.store f)) (unlink_by w x) s (λ k. unlink_context x s k) e
  each_move (Detached altitude) s e =
      let f = filter_of p altitude in
      if_move (is_detaching (presence_at w.store f) && is_drained w f) _ s (h.presences _ _) e
