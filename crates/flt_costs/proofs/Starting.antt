-- A move starts one activation in a callback, or none; it changes none that is there.
use Rattle.std.proofs.Common.{◌≡◌, ℕ, Bool, true, false, List, length, Option, Some, None, refl, ap, subst}
use Rattle.std.proofs.lemmas.List.Folds.{find_at}
use Rattle.std.specs.List.{position_or_len}
use Rattle.std.specs.Prelude.{◌&&◌, ◌||◌, not, nat_lt, if◌then◌else◌, find}
use Rattle.flt_rules.specs.Place.{fits_mode}
use Rattle.flt_rules.specs.declared.place.Operation.{Operation}
use Rattle.flt_tree.specs.declared.filter.Callback.{Callback}
use Rattle.flt_tree.specs.declared.filter.Filter.{Filter}
use Rattle.flt_tree.specs.declared.filter.Head.{Head}
use Rattle.flt_model.specs.declared.moves.Move.{Move}
use Rattle.flt_model.specs.declared.moves.Move.TheVariants.{Arrive, Pre, Skip, Lower, Post, Cancel, Canceled}
use Rattle.flt_model.specs.declared.moves.Move.TheVariants.{Work, Detach, Drain, Unlink, Detached}
use Rattle.flt_model.specs.Effects.{Step}
use Rattle.flt_model.specs.Moves.{calls_pre, pre_at, skip_at, lower_at, last_frame, pre_of, post_of, post_by, post_at, is_done}
use Rattle.flt_model.specs.Moves.{is_entry_of, canceled_by, work_of, work_by, is_frame_of, drain_by, unlink_by, is_drained, make}
use Rattle.flt_model.specs.Program.{callbacks_at, filter_of, is_pre_of, is_post_of, is_canceled, body_of, body_for, body_at}
use Rattle.flt_model.specs.declared.parts.Entry.{Entry}
use Rattle.flt_model.specs.declared.parts.Item.{Item}
use Rattle.flt_model.specs.declared.parts.Position.{Position}
use Rattle.flt_model.specs.declared.parts.Position.TheVariants.{Down, Visiting, Up}
use Rattle.flt_model.specs.World.{World, Frame, Route, arrival_at, is_attached}
use Rattle.flt_model.specs.World.{is_detaching, item_at, linked_at, presence_at, queue_at, route_at}
use Rattle.flt_costs.specs.Costs.{HasStarted}

-- an activation has started, or there are those that there were
pub data Comes (p : List Filter) (before later : World) : Type 0 where
  one : (a filter callback : ℕ) → HasStarted p a filter callback before later → Comes p before later
  same : later.activations ≡ before.activations → Comes p before later

-- the callback for something stands at a number
body_there : (wanted : Head → Bool) (cs : List Callback) →
    body_for wanted cs ≡ body_at cs (position_or_len (λ (c : Callback). wanted c.head) cs)
body_there wanted cs = ap body_of (find_at (λ (c : Callback). wanted c.head) cs)

module _ (p : List Filter) (w : World) where
  abbrev Came : Step → Type 0
  Came s = Comes p w s.world

  some_came : (r s : Step) → Came r → Some r ≡ Some s → Came s
  some_came r s h e = let equal : r ≡ s = cc in subst (λ (x : Step). Came x) equal h

  when_came : (b : Bool) (o : Option Step) (s : Step) → (o ≡ Some s → Came s) → (if b then o else None) ≡ Some s → Came s
  when_came true o s h e = h e
  when_came false o s h e = absurd (cc)

  unless_came : (b : Bool) (o : Option Step) (s : Step) → (o ≡ Some s → Came s) → (if b then None else o) ≡ Some s → Came s
  unless_came true o s h e = absurd (cc)
  unless_came false o s h e = h e

  -- the callback that is wanted, of a filter
  abbrev at_head : (wanted : Head → Bool) (f : ℕ) → ℕ
  at_head wanted f = position_or_len (λ (c : Callback). wanted c.head) (callbacks_at p f)

  pre_comes : (o : ℕ) (kind : Operation) (at : Position) (s : Step) → pre_at p w o kind at ≡ Some s → Came s
  pre_comes o kind (Down f) s e =
      when_came (nat_lt f (length p) && calls_pre p w.store f kind) _ s
      (λ k. some_came (pre_of p w o kind f) s (one (length w.activations) f (at_head (is_pre_of kind) f) (record {
        actor = _;
        act = _;
        number_is = refl;
        actors_are = refl;
        activations_are = refl;
        filter_is = refl;
        body_is = body_there (is_pre_of kind) (callbacks_at p f);
        goes_on = refl;
      })) k) e
  pre_comes o kind Visiting s e = absurd (cc)
  pre_comes o kind Up s e = absurd (cc)

  skip_comes : (o : ℕ) (kind : Operation) (at : Position) (s : Step) → skip_at p w o kind at ≡ Some s → Came s
  skip_comes o kind (Down f) s e =
      when_came (nat_lt f (length p) && not (calls_pre p w.store f kind)) _ s (λ k. some_came _ s (same refl) k) e
  skip_comes o kind Visiting s e = absurd (cc)
  skip_comes o kind Up s e = absurd (cc)

  lower_comes : (o : ℕ) (at : Position) (s : Step) → lower_at p w o at ≡ Some s → Came s
  lower_comes o (Down f) s e = unless_came (nat_lt f (length p)) _ s (λ k. some_came _ s (same refl) k) e
  lower_comes o Visiting s e = absurd (cc)
  lower_comes o Up s e = absurd (cc)

  post_started : (o : ℕ) (frame : Frame) (draining : Bool) (route : Route) → Came (post_of p w o frame draining route)
  post_started o frame draining route =
      let wanted = is_post_of (arrival_at w.store o).kind in
      one (length w.activations) frame.filter (at_head wanted frame.filter) (record {
        actor = _;
        act = _;
        number_is = refl;
        actors_are = refl;
        activations_are = refl;
        filter_is = refl;
        body_is = body_there wanted (callbacks_at p frame.filter);
        goes_on = refl;
      })

  frame_comes : (o : ℕ) (route : Route) (frame : Option Frame) (s : Step) → post_by p w o route frame ≡ Some s → Came s
  frame_comes o route None s e = absurd (cc)
  frame_comes o route (Some frame) s e = some_came (post_of p w o frame false _) s (post_started o frame false _) e

  post_comes : (o : ℕ) (route : Route) (at : Position) (s : Step) → post_at p w o route at ≡ Some s → Came s
  post_comes o route Up s e = frame_comes o route (last_frame route.frames) s e
  post_comes o route (Down f) s e = absurd (cc)
  post_comes o route Visiting s e = absurd (cc)

  entry_comes : (f o : ℕ) (entry : Option Entry) (s : Step) → canceled_by p w f o entry ≡ Some s → Came s
  entry_comes f o None s e = absurd (cc)
  entry_comes f o (Some entry) s e =
      some_came _ s (one (length w.activations) f (at_head is_canceled f) (record {
        actor = _;
        act = _;
        number_is = refl;
        actors_are = refl;
        activations_are = refl;
        filter_is = refl;
        body_is = body_there is_canceled (callbacks_at p f);
        goes_on = refl;
      })) e

  item_comes : (i : ℕ) (item : Option Item) (s : Step) → work_by p w i item ≡ Some s → Came s
  item_comes i None s e = absurd (cc)
  item_comes i (Some item) s e =
      some_came (work_of p w i item) s (one (length w.activations) item.filter item.routine (record {
        actor = _;
        act = _;
        number_is = refl;
        actors_are = refl;
        activations_are = refl;
        filter_is = refl;
        body_is = refl;
        goes_on = refl;
      })) e

  drain_comes : (f o : ℕ) (frame : Option Frame) (s : Step) → drain_by p w f o frame ≡ Some s → Came s
  drain_comes f o None s e = absurd (cc)
  drain_comes f o (Some frame) s e = some_came (post_of p w o frame true _) s (post_started o frame true _) e

  unlink_comes : (x : Option ℕ) (s : Step) → unlink_by w x ≡ Some s → Came s
  unlink_comes None s e = absurd (cc)
  unlink_comes (Some x) s e = some_came _ s (same refl) e

  -- what a move brings
  pub make_comes : (x : Move) (s : Step) → make p w x ≡ Some s → Came s
  make_comes (Arrive kind mode file) s e = when_came (fits_mode kind mode && nat_lt file 1024) _ s (λ k. some_came _ s (same refl) k) e
  make_comes (Pre o) s e = pre_comes o (arrival_at w.store o).kind (route_at w.store o).position s e
  make_comes (Skip o) s e = skip_comes o (arrival_at w.store o).kind (route_at w.store o).position s e
  make_comes (Lower o) s e = lower_comes o (route_at w.store o).position s e
  make_comes (Post o) s e = post_comes o (route_at w.store o) (route_at w.store o).position s e
  make_comes (Cancel o) s e = unless_came (is_done w.store o || (route_at w.store o).cancelled) _ s (λ k. some_came _ s (same refl) k) e
  make_comes (Canceled altitude o) s e =
      let f = filter_of p altitude in
      let entry = find (is_entry_of w.store o) (queue_at w.store f) in
      when_came ((route_at w.store o).cancelled || is_detaching (presence_at w.store f)) (canceled_by p w f o entry) s
      (λ k. entry_comes f o entry s k) e
  make_comes (Work i) s e = item_comes i (item_at w.store i) s e
  make_comes (Detach altitude) s e =
      when_came (is_attached (presence_at w.store (filter_of p altitude))) _ s (λ k. some_came _ s (same refl) k) e
  make_comes (Drain altitude o) s e =
      let f = filter_of p altitude in
      let frame = find (is_frame_of f) (route_at w.store o).frames in
      when_came (is_detaching (presence_at w.store f)) (drain_by p w f o frame) s (λ k. drain_comes f o frame s k) e
  make_comes (Unlink altitude key) s e =
      let f = filter_of p altitude in
      let x = linked_at w.store (record { filter = f; key = key }) in
      when_came (is_detaching (presence_at w.store f)) (unlink_by w x) s (λ k. unlink_comes x s k) e
  make_comes (Detached altitude) s e =
      let f = filter_of p altitude in
      when_came (is_detaching (presence_at w.store f) && is_drained w f) _ s (λ k. some_came _ s (same refl) k) e
