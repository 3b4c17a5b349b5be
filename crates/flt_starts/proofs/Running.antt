-- Every run keeps a world as it has to stay, and there no callback starts but one that may.
use Rattle.std.proofs.Common.{◌≡◌, ℕ, zero, suc, Bool, true, false, List, [], ◌∷◌, length}
use Rattle.std.proofs.Common.{Option, Some, None, IfSome, refl, sym, ap, subst, ◌∙◌}
use Rattle.std.proofs.Math.ListN.{get_or}
use Rattle.std.proofs.lemmas.List.Elements.{All-nil}
use Rattle.std.specs.List.{All}
use Rattle.std.specs.Prelude.{◌&&◌, ◌||◌, if◌then◌else◌, nat_lt, find, option_and_then, option_map}
use Rattle.flt_rules.specs.declared.place.Operation.{Operation}
use Rattle.flt_tree.specs.Registered.{is_pre_of, is_post_of}
use Rattle.flt_tree.specs.declared.filter.Callback.{Callback}
use Rattle.flt_tree.specs.declared.filter.Filter.{Filter}
use Rattle.flt_tree.specs.declared.filter.Head.{Head}
use Rattle.flt_model.specs.declared.moves.Move.{Move}
use Rattle.flt_model.specs.declared.moves.Move.TheVariants as move
use Rattle.flt_model.specs.Effects.{Step}
use Rattle.flt_model.specs.Moves.{calls_pre, pre_at, last_frame, pre_of, is_frame_of, is_entry_of, canceled_by, make}
use Rattle.flt_model.specs.Program.{callbacks_at, filter_of, is_canceled}
use Rattle.flt_model.specs.Runs.{Moment, start, after, next, run, run_from}
use Rattle.flt_model.specs.Steps.{Transition, Make, Local, Board}
use Rattle.flt_model.specs.declared.parts.Entry.{Entry}
use Rattle.flt_model.specs.declared.parts.Item.{Item}
use Rattle.flt_model.specs.declared.parts.Position.{Position}
use Rattle.flt_model.specs.declared.parts.Position.TheVariants.{Down, Visiting, Up}
use Rattle.flt_model.specs.World.{World, Frame, arrival_at, is_detaching}
use Rattle.flt_model.specs.World.{item_at, no_arrival, opening, presence_at, queue_at, route_at}
use Rattle.flt_starts.specs.Closed.{IsClosed, number_for}
use Rattle.flt_starts.specs.Starts.{Callee, callee, pre_callee, post_callee, item_callee, started_by, starts_callback, NeverStarts}
use Rattle.flt_starts.proofs.Kept.{Setting, callbacks, Waits, Queued, Framed, Kept}
use Rattle.flt_starts.proofs.Lists.{find_all, last_all}
use Rattle.flt_starts.proofs.Moving.{calls_one, make_stays}
use Rattle.flt_starts.proofs.Stepping.{board_stays, local_stays}

-- ---- runs

-- no queue has an entry before the first move
opening_queue : (P : Entry → Type 0) (p : List Filter) (g : ℕ) → All P (get_or (opening p).store.queues g [])
opening_queue P [] g = All-nil P
opening_queue P (f ∷ p) zero = All-nil P
opening_queue P (f ∷ p) (suc g) = opening_queue P p g

-- what holds of the one that is there, if it is
where_some : {A : Type 0} (P : A → Type 0) (o : Option A) → ((x : A) → o ≡ Some x → P x) → IfSome o P
where_some P None h = tt
where_some P (Some x) h = h x refl

module _ (q : Setting) where
  opening_kept : Kept q (opening q.filters)
  opening_kept = record {
    store = record {
      as_many = refl;
      framed = λ o. All-nil (Framed q no_arrival);
      waiting = λ g. opening_queue (Waits q [] [] g) q.filters g;
      queued = λ i. tt;
    };
    as_many = refl;
    runs = λ b. record { owned = λ d v e. absurd (cc); fits = λ v e. absurd (cc); within = λ own. refl };
  }

  step_kept : (m : Moment) (x : Transition) (s : Step) → Kept q m.world → next q.filters m x ≡ Some s → Kept q s.world
  step_kept m (Make x) s k e = make_stays q m.world k x s e
  step_kept m (Local a) s k e = local_stays q m.world k a m.trace s e
  step_kept m (Board a grant) s k e = board_stays q m.world k a m.trace grant s e

  run_kept : (m n : Moment) (xs : List Transition) → Kept q m.world → run_from q.filters m xs ≡ Some n → Kept q n.world
  run_kept m n [] k e = let equal : m ≡ n = cc in subst (λ (l : Moment). Kept q l.world) equal k
  run_kept m n (x ∷ xs) k e = by (next q.filters m x) refl e (λ s kept h. run_kept (after m s) n xs kept h)
    where
      by : (o : Option Step) → next q.filters m x ≡ o → option_and_then (λ s. run_from q.filters (after m s) xs) o ≡ Some n →
          ((s : Step) → Kept q s.world → run_from q.filters (after m s) xs ≡ Some n → Kept q n.world) → Kept q n.world
      by None is h rest = absurd (cc)
      by (Some s) is h rest = rest s (step_kept m x s k is) h

  -- ---- what starts

  module _ (w : World) (k : Kept q w) (n : ℕ) where
    abbrev mine : Callee
    mine = record { filter = q.own; callback = n }

    -- the callback for something, of the filter
    is_mine : (test : Head → Bool) (f : ℕ) → (f ≡ q.own → q.may_start (number_for test (callbacks q)) ≡ true) →
        Some (callee q.filters test f) ≡ Some mine → q.may_start n ≡ true
    is_mine test f may e =
        let equal : callee q.filters test f ≡ mine = cc in
        let own = ap (λ (c : Callee). c.filter) equal in
        let number = ap (λ (c : Callee). c.callback) equal in
        subst (λ (i : ℕ). q.may_start i ≡ true)
        (ap (λ (g : ℕ). number_for test (callbacks_at q.filters g)) (sym own) ∙ number) (may own)

    pre_may : (kind : Operation) (o : ℕ) (at : Position) (s : Step) → pre_at q.filters w o kind at ≡ Some s →
        pre_callee q.filters kind at ≡ Some mine → q.may_start n ≡ true
    pre_may kind o (Down f) s e h = by (nat_lt f (length q.filters) && calls_pre q.filters w.store f kind) refl e
      where
        by : (b : Bool) → (nat_lt f (length q.filters) && calls_pre q.filters w.store f kind) ≡ b →
            (if b then Some (pre_of q.filters w o kind f) else None) ≡ Some s → q.may_start n ≡ true
        by true is k' = is_mine (is_pre_of kind) f (calls_one q w k kind f is) h
        by false is k' = absurd (cc)
    pre_may kind o Visiting s e h = absurd (cc)
    pre_may kind o Up s e h = absurd (cc)

    frame_may : (o : ℕ) (frame : Option Frame) → IfSome frame (Framed q (arrival_at w.store o)) →
        option_map (post_callee q.filters (arrival_at w.store o).kind) frame ≡ Some mine → q.may_start n ≡ true
    frame_may o None m h = absurd (cc)
    frame_may o (Some frame) m h = is_mine (is_post_of (arrival_at w.store o).kind) frame.filter m h

    entry_may : (f o : ℕ) (entry : Option Entry) (s : Step) → IfSome entry (Waits q w.store.arrivals w.store.visits f) →
        canceled_by q.filters w f o entry ≡ Some s → Some (callee q.filters is_canceled f) ≡ Some mine → q.may_start n ≡ true
    entry_may f o None s m e h = absurd (cc)
    entry_may f o (Some entry) s m e h = is_mine is_canceled f m.1 h

    item_may : (item : Option Item) → IfSome item (Queued q w.store.arrivals w.store.visits) →
        option_map item_callee item ≡ Some mine → q.may_start n ≡ true
    item_may None m h = absurd (cc)
    item_may (Some item) m h =
        let equal : item_callee item ≡ mine = cc in
        subst (λ (i : ℕ). q.may_start i ≡ true) (ap (λ (c : Callee). c.callback) equal) (m.routine (ap (λ (c : Callee). c.filter) equal))

    -- a move that is made
    move_may : (x : Move) (s : Step) → make q.filters w x ≡ Some s → started_by q.filters w x ≡ Some mine → q.may_start n ≡ true
    move_may (move.Arrive kind mode file) s e h = absurd (cc)
    move_may (move.Pre o) s e h = pre_may (arrival_at w.store o).kind o (route_at w.store o).position s e h
    move_may (move.Skip o) s e h = absurd (cc)
    move_may (move.Lower o) s e h = absurd (cc)
    move_may (move.Post o) s e h =
        let P = Framed q (arrival_at w.store o) in
        let frames = (route_at w.store o).frames in
        frame_may o (last_frame frames)
        (where_some P (last_frame frames) (λ frame is. last_all P frames frame (k.store.framed o) is)) h
    move_may (move.Cancel o) s e h = absurd (cc)
    move_may (move.Canceled altitude o) s e h =
        let f = filter_of q.filters altitude in
        let P = Waits q w.store.arrivals w.store.visits f in
        let queue = queue_at w.store f in
        let entry = find (is_entry_of w.store o) queue in
        by ((route_at w.store o).cancelled || is_detaching (presence_at w.store f)) (canceled_by q.filters w f o entry) e
        (λ is.
        entry_may f o entry s
        (where_some P entry (λ x found. find_all P (is_entry_of w.store o) queue x (k.store.waiting f) found)) is h)
      where
        by : (b : Bool) (made : Option Step) → (if b then made else None) ≡ Some s → (made ≡ Some s → q.may_start n ≡ true) →
            q.may_start n ≡ true
        by true made is rest = rest is
        by false made is rest = absurd (cc)
    move_may (move.Work i) s e h = item_may (item_at w.store i) (k.store.queued i) h
    move_may (move.Detach altitude) s e h = absurd (cc)
    move_may (move.Drain altitude o) s e h =
        let P = Framed q (arrival_at w.store o) in
        let frames = (route_at w.store o).frames in
        let test = is_frame_of (filter_of q.filters altitude) in
        frame_may o (find test frames) (where_some P (find test frames) (λ frame is. find_all P test frames frame (k.store.framed o) is)) h
    move_may (move.Unlink altitude key) s e h = absurd (cc)
    move_may (move.Detached altitude) s e h = absurd (cc)

  -- in a run
  run_may : (xs : List Transition) (m : Moment) (x : Transition) (s : Step) (n : ℕ) → run q.filters xs ≡ Some m →
      next q.filters m x ≡ Some s → starts_callback q.filters m.world x ≡ Some (record { filter = q.own; callback = n }) →
      q.may_start n ≡ true
  run_may xs m (Make x) s n r e h = move_may m.world (run_kept (start q.filters) m xs opening_kept r) n x s e h
  run_may xs m (Local a) s n r e h = absurd (cc)
  run_may xs m (Board a grant) s n r e h = absurd (cc)

-- only a callback of the set starts
pub law : (p : List Filter) (f : ℕ) (may_start : ℕ → Bool) (xs : List Transition) (m : Moment) (x : Transition) (s : Step) (n : ℕ) →
    IsClosed (callbacks_at p f) may_start → run p xs ≡ Some m → next p m x ≡ Some s →
    starts_callback p m.world x ≡ Some (record { filter = f; callback = n }) → may_start n ≡ true
law p f may_start xs m x s n closed r e h =
    run_may (record { filters = p; own = f; may_start = may_start; closed = closed }) xs m x s n r e h

-- so one outside of it never does
pub never : (cs : List Callback) (may_start : ℕ → Bool) (k : ℕ) → IsClosed cs may_start → may_start k ≡ false → NeverStarts cs k
never cs may_start k closed outside p f xs m x s own r e h =
    let inside = law p f may_start xs m x s k (subst (λ (l : List Callback). IsClosed l may_start) (sym own) closed) r e h in
    absurd (cc)
