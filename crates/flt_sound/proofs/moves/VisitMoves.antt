-- Moves that start a callback about an operation on its way: a pre callback on the way down, the post callback of a frame on the way up
-- or for draining. The callback is given a new visit, and a post callback its frame's context; that the filter has
-- the callback the move itself tests, or the invariant says of the frame.
-- p is the program, m the moment, k its invariant, s the store, a the new activation; o is an operation, f a filter, r a route, c a
-- callback, q a position, x a visit or a frame, y a context.
use Rattle.std.proofs.Common.{◌≡◌, ℕ, ◌+◌, ◌<◌, Bool, true, false, List, [], ◌∷◌, ◌++◌, length}
use Rattle.std.proofs.Common.{Option, Some, None, ap, sym, refl, ◌∙◌, arith, inl, inr, sum_by}
use Rattle.std.specs.Prelude.{if◌then◌else◌, nat_lt, find}
use Rattle.std.proofs.Math.ListN.{get_or}
use Rattle.std.proofs.Math.Seq.{get_or-append_seam}
use Rattle.std.proofs.lemmas.Bool.{cases_eq, cases_lt, and_parts}
use Rattle.std.proofs.lemmas.List.{get_or_past, length-append, length-set}
use Rattle.std.proofs.lemmas.List.Sums.{sum_by-set, sum_by-cons}
use Rattle.flt_rules.specs.declared.place.Place.TheVariants as place
use Rattle.flt_rules.specs.declared.place.Stage.{Stage}
use Rattle.flt_rules.specs.declared.place.Stage.TheVariants as stage
use Rattle.flt_tree.specs.declared.filter.Filter.{Filter}
use Rattle.flt_model.specs.Moves.{with_visit, calls_pre, pre_of, pre_at, without_last, last_frame, post_of}
use Rattle.flt_model.specs.Moves.{post_by, post_at, is_frame_of, other_frames, drain_by, drain}
use Rattle.flt_model.specs.Program.{callbacks_at, has_pre, is_pre_of, is_post_of}
use Rattle.flt_model.specs.Runs.{Moment}
use Rattle.flt_model.specs.World as world
use Rattle.flt_model.specs.declared.parts.Arrival.{Arrival}
use Rattle.flt_model.specs.declared.parts.Entry.{Entry}
use Rattle.flt_model.specs.declared.parts.Item.{Item}
use Rattle.flt_model.specs.declared.parts.Position.{Position}
use Rattle.flt_model.specs.declared.parts.Position.TheVariants.{Down, Visiting, Up}
use Rattle.flt_model.specs.World.{World, Store, Frame, Route, no_route, no_visit}
use Rattle.flt_model.specs.World.{no_arrival, arrival_at, route_at, queue_at, item_at, presence_at, is_detaching, is_attached, linked_at}
use Rattle.flt_model.specs.declared.parts.Link.{Link}
use Rattle.flt_model.specs.World.{with_route, with_queue, with_presence, context_at, no_context, is_linked_to}
use Rattle.flt_model.specs.Trace.{one_if}
use Rattle.flt_model.specs.Violations.{in_some}
use Rattle.flt_model.specs.declared.event.Object.TheVariants.{Context}
use Rattle.flt_sound.specs.Soundness.{AreAccepted}
use Rattle.flt_sound.proofs.sums.Eaches.{Each, route_set, each_others, each_find, each_without_last, each_last}
use Rattle.flt_sound.proofs.sums.Counts.{one_if-same, one_if-other, made_more}
use Rattle.flt_sound.proofs.sums.Shadows.{own}
use Rattle.flt_sound.proofs.sums.Differences.{others_sum, in_frame, in_route}
use Rattle.flt_sound.proofs.sums.Ledger.{Ledger, moved}
use Rattle.flt_sound.proofs.points.Events.{none}
use Rattle.flt_sound.proofs.points.Growing.{grows_visit, queue_grows, item_grows, before_grows}
use Rattle.flt_sound.proofs.points.Kept.{Kept, Good}
use Rattle.flt_sound.proofs.points.Local.{AfterStep}
use Rattle.flt_sound.proofs.points.Placed.{Laws}
use Rattle.flt_sound.proofs.moves.Entering.{found, pre_place, post_place}
use Rattle.flt_sound.proofs.moves.Starting.{Begins, get_or-other, Gives, entered_good}
use Rattle.flt_sound.proofs.moves.Gifts.{gifts, gifts-contexts, gifts-loses, gifts-frees}
use Rattle.flt_sound.proofs.moves.StoreMoves.{both_good, if_good}
use Rattle.flt_sound.proofs.points.Stored.{FitsFrame, IsGivenOf, IsBefore, Stored}
use Rattle.flt_sound.proofs.sums.Belonging.{Belongs, Mine}
use Rattle.flt_sound.proofs.sums.Standing.{route_mine}

-- an operation whose route isn't that of none is there
route_there : (routes : List Route) (o : ℕ) → (get_or routes o no_route ≡ no_route → ⊥) → o < length routes
route_there routes o h =
    elim (cases_lt o (length routes)) [
      | inl there ↦ there
      | inr past ↦ absurd (h (get_or_past routes o no_route past))
    ]

-- the last frame's count is what the others leave of the sum
last_sum : (y : ℕ) (frames : List Frame) (x : Frame) → last_frame frames ≡ Some x →
    sum_by (in_frame y) (without_last frames) + in_frame y x ≡ sum_by (in_frame y) frames
last_sum y [] x e = absurd (cc)
last_sum y (f ∷ []) x e =
    let same : f ≡ x = cc in
    let none : sum_by (in_frame y) [] ≡ 0 = refl in
    omega (arith, sum_by-cons (in_frame y) f [], ap (in_frame y) same, none)
last_sum y (f ∷ g ∷ frames) x e =
    omega (
      arith,
      sum_by-cons (in_frame y) f (g ∷ frames),
      sum_by-cons (in_frame y) f (without_last (g ∷ frames)),
      last_sum y (g ∷ frames) x e,
    )

-- a visit that is added isn't settled, and the others are as they were
open_visit : (settled : List Bool) (v : ℕ) →
    (if get_or (settled ++ false ∷ []) v true then 0 else 1) ≡ (if get_or settled v true then 0 else 1) + one_if (length settled) v
open_visit settled v =
    elim (cases_eq v (length settled)) [
      | inl e ↦ rw (e, get_or-append_seam settled false [] true, get_or_past settled (length settled) true (omega arith))
          (omega (arith, one_if-same (length settled)))
      | inr ne ↦ rw (get_or-other settled false true v ne) (omega (arith, one_if-other (length settled) v (λ e. ne (sym e))))
    ]

module _ (laws : Laws) (p : List Filter) (ok : AreAccepted p) (m : Moment) (k : Kept p m) where
  abbrev s : Store
  s = m.world.store

  -- the number of the new activation
  abbrev a : ℕ
  a = length m.world.activations

  -- a frame's context belongs to its filter
  abbrev OwnFrame : Frame → Type 0
  OwnFrame r = Belongs s.contexts r.filter r.context

  -- a frame's filter has a post callback of the operation
  abbrev FitsRoute : ℕ → Frame → Type 0
  FitsRoute o = FitsFrame p (arrival_at s o).kind

  -- ---- a visit more

  -- a new visit of an operation
  abbrev visit_of : ℕ → ℕ → Stage → Bool → world.Visit
  visit_of o f at draining = record { operation = o; filter = f; stage = at; draining = draining }

  -- the store with it, and another route of the operation
  abbrev visiting : ℕ → Route → world.Visit → Store
  visiting o r x = with_visit (with_route s o r) x

  -- the store keeps its invariants with a new visit
  visit_stored : (o : ℕ) (r : Route) (x : world.Visit) →
      (x.stage ≡ stage.Pre → IsBefore (s.visits ++ x ∷ []) s.arrivals p (length s.visits)) →
      Each (FitsRoute o) r.frames → Stored p (visiting o r x)
  visit_stored o r x first h =
      let g = grows_visit s.visits s.arrivals x in
      record {
        entries = λ f. queue_grows g p f (queue_at s f) (k.stored.entries f);
        items = λ i. item_grows g p (item_at s i) (k.stored.items i);
        frames = route_set (λ q. FitsRoute q) s.routes o r k.stored.frames h;
        modes = k.stored.modes;
        paths = length-set s.routes o r ∙ k.stored.paths;
        before = λ v there e. elim (cases_lt v (length s.visits)) [
          | inl old ↦ before_grows g p k.stored.before v old e
          | inr now ↦
              let same : v ≡ length s.visits = omega (arith, length-append s.visits (x ∷ [])) in
              let is : get_or (s.visits ++ x ∷ []) (length s.visits) no_visit ≡ x = get_or-append_seam s.visits x [] no_visit in
              rw same (first (rw (same, is) at e))
        ];
      }

  -- the new visit is one of that filter, stage, mode and kind
  new_visit : (o f : ℕ) (at : Stage) (draining : Bool) → o < length s.routes →
      IsGivenOf (s.visits ++ visit_of o f at draining ∷ []) s.arrivals f at (arrival_at s o).mode (arrival_at s o).kind (length s.visits)
  new_visit o f at draining there =
      let x = visit_of o f at draining in
      let e : get_or (s.visits ++ x ∷ []) (length s.visits) no_visit ≡ x = get_or-append_seam s.visits x [] no_visit in
      record {
        given = record {
          visit = record {
            there = omega (arith, length-append s.visits (x ∷ []));
            operation = rw e (omega (arith, there, k.stored.paths));
            filter = rw e refl;
            stage = rw e refl;
          };
          mode_is = rw e refl;
        };
        kind_is = rw e refl;
      }

  -- a new visit before the filters below doesn't drain, and its filter has the callback
  first_before : (o f : ℕ) → o < length s.routes → has_pre (callbacks_at p f) (arrival_at s o).kind ≡ true →
      IsBefore (s.visits ++ visit_of o f stage.Pre false ∷ []) s.arrivals p (length s.visits)
  first_before o f there h =
      let x = visit_of o f stage.Pre false in
      let e : get_or (s.visits ++ x ∷ []) (length s.visits) no_visit ≡ x = get_or-append_seam s.visits x [] no_visit in
      record { operation = rw e (omega (arith, there, k.stored.paths)); calm = rw e refl; asked = rw e h }

  -- the new visit's owner is the new activation
  begins_visit : (o : ℕ) (r : Route) (x : world.Visit) → Begins p m k (visiting o r x) (Some (length s.visits))
  begins_visit o r x =
      let same : (v : ℕ) → one_if (length s.settled) v ≡ one_if (length s.visits) v = λ v. ap (λ n. one_if n v) k.settled_long in
      let long : length (s.visits ++ x ∷ []) ≡ length s.visits + 1 = length-append s.visits (x ∷ []) in
      record {
        owners = λ v. omega (arith, open_visit s.settled v, same v);
        once = λ v. rw long (omega (arith, open_visit s.settled v, same v, made_more v (length s.visits)));
        long = omega (arith, length-append s.settled (false ∷ []), long, k.settled_long);
        seats = k.seats;
      }

  -- references are those that they were: the frame's context goes to the new activation
  visit_ledger : (o : ℕ) (r : Route) (x : world.Visit) (arg : Option ℕ) → Each OwnFrame r.frames → o < length s.routes →
      ((y : ℕ) → in_route y r + in_some y arg ≡ in_route y (route_at s o)) →
      Ledger a s (visiting o r x) (gifts a (Some (length s.visits)) arg)
  visit_ledger o r x arg own there sum =
      let kept = route_mine a s k.mine o r own in
      let mine : Mine (visiting o r x) = record { entries = kept.entries; frames = kept.frames; items = kept.items; links = kept.links } in
      let gift = Some (length s.visits) in
      moved a s (visiting o r x) (gifts a gift arg) refl mine
      (λ y. omega (
        arith,
        sum_by-set (in_route y) s.routes o r no_route there,
        sum y,
        gifts-contexts a gift arg y,
        gifts-loses a gift arg a (Context y),
      ))
      (gifts-frees a gift arg)

  -- ---- pre callbacks

  pre_of_good : (o f : ℕ) → o < length s.routes → has_pre (callbacks_at p f) (arrival_at s o).kind ≡ true →
      Good p m (pre_of p m.world o (arrival_at s o).kind f)
  pre_of_good o f there h =
      let kind = (arrival_at s o).kind in
      let mode = (arrival_at s o).mode in
      let c = found (is_pre_of kind) (callbacks_at p f) h in
      let r = record (route_at s o) { position = Visiting } in
      let x = visit_of o f stage.Pre false in
      let gives : Gives p m k (visiting o r x) f (place.Pre kind) mode (Some (length s.visits)) None = record {
        grows = grows_visit s.visits s.arrivals x;
        stored = visit_stored o r x (λ e. first_before o f there h) (k.stored.frames o);
        given = new_visit o f stage.Pre false there;
        begins = begins_visit o r x;
        ledger = visit_ledger o r x None (k.mine.frames o) there (λ y. omega arith);
        belongs = tt;
      } in
      rw c.body_is
      (entered_good laws p ok m k (visiting o r x) f (place.Pre kind) false (Some (length s.visits)) None mode c.number c.callback c.there
      (pre_place kind c.callback.head c.passes) (k.stored.modes o, refl) gives)

  -- the start of the pre callback of the filter at which an operation is, is good
  pub pre_good : (o : ℕ) (q : Position) → (route_at s o).position ≡ q → AfterStep (pre_at p m.world o (arrival_at s o).kind q) (Good p m)
  pre_good o (Down f) e =
      both_good p m k (nat_lt f (length p)) (calls_pre p s f (arrival_at s o).kind) _ (λ there calls. pre_of_good o f
      (route_there s.routes o (λ h. let bad : Up ≡ Down f = sym (ap (λ (r : Route). r.position) h) ∙ e in absurd (cc)))
      (and_parts (is_attached (presence_at s f)) (has_pre (callbacks_at p f) (arrival_at s o).kind) calls).1)
  pre_good o Visiting e = tt
  pre_good o Up e = tt

  -- ---- post callbacks

  -- a frame that is taken from a route leaves the others: it fits, its context belongs to its filter, and so it is with the others
  record IsTaken (o : ℕ) (frame : Frame) (r : Route) : Type 0 where
    there : o < length s.routes
    own : OwnFrame frame
    own_others : Each OwnFrame r.frames
    sum : (y : ℕ) → in_route y r + in_frame y frame ≡ in_route y (route_at s o)
    fits : FitsRoute o frame
    fits_others : Each (FitsRoute o) r.frames

  post_of_good : (o : ℕ) (frame : Frame) (draining : Bool) (r : Route) → IsTaken o frame r → Good p m (post_of p m.world o frame draining r)
  post_of_good o frame draining r t =
      let kind = (arrival_at s o).kind in
      let mode = (arrival_at s o).mode in
      let c = found (is_post_of kind) (callbacks_at p frame.filter) t.fits in
      let x = visit_of o frame.filter stage.Post draining in
      let gives : Gives p m k (visiting o r x) frame.filter (place.Post kind) mode (Some (length s.visits)) frame.context = record {
        grows = grows_visit s.visits s.arrivals x;
        stored = visit_stored o r x (λ e. absurd (cc)) t.fits_others;
        given = new_visit o frame.filter stage.Post draining t.there;
        begins = begins_visit o r x;
        ledger = visit_ledger o r x frame.context t.own_others t.there t.sum;
        belongs = t.own;
      } in
      rw c.body_is
      (entered_good laws p ok m k (visiting o r x) frame.filter (place.Post kind) draining
      (Some (length s.visits)) frame.context mode c.number c.callback c.there
      (post_place kind c.callback.head c.passes) (k.stored.modes o) gives)

  -- an operation with a frame is there
  frames_there : (o : ℕ) (x : Frame) (pick : List Frame → Option Frame) → pick [] ≡ None → pick (route_at s o).frames ≡ Some x →
      o < length s.routes
  frames_there o x pick none e =
      route_there s.routes o (λ h. let bad : None ≡ Some x = sym none ∙ (ap (λ (r : Route). pick r.frames) (sym h) ∙ e) in absurd (cc))

  post_by_good : (o : ℕ) (x : Option Frame) → last_frame (route_at s o).frames ≡ x →
      AfterStep (post_by p m.world o (route_at s o) x) (Good p m)
  post_by_good o None e = tt
  post_by_good o (Some frame) e =
      let frames = (route_at s o).frames in
      post_of_good o frame false (record (route_at s o) { position = Visiting; frames = without_last frames }) (record {
        there = frames_there o frame last_frame refl e;
        own = each_last OwnFrame frames frame (k.mine.frames o) e;
        own_others = each_without_last OwnFrame frames (k.mine.frames o);
        sum = λ y. last_sum y frames frame e;
        fits = each_last (FitsRoute o) frames frame (k.stored.frames o) e;
        fits_others = each_without_last (FitsRoute o) frames (k.stored.frames o);
      })

  -- the start of the post callback of the lowest frame, on the way up, is good
  pub post_good : (o : ℕ) (q : Position) → AfterStep (post_at p m.world o (route_at s o) q) (Good p m)
  post_good o (Down f) = tt
  post_good o Visiting = tt
  post_good o Up = post_by_good o (last_frame (route_at s o).frames) refl

  drain_by_good : (f o : ℕ) (x : Option Frame) → find (is_frame_of f) (route_at s o).frames ≡ x →
      AfterStep (drain_by p m.world f o x) (Good p m)
  drain_by_good f o None e = tt
  drain_by_good f o (Some frame) e =
      let frames = (route_at s o).frames in
      post_of_good o frame true (record (route_at s o) { frames = other_frames f frames }) (record {
        there = frames_there o frame (find (is_frame_of f)) refl e;
        own = each_find OwnFrame (is_frame_of f) frames frame (k.mine.frames o) e;
        own_others = each_others OwnFrame (is_frame_of f) frames (k.mine.frames o);
        sum = λ y. others_sum (in_frame y) (is_frame_of f) frames frame e;
        fits = each_find (FitsRoute o) (is_frame_of f) frames frame (k.stored.frames o) e;
        fits_others = each_others (FitsRoute o) (is_frame_of f) frames (k.stored.frames o);
      })

  -- the start of the post callback of a filter that is being detached, for draining, is good
  pub drain_good : (f o : ℕ) → AfterStep (drain p m.world f o) (Good p m)
  drain_good f o = if_good p m k (is_detaching (presence_at s f)) _ (drain_by_good f o (find (is_frame_of f) (route_at s o).frames) refl)
