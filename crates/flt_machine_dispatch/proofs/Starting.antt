-- Moves that start an activation: what is decided is the machine's step.
use Rattle.std.proofs.Common.{◌≡◌, ℕ, nat_lt, Bool, true, false, if◌then◌else◌, List, [], ◌∷◌, length, Option}
use Rattle.std.proofs.Common.{Some, None, find, refl, sym, ap, ◌∙◌, ◌==◌, ◌||◌, arith, append-nil}
use Rattle.std.proofs.lemmas.Bool.Decides.{nat_tests}
use Rattle.flt_rules.specs.declared.place.Operation.{Operation}
use Rattle.flt_rules.specs.declared.place.Place.{Place}
use Rattle.flt_rules.specs.declared.place.Place.TheVariants as place
use Rattle.flt_tree.specs.declared.filter.Filter.{Filter}
use Rattle.flt_tree.specs.declared.filter.Statement.{Statement}
use Rattle.flt_model.specs.Moves.{calls_pre, canceled, drain, is_entry_of, is_frame_of, last_frame, post_at, pre_at, starts, work_by}
use Rattle.flt_model.specs.Program.{body_at, body_for, callbacks_at, is_canceled, is_pre_of, is_post_of, place_at}
use Rattle.flt_model.specs.declared.parts.Position.{Position}
use Rattle.flt_model.specs.declared.parts.Position.TheVariants.{Down, Visiting, Up}
use Rattle.flt_model.specs.World.{Frame, World, arrival_at}
use Rattle.flt_model.specs.World.{is_detaching, item_at, presence_at, queue_at, route_at}
use Rattle.flt_ops.specs.Operating.{filter_in, frame_in}
use Rattle.flt_machine_store.specs.Changes.{after_change}
use Rattle.flt_machine_store.specs.declared.change.Change.{Change}
use Rattle.flt_machine_store.specs.declared.change.Change.TheVariants as change
use Rattle.flt_machine_dispatch.specs.Decisions.{Decides, IsDecided}
use Rattle.flt_machine_dispatch.specs.declared.decision.Decision.{Decision}
use Rattle.flt_machine_dispatch.specs.declared.decision.Start.{Start}

-- an activation that starts with a change, and nothing is freed
abbrev starting_with : Start → Change → Decision
starting_with start change = record { start = Some start; freed = None; change = change }

module _ (p : List Filter) (w : World) where
  start_is : (start : Start) (change : Change) (body : List Statement) →
      body_at (callbacks_at p start.filter) start.callback ≡ body → IsDecided p w (starting_with start change)
      (starts w (after_change w.store change) (record { filter = start.filter; place = start.place; draining = start.draining })
      body start.given start.arg)
  start_is start change body is = record {
    events = sym (append-nil _);
    world = rw is refl;
  }

  -- ---- on the way down

  some_is : (b : Bool) (g f : ℕ) → (if b then Some g else None) ≡ Some f → (g ≡ f) × (b ≡ true)
  some_is true g f e = (cc, refl)
  some_is false g f e = absurd (cc)

  is_down : (n : ℕ) (at : Position) (f : ℕ) → filter_in n at ≡ Some f → (at ≡ Down f) × (nat_lt f n ≡ true)
  is_down n (Down g) f e = let is = some_is (nat_lt g n) g f e in (rw is.0 refl, rw (sym is.0) is.1)
  is_down n Visiting f e = absurd (cc)
  is_down n Up f e = absurd (cc)

  -- the pre callback of the filter that the operation is at
  pub pre_is : (n o : ℕ) (at : Position) (f callback visit : ℕ) (kind own : Operation) → filter_in n at ≡ Some f → n ≡ length p →
      kind ≡ own → visit ≡ length w.store.visits → calls_pre p w.store f kind ≡ true →
      body_at (callbacks_at p f) callback ≡ body_for (is_pre_of kind) (callbacks_at p f) →
      Decides p w (Some (starting_with (record {
        filter = f;
        place = place.Pre kind;
        draining = false;
        callback = callback;
        given = Some visit;
        arg = None;
      }) (change.StartPre o f))) (pre_at p w o own at)
  pre_is n o at f callback visit kind own down count same new calls body =
      let is = is_down n at f down in
      let here : nat_lt f (length p) ≡ true = rw (sym count) is.1 in
      rw (sym same, is.0, here, calls, new)
      (start_is (record {
        filter = f;
        place = place.Pre kind;
        draining = false;
        callback = callback;
        given = Some (length w.store.visits);
        arg = None;
      }) (change.StartPre o f) _ body)

  -- ---- on the way up

  is_up : (frames : List Frame) (at : Position) (frame : Frame) → frame_in frames at ≡ Some frame → (at ≡ Up)
      × (last_frame frames ≡ Some frame)
  is_up frames (Down f) frame e = absurd (cc)
  is_up frames Visiting frame e = absurd (cc)
  is_up frames Up frame e = (refl, e)

  -- the post callback of the last frame
  pub post_is : (o : ℕ) (at : Position) (f : ℕ) (x : Option ℕ) (callback visit : ℕ) (kind : Operation) →
      frame_in (route_at w.store o).frames at ≡ Some (record { filter = f; context = x }) →
      kind ≡ (arrival_at w.store o).kind → visit ≡ length w.store.visits →
      body_at (callbacks_at p f) callback ≡ body_for (is_post_of kind) (callbacks_at p f) →
      Decides p w (Some (starting_with (record {
        filter = f;
        place = place.Post kind;
        draining = false;
        callback = callback;
        given = Some visit;
        arg = x;
      }) (change.StartPost o f x))) (post_at p w o (route_at w.store o) at)
  post_is o at f x callback visit kind last same new body =
      let is = is_up (route_at w.store o).frames at (record { filter = f; context = x }) last in
      rw (is.0, is.1, sym same, new)
      (start_is (record {
        filter = f;
        place = place.Post kind;
        draining = false;
        callback = callback;
        given = Some (length w.store.visits);
        arg = x;
      }) (change.StartPost o f x) _ body)

  -- ---- what waits

  -- the callback of the first entry of an operation
  pub canceled_is : (f o v : ℕ) (x : Option ℕ) (callback : ℕ) →
      ((route_at w.store o).cancelled || is_detaching (presence_at w.store f)) ≡ true →
      find (is_entry_of w.store o) (queue_at w.store f) ≡ Some (record { visit = v; context = x }) →
      body_at (callbacks_at p f) callback ≡ body_for is_canceled (callbacks_at p f) →
      Decides p w (Some (starting_with (record {
        filter = f;
        place = place.Canceled;
        draining = false;
        callback = callback;
        given = Some v;
        arg = x;
      }) (change.RemoveOf f o v))) (canceled p w f o)
  canceled_is f o v x callback may first body =
      rw (may, first)
      (start_is (record {
        filter = f;
        place = place.Canceled;
        draining = false;
        callback = callback;
        given = Some v;
        arg = x;
      }) (change.RemoveOf f o v) _ body)

  -- the routine of a work item
  pub work_is : (i f routine : ℕ) (v x : Option ℕ) (own : Place) →
      item_at w.store i ≡ Some (record { filter = f; routine = routine; visit = v; context = x }) →
      own ≡ place_at (callbacks_at p f) routine →
      Decides p w (Some (starting_with (record {
        filter = f;
        place = own;
        draining = false;
        callback = routine;
        given = v;
        arg = x;
      }) (change.Start i))) (work_by p w i (item_at w.store i))
  work_is i f routine v x own there is =
      rw (there, is)
      (start_is (record {
        filter = f;
        place = place_at (callbacks_at p f) routine;
        draining = false;
        callback = routine;
        given = v;
        arg = x;
      }) (change.Start i) _ refl)

  -- ---- in a teardown

  -- the post callback of the filter's first frame
  pub drain_is : (f o : ℕ) (x : Option ℕ) (callback visit : ℕ) (kind : Operation) → is_detaching (presence_at w.store f) ≡ true →
      find (is_frame_of f) (route_at w.store o).frames ≡ Some (record { filter = f; context = x }) →
      kind ≡ (arrival_at w.store o).kind → visit ≡ length w.store.visits →
      body_at (callbacks_at p f) callback ≡ body_for (is_post_of kind) (callbacks_at p f) →
      Decides p w (Some (starting_with (record {
        filter = f;
        place = place.Post kind;
        draining = true;
        callback = callback;
        given = Some visit;
        arg = x;
      }) (change.StartDraining o f x))) (drain p w f o)
  drain_is f o x callback visit kind detaching first same new body =
      rw (detaching, first, sym same, new)
      (start_is (record {
        filter = f;
        place = place.Post kind;
        draining = true;
        callback = callback;
        given = Some (length w.store.visits);
        arg = x;
      }) (change.StartDraining o f x) _ body)

-- ---- what is found passes

module _ {X : Type 0} (test : X → Bool) where
  passes_here : (b : Bool) (y x : X) (rest : Option X) → test y ≡ b → (rest ≡ Some x → test x ≡ true) →
      (if b then Some y else rest) ≡ Some x → test x ≡ true
  passes_here true y x rest t later e = cc
  passes_here false y x rest t later e = later e

  -- what is found passes the test
  pub found_passes : (xs : List X) (x : X) → find test xs ≡ Some x → test x ≡ true
  found_passes [] x e = absurd (cc)
  found_passes (y ∷ xs) x e = passes_here (test y) y x (find test xs) refl (found_passes xs x) e

same_number : (g f : ℕ) → (g == f) ≡ true → g ≡ f
same_number g f e = grind (arith, nat_tests)

-- the frame of a filter that is found is of the filter
pub frame_found : (f g : ℕ) (x : Option ℕ) (frames : List Frame) → find (is_frame_of f) frames ≡ Some (record { filter = g; context = x }) →
    find (is_frame_of f) frames ≡ Some (record { filter = f; context = x })
frame_found f g x frames e =
    let same = same_number g f (found_passes (is_frame_of f) frames (record { filter = g; context = x }) e) in
    e ∙ ap (λ (n : ℕ). Some (record { filter = n; context = x })) same
