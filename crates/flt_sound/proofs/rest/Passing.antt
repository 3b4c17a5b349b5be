-- What one step of the machine makes of a filter that is detached, of which nothing is left: it stays detached, and nothing of it comes;
-- and a filter whose teardown ends with the step has nothing left. First for the moves of the filter manager and of workers.
-- Here p is the program, m the moment, w its world, f the filter, g another one, o an operation, P what is said of a step.
use Rattle.std.proofs.Common.{◌≡◌, ◌≢◌, ℕ, ◌+◌, ◌<◌, ◌≤◌, Bool, true, false, List, [], ◌∷◌, length, Option}
use Rattle.std.proofs.Common.{Some, None, ap, sym, subst, refl, ◌∙◌, arith, inl, inr, ◌⊎◌, sum_by}
use Rattle.std.specs.Prelude.{not, ◌&&◌, ◌||◌, if◌then◌else◌, nat_lt, find}
use Rattle.std.proofs.Math.ListN.{set, get_or}
use Rattle.std.proofs.Math.Seq.{get_or-append_seam}
use Rattle.std.proofs.lemmas.Bool.{and_parts, cases_eq, cases_lt}
use Rattle.std.proofs.lemmas.List.{get_or_past, get_or-set_same, get_or-set_other, length-set}
use Rattle.std.proofs.lemmas.List.Sums.{sum_by-cons, sum_by_push, get_or-le-sum_by}
use Rattle.flt_rules.specs.Place.{fits_mode}
use Rattle.flt_rules.specs.declared.place.Mode.{Mode}
use Rattle.flt_rules.specs.declared.place.Operation.{Operation}
use Rattle.flt_rules.specs.declared.place.Stage.TheVariants as stage
use Rattle.flt_tree.specs.declared.filter.Filter.{Filter}
use Rattle.flt_tree.specs.declared.filter.Statement.{Statement}
use Rattle.flt_model.specs.declared.event.Event.{Event}
use Rattle.flt_model.specs.declared.moves.Move.{Move}
use Rattle.flt_model.specs.declared.moves.Move.TheVariants as moves
use Rattle.flt_model.specs.Effects.{Step, after_unlink, freed_by_drop}
use Rattle.flt_model.specs.Moves.{arrive, with_arrival, with_visit, calls_pre, pre_at, skip_at, lower_at}
use Rattle.flt_model.specs.Moves.{carried_out, post_of, post_by, post_at, last_frame, without_last, is_done, cancel}
use Rattle.flt_model.specs.Moves.{is_entry_of, other_entries, canceled_by, canceled, work_by, detach, is_frame_of}
use Rattle.flt_model.specs.Moves.{drain_by, drain, unlink_by, is_drained, detached, starts, stores, make}
use Rattle.flt_model.specs.Program.{filter_of}
use Rattle.flt_model.specs.World as world
use Rattle.flt_model.specs.declared.parts.Arrival.{Arrival}
use Rattle.flt_model.specs.declared.parts.Entry.{Entry}
use Rattle.flt_model.specs.declared.parts.Item.{Item}
use Rattle.flt_model.specs.declared.parts.Link.{Link}
use Rattle.flt_model.specs.declared.parts.Presence.{Presence}
use Rattle.flt_model.specs.declared.parts.Presence.TheVariants.{Attached, Detaching, Detached}
use Rattle.flt_model.specs.World.{World, Store, Actor, Frame, Route}
use Rattle.flt_model.specs.declared.parts.Position.{Position}
use Rattle.flt_model.specs.declared.parts.Position.TheVariants.{Down, Visiting, Up}
use Rattle.flt_model.specs.World.{no_actor, no_route, nobody}
use Rattle.flt_model.specs.World.{actor_at, activation_at, presence_at, queue_at, item_at, arrival_at, route_at}
use Rattle.flt_model.specs.World.{linked_at, is_attached, is_detaching, with_route, with_queue, with_presence}
use Rattle.flt_model.specs.Trace.{one_if}
use Rattle.flt_model.specs.Variables.{starting}
use Rattle.flt_sound.proofs.sums.Counts.{one_if-same}
use Rattle.flt_sound.proofs.sums.Differences.{others_sum}
use Rattle.flt_sound.proofs.sums.Eaches.{within}
use Rattle.flt_sound.proofs.points.Local.{AfterStep}
use Rattle.flt_sound.proofs.moves.Starting.{get_or-other}
use Rattle.flt_sound.proofs.rest.Parts.{frame_is, frames_in, item_is, IsEmpty, emptied, set_fewer, Apart, same_apart, both_apart}
use Rattle.flt_sound.proofs.rest.Holding.{AreHeld, held_on, held_more}
use Rattle.flt_sound.proofs.rest.Visiting.{is_visiting, AreVisited, same_visited, route_visited, push_visited, arrival_visited}
use Rattle.flt_sound.proofs.rest.Others.{queue_apart, route_apart, unlink_apart, unlink_holders, unlink_visited}

-- ---- what is shown of each step

-- a filter that is detached stays so; and where nothing is left of it while it is detached before, so it is after
pub record Passes (f : ℕ) (w u : World) : Type 0 where
  pub stays : presence_at w.store f ≡ Detached → presence_at u.store f ≡ Detached
  pub empty : (presence_at w.store f ≡ Detached → IsEmpty f w) → presence_at u.store f ≡ Detached → IsEmpty f u
  -- and who holds a lock has it in its list
  pub held : AreHeld w → AreHeld u
  -- and an operation that stands in a visit has it
  pub visited : AreVisited w.store → AreVisited u.store
  -- and there are as many filters
  pub filters : length u.store.presences ≡ length w.store.presences

-- ---- where a test holds, or doesn't

module _ (P : Step → Type 0) where
  -- a step that is made only under a condition: what holds of it need hold only where the condition does
  pub when : (b : Bool) (o : Option Step) → (b ≡ true → AfterStep o P) → AfterStep (if b then o else None) P
  when true o h = h refl
  when false o h = tt

  -- a step that is made only without a condition: what holds of it need hold only where the condition doesn't
  pub unless : (b : Bool) (o : Option Step) → (b ≡ false → AfterStep o P) → AfterStep (if b then None else o) P
  unless true o h = tt
  unless false o h = h refl

-- ---- small facts

is_detached : (x : Presence) → x ≡ Detached → is_attached x ≡ true → ⊥
is_detached x e h = let bad : false ≡ true = ap is_attached (sym e) ∙ h in absurd (cc)

is_detached_too : (x : Presence) → x ≡ Detached → is_detaching x ≡ true → ⊥
is_detached_too x e h = let bad : false ≡ true = ap is_detaching (sym e) ∙ h in absurd (cc)

detaching_no : Detaching ≡ Detached → ⊥
detaching_no e = let bad : true ≡ false = ap is_detaching e in absurd (cc)

-- two filters of different presence aren't one
not_same : (s : Store) (f g : ℕ) (test : Presence → Bool) → test Detached ≡ false → presence_at s f ≡ Detached →
    test (presence_at s g) ≡ true → g ≢ f
not_same s f g test fails h e same =
    let bad : false ≡ true = sym fails ∙ (ap test (sym h) ∙ (ap (λ i. test (presence_at s i)) (sym same) ∙ e)) in absurd (cc)

-- the last frame counts among all
last_counts : (n : Frame → ℕ) (xs : List Frame) (x : Frame) → last_frame xs ≡ Some x → sum_by n (without_last xs) + n x ≡ sum_by n xs
last_counts n [] x e = absurd (cc)
last_counts n (f ∷ []) x e = let same : f ≡ x = cc in omega (arith, ap n same, sum_by-cons n f [])
last_counts n (f ∷ g ∷ xs) x e =
    omega (arith, sum_by-cons n f (g ∷ xs), sum_by-cons n f (without_last (g ∷ xs)), last_counts n (g ∷ xs) x e)

-- where all count nothing each does
pub one_counts : {X : Type 0} (n : X → ℕ) (xs : List X) (i : ℕ) (d : X) → n d ≡ 0 → sum_by n xs ≡ 0 → n (get_or xs i d) ≡ 0
one_counts n xs i d none all =
    elim (cases_lt i (length xs)) [
      | inl there ↦ omega (arith, get_or-le-sum_by n xs i d there, all)
      | inr past ↦ ap n (get_or_past xs i d past) ∙ none
    ]

-- what counts nothing isn't the filter's
pub other_by : (g f : ℕ) → one_if g f ≡ 0 → g ≢ f
other_by g f e same = let one = one_if-same f in absurd (omega (arith, subst (λ i. one_if i f ≡ 0) same e, one))

-- ---- steps that leave whether filters are there

module _ (f : ℕ) (w : World) (long : length w.actors ≡ length w.activations) where
  -- another world with the same presences
  pub passes_by : (u : World) → u.store.presences ≡ w.store.presences → (AreHeld w → AreHeld u) →
      (AreVisited w.store → AreVisited u.store) → (presence_at w.store f ≡ Detached → IsEmpty f w → IsEmpty f u) → Passes f w u
  passes_by u same held visited h =
      let here : presence_at u.store f ≡ presence_at w.store f = ap (λ l. get_or l f Detached) same in
      record {
        stays = λ e. here ∙ e;
        empty = λ k e. let was = sym here ∙ e in h was (k was);
        held = held;
        visited = visited;
        filters = ap length same;
      }

  -- another store with the same holders of locks
  store_held : (s : Store) → s.holders ≡ w.store.holders → AreHeld w → AreHeld (record w { store = s })
  store_held s same = held_on w (record w { store = s }) same (λ b there. refl) (λ b there. refl)

  -- a change of the store that leaves no more of the filter
  pub stores_pass : (s : Store) (es : List Event) → Apart f w.store s → s.holders ≡ w.store.holders →
      (AreVisited w.store → AreVisited s) → Passes f w (stores w s es).world
  stores_pass s es a same visited = passes_by (record w { store = s }) a.presences (store_held s same) visited (λ d k. record {
    frames = omega (arith, k.frames, a.frames);
    queue = a.queue ∙ k.queue;
    items = omega (arith, k.items, a.items);
    links = omega (arith, k.links, a.links);
    active = k.active;
  })

  -- an activation of another filter starts
  pub starts_pass : (s : Store) (actor : Actor) (body : List Statement) (given arg : Option ℕ) → Apart f w.store s →
      s.holders ≡ w.store.holders →
      (AreVisited w.store → AreVisited s) → (presence_at w.store f ≡ Detached → IsEmpty f w → actor.filter ≢ f) → Passes f w
      (starts w s actor body given arg).world
  starts_pass s actor body given arg a same visited ne =
      passes_by (starts w s actor body given arg).world a.presences (held_more w s actor (starting body given arg) long same)
      visited (λ d k. record {
        frames = omega (arith, k.frames, a.frames);
        queue = a.queue ∙ k.queue;
        items = omega (arith, k.items, a.items);
        links = omega (arith, k.links, a.links);
        active = λ b. elim (cases_eq b (length w.actors)) [
          | inl e ↦ rw (e, get_or-append_seam w.actors actor [] no_actor) (λ h. absurd (ne d k h))
          | inr older ↦ rw (
            get_or-other w.actors actor no_actor b older,
            get_or-other w.activations (starting body given arg) nobody
                b (λ e. older (e ∙ sym long)),
          )
              (k.active b)
        ];
      })

-- ---- each move

module _ (p : List Filter) (f : ℕ) (w : World) (long : length w.actors ≡ length w.activations)
    (marks : length w.store.settled ≡ length w.store.visits) where
  abbrev s : Store
  s = w.store

  -- what is shown of a step
  abbrev pub Pass : Step → Type 0
  Pass x = Passes f w x.world

  -- an operation's route changes, with no more frames of the filter
  route_passes : (o : ℕ) (r : Route) → frames_in f r ≤ frames_in f (route_at s o) →
      (is_visiting r.position ≡ true → is_visiting (route_at s o).position ≡ true) → (es : List Event) →
      Pass (stores w (with_route s o r) es)
  route_passes o r h on es = stores_pass f w long (with_route s o r) es (route_apart f s o r h) refl (route_visited s o r on)

  -- one more operation
  arrival_apart : (x : Arrival) → Apart f s (with_arrival s x)
  arrival_apart x =
      let route : Route = record { position = Down 0; frames = []; cancelled = false; outcome = None } in
      record {
        presences = refl;
        frames = omega (arith, sum_by_push (frames_in f) s.routes route);
        queue = refl;
        items = omega arith;
        links = omega arith;
      }

  arrive_passes : (kind : Operation) (mode : Mode) (file : ℕ) → AfterStep (arrive w kind mode file) Pass
  arrive_passes kind mode file = when Pass (fits_mode kind mode && nat_lt file 1024) _
      (λ h. stores_pass f w long (with_arrival s (record { kind = kind; mode = mode; file = file })) [] (arrival_apart _) refl
      (arrival_visited s (with_arrival s (record { kind = kind; mode = mode; file = file })) _ refl refl refl refl))

  -- a visit more, and another route of its operation
  visit_apart : (o : ℕ) (r : Route) (x : world.Visit) → frames_in f r ≤ frames_in f (route_at s o) →
      Apart f s (with_visit (with_route s o r) x)
  visit_apart o r x h =
      both_apart f s (with_route s o r) (with_visit (with_route s o r) x) (route_apart f s o r h)
      (same_apart f (with_route s o r) (with_visit (with_route s o r) x) refl refl refl refl refl)

  pre_passes : (o : ℕ) (kind : Operation) (at : Position) → AfterStep (pre_at p w o kind at) Pass
  pre_passes o kind (Down g) = when Pass (nat_lt g (length p) && calls_pre p s g kind) _ (λ h.
      let route = record (route_at s o) { position = Visiting } in
      let same : frames_in f route ≤ frames_in f (route_at s o) = omega arith in
      let asked = and_parts _ _ (and_parts _ _ h).1 in
      starts_pass f w long (with_visit (with_route s o route) _) _ _ _ None (visit_apart o route _ same) refl
      (push_visited s o route (record { operation = o; filter = g; stage = stage.Pre; draining = false }) marks refl (λ h. inl refl))
      (λ d k. not_same s f g is_attached refl d asked.0))
  pre_passes o kind Visiting = tt
  pre_passes o kind Up = tt

  skip_passes : (o : ℕ) (kind : Operation) (at : Position) → AfterStep (skip_at p w o kind at) Pass
  skip_passes o kind (Down g) =
      when Pass (nat_lt g (length p) && not (calls_pre p s g kind)) _ (λ h. route_passes o _ (omega arith) (λ h. absurd (cc)) [])
  skip_passes o kind Visiting = tt
  skip_passes o kind Up = tt

  lower_passes : (o : ℕ) (at : Position) → AfterStep (lower_at p w o at) Pass
  lower_passes o (Down g) =
      unless Pass (nat_lt g (length p)) _ (λ h. route_passes o (carried_out (route_at s o)) (omega arith) (λ h. absurd (cc)) [])
  lower_passes o Visiting = tt
  lower_passes o Up = tt

  cancel_passes : (o : ℕ) → AfterStep (cancel w o) Pass
  cancel_passes o = unless Pass (is_done s o || (route_at s o).cancelled) _ (λ h. route_passes o _ (omega arith) (λ h. h) [])

  -- the post callback of a frame starts: the frame isn't the filter's, since none is
  post_of_passes : (o : ℕ) (frame : Frame) (draining : Bool) (r : Route) → frames_in f r + frame_is f frame ≡ frames_in f (route_at s o) →
      (is_visiting r.position ≡ true → (draining ≡ false) ⊎ (is_visiting (route_at s o).position ≡ true)) →
      Pass (post_of p w o frame draining r)
  post_of_passes o frame draining r e on =
      starts_pass f w long (with_visit (with_route s o r) _) _ _ _ frame.context (visit_apart o r _ (omega (arith, e))) refl
      (push_visited s o r (record { operation = o; filter = frame.filter; stage = stage.Post; draining = draining }) marks refl on)
      (λ d k. other_by frame.filter f (omega (arith, e, one_counts (frames_in f) s.routes o no_route refl k.frames)))

  post_by_passes : (o : ℕ) (x : Option Frame) → last_frame (route_at s o).frames ≡ x → AfterStep (post_by p w o (route_at s o) x) Pass
  post_by_passes o None e = tt
  post_by_passes o (Some frame) e = post_of_passes o frame false _ (last_counts (frame_is f) (route_at s o).frames frame e) (λ h. inl refl)

  post_passes : (o : ℕ) (at : Position) → AfterStep (post_at p w o (route_at s o) at) Pass
  post_passes o Up = post_by_passes o (last_frame (route_at s o).frames) refl
  post_passes o (Down g) = tt
  post_passes o Visiting = tt

  drain_by_passes : (g o : ℕ) (x : Option Frame) → find (is_frame_of g) (route_at s o).frames ≡ x → AfterStep (drain_by p w g o x) Pass
  drain_by_passes g o None e = tt
  drain_by_passes g o (Some frame) e =
      post_of_passes o frame true _ (others_sum (frame_is f) (is_frame_of g) (route_at s o).frames frame e) (λ h. inr h)

  drain_passes : (g o : ℕ) → AfterStep (drain p w g o) Pass
  drain_passes g o =
      when Pass (is_detaching (presence_at s g)) _ (λ h. drain_by_passes g o (find (is_frame_of g) (route_at s o).frames) refl)

  -- an entry is taken out: of another filter's queue, since the filter's has none
  canceled_by_passes : (g o : ℕ) (x : Option Entry) → find (is_entry_of s o) (queue_at s g) ≡ x → AfterStep (canceled_by p w g o x) Pass
  canceled_by_passes g o None e = tt
  canceled_by_passes g o (Some entry) e =
      let queue = other_entries s o (queue_at s g) in
      elim (cases_eq g f) [
        | inl same ↦ passes_by f w long _ refl (held_more w (with_queue s g queue) _ _ long refl)
            (same_visited s (with_queue s g queue) refl refl refl) (λ d k.
            let empty : queue_at s g ≡ [] = ap (λ i. queue_at s i) same ∙ k.queue in
            let bad : None ≡ Some entry = ap (λ q. find (is_entry_of s o) q) (sym empty) ∙ e in absurd (cc))
        | inr ne ↦ starts_pass f w long (with_queue s g queue) _ _ (Some entry.visit) entry.context (queue_apart f s g queue ne) refl
            (same_visited s (with_queue s g queue) refl refl refl) (λ d k. ne)
      ]

  canceled_passes : (g o : ℕ) → AfterStep (canceled p w g o) Pass
  canceled_passes g o = when Pass ((route_at s o).cancelled || is_detaching (presence_at s g)) _
      (λ h. canceled_by_passes g o (find (is_entry_of s o) (queue_at s g)) refl)

  -- a work item is taken: another filter's
  work_passes : (i : ℕ) (x : Option Item) → item_at s i ≡ x → AfterStep (work_by p w i x) Pass
  work_passes i None e = tt
  work_passes i (Some item) e =
      starts_pass f w long (record s { items = set s.items i None }) _ _ item.visit item.context
      (record {
        presences = refl;
        frames = omega arith;
        queue = refl;
        items = set_fewer (item_is f) s.items i None None (omega arith);
        links = omega arith;
      }) refl (same_visited s (record s { items = set s.items i None }) refl refl refl)
      (λ d k. other_by item.filter f
      (let none = one_counts (item_is f) s.items i None refl k.items in ap (item_is f) (sym e) ∙ none))

  -- a link goes
  unlink_by_passes : (x : Option ℕ) → AfterStep (unlink_by w x) Pass
  unlink_by_passes None = tt
  unlink_by_passes (Some x) =
      stores_pass f w long (after_unlink s x None) (freed_by_drop s x) (unlink_apart f s x None) (unlink_holders s x None)
      (unlink_visited s x None)

  -- ---- moves that change whether a filter is there

  -- what there is of the filter is the same where a presence changes
  same_parts : (g : ℕ) (x : Presence) → IsEmpty f w → IsEmpty f (stores w (with_presence s g x) []).world
  same_parts g x k = record { frames = k.frames; queue = k.queue; items = k.items; links = k.links; active = k.active }

  -- nor do holders of locks change
  presence_held : (g : ℕ) (x : Presence) → AreHeld w → AreHeld (stores w (with_presence s g x) []).world
  presence_held g x = held_on w (record w { store = with_presence s g x }) refl (λ b there. refl) (λ b there. refl)

  -- nor do visits
  presence_visited : (g : ℕ) (x : Presence) → AreVisited s → AreVisited (with_presence s g x)
  presence_visited g x = same_visited s (with_presence s g x) refl refl refl

  -- another filter's presence changes
  other_passes : (g : ℕ) (x : Presence) → g ≢ f → Pass (stores w (with_presence s g x) [])
  other_passes g x ne =
      let same : presence_at (with_presence s g x) f ≡ presence_at s f = get_or-set_other s.presences g f x Detached (λ e. ne (sym e)) in
      record {
        stays = λ e. same ∙ e;
        empty = λ k e. same_parts g x (k (sym same ∙ e));
        held = presence_held g x;
        visited =
            presence_visited g x;
        filters = length-set s.presences g x;
      }

  detach_passes : (g : ℕ) → AfterStep (detach w g) Pass
  detach_passes g = when Pass (is_attached (presence_at s g)) _ (λ h. elim (cases_eq g f) [
    | inl same ↦
        let there : f < length s.presences =
        within s.presences f Detached (λ d. is_detached (presence_at s g) (ap (λ i. presence_at s i) same ∙ d) h) in
        record {
          stays = λ e. absurd (is_detached (presence_at s g) (ap (λ i. presence_at s i) same ∙ e) h);
          empty = λ k. rw (same, get_or-set_same s.presences f Detaching Detached there) (λ e. absurd (detaching_no e));
          held = presence_held g Detaching;
          visited = presence_visited g Detaching;
          filters = length-set s.presences g Detaching;
        }
    | inr ne ↦ other_passes g Detaching ne
  ])

  detached_passes : (g : ℕ) → AfterStep (detached w g) Pass
  detached_passes g = when Pass (is_detaching (presence_at s g) && is_drained w g) _ (λ h.
      let parts = and_parts _ _ h in
      elim (cases_eq g f) [
        | inl same ↦ record {
          stays = λ e. absurd (is_detached_too (presence_at s g) (ap (λ i. presence_at s i) same ∙ e) parts.0);
          empty = λ k e. same_parts g Detached (emptied f w long (ap (λ i. is_drained w i) (sym same) ∙ parts.1));
          held = presence_held g Detached;
          visited = presence_visited g Detached;
          filters = length-set s.presences g Detached;
        }
        | inr ne ↦ other_passes g Detached ne
      ])

  -- a move leaves nothing of a detached filter
  pub move_passes : (x : Move) → AfterStep (make p w x) Pass
  move_passes (moves.Arrive kind mode file) = arrive_passes kind mode file
  move_passes (moves.Pre o) = pre_passes o (arrival_at s o).kind (route_at s o).position
  move_passes (moves.Skip o) = skip_passes o (arrival_at s o).kind (route_at s o).position
  move_passes (moves.Lower o) = lower_passes o (route_at s o).position
  move_passes (moves.Post o) = post_passes o (route_at s o).position
  move_passes (moves.Cancel o) = cancel_passes o
  move_passes (moves.Canceled altitude o) = canceled_passes (filter_of p altitude) o
  move_passes (moves.Work i) = work_passes i (item_at s i) refl
  move_passes (moves.Detach altitude) = detach_passes (filter_of p altitude)
  move_passes (moves.Drain altitude o) = drain_passes (filter_of p altitude) o
  move_passes (moves.Unlink altitude key) =
      let g = filter_of p altitude in
      when Pass (is_detaching (presence_at s g)) _ (λ h. unlink_by_passes (linked_at s (record { filter = g; key = key })))
  move_passes (moves.Detached altitude) = detached_passes (filter_of p altitude)
