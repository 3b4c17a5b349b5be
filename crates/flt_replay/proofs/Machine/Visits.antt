-- What a move does with visits: a callback that starts is a new activation, which gains what it is given; a visit that no event
-- names stays where it is.
use Rattle.std.proofs.Common.{◌≡◌, ◌≢◌, ◌≤◌, ℕ, zero, suc, ◌+◌, Bool, true, false, List, [], ◌∷◌, ◌++◌}
use Rattle.std.proofs.Common.{Option, Some, None, length, ap, sym, refl, ◌∙◌, arith, length-append}
use Rattle.std.proofs.Math.ListN.{set, get_or}
use Rattle.std.proofs.lemmas.Bool.{and_from, and_parts, eqb-true}
use Rattle.std.proofs.lemmas.List.Folds.{list_all-append, find_at}
use Rattle.std.proofs.lemmas.List.Sums.{sum_by-append, sum_by-cons, split_at_first}
use Rattle.std.proofs.lemmas.Option.{slice_get_within, get_or_from_slice_get}
use Rattle.std.specs.List.{list_all, before_first, after_first, position_or_len, slice_get}
use Rattle.std.specs.Prelude.{not, ◌&&◌, ◌==◌, sum_by, find}
use Rattle.flt_tree.specs.declared.filter.Filter.{Filter}
use Rattle.flt_tree.specs.declared.filter.Statement.{Statement}
use Rattle.flt_model.specs.declared.event.Event.{Event}
use Rattle.flt_model.specs.declared.event.Event.TheVariants as event
use Rattle.flt_model.specs.declared.moves.Move.{Move}
use Rattle.flt_model.specs.Effects.{Step, gains_context, freed_by_drop}
use Rattle.flt_model.specs.Moves.{stores, starts, gains_visit, with_visit, is_entry_of, other_entries, make}
use Rattle.flt_model.specs.Trace.{one_if}
use Rattle.flt_model.specs.Variables.{starting}
use Rattle.flt_model.specs.Violations.{in_queue, in_item, in_some}
use Rattle.flt_model.specs.declared.parts.Entry.{Entry}
use Rattle.flt_model.specs.declared.parts.Item.{Item}
use Rattle.flt_model.specs.World.{World, Store, Actor, Activation, Route, Visit}
use Rattle.flt_model.specs.World.{queue_at, item_at, context_at, with_route, with_queue}
use Rattle.flt_replay.proofs.Machine.Apart.{apart_numbers, one_if_apart, Unmoved, unmoved_same, SameParts, sum_set}
use Rattle.flt_replay.proofs.Machine.Frames.{if_same, self_by}
use Rattle.flt_replay.proofs.Machine.MoveCases.{EachMove, each_move}
use Rattle.flt_replay.specs.Apart.{is_apart, is_anothers}

-- ---- what a move does

-- the activations after it: as before, or one more that goes on
pub data Grown (old new : List Activation) : Type 0 where
  Same : (is : new ≡ old) → Grown old new
  Joined : (act : Activation) → (is : new ≡ old ++ act ∷ []) → (goes : act.ended ≡ false) → Grown old new

-- the visits after it: as many, or one more, which an event names
pub data Counted (old new : ℕ) (es : List Event) : Type 0 where
  AsMany : (is : new ≡ old) → Counted old new es
  OneMore : (is : new ≡ old + 1) → (named : list_all (is_apart old) es ≡ false) → Counted old new es

pub record Moved (w : World) (s : Step) : Type 0 where
  pub grown : Grown w.activations s.world.activations
  pub counted : Counted (length w.store.visits) (length s.world.store.visits) s.events
  pub others : (a : ℕ) → length s.world.activations ≤ a → list_all (is_anothers a) s.events ≡ true
  pub unmoved : (v : ℕ) → length w.store.settled ≡ length w.store.visits → list_all (is_apart v) s.events ≡ true →
      Unmoved v w.store s.world.store
  pub paired : length w.store.settled ≡ length w.store.visits → length s.world.store.settled ≡ length s.world.store.visits

-- ---- events

pub differ : (b : Bool) → (b ≡ true → ⊥) → not b ≡ true
differ true h = absurd (h refl)
differ false h = refl

-- numbers that are different are found different
pub numbers_apart : (u v : ℕ) → v ≢ u → not (u == v) ≡ true
numbers_apart u v h = differ (u == v) (λ e. h (sym (eqb-true u v e)))

visit_others : (b a : ℕ) (v : Option ℕ) → a ≢ b → list_all (is_anothers a) (gains_visit b v) ≡ true
visit_others b a None h = refl
visit_others b a (Some v) h = and_from (not (b == a)) true (numbers_apart b a h) refl

context_others : (b a : ℕ) (x : Option ℕ) → a ≢ b → list_all (is_anothers a) (gains_context b x) ≡ true
context_others b a None h = refl
context_others b a (Some x) h = and_from (not (b == a)) true (numbers_apart b a h) refl

freed_others : (a : ℕ) (s : Store) (x : ℕ) → list_all (is_anothers a) (freed_by_drop s x) ≡ true
freed_others a s x = if_same (list_all (is_anothers a)) ((context_at s x).references == 1) (event.Free x ∷ []) [] true refl refl

-- ---- lists

past_end : (xs : List Bool) (i : ℕ) → i ≢ length xs → get_or (xs ++ false ∷ []) i true ≡ get_or xs i true
past_end [] zero h = absurd (h refl)
past_end [] (suc i) h = refl
past_end (x ∷ xs) zero h = refl
past_end (x ∷ xs) (suc i) h = past_end xs i (λ e. h (ap suc e))

-- an element that counts nothing, and is the first of its kind, is taken out
module _ {X : Type 0} (test : X → Bool) (f : X → ℕ) where
  sum_without : (before after xs : List X) (z : X) → xs ≡ before ++ (z ∷ after) → f z ≡ 0 → sum_by f (before ++ after) ≡ sum_by f xs
  sum_without before after xs z e none =
      let whole : sum_by f xs ≡ sum_by f (before ++ (z ∷ after)) = ap (sum_by f) e in
      omega (arith, whole, sum_by-append f before after, sum_by-append f before (z ∷ after), sum_by-cons f z after, none)

  taken_out : (xs : List X) (y : X) → find test xs ≡ Some y → f y ≡ 0 →
      sum_by f (before_first test xs ++ after_first test xs) ≡ sum_by f xs
  taken_out xs y found none =
      let i = position_or_len test xs in
      let at : slice_get xs i ≡ Some y = sym (find_at test xs) ∙ found in
      let this : get_or xs i y ≡ y = get_or_from_slice_get xs i y y at in
      sum_without (before_first test xs) (after_first test xs) xs (get_or xs i y)
      (split_at_first test xs y (slice_get_within xs i y at)) (ap f this ∙ none)

-- ---- each move

module _ (w : World) where
  -- no activation and no visit is new
  store_moved : (s : Store) (es : List Event) → ((a : ℕ) → list_all (is_anothers a) es ≡ true) → SameParts s w.store →
      s.visits ≡ w.store.visits → Moved w (stores w s es)
  store_moved s es others same visits = record {
    grown = Same refl;
    counted = AsMany (ap length visits);
    others = λ a h. others a;
    unmoved = λ v k h. unmoved_same v s w.store same;
    paired = λ k. ap length same.settled ∙ (k ∙ ap length (sym visits));
  }

  started_others : (v x : Option ℕ) (a : ℕ) (n : ℕ) → n ≡ length w.activations + 1 → n ≤ a →
      list_all (is_anothers a) (gains_visit (length w.activations) v ++ gains_context (length w.activations) x) ≡ true
  started_others v x a n e h =
      let b = length w.activations in
      let other : a ≢ b = λ same. absurd (omega (arith, e, h, same)) in
      list_all-append (is_anothers a) (gains_visit b v) (gains_context b x)
      ∙ and_from (list_all (is_anothers a) (gains_visit b v)) (list_all (is_anothers a) (gains_context b x)) (visit_others b a v other)
      (context_others b a x other)

  -- a callback starts about a visit or none that was there
  start_moved : (s : Store) (actor : Actor) (body : List Statement) (v x : Option ℕ) →
      ((u : ℕ) → list_all (is_apart u) (gains_visit (length w.activations) v) ≡ true → Unmoved u w.store s) →
      length s.visits ≡ length w.store.visits → length s.settled ≡ length w.store.settled → Moved w (starts w s actor body v x)
  start_moved s actor body v x unmoved visits settled = record {
    grown = Joined (starting body v x) refl refl;
    counted = AsMany visits;
    others = λ a h. started_others v x a _ (length-append w.activations (starting body v x ∷ [])) h;
    unmoved =
        λ u k h.
        unmoved u
        (and_parts (list_all (is_apart u) (gains_visit (length w.activations) v))
        (list_all (is_apart u) (gains_context (length w.activations) x))
        (sym (list_all-append (is_apart u) (gains_visit (length w.activations) v) (gains_context (length w.activations) x)) ∙ h)).0;
    paired = λ k. settled ∙ (k ∙ sym visits);
  }

  -- a callback starts about a new visit
  visit_moved : (o : ℕ) (r : Route) (visit : Visit) (actor : Actor) (body : List Statement) (arg : Option ℕ) →
      Moved w (starts w (with_visit (with_route w.store o r) visit) actor body (Some (length w.store.visits)) arg)
  visit_moved o r visit actor body arg =
      let new = length w.store.visits in
      record {
        grown = Joined (starting body (Some new) arg) refl refl;
        counted =
            OneMore (length-append w.store.visits (visit ∷ []))
            (ap (λ b. not b && list_all (is_apart new) (gains_context (length w.activations) arg)) (self_by new));
        others = λ a h. started_others (Some new) arg a _ (length-append w.activations (starting body (Some new) arg ∷ [])) h;
        unmoved =
            λ u k h.
            record {
              in_queues = refl;
              in_items = refl;
              settled =
                  past_end w.store.settled u
                  (λ e.
                  apart_numbers new u
                  (and_parts (not (new == u)) (list_all (is_apart u) (gains_context (length w.activations) arg)) h).0 (e ∙ k));
            };
        paired =
            λ k.
            length-append w.store.settled (false ∷ []) ∙ (ap (λ n. n + 1) k ∙ sym (length-append w.store.visits (visit ∷ [])));
      }

  entry_moved : (f o : ℕ) (e : Entry) (actor : Actor) (body : List Statement) →
      find (is_entry_of w.store o) (queue_at w.store f) ≡ Some e →
      Moved w (starts w (with_queue w.store f (other_entries w.store o (queue_at w.store f))) actor body (Some e.visit) e.context)
  unfolding in_queue
  entry_moved f o e actor body found =
      start_moved _ actor body (Some e.visit) e.context
      (λ u h.
      record {
        in_queues =
            sum_set (in_queue u) w.store.queues f (other_entries w.store o (queue_at w.store f)) []
            (taken_out (is_entry_of w.store o) (λ (q : Entry). one_if q.visit u) (queue_at w.store f) e found
            (one_if_apart e.visit u (and_parts (not (e.visit == u)) true h).0));
        in_items = refl;
        settled = refl;
      }) refl refl

  item_none : (a u : ℕ) (v : Option ℕ) → list_all (is_apart u) (gains_visit a v) ≡ true → in_some u v ≡ 0
  item_none a u None h = refl
  item_none a u (Some v) h = one_if_apart v u (and_parts (not (v == u)) true h).0

  item_moved : (i : ℕ) (item : Item) (actor : Actor) (body : List Statement) → item_at w.store i ≡ Some item →
      Moved w (starts w (record w.store { items = set w.store.items i None }) actor body item.visit item.context)
  item_moved i item actor body found =
      start_moved _ actor body item.visit item.context
      (λ u h.
      record {
        in_queues = refl;
        in_items =
            sum_set (in_item u) w.store.items i None None
            (sym (ap (in_item u) found ∙ item_none (length w.activations) u item.visit h));
        settled = refl;
      }) refl refl

  each_moved : EachMove (Moved w) w
  each_moved = record {
    routes = λ o r. store_moved _ [] (λ a. refl) (record { queues = refl; items = refl; settled = refl }) refl;
    arrives = λ arrival. store_moved _ [] (λ a. refl) (record { queues = refl; items = refl; settled = refl }) refl;
    presences = λ f presence. store_moved _ [] (λ a. refl) (record { queues = refl; items = refl; settled = refl }) refl;
    unlinks =
        λ x.
        store_moved _ (freed_by_drop w.store x) (λ a. freed_others a w.store x)
        (record { queues = refl; items = refl; settled = refl }) refl;
    visits = visit_moved;
    entries = entry_moved;
    items = item_moved;
  }

-- what a move does with visits and activations, whichever it is
pub moved : (p : List Filter) (w : World) (x : Move) (s : Step) → make p w x ≡ Some s → Moved w s
moved p w = each_move (Moved w) p w (each_moved w)
