-- What there is of a filter: frames, entries in its queue, work items and links, counted, and activations that go on. The machine's test
-- before a teardown ends finds all of it gone (`emptied`, `drained_by`). A step that isn't the filter's own leaves no more (`Apart`).
-- Here f is a filter, s and new are stores, w is a world.
use Rattle.std.proofs.Common.{◌≡◌, ℕ, zero, suc, ◌≤◌, Bool, true, false, List, [], ◌∷◌, length, Option}
use Rattle.std.proofs.Common.{Some, None, ap, sym, subst, refl, ◌∙◌, arith, inl, inr, sum_by}
use Rattle.std.specs.Prelude.{not, ◌&&◌, ◌==◌}
use Rattle.std.specs.List.{list_any}
use Rattle.std.proofs.Math.ListN.{set, get_or}
use Rattle.std.proofs.lemmas.Bool.{and_from, and_parts, or_parts, or_from, cases_lt, eqb-true, eq-eqb, ne_eqb}
use Rattle.std.proofs.lemmas.List.{set_past}
use Rattle.std.proofs.lemmas.List.Sums.{sum_by-set, sum_by-cons}
use Rattle.flt_model.specs.Moves.{is_frame_of, has_frame, is_item_of, is_linked_by, has_active, is_empty, is_drained}
use Rattle.flt_model.specs.Trace.{one_if}
use Rattle.flt_model.specs.World as world
use Rattle.flt_model.specs.declared.parts.Item.{Item}
use Rattle.flt_model.specs.declared.parts.Link.{Link}
use Rattle.flt_model.specs.World.{World, Store, Actor, Activation, Frame, Route}
use Rattle.flt_model.specs.declared.parts.Entry.{Entry}
use Rattle.flt_model.specs.World.{no_actor, nobody, actor_at, activation_at, queue_at}
use Rattle.flt_sound.proofs.sums.Counts.{one_if-same}

-- ---- how much there is

-- 1 where a frame is the filter's
abbrev pub frame_is : ℕ → Frame → ℕ
frame_is f frame = one_if frame.filter f

-- how many frames of a route are
abbrev pub frames_in : ℕ → Route → ℕ
frames_in f route = sum_by (frame_is f) route.frames

-- 1 where a work item is
abbrev pub item_is : ℕ → Option Item → ℕ
item_is f None = 0
item_is f (Some item) = one_if item.filter f

-- 1 where a link is
abbrev pub link_is : ℕ → Option Link → ℕ
link_is f None = 0
link_is f (Some l) = one_if l.filter f

-- 1 where a context's link is
abbrev pub linked_is : ℕ → world.Context → ℕ
linked_is f c = link_is f c.link

-- all frames, work items and links of the filter
abbrev pub frames_of : ℕ → Store → ℕ
frames_of f s = sum_by (frames_in f) s.routes

-- how many work items of the filter are there
abbrev pub items_of : ℕ → Store → ℕ
items_of f s = sum_by (item_is f) s.items

-- how many links of the filter are there
abbrev pub links_of : ℕ → Store → ℕ
links_of f s = sum_by (linked_is f) s.contexts

-- none of all that is there
pub record IsEmpty (f : ℕ) (w : World) : Type 0 where
  pub frames : frames_of f w.store ≡ 0
  pub queue : queue_at w.store f ≡ []
  pub items : items_of f w.store ≡ 0
  pub links : links_of f w.store ≡ 0
  -- each activation of the filter has ended
  pub active : (a : ℕ) → (actor_at w a).filter ≡ f → (activation_at w a).ended ≡ true

-- ---- counting and testing

-- where no element passes a test, and those that don't count nothing, all count nothing
none_counted : {X : Type 0} (test : X → Bool) (n : X → ℕ) → ((x : X) → test x ≡ false → n x ≡ 0) → (xs : List X) →
    list_any test xs ≡ false → sum_by n xs ≡ 0
none_counted test n h [] e = refl
none_counted test n h (x ∷ xs) e =
    let parts = or_parts (test x) (list_any test xs) e in
    omega (arith, sum_by-cons n x xs, h x parts.0, none_counted test n h xs parts.1)

-- where all count nothing, and what counts nothing doesn't pass, none passes
none_passes : {X : Type 0} (test : X → Bool) (n : X → ℕ) → ((x : X) → n x ≡ 0 → test x ≡ false) → (xs : List X) →
    sum_by n xs ≡ 0 → list_any test xs ≡ false
none_passes test n h [] e = refl
none_passes test n h (x ∷ xs) e =
    let sum = sum_by-cons n x xs in
    or_from (test x) (list_any test xs) (h x (omega (arith, sum, e))) (none_passes test n h xs (omega (arith, sum, e)))

-- a number that isn't another counts nothing, and the other way round
pub other_counts : (g f : ℕ) → (g == f) ≡ false → one_if g f ≡ 0
unfolding one_if
other_counts g f e = rw e refl

counts_other : (g f : ℕ) → one_if g f ≡ 0 → (g == f) ≡ false
counts_other g f e = ne_eqb g f (λ same. let one = one_if-same f in absurd (omega (arith, subst (λ i. one_if i f ≡ 0) same e, one)))

frame_counts : (f : ℕ) (route : Route) → has_frame f route ≡ false → frames_in f route ≡ 0
frame_counts f route e = none_counted (is_frame_of f) (frame_is f) (λ frame k. other_counts frame.filter f k) route.frames e

counts_frame : (f : ℕ) (route : Route) → frames_in f route ≡ 0 → has_frame f route ≡ false
counts_frame f route e = none_passes (is_frame_of f) (frame_is f) (λ frame k. counts_other frame.filter f k) route.frames e

item_counts : (f : ℕ) (item : Option Item) → is_item_of f item ≡ false → item_is f item ≡ 0
item_counts f None e = refl
item_counts f (Some item) e = other_counts item.filter f e

counts_item : (f : ℕ) (item : Option Item) → item_is f item ≡ 0 → is_item_of f item ≡ false
counts_item f None e = refl
counts_item f (Some item) e = counts_other item.filter f e

link_counts : (f : ℕ) (l : Option Link) → is_linked_by f l ≡ false → link_is f l ≡ 0
link_counts f None e = refl
link_counts f (Some l) e = other_counts l.filter f e

counts_link : (f : ℕ) (l : Option Link) → link_is f l ≡ 0 → is_linked_by f l ≡ false
counts_link f None e = refl
counts_link f (Some l) e = counts_other l.filter f e

-- ---- activations

-- an activation of the filter that the test passes over has ended
ended_one : (f g : ℕ) (b : Bool) → ((g == f) && not b) ≡ false → g ≡ f → b ≡ true
ended_one f g true e same = refl
ended_one f g false e same = let t = eq-eqb g f same in let bad : true ≡ false = sym t ∙ pass (g == f) e in absurd (cc)
  where
    pass : (b : Bool) → (b && true) ≡ false → b ≡ false
    pass true h = h
    pass false h = h

none_active : (f : ℕ) (actors : List Actor) (acts : List Activation) → has_active f actors acts ≡ false →
    (a : ℕ) → (get_or actors a no_actor).filter ≡ f → length actors ≡ length acts → (get_or acts a nobody).ended ≡ true
none_active f [] [] e a same long = refl
none_active f [] (act ∷ acts) e a same long = absurd (omega (arith, long))
none_active f (actor ∷ actors) [] e a same long = refl
none_active f (actor ∷ actors) (act ∷ acts) e zero same long =
    ended_one f actor.filter act.ended (or_parts _ _ e).0 same
none_active f (actor ∷ actors) (act ∷ acts) e (suc a) same long =
    none_active f actors acts (or_parts _ _ e).1 a same (omega (arith, long))

test_one : (f g : ℕ) (b : Bool) → (g ≡ f → b ≡ true) → ((g == f) && not b) ≡ false
test_one f g b h = by (g == f) refl
  where
    by : (t : Bool) → (g == f) ≡ t → (t && not b) ≡ false
    by true e = let k = h (eqb-true g f e) in rw k refl
    by false e = refl

active_none : (f : ℕ) (actors : List Actor) (acts : List Activation) →
    ((a : ℕ) → (get_or actors a no_actor).filter ≡ f → (get_or acts a nobody).ended ≡ true) → has_active f actors acts ≡ false
active_none f [] acts h = refl
active_none f (actor ∷ actors) [] h = refl
active_none f (actor ∷ actors) (act ∷ acts) h =
    or_from ((actor.filter == f) && not act.ended) (has_active f actors acts) (test_one f actor.filter act.ended (h zero))
    (active_none f actors acts (λ a. h (suc a)))

-- ---- the machine's test

not_true : (b : Bool) → not b ≡ true → b ≡ false
not_true true h = absurd (cc)
not_true false h = refl

not_false : (b : Bool) → b ≡ false → not b ≡ true
not_false b h = rw h refl

empty_nil : {X : Type 0} (xs : List X) → is_empty xs ≡ true → xs ≡ []
empty_nil [] h = refl
empty_nil (x ∷ xs) h = absurd (cc)

-- where the machine finds a filter drained, nothing of it is there
pub emptied : (f : ℕ) (w : World) → length w.actors ≡ length w.activations → is_drained w f ≡ true → IsEmpty f w
emptied f w long e =
    let four = and_parts _ _ e in
    let three = and_parts _ _ four.0 in
    let two = and_parts _ _ three.0 in
    let one = and_parts _ _ two.0 in
    record {
      frames = none_counted (has_frame f) (frames_in f) (frame_counts f) w.store.routes (not_true _ one.0);
      queue = empty_nil (queue_at w.store f) one.1;
      items = none_counted (is_item_of f) (item_is f) (item_counts f) w.store.items (not_true _ two.1);
      links = none_counted (λ (c : world.Context). is_linked_by f c.link) (linked_is f) (λ c. link_counts f c.link) w.store.contexts
          (not_true _ three.1);
      active = λ a same. none_active f w.actors w.activations (not_true _ four.1) a same long;
    }

-- and the other way round
pub drained_by : (f : ℕ) (w : World) → IsEmpty f w → is_drained w f ≡ true
drained_by f w k =
    and_from _ _ (and_from _ _ (and_from _ _ (and_from _ _
    (not_false _ (none_passes (has_frame f) (frames_in f) (counts_frame f) w.store.routes k.frames))
    (rw k.queue refl))
    (not_false _ (none_passes (is_item_of f) (item_is f) (counts_item f) w.store.items k.items)))
    (not_false _ (none_passes (λ (c : world.Context). is_linked_by f c.link) (linked_is f) (λ c. counts_link f c.link)
    w.store.contexts k.links)))
    (not_false _ (active_none f w.actors w.activations k.active))

-- ---- changes that add nothing

-- where one element is set to one that counts no more, all count no more
pub set_fewer : {X : Type 0} (n : X → ℕ) (xs : List X) (i : ℕ) (x d : X) → n x ≤ n (get_or xs i d) →
    sum_by n (set xs i x) ≤ sum_by n xs
set_fewer n xs i x d h =
    elim (cases_lt i (length xs)) [
      | inl there ↦ omega (arith, sum_by-set n xs i x d there, h)
      | inr past ↦ rw (set_past xs i x past) (omega arith)
    ]

-- what a step that isn't the filter's leaves of it
pub record Apart (f : ℕ) (s new : Store) : Type 0 where
  -- whether filters are there stays
  pub presences : new.presences ≡ s.presences
  pub frames : frames_of f new ≤ frames_of f s
  pub queue : queue_at new f ≡ queue_at s f
  pub items : items_of f new ≤ items_of f s
  pub links : links_of f new ≤ links_of f s

-- a store in which all that is counted is the same
pub same_apart : (f : ℕ) (s new : Store) → new.presences ≡ s.presences → new.routes ≡ s.routes → new.queues ≡ s.queues →
    new.items ≡ s.items → new.contexts ≡ s.contexts → Apart f s new
same_apart f s new p r q i c = record {
  presences = p;
  frames = rw r (omega arith);
  queue = ap (λ l. get_or l f []) q;
  items = rw i (omega arith);
  links = rw c (omega arith);
}

-- one change after the other
pub both_apart : (f : ℕ) (s mid new : Store) → Apart f s mid → Apart f mid new → Apart f s new
both_apart f s mid new h k = record {
  presences = k.presences ∙ h.presences;
  frames = omega (arith, h.frames, k.frames);
  queue = k.queue ∙ h.queue;
  items = omega (arith, h.items, k.items);
  links = omega (arith, h.links, k.links);
}
