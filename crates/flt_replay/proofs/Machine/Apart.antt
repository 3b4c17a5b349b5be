-- What events that leave a visit alone don't change: who holds it, and what the queues, the work items and the settled ones say of it.
use Rattle.std.proofs.Common.{◌≡◌, ◌≢◌, ℕ, zero, suc, Bool, true, false, true≢false, List, [], ◌∷◌, ◌++◌, ap, sym, refl, ◌∙◌, arith}
use Rattle.std.proofs.Math.ListN.{set, get_or}
use Rattle.std.proofs.lemmas.Bool.{eq-eqb, and_parts}
use Rattle.std.proofs.lemmas.List.Sums.{sum_by-append, sum_by-cons}
use Rattle.std.specs.List.{list_all}
use Rattle.std.specs.Prelude.{not, ◌==◌, if◌then◌else◌, sum_by}
use Rattle.flt_model.specs.declared.event.Event.{Event}
use Rattle.flt_model.specs.declared.event.Event.TheVariants as event
use Rattle.flt_model.specs.declared.event.Object.{Object}
use Rattle.flt_model.specs.declared.event.Object.TheVariants.{Context, Visit}
use Rattle.flt_model.specs.Trace.{one_if, of_actor, same_object, gain, lose, gains, loses, is_held}
use Rattle.flt_model.specs.Violations.{in_queue, in_item}
use Rattle.flt_model.specs.declared.parts.Entry.{Entry}
use Rattle.flt_model.specs.World.{Store, is_settled}
use Rattle.flt_replay.specs.Apart.{is_apart, is_anothers}

-- ---- counts

pub not_true : (b : Bool) → not b ≡ true → b ≡ false
not_true true h = absurd (cc)
not_true false h = refl

-- numbers that a test finds different are different
pub apart_numbers : (u v : ℕ) → not (u == v) ≡ true → v ≢ u
apart_numbers u v h e = true≢false (sym (eq-eqb u v (sym e)) ∙ not_true (u == v) h)

-- a number that a test finds different isn't counted
pub one_if_apart : (u v : ℕ) → not (u == v) ≡ true → one_if u v ≡ 0
unfolding one_if
one_if_apart u v h = ap (λ (b : Bool). if b then 1 else 0) (not_true (u == v) h)

if_none : (b : Bool) → (if b then zero else zero) ≡ zero
if_none true = refl
if_none false = refl

actor_none : (b a : ℕ) → of_actor b a 0 ≡ 0
unfolding of_actor
actor_none b a = if_none (b == a)

actor_apart : (b a n : ℕ) → not (b == a) ≡ true → of_actor b a n ≡ 0
unfolding of_actor
actor_apart b a n h = ap (λ (c : Bool). if c then n else 0) (not_true (b == a) h)

-- what counts nothing in each event of a kind counts nothing in a list of them
uncounted : (test : Event → Bool) (f : Event → ℕ) → ((e : Event) → test e ≡ true → f e ≡ 0) → (es : List Event) →
    list_all test es ≡ true → sum_by f es ≡ 0
uncounted test f h [] k = refl
uncounted test f h (e ∷ es) k =
    let parts = and_parts (test e) (list_all test es) k in
    let first = h e parts.0 in
    let others = uncounted test f h es parts.1 in
    omega (arith, sum_by-cons f e es, first, others)

-- ---- who holds it

module _ (v a : ℕ) where
  gain_apart : (e : Event) → is_apart v e ≡ true → gain a (Visit v) e ≡ 0
  gain_apart (event.Gain b (Visit u)) h = rw (one_if_apart u v h) (actor_none b a)
  gain_apart (event.Gain b (Context x)) h = actor_none b a
  gain_apart _ h = refl

  lose_apart : (e : Event) → is_apart v e ≡ true → lose a (Visit v) e ≡ 0
  lose_apart (event.Lose b (Visit u)) h = rw (one_if_apart u v h) (actor_none b a)
  lose_apart (event.Lose b (Context x)) h = actor_none b a
  lose_apart _ h = refl

module _ (a : ℕ) (o : Object) where
  gain_others : (e : Event) → is_anothers a e ≡ true → gain a o e ≡ 0
  gain_others (event.Gain b p) h = actor_apart b a (same_object p o) h
  gain_others _ h = refl

  lose_others : (e : Event) → is_anothers a e ≡ true → lose a o e ≡ 0
  lose_others (event.Lose b p) h = actor_apart b a (same_object p o) h
  lose_others _ h = refl

held_after : (t es : List Event) (a : ℕ) (o : Object) → sum_by (gain a o) es ≡ 0 → sum_by (lose a o) es ≡ 0 →
    is_held (t ++ es) a o ≡ is_held t a o
unfolding is_held gains loses
held_after t es a o g l =
    let gained : sum_by (gain a o) (t ++ es) ≡ sum_by (gain a o) t = omega (arith, sum_by-append (gain a o) t es, g) in
    let lost : sum_by (lose a o) (t ++ es) ≡ sum_by (lose a o) t = omega (arith, sum_by-append (lose a o) t es, l) in
    rw (gained, lost) refl

-- events that don't name a visit
pub held_apart : (t es : List Event) (a v : ℕ) → list_all (is_apart v) es ≡ true → is_held (t ++ es) a (Visit v) ≡ is_held t a (Visit v)
held_apart t es a v h =
    held_after t es a (Visit v) (uncounted (is_apart v) (gain a (Visit v)) (gain_apart v a) es h)
    (uncounted (is_apart v) (lose a (Visit v)) (lose_apart v a) es h)

-- events of others
pub held_others : (t es : List Event) (a : ℕ) (o : Object) → list_all (is_anothers a) es ≡ true → is_held (t ++ es) a o ≡ is_held t a o
held_others t es a o h =
    held_after t es a o (uncounted (is_anothers a) (gain a o) (gain_others a o) es h)
    (uncounted (is_anothers a) (lose a o) (lose_others a o) es h)

-- ---- what a store says of a visit

pub record Unmoved (v : ℕ) (old new : Store) : Type 0 where
  pub in_queues : sum_by (in_queue v) new.queues ≡ sum_by (in_queue v) old.queues
  pub in_items : sum_by (in_item v) new.items ≡ sum_by (in_item v) old.items
  pub settled : is_settled new v ≡ is_settled old v

-- a store that stays leaves a visit where it is
pub unmoved_itself : (v : ℕ) (s : Store) → Unmoved v s s
unmoved_itself v s = record { in_queues = refl; in_items = refl; settled = refl }

-- whichever of two stores comes, a visit that both leave alone stays where it is
pub unmoved_if : (b : Bool) (v : ℕ) (s t u : Store) → Unmoved v u s → Unmoved v u t → Unmoved v u (if b then s else t)
unmoved_if true v s t u h k = h
unmoved_if false v s t u h k = k

-- stores with the same queues, items and settled visits
pub record SameParts (s u : Store) : Type 0 where
  pub queues : s.queues ≡ u.queues
  pub items : s.items ≡ u.items
  pub settled : s.settled ≡ u.settled

-- a store has the same parts as itself
pub same_itself : (s : Store) → SameParts s s
same_itself s = record { queues = refl; items = refl; settled = refl }

-- whichever of two stores comes, the parts are those that both have
pub parts_if : (b : Bool) (s t u : Store) → SameParts s u → SameParts t u → SameParts (if b then s else t) u
parts_if true s t u h k = h
parts_if false s t u h k = k

-- stores with the same parts leave a visit where it is
pub unmoved_same : (v : ℕ) (s u : Store) → SameParts s u → Unmoved v u s
unmoved_same v s u h = record {
  in_queues = ap (sum_by (in_queue v)) h.queues;
  in_items = ap (sum_by (in_item v)) h.items;
  settled = ap (λ (l : List Bool). get_or l v true) h.settled;
}

-- ---- sums over changed lists

module _ {X : Type 0} (f : X → ℕ) where
  -- a sum stays where an element is replaced by one that counts the same
  pub sum_set : (xs : List X) (i : ℕ) (y d : X) → f y ≡ f (get_or xs i d) → sum_by f (set xs i y) ≡ sum_by f xs
  sum_set [] i y d h = refl
  sum_set (x ∷ xs) zero y d h = omega (arith, sum_by-cons f y xs, sum_by-cons f x xs, h)
  sum_set (x ∷ xs) (suc i) y d h = omega (arith, sum_by-cons f x (set xs i y), sum_by-cons f x xs, sum_set xs i y d h)

  -- a sum stays where an element that counts nothing comes last
  pub sum_push : (xs : List X) (y : X) → f y ≡ 0 → sum_by f (xs ++ y ∷ []) ≡ sum_by f xs
  sum_push [] y h = omega (arith, sum_by-cons f y [], h)
  sum_push (x ∷ xs) y h = omega (arith, sum_by-cons f x (xs ++ y ∷ []), sum_by-cons f x xs, sum_push xs y h)

-- an entry of another visit, at the end of a queue or at its front
pub queue_push : (v : ℕ) (queue : List Entry) (e : Entry) → not (e.visit == v) ≡ true → in_queue v (queue ++ e ∷ []) ≡ in_queue v queue
unfolding in_queue
queue_push v queue e h = sum_push (λ (e : Entry). one_if e.visit v) queue e (one_if_apart e.visit v h)

-- an entry of another visit in front of a queue doesn't count
pub queue_front : (v : ℕ) (queue : List Entry) (e : Entry) → not (e.visit == v) ≡ true → in_queue v (e ∷ queue) ≡ in_queue v queue
unfolding in_queue
queue_front v queue e h =
    let f : Entry → ℕ = λ e. one_if e.visit v in omega (arith, sum_by-cons f e queue, one_if_apart e.visit v h)
