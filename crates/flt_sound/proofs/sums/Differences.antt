-- Where visits and references of contexts stand outside of variables, as numbers, and how those change with a queue, an item or the
-- settling of a visit. The invariants add these numbers to what variables own: an unsettled visit stands in one place, and a context's
-- count is the number of its references. Here v is a visit, x a context, f a filter, s a store.
use Rattle.std.proofs.Common.{◌≡◌, ℕ, suc, ◌+◌, ◌<◌, Bool, true, false, List, [], ◌∷◌, ◌++◌, length}
use Rattle.std.proofs.Common.{Option, Some, None, ap, sym, refl, arith, sum_by, inl, inr}
use Rattle.std.specs.Prelude.{if◌then◌else◌, find}
use Rattle.std.specs.List.{before_first, after_first, position_or_len}
use Rattle.std.proofs.Math.ListN.{set, get_or}
use Rattle.std.proofs.lemmas.Bool.{cases_eq}
use Rattle.std.proofs.lemmas.List.{get_or-set_same, get_or-set_other}
use Rattle.std.proofs.lemmas.List.Sums.{sum_by-set, sum_by-cons, sum_by_push}
use Rattle.flt_model.specs.Trace.{one_if}
use Rattle.flt_model.specs.Violations.{in_queue, in_some, in_item}
use Rattle.flt_model.specs.declared.parts.Entry.{Entry}
use Rattle.flt_model.specs.declared.parts.Item.{Item}
use Rattle.flt_model.specs.declared.parts.Link.{Link}
use Rattle.flt_model.specs.World.{Store, Route, Frame, context_at, is_settled}
use Rattle.flt_sound.proofs.sums.Counts.{one_if-same, one_if-other}

-- ---- where a visit stands

-- how many entries of queues have the visit
abbrev pub queued : ℕ → Store → ℕ
queued v s = sum_by (in_queue v) s.queues

-- how many work items have the visit
abbrev pub working : ℕ → Store → ℕ
working v s = sum_by (in_item v) s.items

-- 1 while the visit isn't settled, and 0 after
abbrev pub unsettled : ℕ → Store → ℕ
unsettled v s = if is_settled s v then 0 else 1

in_queue-push : (v : ℕ) (queue : List Entry) (e : Entry) → in_queue v (queue ++ e ∷ []) ≡ in_queue v queue + one_if e.visit v
unfolding in_queue
in_queue-push v queue e = sum_by_push (λ (e : Entry). one_if e.visit v) queue e

in_queue-cons : (v : ℕ) (e : Entry) (queue : List Entry) → in_queue v (e ∷ queue) ≡ one_if e.visit v + in_queue v queue
unfolding in_queue
in_queue-cons v e queue = sum_by-cons (λ (e : Entry). one_if e.visit v) e queue

-- an entry goes into a queue: it has its visit once more
pub queue_push : (v : ℕ) (queues : List (List Entry)) (f : ℕ) (e : Entry) → f < length queues →
    sum_by (in_queue v) (set queues f (get_or queues f [] ++ e ∷ [])) ≡ sum_by (in_queue v) queues + one_if e.visit v
queue_push v queues f e h =
    let change = sum_by-set (in_queue v) queues f (get_or queues f [] ++ e ∷ []) [] h in
    omega (arith, change, in_queue-push v (get_or queues f []) e)

-- the first entry leaves a queue: the others have its visit once less
pub queue_pop : (v : ℕ) (queues : List (List Entry)) (f : ℕ) (e : Entry) (queue : List Entry) → f < length queues →
    get_or queues f [] ≡ e ∷ queue →
    sum_by (in_queue v) (set queues f queue) + one_if e.visit v ≡ sum_by (in_queue v) queues
queue_pop v queues f e queue h same =
    let change = rw same at (sum_by-set (in_queue v) queues f queue [] h) in
    omega (arith, change, in_queue-cons v e queue)

-- ---- a list without the first that passes a test

before_cons : {X : Type 0} (test : X → Bool) (x : X) (xs : List X) → test x ≡ false → before_first test (x ∷ xs) ≡ x ∷ before_first test xs
before_cons test x xs t =
    let e : 1 + position_or_len test xs ≡ suc (position_or_len test xs) = omega arith in
    rw (t, e) refl

after_cons : {X : Type 0} (test : X → Bool) (x : X) (xs : List X) → test x ≡ false → after_first test (x ∷ xs) ≡ after_first test xs
after_cons test x xs t =
    let e : 1 + position_or_len test xs + 1 ≡ suc (position_or_len test xs + 1) = omega arith in
    rw (t, e) refl

others_by : {X : Type 0} (f : X → ℕ) (test : X → Bool) (x y : X) (xs : List X) (b : Bool) → test x ≡ b →
    (find test xs ≡ Some y → sum_by f (before_first test xs ++ after_first test xs) + f y ≡ sum_by f xs) →
    (if b then Some x else find test xs) ≡ Some y →
    sum_by f (before_first test (x ∷ xs) ++ after_first test (x ∷ xs)) + f y ≡ sum_by f (x ∷ xs)
others_by f test x y xs true t ih e = let same : x ≡ y = cc in rw t (omega (arith, sum_by-cons f x xs, ap f same))
others_by f test x y xs false t ih e =
    let others = sum_by-cons f x (before_first test xs ++ after_first test xs) in
    rw (before_cons test x xs t, after_cons test x xs t) (omega (arith, sum_by-cons f x xs, ih e, others))

-- a sum over a list is that over the list without the first that passes a test, and that one's part
pub others_sum : {X : Type 0} (f : X → ℕ) (test : X → Bool) (xs : List X) (y : X) → find test xs ≡ Some y →
    sum_by f (before_first test xs ++ after_first test xs) + f y ≡ sum_by f xs
others_sum f test [] y e = absurd (cc)
others_sum f test (x ∷ xs) y e = others_by f test x y xs (test x) refl (others_sum f test xs y) e

-- an entry is taken out of a queue: the others have its visit once less
pub queue_others : (v : ℕ) (test : Entry → Bool) (queue : List Entry) (e : Entry) → find test queue ≡ Some e →
    in_queue v (before_first test queue ++ after_first test queue) + one_if e.visit v ≡ in_queue v queue
unfolding in_queue
queue_others v test queue e h = others_sum (λ (e : Entry). one_if e.visit v) test queue e h

-- ---- work items

-- a work item is queued: it has its visit
pub item_push : (v : ℕ) (items : List (Option Item)) (i : Item) →
    sum_by (in_item v) (items ++ Some i ∷ []) ≡ sum_by (in_item v) items + in_some v i.visit
item_push v items i = sum_by_push (in_item v) items (Some i)

-- a work item starts: its visit stands with it no more
pub item_pop : (v : ℕ) (items : List (Option Item)) (n : ℕ) (i : Item) → n < length items → get_or items n None ≡ Some i →
    sum_by (in_item v) (set items n None) + in_some v i.visit ≡ sum_by (in_item v) items
item_pop v items n i h e = let change = rw e at (sum_by-set (in_item v) items n None None h) in omega (arith, change)

-- ---- settling

-- where a visit is settled it is unsettled once less
pub open_settle : (s : Store) (v y : ℕ) → v < length s.settled → is_settled s v ≡ false →
    unsettled y (record s { settled = set s.settled v true }) + one_if v y ≡ unsettled y s
open_settle s v y there e =
    elim (cases_eq y v) [
      | inl same ↦ rw (same, get_or-set_same s.settled v true true there, e) (omega (arith, one_if-same v))
      | inr ne ↦ rw (get_or-set_other s.settled v y true true ne) (omega (arith, one_if-other v y (λ q. ne (sym q))))
    ]

-- ---- where a context's references stand

-- 1 where a frame has the context
abbrev pub in_frame : ℕ → Frame → ℕ
in_frame x f = in_some x f.context

-- how many frames of a route have it
abbrev pub in_route : ℕ → Route → ℕ
in_route x r = sum_by (in_frame x) r.frames

-- how many entries of a queue have it
abbrev pub in_line : ℕ → List Entry → ℕ
in_line x queue = sum_by (λ (e : Entry). in_some x e.context) queue

-- 1 where a work item has it
abbrev pub in_work : ℕ → Option Item → ℕ
in_work x None = 0
in_work x (Some i) = in_some x i.context

-- 1 where a context is linked: the link has a reference
abbrev pub linked : Option Link → ℕ
linked None = 0
linked (Some l) = 1

-- the references of the context that frames, entries and items have
abbrev pub standing : ℕ → Store → ℕ
standing x s = sum_by (in_route x) s.routes + (sum_by (in_line x) s.queues + sum_by (in_work x) s.items)

-- the references of the context that no variable has: that of its link, and those that stand there
abbrev pub elsewhere : ℕ → Store → ℕ
elsewhere x s = linked (context_at s x).link + standing x s
