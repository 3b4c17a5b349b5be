-- Visits by which the entries of an operation are found in a queue.
use Rattle.std.proofs.Common.{◌≡◌, ◌≤◌, ◌<◌, ℕ, Bool, true, false, ◌&&◌, ◌||◌, ◌==◌, nat_eq, nat_lt, List, [], ◌∷◌}
use Rattle.std.proofs.Common.{Option, Some, None, length, get_or, set, find, map, ⊎_elim, refl, sym, ap, ◌∙◌, arith}
use Rattle.std.specs.Prelude.{filter}
use Rattle.std.specs.Option.{MatchOption}
use Rattle.std.specs.List.{AllByRecursion, list_any}
use Rattle.std.proofs.lemmas.Bool.{eqb-true, cases_lt, lt-ltb}
use Rattle.std.proofs.lemmas.Bool.Decides.{nat_tests}
use Rattle.std.proofs.lemmas.List.{get_or_past}
use Rattle.std.proofs.lemmas.Map.Views.{any-filter_same}
use Rattle.flt_model.specs.declared.parts.Entry.{Entry}
use Rattle.flt_model.specs.declared.parts.Item.{Item}
use Rattle.flt_model.specs.World.{World, Visit, Store, no_visit, visit_at, queue_at, with_queue}
use Rattle.flt_model.specs.Moves.{is_entry_of, other_entries}
use Rattle.flt_replay_records.specs.Tickets.{is_of, without_first}
use Rattle.flt_replay_records.specs.Unsettled.{is_visit_of}

abbrev visits_of : List Entry → List ℕ
visits_of q = map (λ (e : Entry). e.visit) q

both_true : (x y : Bool) → y ≡ true → (x && y) ≡ x
both_true true y h = h
both_true false y h = refl

told : (f : ℕ → Bool) (v : ℕ) (xs : List ℕ) → list_any (nat_eq v) xs ≡ true → list_any (nat_eq v) (filter f xs) ≡ f v
told f v xs h =
    any-filter_same (nat_eq v) f (f v) (λ k e. ap f (sym (eqb-true v k e))) xs ∙ both_true (f v) (list_any (nat_eq v) xs) h

or_later : (x y : Bool) → y ≡ true → (x || y) ≡ true
or_later true y h = refl
or_later false y h = h

or_here : (x y : Bool) → x ≡ true → (x || y) ≡ true
or_here true y h = refl
or_here false y h = absurd (cc)

same_number : (v : ℕ) → (v == v) ≡ true
same_number v = grind (arith, nat_tests)

each_of : (f : ℕ → Bool) (xs : List ℕ) (q : List Entry) →
    ((v : ℕ) → list_any (nat_eq v) (visits_of q) ≡ true → list_any (nat_eq v) xs ≡ true) →
    AllByRecursion (λ e. is_of (filter f xs) e ≡ f e.visit) q
each_of f xs [] h = tt
each_of f xs (e ∷ q) h = (
  told f e.visit xs (h e.visit (or_here (e.visit == e.visit) (list_any (nat_eq e.visit) (visits_of q)) (same_number e.visit))),
  each_of f xs q (λ v a. h v (or_later (v == e.visit) (list_any (nat_eq v) (visits_of q)) a)),
)

-- those among the queue's own visits
pub among_own : (s : Store) (o : ℕ) (q : List Entry) (vs : List ℕ) →
    vs ≡ filter (λ (v : ℕ). (visit_at s v).operation == o) (visits_of q) → AllByRecursion (λ e. is_of vs e ≡ is_entry_of s o e) q
among_own s o q vs is = rw is (each_of (λ (v : ℕ). (visit_at s v).operation == o) (visits_of q) q (λ v a. a))

both_false : (x : Bool) → (x && false) ≡ false
both_false true = refl
both_false false = refl

all_of : (P : Entry → Type 0) (q : List Entry) → ((e : Entry) → P e) → AllByRecursion P q
all_of P [] h = tt
all_of P (e ∷ q) h = (h e, all_of P q h)

not_zero : (o : ℕ) → (o ≡ 0 → ⊥) → (0 == o) ≡ false
not_zero o h = grind (arith, nat_tests)

by_number : (visits : List Visit) (o : ℕ) → (o ≡ 0 → ⊥) → (v : ℕ) → is_visit_of o visits v ≡ ((get_or visits v no_visit).operation == o)
by_number visits o h v =
    ⊎_elim (λ (l : v < length visits). ap (λ (b : Bool). b && ((get_or visits v no_visit).operation == o)) (lt-ltb v (length visits) l))
    (λ (l : length visits ≤ v).
    let none : ((get_or visits v no_visit).operation == o) ≡ false = rw (get_or_past visits v no_visit l) (not_zero o h) in
    rw none (both_false (nat_lt v (length visits))))
    (cases_lt v (length visits))

-- the visits of an operation, which isn't that of visits that aren't there
pub of_operation : (s : Store) (o : ℕ) (q : List Entry) (vs : List ℕ) → (o ≡ 0 → ⊥) →
    ((v : ℕ) → list_any (nat_eq v) vs ≡ is_visit_of o s.visits v) → AllByRecursion (λ e. is_of vs e ≡ is_entry_of s o e) q
of_operation s o q vs h are =
    all_of (λ (e : Entry). is_of vs e ≡ is_entry_of s o e) q (λ e. are e.visit ∙ by_number s.visits o h e.visit)

-- ---- the first entry of an operation is taken out of what waits

-- what is taken out by the visits of an operation is taken out by the operation
pub taken_out : (w : World) (f o : ℕ) (vs : List ℕ) (r : Option Entry) (new : List (List Entry) × List (Option Item)) →
    (find (is_of vs) (queue_at w.store f) ≡ find (is_entry_of w.store o) (queue_at w.store f))
    × (without_first (is_of vs) (queue_at w.store f) ≡ without_first (is_entry_of w.store o) (queue_at w.store f)) →
    MatchOption r ((find (is_of vs) (queue_at w.store f) ≡ None) × (new ≡ (w.store.queues, w.store.items)))
    (λ e. (find (is_of vs) (queue_at w.store f) ≡ Some e)
    × (new ≡ (set w.store.queues f (without_first (is_of vs) (queue_at w.store f)), w.store.items))) →
    MatchOption r (find (is_entry_of w.store o) (queue_at w.store f) ≡ None)
    (λ e. (find (is_entry_of w.store o) (queue_at w.store f) ≡ Some e)
    × (record w { store = record w.store { queues = new.0; items = new.1 } }
    ≡ record w { store = with_queue w.store f (other_entries w.store o (queue_at w.store f)) }))
taken_out w f o vs None new same h = sym same.0 ∙ h.0
taken_out w f o vs (Some e) new same h = (
  sym same.0 ∙ h.0,
  ap (λ (n : List (List Entry) × List (Option Item)). record w { store = record w.store { queues = n.0; items = n.1 } }) h.1
      ∙ ap (λ (q : List Entry). record w { store = with_queue w.store f q }) same.1,
)
