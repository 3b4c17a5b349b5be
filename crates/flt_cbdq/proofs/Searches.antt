-- What is found in a list: by a walk along it, and by what is noted of each visit.
use Rattle.std.proofs.Common.{◌≡◌, ℕ, ◌+◌, ◌<◌, ◌≤◌, ◌||◌, ◌==◌, Bool, true, false, cond, List, [], ◌∷◌, length}
use Rattle.std.proofs.Common.{find, take, get_or, Option, Some, None, is_some, inl, inr, refl, sym, ap, ◌∙◌}
use Rattle.std.proofs.lemmas.Option.{none-some}
use Rattle.std.proofs.lemmas.Bool.{eq-eqb, ne_eqb, cases_eq, true≢false}
use Rattle.std.proofs.lemmas.List.{take_all}
use Rattle.std.proofs.lemmas.List.Folds.{list_any_more}
use Rattle.std.specs.List.{filter}
use Rattle.ilist_core.specs.NodeLists.{nodes_from, first_of}
use Rattle.flt_cbdq.specs.declared.entry.Entry.{Entry}
use Rattle.flt_cbdq.specs.Kept.{entry_at, is_with}
use Rattle.flt_cbdq.specs.Queues.{is_of}

-- a walk that has come to a node whose entry is of one of the visits has found it
pub walk_found : (entries : List Entry) (visits nodes rest : List ℕ) (at : Option ℕ) (node : ℕ) (e : Entry) →
    find (λ n. is_of visits (entry_at entries n)) nodes ≡ find (λ n. is_of visits (entry_at entries n)) (nodes_from nodes at) →
    at ≡ Some node → nodes_from nodes (Some node) ≡ node ∷ rest → e ≡ entry_at entries node → is_of visits e ≡ true →
    Some node ≡ find (λ n. is_of visits (entry_at entries n)) nodes
walk_found entries visits nodes rest at node e same is from entry here =
    let test : ℕ → Bool = λ n. is_of visits (entry_at entries n) in
    let passes : test node ≡ true = ap (is_of visits) (sym entry) ∙ here in
    sym (same ∙ ap (λ (o : Option ℕ). find test (nodes_from nodes o)) is ∙ ap (find test) from
    ∙ ap (λ (b : Bool). cond b (Some node) (find test rest)) passes)

-- a walk goes on past a node whose entry is of none of the visits
pub walk_on : (entries : List Entry) (visits nodes : List ℕ) (at next : Option ℕ) (node : ℕ) (e : Entry) →
    find (λ n. is_of visits (entry_at entries n)) nodes ≡ find (λ n. is_of visits (entry_at entries n)) (nodes_from nodes at) →
    at ≡ Some node → nodes_from nodes (Some node) ≡ node ∷ nodes_from nodes next → e ≡ entry_at entries node →
    is_of visits e ≡ false → find (λ n. is_of visits (entry_at entries n)) nodes ≡ find (λ n. is_of visits (entry_at entries n))
    (nodes_from nodes next)
walk_on entries visits nodes at next node e same is from entry fails =
    let test : ℕ → Bool = λ n. is_of visits (entry_at entries n) in
    same ∙ ap (λ (o : Option ℕ). find test (nodes_from nodes o)) is ∙ ap (find test) from
    ∙ ap (λ (b : Bool). cond b (Some node) (find test (nodes_from nodes next))) (ap (is_of visits) (sym entry) ∙ fails)

-- the first of no visits
pub found_none : (entries : List Entry) (nodes : List ℕ) → None ≡ find (λ n. is_of [] (entry_at entries n)) nodes
found_none entries [] = refl
found_none entries (node ∷ nodes) = found_none entries nodes

-- the first of as many visits as there are
pub found_all : (entries : List Entry) (visits nodes : List ℕ) (i : ℕ) (found : Option ℕ) → length visits ≤ i →
    found ≡ find (λ n. is_of (take i visits) (entry_at entries n)) nodes → found ≡ find (λ n. is_of visits (entry_at entries n)) nodes
found_all entries visits nodes i found past is = is
    ∙ ap (λ (vs : List ℕ). find (λ n. is_of vs (entry_at entries n)) nodes) (take_all i visits past)

module _ (p : ℕ → Bool) where
  first_by : (x : ℕ) (xs : List ℕ) (b : Bool) → p x ≡ b → first_of (filter p xs) None ≡ find p xs →
      first_of (filter p (x ∷ xs)) None ≡ find p (x ∷ xs)
  first_by x xs true is rest = rw is refl
  first_by x xs false is rest = rw is rest

  -- the first of those that pass is what is found
  pub first_filter : (xs : List ℕ) → first_of (filter p xs) None ≡ find p xs
  first_filter [] = refl
  first_filter (x ∷ xs) = first_by x xs (p x) refl (first_filter xs)

-- the first node that is noted of a visit is the first whose entry is of it
pub first_is : (entries : List Entry) (nodes : List ℕ) (visit : ℕ) (noted : List ℕ) (first : Option ℕ) →
    noted ≡ filter (is_with entries visit) nodes → first ≡ first_of noted None → first ≡ find (is_with entries visit) nodes
first_is entries nodes visit noted first are is = is ∙ ap (λ (ns : List ℕ). first_of ns None) are
    ∙ first_filter (is_with entries visit) nodes

-- where nothing is found, it is `None`
pub none_is : (found : Option ℕ) → is_some found ≡ false → None ≡ found
none_is None is = refl
none_is (Some n) is = absurd (true≢false is)

-- whether two numbers are equal, asked the other way round
eqb_swap : (m n : ℕ) → (m == n) ≡ (n == m)
eqb_swap m n = elim (cases_eq m n) [
  | inl same ↦ eq-eqb m n same ∙ sym (eq-eqb n m (sym same))
  | inr differs ↦ ne_eqb m n differs ∙ sym (ne_eqb n m (λ same. differs (sym same)))
]

module _ (p q : ℕ → Bool) where
  left_by : (x : ℕ) (xs : List ℕ) (a b : Bool) → p x ≡ a → q x ≡ b → find q (x ∷ xs) ≡ None →
      (find q xs ≡ None → find (λ y. p y || q y) xs ≡ find p xs) → find (λ y. p y || q y) (x ∷ xs) ≡ find p (x ∷ xs)
  left_by x xs true b is also none rest = rw is refl
  left_by x xs false true is also none rest = let h = rw also at none in absurd (none-some x (sym h))
  left_by x xs false false is also none rest = let h = rw also at none in rw (is, also) (rest h)

  -- what passes one of two tests is what passes the first, where none passes the second
  pub find_left : (xs : List ℕ) → find q xs ≡ None → find (λ y. p y || q y) xs ≡ find p xs
  find_left [] none = refl
  find_left (x ∷ xs) none = left_by x xs (p x) (q x) refl refl none (find_left xs)

  right_by : (x : ℕ) (xs : List ℕ) (a b : Bool) → p x ≡ a → q x ≡ b → find p (x ∷ xs) ≡ None →
      (find p xs ≡ None → find (λ y. p y || q y) xs ≡ find q xs) → find (λ y. p y || q y) (x ∷ xs) ≡ find q (x ∷ xs)
  right_by x xs true b is also none rest = let h = rw is at none in absurd (none-some x (sym h))
  right_by x xs false true is also none rest = rw (is, also) refl
  right_by x xs false false is also none rest = let h = rw is at none in rw (is, also) (rest h)

  -- and what passes the second, where none passes the first
  pub find_right : (xs : List ℕ) → find p xs ≡ None → find (λ y. p y || q y) xs ≡ find q xs
  find_right [] none = refl
  find_right (x ∷ xs) none = right_by x xs (p x) (q x) refl refl none (find_right xs)

-- a search for the first visits, of which one more is taken
module _ (entries : List Entry) (visits nodes : List ℕ) (i : ℕ) (within : i < length visits) where
  abbrev visit : ℕ
  visit = get_or visits i 0

  abbrev found_by : ℕ → Option ℕ
  found_by n = find (λ node. is_of (take n visits) (entry_at entries node)) nodes

  one_more : (node : ℕ) → is_of (take (i + 1) visits) (entry_at entries node) ≡
      (is_of (take i visits) (entry_at entries node) || is_with entries visit node)
  one_more node =
      let e : Entry = entry_at entries node in
      list_any_more (λ (v : ℕ). v == e.visit) visits i 0 within
      ∙ ap (λ (b : Bool). is_of (take i visits) e || b) (eqb_swap visit e.visit)

  found_more : found_by (i + 1) ≡ find (λ node. is_of (take i visits) (entry_at entries node) || is_with entries visit node) nodes
  found_more = λ j. find (λ node. one_more node j) nodes

  -- nothing was found yet, and the visit's first node is
  pub found_now : (first : Option ℕ) → None ≡ found_by i → first ≡ find (is_with entries visit) nodes → first ≡ found_by (i + 1)
  found_now first none is = is ∙ sym (find_right (λ node. is_of (take i visits) (entry_at entries node))
      (is_with entries visit) nodes (sym none)) ∙ sym found_more

  -- the visit has no node
  pub found_still : (found : Option ℕ) → found ≡ found_by i → None ≡ find (is_with entries visit) nodes → found ≡ found_by (i + 1)
  found_still found is none = is ∙ sym
      (find_left (λ node. is_of (take i visits) (entry_at entries node)) (is_with entries visit) nodes (sym none)) ∙ sym found_more

-- nothing is left of a walk that has come to the end
pub none_after : (nodes : List ℕ) (at : Option ℕ) → at ≡ None → nodes_from nodes at ≡ []
none_after [] at is = refl
none_after (node ∷ nodes) at is = rw is refl
