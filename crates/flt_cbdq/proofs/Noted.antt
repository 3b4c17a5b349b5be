-- What is noted of each visit, after each change of a list.
use Rattle.std.proofs.Common.{◌≡◌, ◌≢◌, ℕ, zero, suc, ◌<◌, Bool, true, false, cond, List, [], ◌∷◌, ◌++◌, length, map, get_or, set}
use Rattle.std.proofs.Common.{drop, find, replicate, Option, Some, None, inl, inr, refl, sym, ap, ◌∙◌, subst, arith, Contains}
use Rattle.std.proofs.lemmas.Bool.{cases_eq, eq-eqb, ne_eqb, eqb-true}
use Rattle.std.proofs.lemmas.List.{length-set, length-replicate, get_or_read, get_or-set_same}
use Rattle.std.proofs.lemmas.List.{get_or-set_other, map-set, set-get_or, append-nil}
use Rattle.std.proofs.Math.ListN.{get_or-map}
use Rattle.std.proofs.lemmas.List.Elements.{filter-append}
use Rattle.std.proofs.lemmas.Option.{none-some, same_Some}
use Rattle.std.specs.List.{filter, before_first, after_first}
use Rattle.ilist_core.specs.NodeLists.{Sequences, nodes_of, first_of}
use Rattle.flt_cbdq.specs.declared.entry.Entry.{Entry}
use Rattle.flt_cbdq.specs.declared.queues.Queue.{Queue}
use Rattle.flt_cbdq.specs.Kept.{entry_at, is_with, nodes_with, no_queue, disabled_of, IsKept, IsAdded}
use Rattle.flt_cbdq.specs.Queues.{has_visit}
use Rattle.flt_cbdq.proofs.Entries.{cut_here, cut_later}
use Rattle.flt_cbdq.proofs.Searches.{first_is}

-- ---- filters

-- tests that agree on what is in the list keep the same
pub filter_kept : (p q : ℕ → Bool) (xs : List ℕ) → ((x : ℕ) → Contains xs x → p x ≡ q x) → filter p xs ≡ filter q xs
filter_kept p q [] same = refl
filter_kept p q (x ∷ xs) same =
    let here = same x (0, omega arith, refl) in
    let rest = filter_kept p q xs (λ y found. same y (suc found.0, omega (arith, found.1), found.2)) in
    λ i. cond (here i) (x ∷ rest i) (rest i)

module _ (p : ℕ → Bool) where
  abbrev left_by : List ℕ → List ℕ
  left_by xs = before_first p xs ++ after_first p xs

  same_by : (x : ℕ) (xs : List ℕ) (b : Bool) → p x ≡ b → filter p (left_by xs) ≡ drop 1 (filter p xs) →
      filter p (left_by (x ∷ xs)) ≡ drop 1 (filter p (x ∷ xs))
  same_by x xs true is rest = ap (filter p) (cut_here p x xs is)
      ∙ sym (ap (drop 1) (ap (λ (b : Bool). cond b (x ∷ filter p xs) (filter p xs)) is))
  same_by x xs false is rest =
      ap (filter p) (cut_later p x xs is)
      ∙ ap (λ (b : Bool). cond b (x ∷ filter p (left_by xs)) (filter p (left_by xs))) is
      ∙ rest
      ∙ sym (ap (drop 1) (ap (λ (b : Bool). cond b (x ∷ filter p xs) (filter p xs)) is))

  -- without the first that passes, those that pass lack their first
  pub filter_same : (xs : List ℕ) → filter p (left_by xs) ≡ drop 1 (filter p xs)
  filter_same [] = refl
  filter_same (x ∷ xs) = same_by x xs (p x) refl (filter_same xs)

  module _ (q : ℕ → Bool) (apart : (x : ℕ) → p x ≡ true → q x ≡ false) where
    other_by : (x : ℕ) (xs : List ℕ) (b : Bool) → p x ≡ b → filter q (left_by xs) ≡ filter q xs →
        filter q (left_by (x ∷ xs)) ≡ filter q (x ∷ xs)
    other_by x xs true is rest = ap (filter q) (cut_here p x xs is)
        ∙ sym (ap (λ (b : Bool). cond b (x ∷ filter q xs) (filter q xs)) (apart x is))
    other_by x xs false is rest = ap (filter q) (cut_later p x xs is) ∙ (λ i. cond (q x) (x ∷ rest i) (rest i))

    -- those that pass another test stay
    pub filter_other : (xs : List ℕ) → filter q (left_by xs) ≡ filter q xs
    filter_other [] = refl
    filter_other (x ∷ xs) = other_by x xs (p x) refl (filter_other xs)

-- ---- one list

-- a new node at the end
module _ (entries later : List Entry) (nodes : List ℕ) (node : ℕ) (entry : Entry) (absent : Contains nodes node → ⊥)
    (put : entry_at later node ≡ entry) (others : (other : ℕ) → other ≢ node → entry_at later other ≡ entry_at entries other) where
  others_kept : (visit : ℕ) → filter (is_with later visit) nodes ≡ filter (is_with entries visit) nodes
  others_kept visit = filter_kept (is_with later visit) (is_with entries visit) nodes
      (λ other found. ap (has_visit visit) (others other (λ same. absent (subst (Contains nodes) same found))))

  last_by : (visit : ℕ) (b : Bool) → has_visit visit entry ≡ b →
      filter (is_with later visit) (nodes ++ node ∷ []) ≡ filter (is_with entries visit) nodes ++ cond b (node ∷ []) []
  last_by visit b is =
      filter-append (is_with later visit) nodes (node ∷ [])
      ∙ (λ i. others_kept visit i ++ cond ((ap (has_visit visit) put ∙ is) i) (node ∷ []) [])

  pub added_here : filter (is_with later entry.visit) (nodes ++ node ∷ []) ≡ filter (is_with entries entry.visit) nodes ++ node ∷ []
  added_here = last_by entry.visit true (eq-eqb entry.visit entry.visit refl)

  pub added_apart : (visit : ℕ) → visit ≢ entry.visit →
      filter (is_with later visit) (nodes ++ node ∷ []) ≡ filter (is_with entries visit) nodes ++ []
  added_apart visit away = last_by visit false (ne_eqb entry.visit visit (λ same. away (sym same)))

-- an entry is of one visit
one_visit : (entries : List Entry) (visit other : ℕ) → other ≢ visit → (node : ℕ) → is_with entries visit node ≡ true →
    is_with entries other node ≡ false
one_visit entries visit other away node is =
    ne_eqb (entry_at entries node).visit other (λ same. away (sym same ∙ eqb-true (entry_at entries node).visit visit is))

-- ---- all queues

-- a list and what is noted of it change, and the others stay
module _ (queues : List Queue) (entries later : List Entry) (s new : Sequences) (kept : IsKept queues entries s) (list : ℕ)
    (nodes : List ℕ) (q : Queue) where
  pub kept_set : list < length queues → new.lists ≡ set s.lists list nodes →
      ((visit : ℕ) → nodes_with q.nodes visit ≡ filter (is_with later visit) nodes) →
      ((other visit : ℕ) → filter (is_with later visit) (nodes_of s.lists other) ≡ filter (is_with entries visit)
      (nodes_of s.lists other)) → IsKept (set queues list q) later new
  kept_set within changed noted same = record {
    as_many = ap length changed ∙ length-set s.lists list nodes ∙ kept.as_many ∙ sym (length-set queues list q);
    noted = λ other visit. elim (cases_eq other list) [
      | inl here ↦
          ap (λ (o : ℕ). nodes_with (get_or (set queues list q) o no_queue).nodes visit) here
          ∙ ap (λ (r : Queue). nodes_with r.nodes visit) (get_or-set_same queues list q no_queue within)
          ∙ noted visit
          ∙ sym (ap (filter (is_with later visit))
          (ap (λ (o : ℕ). nodes_of new.lists o) here ∙ ap (λ (ls : List (List ℕ)). nodes_of ls list) changed
          ∙ get_or-set_same s.lists list nodes [] inside))
      | inr away ↦
          ap (λ (r : Queue). nodes_with r.nodes visit) (get_or-set_other queues list other q no_queue away)
          ∙ kept.noted other visit
          ∙ sym (same other visit)
          ∙ sym (ap (filter (is_with later visit))
          (ap (λ (ls : List (List ℕ)). nodes_of ls other) changed ∙ get_or-set_other s.lists list other nodes [] away))
    ];
  }
    where
      inside : list < length s.lists
      inside = subst (λ (n : ℕ). list < n) (sym kept.as_many) within

-- what is noted of each visit, without the first node of one
removed_noted : (entries : List Entry) (nodes : List ℕ) (visit : ℕ) (old noted : List (ℕ × List ℕ)) →
    ((v : ℕ) → nodes_with old v ≡ filter (is_with entries v) nodes) → nodes_with noted visit ≡ drop 1 (nodes_with old visit) →
    ((v : ℕ) → v ≢ visit → nodes_with noted v ≡ nodes_with old v) → (v : ℕ) →
    nodes_with noted v ≡ filter (is_with entries v)
    (before_first (is_with entries visit) nodes ++ after_first (is_with entries visit) nodes)
removed_noted entries nodes visit old noted are here apart v = elim (cases_eq v visit) [
  | inl same ↦
      ap (nodes_with noted) same ∙ here ∙ ap (drop 1) (are visit) ∙ sym (filter_same (is_with entries visit) nodes)
      ∙ sym (ap (λ (w : ℕ). filter (is_with entries w)
      (before_first (is_with entries visit) nodes ++ after_first (is_with entries visit) nodes)) same)
  | inr away ↦ apart v away ∙ are v ∙ sym (filter_other (is_with entries visit) (is_with entries v) (one_visit entries visit v away) nodes)
]

-- the first node is the first of its visit
front_first : (entries : List Entry) (nodes : List ℕ) (node : ℕ) → Some node ≡ first_of nodes None →
    before_first (is_with entries (entry_at entries node).visit) nodes
    ++ after_first (is_with entries (entry_at entries node).visit) nodes ≡ drop 1 nodes
front_first entries [] node is = absurd (none-some node (sym is))
front_first entries (x ∷ xs) node is =
    let visit : ℕ = (entry_at entries node).visit in
    cut_here (is_with entries visit) x xs (ap (is_with entries visit) (sym (same_Some node x is)) ∙ eq-eqb visit visit refl)

-- a queue that was read, by its place
module _ (queues : List Queue) (entries : List Entry) (s : Sequences) (kept : IsKept queues entries s) (list : ℕ) (q : Queue)
    (within : list < length queues) (read : q ≡ get_or queues list q) where
  is_there : q ≡ get_or queues list no_queue
  is_there = get_or_read queues list q within read no_queue

  -- what it notes of each visit
  pub noted_there : (visit : ℕ) → nodes_with q.nodes visit ≡ filter (is_with entries visit) (nodes_of s.lists list)
  noted_there visit = ap (λ (r : Queue). nodes_with r.nodes visit) is_there ∙ kept.noted list visit

  -- whether it is disabled
  pub disabled_there : q.disabled ≡ get_or (disabled_of queues) list true
  disabled_there = ap (λ (r : Queue). r.disabled) is_there ∙ sym (get_or-map (λ (r : Queue). r.disabled) queues list no_queue)

  -- a change of what it notes disables and enables nothing
  pub disabled_same : (nodes : List (ℕ × List ℕ)) →
      disabled_of (set queues list (record { nodes = nodes; disabled = q.disabled })) ≡ disabled_of queues
  disabled_same nodes =
      map-set (λ (r : Queue). r.disabled) queues list (record { nodes = nodes; disabled = q.disabled })
      ∙ ap (set (disabled_of queues) list) disabled_there
      ∙ set-get_or (disabled_of queues) list true

  -- the first node that is noted of a visit is the list's first whose entry is of it
  pub first_noted : (visit : ℕ) (first : Option ℕ) → first ≡ first_of (nodes_with q.nodes visit) None →
      first ≡ find (is_with entries visit) (nodes_of s.lists list)
  first_noted visit first is = first_is entries (nodes_of s.lists list) visit (nodes_with q.nodes visit) first (noted_there visit) is

  -- the first node of a visit leaves
  module _ (visit : ℕ) (new : Sequences) (noted : List (ℕ × List ℕ))
      (here : nodes_with noted visit ≡ drop 1 (nodes_with q.nodes visit))
      (apart : (v : ℕ) → v ≢ visit → nodes_with noted v ≡ nodes_with q.nodes v) where
    -- what is noted stays right where the first node of a visit is taken out
    pub removed_kept : new.lists ≡ set s.lists list
        (before_first (is_with entries visit) (nodes_of s.lists list)
        ++ after_first (is_with entries visit) (nodes_of s.lists list)) →
        IsKept (set queues list (record { nodes = noted; disabled = q.disabled })) entries new
    removed_kept changed =
        kept_set queues entries entries s new kept list
        (before_first (is_with entries visit) (nodes_of s.lists list)
        ++ after_first (is_with entries visit) (nodes_of s.lists list)) (record { nodes = noted; disabled = q.disabled }) within changed
        (removed_noted entries (nodes_of s.lists list) visit q.nodes noted noted_there here apart)
        (λ other v. refl)

  -- the front node leaves
  pub popped_kept : (node : ℕ) (e : Entry) (new : Sequences) (noted : List (ℕ × List ℕ)) →
      Some node ≡ first_of (nodes_of s.lists list) None → e ≡ entry_at entries node →
      nodes_with noted e.visit ≡ drop 1 (nodes_with q.nodes e.visit) →
      ((v : ℕ) → v ≢ e.visit → nodes_with noted v ≡ nodes_with q.nodes v) →
      new.lists ≡ set s.lists list (drop 1 (nodes_of s.lists list)) →
      IsKept (set queues list (record { nodes = noted; disabled = q.disabled })) entries new
  popped_kept node e new noted first is here apart changed =
      removed_kept e.visit new noted here apart
      (changed ∙ sym (ap (set s.lists list)
      (ap (λ (x : Entry). before_first (is_with entries x.visit) (nodes_of s.lists list)
      ++ after_first (is_with entries x.visit) (nodes_of s.lists list)) is ∙ front_first entries (nodes_of s.lists list) node first)))

  -- a new node stands at the end
  pub added_kept : (entry : Entry) (later : List Entry) (new : Sequences) (noted : List (ℕ × List ℕ)) →
      IsAdded list entry s entries q.nodes new later noted →
      IsKept (set queues list (record { nodes = noted; disabled = q.disabled })) later new
  added_kept entry later new noted added =
      kept_set queues entries later s new kept list (nodes_of s.lists list ++ added.node ∷ [])
      (record { nodes = noted; disabled = q.disabled }) within added.lists
      (λ visit. elim (cases_eq visit entry.visit) [
        | inl same ↦
            ap (nodes_with noted) same ∙ added.here ∙ ap (λ (ns : List ℕ). ns ++ added.node ∷ []) (noted_there entry.visit)
            ∙ sym (added_here entries later (nodes_of s.lists list) added.node entry (added.unlinked list) added.put added.others)
            ∙ sym (ap (λ (v : ℕ). filter (is_with later v) (nodes_of s.lists list ++ added.node ∷ [])) same)
        | inr away ↦
            added.apart visit away ∙ noted_there visit ∙ sym (append-nil (filter (is_with entries visit) (nodes_of s.lists list)))
            ∙ sym (added_apart entries later (nodes_of s.lists list) added.node entry
            (added.unlinked list) added.put added.others visit away)
      ])
      (λ other visit. filter_kept (is_with later visit) (is_with entries visit) (nodes_of s.lists other)
      (λ node found. ap (has_visit visit)
      (added.others node (λ same. added.unlinked other (subst (Contains (nodes_of s.lists other)) same found)))))

  -- nothing was put in, though what is read may be kept elsewhere
  pub refused_kept : (later : List Entry) (new : Sequences) (noted : List (ℕ × List ℕ)) → new ≡ s →
      ((node : ℕ) → entry_at later node ≡ entry_at entries node) →
      ((visit : ℕ) → nodes_with noted visit ≡ nodes_with q.nodes visit) →
      IsKept (set queues list (record { nodes = noted; disabled = q.disabled })) later new
  refused_kept later new noted unchanged same unnoted =
      kept_set queues entries later s new kept list (nodes_of s.lists list) (record { nodes = noted; disabled = q.disabled }) within
      (ap (λ (r : Sequences). r.lists) unchanged ∙ sym (set-get_or s.lists list []))
      (λ visit. unnoted visit ∙ noted_there visit ∙ sym (alike visit list))
      (λ other visit. alike visit other)
    where
      alike : (visit other : ℕ) → filter (is_with later visit) (nodes_of s.lists other) ≡ filter (is_with entries visit)
          (nodes_of s.lists other)
      alike visit other = filter_kept (is_with later visit) (is_with entries visit) (nodes_of s.lists other)
          (λ node found. ap (has_visit visit) (same node))

-- empty lists have no element
none_there : {X : Type 0} → (m i : ℕ) → get_or (replicate {A = List X} m []) i [] ≡ []
none_there zero i = refl
none_there (suc m) zero = refl
none_there (suc m) (suc i) = none_there m i

none_with : (visit : ℕ) → nodes_with [] visit ≡ []
unfolding nodes_with
none_with visit = refl

-- empty queues note nothing
pub empty_kept : (queues : List Queue) (entries : List Entry) (s : Sequences) (n : ℕ) → length queues ≡ n →
    s.lists ≡ replicate n [] → map (λ (q : Queue). q.nodes) queues ≡ replicate n [] → IsKept queues entries s
empty_kept queues entries s n count lists unnoted = record {
  as_many = ap length lists ∙ length-replicate n [] ∙ sym count;
  noted = λ list visit.
      ap (λ (ns : List (ℕ × List ℕ)). nodes_with ns visit)
      (sym (get_or-map (λ (q : Queue). q.nodes) queues list no_queue)
      ∙ ap (λ (nss : List (List (ℕ × List ℕ))). get_or nss list []) unnoted ∙ none_there n list)
      ∙ none_with visit
      ∙ sym (ap (filter (is_with entries visit)) (ap (λ (ls : List (List ℕ)). nodes_of ls list) lists ∙ none_there n list));
}
