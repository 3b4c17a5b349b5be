-- Lists of nodes, seen as lists of entries: what a change of the one is to the other.
use Rattle.std.proofs.Common.{◌≡◌, ◌≢◌, ℕ, zero, suc, ◌+◌, ◌≤◌, Bool, true, false, List, [], ◌∷◌, ◌++◌, length, map, get_or, set}
use Rattle.std.proofs.Common.{take, drop, find, replicate, Option, Some, None, refl, sym, ap, ◌∙◌, subst, arith, add-one, Contains}
use Rattle.std.proofs.lemmas.List.{map-set, map-append, take-map, drop-map, set-get_or, get_or_past}
use Rattle.std.proofs.lemmas.List.Elements.{Contains-append_right}
use Rattle.std.proofs.lemmas.Option.{none-some, same_Some}
use Rattle.std.proofs.Math.ListN.{get_or-map}
use Rattle.std.specs.List.{position_or_len, before_first, after_first, slice_get}
use Rattle.std.specs.Option.{option_map}
use Rattle.ilist_core.specs.NodeLists.{Sequences, nodes_of, first_of}
use Rattle.flt_cbdq.specs.declared.entry.Entry.{Entry}
use Rattle.flt_cbdq.specs.Kept.{entry_at, entries_of}
use Rattle.flt_cbdq.specs.Queues.{front_of, has_visit, without_first}

-- ---- one list

-- the entries of a list are those of its nodes
pub entries_in : (entries : List Entry) (lists : List (List ℕ)) (list : ℕ) →
    get_or (entries_of entries lists) list [] ≡ map (entry_at entries) (nodes_of lists list)
entries_in entries lists list = get_or-map (map (entry_at entries)) lists list []

pub front_seen : (entries : List Entry) (nodes : List ℕ) →
    front_of (map (entry_at entries) nodes) ≡ option_map (entry_at entries) (first_of nodes None)
front_seen entries [] = refl
front_seen entries (node ∷ rest) = refl

-- where a list has no first node there is no node
pub none_left : (nodes : List ℕ) → first_of nodes None ≡ None → nodes ≡ []
none_left [] is = refl
none_left (node ∷ rest) is = absurd (none-some node (sym is))

module _ {X Y : Type 0} (f : X → Y) (p : Y → Bool) where
  find_by : (x : X) (xs : List X) (b : Bool) → p (f x) ≡ b → find p (map f xs) ≡ option_map f (find (λ y. p (f y)) xs) →
      find p (f x ∷ map f xs) ≡ option_map f (find (λ y. p (f y)) (x ∷ xs))
  find_by x xs true is rest = rw is refl
  find_by x xs false is rest = rw is rest

  pub find-map : (xs : List X) → find p (map f xs) ≡ option_map f (find (λ x. p (f x)) xs)
  find-map [] = refl
  find-map (x ∷ xs) = find_by x xs (p (f x)) refl (find-map xs)

  position_by : (x : X) (xs : List X) (b : Bool) → p (f x) ≡ b →
      position_or_len p (map f xs) ≡ position_or_len (λ y. p (f y)) xs →
      position_or_len p (f x ∷ map f xs) ≡ position_or_len (λ y. p (f y)) (x ∷ xs)
  position_by x xs true is rest = rw is refl
  position_by x xs false is rest = rw is (ap (λ (n : ℕ). 1 + n) rest)

  pub position-map : (xs : List X) → position_or_len p (map f xs) ≡ position_or_len (λ x. p (f x)) xs
  position-map [] = refl
  position-map (x ∷ xs) = position_by x xs (p (f x)) refl (position-map xs)

module _ {X : Type 0} (p : X → Bool) where
  later_place : (y : X) (ys : List X) → p y ≡ false → position_or_len p (y ∷ ys) ≡ suc (position_or_len p ys)
  later_place y ys here = rw here (omega arith)

  later_cut : (y : X) (ys xs : List X) (n m : ℕ) → m ≡ suc n →
      take m (y ∷ ys) ++ (xs ++ drop (m + 1) (y ∷ ys)) ≡ y ∷ (take n ys ++ (xs ++ drop (n + 1) ys))
  later_cut y ys xs n m is = rw (is, add-one, add-one) refl

  -- without the first that passes, where that is the first of all, and where it isn't
  pub cut_here : (y : X) (ys : List X) → p y ≡ true → before_first p (y ∷ ys) ++ after_first p (y ∷ ys) ≡ ys
  cut_here y ys here = rw here refl

  -- where the first element fails, the list is cut later
  pub cut_later : (y : X) (ys : List X) → p y ≡ false →
      before_first p (y ∷ ys) ++ after_first p (y ∷ ys) ≡ y ∷ (before_first p ys ++ after_first p ys)
  cut_later y ys here = later_cut y ys [] (position_or_len p ys) (position_or_len p (y ∷ ys)) (later_place y ys here)

  cut_by : (y : X) (ys : List X) (x : X) (b : Bool) → p y ≡ b → find p (y ∷ ys) ≡ Some x →
      (find p ys ≡ Some x → ys ≡ before_first p ys ++ x ∷ after_first p ys) → y ∷ ys ≡ before_first p (y ∷ ys) ++ x ∷ after_first p (y ∷ ys)
  cut_by y ys x true here is rest = let h = rw here at is in rw here (ap (λ (z : X). z ∷ ys) (same_Some y x h))
  cut_by y ys x false here is rest = let h = rw here at is in ap (λ (zs : List X). y ∷ zs) (rest h)
      ∙ sym (later_cut y ys (x ∷ []) (position_or_len p ys) (position_or_len p (y ∷ ys)) (later_place y ys here))

  -- a list is cut at what is found
  pub found_cut : (xs : List X) (x : X) → find p xs ≡ Some x → xs ≡ before_first p xs ++ x ∷ after_first p xs
  found_cut [] x is = absurd (none-some x is)
  found_cut (y ∷ ys) x is = cut_by y ys x (p y) refl is (found_cut ys x)

  -- and has it
  pub found_in : (xs : List X) (x : X) → find p xs ≡ Some x → Contains xs x
  found_in xs x is = subst (λ (ys : List X). Contains ys x) (sym (found_cut xs x is))
      (Contains-append_right (before_first p xs) (x ∷ after_first p xs) x (0, omega arith, refl))

  none_by : (y : X) (ys : List X) (b : Bool) → p y ≡ b → find p (y ∷ ys) ≡ None →
      (find p ys ≡ None → before_first p ys ++ after_first p ys ≡ ys) → before_first p (y ∷ ys) ++ after_first p (y ∷ ys) ≡ y ∷ ys
  none_by y ys true here is rest = let h = rw here at is in absurd (none-some y (sym h))
  none_by y ys false here is rest = let h = rw here at is in
      later_cut y ys [] (position_or_len p ys) (position_or_len p (y ∷ ys)) (later_place y ys here) ∙ ap (λ (zs : List X). y ∷ zs) (rest h)

  -- nothing is taken out where nothing is found
  pub none_cut : (xs : List X) → find p xs ≡ None → before_first p xs ++ after_first p xs ≡ xs
  none_cut [] is = refl
  none_cut (y ∷ ys) is = none_by y ys (p y) refl is (none_cut ys)

-- the entries without the first of a visit are those of the nodes without its node
pub without_seen : (entries : List Entry) (visit : ℕ) (nodes : List ℕ) →
    without_first (has_visit visit) (map (entry_at entries) nodes) ≡ map (entry_at entries)
    (before_first (λ node. has_visit visit (entry_at entries node)) nodes
    ++ after_first (λ node. has_visit visit (entry_at entries node)) nodes)
without_seen entries visit nodes =
    let test : ℕ → Bool = λ node. has_visit visit (entry_at entries node) in
    let same = position-map (entry_at entries) (has_visit visit) nodes in
    (λ i. take (same i) (map (entry_at entries) nodes) ++ drop (same i + 1) (map (entry_at entries) nodes))
    ∙ (λ i. take-map (entry_at entries) (position_or_len test nodes) nodes i
    ++ drop-map (entry_at entries) (position_or_len test nodes + 1) nodes i)
    ∙ sym (map-append (entry_at entries) (before_first test nodes) (after_first test nodes))

-- ---- all lists

-- entries that are read alike are the same lists of entries
module _ (new old : List Entry) where
  nodes_kept : (nodes : List ℕ) → ((node : ℕ) → Contains nodes node → entry_at new node ≡ entry_at old node) →
      map (entry_at new) nodes ≡ map (entry_at old) nodes
  nodes_kept [] same = refl
  nodes_kept (x ∷ xs) same =
      let here = same x (0, omega arith, refl) in
      let rest = nodes_kept xs (λ node found. same node (suc found.0, omega (arith, found.1), found.2)) in
      λ i. here i ∷ rest i

  -- lists whose nodes keep their entries keep their entries
  pub entries_kept : (lists : List (List ℕ)) →
      ((list node : ℕ) → Contains (nodes_of lists list) node → entry_at new node ≡ entry_at old node) →
      entries_of new lists ≡ entries_of old lists
  entries_kept [] same = refl
  entries_kept (x ∷ xs) same =
      let here = nodes_kept x (same zero) in
      let rest = entries_kept xs (λ list. same (suc list)) in
      λ i. here i ∷ rest i

  -- a new node at the end of a list is an entry at the end of its entries
  pub entries_pushed : (lists : List (List ℕ)) (list node : ℕ) (entry : Entry) →
      ((other : ℕ) → Contains (nodes_of lists other) node → ⊥) → entry_at new node ≡ entry →
      ((other : ℕ) → other ≢ node → entry_at new other ≡ entry_at old other) →
      entries_of new (set lists list (nodes_of lists list ++ node ∷ [])) ≡ set (entries_of old lists) list
      (get_or (entries_of old lists) list [] ++ entry ∷ [])
  entries_pushed lists list node entry unlinked put others =
      let kept : (l n : ℕ) → Contains (nodes_of lists l) n → entry_at new n ≡ entry_at old n =
      λ l n found. others n (λ same. unlinked l (subst (Contains (nodes_of lists l)) same found)) in
      let one = nodes_kept (nodes_of lists list) (kept list) in
      map-set (map (entry_at new)) lists list (nodes_of lists list ++ node ∷ [])
      ∙ (λ i. set (entries_kept lists kept i) list (map-append (entry_at new) (nodes_of lists list) (node ∷ []) i))
      ∙ (λ i. set (entries_of old lists) list (one i ++ put i ∷ []))
      ∙ (λ i. set (entries_of old lists) list (sym (entries_in old lists list) i ++ entry ∷ []))

-- nodes in place of a list's are entries in place of its entries
pub entries_set : (entries : List Entry) (lists : List (List ℕ)) (list : ℕ) (nodes : List ℕ) →
    entries_of entries (set lists list nodes) ≡ set (entries_of entries lists) list (map (entry_at entries) nodes)
entries_set entries lists list nodes = map-set (map (entry_at entries)) lists list nodes

-- the first node leaves, and so does the front entry
pub entries_popped : (entries : List Entry) (lists : List (List ℕ)) (list : ℕ) →
    entries_of entries (set lists list (drop 1 (nodes_of lists list))) ≡ set (entries_of entries lists) list
    (drop 1 (get_or (entries_of entries lists) list []))
entries_popped entries lists list =
    entries_set entries lists list (drop 1 (nodes_of lists list))
    ∙ ap (set (entries_of entries lists) list)
    (sym (drop-map (entry_at entries) 1 (nodes_of lists list)) ∙ ap (drop 1) (sym (entries_in entries lists list)))

module _ (entries : List Entry) (lists : List (List ℕ)) (list visit : ℕ) where
  abbrev test : ℕ → Bool
  test node = has_visit visit (entry_at entries node)

  -- what is found among the entries is the entry of the node that is found
  pub found_seen : (found : Option ℕ) → found ≡ find test (nodes_of lists list) →
      find (has_visit visit) (get_or (entries_of entries lists) list []) ≡ option_map (entry_at entries) found
  found_seen found is = ap (find (has_visit visit)) (entries_in entries lists list)
      ∙ find-map (entry_at entries) (has_visit visit) (nodes_of lists list) ∙ ap (option_map (entry_at entries)) (sym is)

  -- the node is taken out, and so is the entry
  pub entries_without : entries_of entries
      (set lists list (before_first test (nodes_of lists list) ++ after_first test (nodes_of lists list))) ≡ set
      (entries_of entries lists) list (without_first (has_visit visit) (get_or (entries_of entries lists) list []))
  entries_without =
      entries_set entries lists list (before_first test (nodes_of lists list) ++ after_first test (nodes_of lists list))
      ∙ ap (set (entries_of entries lists) list)
      (sym (without_seen entries visit (nodes_of lists list)) ∙ ap (without_first (has_visit visit)) (sym (entries_in entries lists list)))

  -- no entry is found, and all stay
  pub entries_all : None ≡ find test (nodes_of lists list) →
      entries_of entries lists ≡ set (entries_of entries lists) list
      (without_first (has_visit visit) (get_or (entries_of entries lists) list []))
  entries_all none =
      sym (set-get_or (entries_of entries lists) list [])
      ∙ ap (set (entries_of entries lists) list)
      (sym (none_cut (has_visit visit) (get_or (entries_of entries lists) list []) (found_seen None none)))

-- ---- what the calls leave, where the filter's queue is the list of its number

module _ (entries : List Entry) (s : Sequences) (filter : ℕ) where
  -- a filter that isn't there has no entry
  pub no_entries : length s.lists ≤ filter → get_or (entries_of entries s.lists) filter [] ≡ []
  no_entries past = entries_in entries s.lists filter ∙ ap (map (entry_at entries)) (get_or_past s.lists filter [] past)

  -- a node that is taken from the front of a list takes the front entry of its queue
  pub popped_seen : (list : ℕ) (later last : Sequences) → list ≡ filter →
      later ≡ record s { lists = set s.lists list (drop 1 (nodes_of s.lists list)) } → last.lists ≡ later.lists →
      entries_of entries last.lists ≡ set (entries_of entries s.lists) filter (drop 1 (get_or (entries_of entries s.lists) filter []))
  popped_seen list later last here popped same =
      ap (entries_of entries) (same ∙ ap (λ (q : Sequences). q.lists) popped
      ∙ (λ i. set s.lists (here i) (drop 1 (nodes_of s.lists (here i)))))
      ∙ entries_popped entries s.lists filter

  pub front_is : (list : ℕ) (first : Option ℕ) → list ≡ filter → first ≡ first_of (nodes_of s.lists list) None →
      option_map (entry_at entries) first ≡ front_of (get_or (entries_of entries s.lists) filter [])
  front_is list first here is =
      ap (option_map (entry_at entries)) (is ∙ (λ i. first_of (nodes_of s.lists (here i)) None))
      ∙ sym (front_seen entries (nodes_of s.lists filter)) ∙ ap front_of (sym (entries_in entries s.lists filter))

  module _ (list visit : ℕ) (here : list ≡ filter) where
    -- the node that is found for a visit has the entry that is found for it
    pub found_at : (found : Option ℕ) → found ≡ find (test entries s.lists list visit) (nodes_of s.lists list) →
        option_map (entry_at entries) found ≡ find (has_visit visit) (get_or (entries_of entries s.lists) filter [])
    found_at found is = sym (found_seen entries s.lists filter visit found
        (is ∙ (λ i. find (test entries s.lists list visit) (nodes_of s.lists (here i)))))

    -- where no node is found for a visit, the queue has no entry of it to lose
    pub all_at : None ≡ find (test entries s.lists list visit) (nodes_of s.lists list) →
        entries_of entries s.lists ≡ set (entries_of entries s.lists) filter
        (without_first (has_visit visit) (get_or (entries_of entries s.lists) filter []))
    all_at is = entries_all entries s.lists filter visit (is ∙ (λ i. find (test entries s.lists list visit) (nodes_of s.lists (here i))))

    -- a node that is taken out for a visit takes the first entry of this visit out of the queue
    pub without_at : (node : ℕ) (later last : Sequences) →
        Some node ≡ find (test entries s.lists list visit) (nodes_of s.lists list) →
        ((l : ℕ) (before after : List ℕ) → nodes_of s.lists l ≡ before ++ node ∷ after →
        later.lists ≡ set s.lists l (before ++ after)) → last.lists ≡ later.lists →
        entries_of entries last.lists ≡ set (entries_of entries s.lists) filter
        (without_first (has_visit visit) (get_or (entries_of entries s.lists) filter []))
    without_at node later last is cut same =
        let at = is ∙ (λ i. find (test entries s.lists list visit) (nodes_of s.lists (here i))) in
        let test : ℕ → Bool = λ n. has_visit visit (entry_at entries n) in
        let nodes : List ℕ = nodes_of s.lists filter in
        ap (entries_of entries) (same ∙ cut filter (before_first test nodes) (after_first test nodes) (found_cut test nodes node (sym at)))
        ∙ entries_without entries s.lists filter visit

-- what is found among a filter's entries is the entry of the node that is found in its list
pub found_where : (entries : List Entry) (s : Sequences) (filter : ℕ) (p : Entry → Bool) (list : ℕ) → list ≡ filter →
    (found : Option ℕ) → found ≡ find (λ (n : ℕ). p (entry_at entries n)) (nodes_of s.lists list) →
    option_map (entry_at entries) found ≡ find p (get_or (entries_of entries s.lists) filter [])
found_where entries s filter p list here found is =
    sym (ap (find p) (entries_in entries s.lists filter) ∙ find-map (entry_at entries) p (nodes_of s.lists filter)
    ∙ ap (option_map (entry_at entries)) (sym (is ∙ (λ i. find (λ (n : ℕ). p (entry_at entries n)) (nodes_of s.lists (here i))))))

-- the lists without the first node of a visit
pub without_lists : (entries : List Entry) (s : Sequences) (list visit node : ℕ) (later last : Sequences) →
    Some node ≡ find (test entries s.lists list visit) (nodes_of s.lists list) →
    ((l : ℕ) (before after : List ℕ) → nodes_of s.lists l ≡ before ++ node ∷ after →
    later.lists ≡ set s.lists l (before ++ after)) → last.lists ≡ later.lists →
    last.lists ≡ set s.lists list (before_first (test entries s.lists list visit) (nodes_of s.lists list)
    ++ after_first (test entries s.lists list visit) (nodes_of s.lists list))
without_lists entries s list visit node later last is cut same =
    let test : ℕ → Bool = λ n. has_visit visit (entry_at entries n) in
    let nodes : List ℕ = nodes_of s.lists list in
    same ∙ cut list (before_first test nodes) (after_first test nodes) (found_cut test nodes node (sym is))

-- no list has an entry where none has a node
pub entries_none : (entries : List Entry) (n : ℕ) → entries_of entries (replicate n []) ≡ replicate n []
entries_none entries zero = refl
entries_none entries (suc n) = ap (λ (es : List (List Entry)). [] ∷ es) (entries_none entries n)

-- ---- walks

first_drop : (nodes : List ℕ) (k : ℕ) → first_of (drop k nodes) None ≡ slice_get nodes k
first_drop [] zero = refl
first_drop [] (suc k) = refl
first_drop (x ∷ xs) zero = refl
first_drop (x ∷ xs) (suc k) = first_drop xs k

place_cut : (nodes : List ℕ) (place node : ℕ) → slice_get nodes place ≡ Some node →
    nodes ≡ take place nodes ++ node ∷ drop (place + 1) nodes
place_cut [] place node at = absurd (none-some node at)
place_cut (x ∷ xs) zero node at = ap (λ (y : ℕ). y ∷ xs) (same_Some x node at)
place_cut (x ∷ xs) (suc place) node at =
    let more : drop (place + 1) xs ≡ drop (suc place + 1) (x ∷ xs) = rw (add-one, add-one) refl in
    ap (λ (ys : List ℕ). x ∷ ys) (place_cut xs place node at) ∙ ap (λ (ys : List ℕ). x ∷ (take place xs ++ node ∷ ys)) more

-- what follows the node of a place is the node of the next place
pub next_place : (nodes : List ℕ) (place node : ℕ) (next : Option ℕ) → slice_get nodes place ≡ Some node →
    ((before after : List ℕ) → nodes ≡ before ++ node ∷ after → next ≡ first_of after None) → next ≡ slice_get nodes (place + 1)
next_place nodes place node next at follows = follows (take place nodes) (drop (place + 1) nodes) (place_cut nodes place node at)
    ∙ first_drop nodes (place + 1)
