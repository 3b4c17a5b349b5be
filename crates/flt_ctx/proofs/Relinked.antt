-- What becomes of the links where a context loses its own, or hands it to another.
use Rattle.std.proofs.Common.{◌≡◌, ◌≢◌, ◌↔◌, ◌⊎◌, ℕ, ◌+◌, ◌<◌, ◌≤◌, List, length, map, set, get_or}
use Rattle.std.proofs.Common.{None, Some, refl, sym, ap, ◌∙◌, subst, inl, inr, arith, Contains}
use Rattle.std.proofs.lemmas.Bool.{cases_eq, cases_lt}
use Rattle.std.proofs.lemmas.List.{get_or-set_same, get_or-set_other, length-set, length-map}
use Rattle.std.proofs.lemmas.Option.{none-some, same_Some}
use Rattle.ilist_core.specs.NodeLists.{Sequences, nodes_of, without}
use Rattle.flt_ctx.specs.declared.links.Link.{Link}
use Rattle.flt_ctx.specs.declared.links.Row.{Row}
use Rattle.flt_ctx.specs.Rows.{no_row, row_at, context_of, place_of, IsPlaced, IsOfLink, AreLinked}

module _ (rows : List Row) (filters : ℕ) (s : Sequences) (contexts : List ℕ) (are : AreLinked rows filters s contexts) (x : ℕ) (l : Link)
    (is : (row_at rows x).link ≡ Some l) where
  placed : IsPlaced filters s contexts x l
  placed = are.placed x l is

  -- the target's node is in a list
  pub target_linked : (list : ℕ) × Contains (nodes_of s.lists list) l.by_target
  target_linked = (filters + place_of l.key.target, placed.target)

  -- ---- the link goes

  -- once the target's node is out the filter's is still in
  pub filter_linked : (later : Sequences) →
      ((list member : ℕ) → Contains (nodes_of later.lists list) member ↔
      (Contains (nodes_of s.lists list) member × (member ≢ l.by_target))) →
      (list : ℕ) × Contains (nodes_of later.lists list) l.by_filter
  filter_linked later members = (l.key.filter, (members l.key.filter l.by_filter).1 (placed.filter, λ same. placed.differ (sym same)))

  -- the link is this one wherever its context is named
  own : (list node : ℕ) → (found : Contains (nodes_of s.lists list) node) → context_of contexts node ≡ x → (node ≡ l.by_target)
      ⊎ (node ≡ l.by_filter)
  own list node found here =
      let n = are.named list node found in
      let same : n.link ≡ l = same_Some n.link l (sym n.is ∙ ap (λ (y : ℕ). (row_at rows y).link) here ∙ is) in
      elim (cases_lt list filters) [
        | inl less ↦ inr (sym (n.filter less) ∙ ap (λ (m : Link). m.by_filter) same)
        | inr more ↦ inl (sym (n.target more) ∙ ap (λ (m : Link). m.by_target) same)
      ]

  module _ (later : Sequences) (as_many : length later.lists ≡ filters + 1025)
      (members : (list member : ℕ) → Contains (nodes_of later.lists list) member ↔
      ((Contains (nodes_of s.lists list) member × (member ≢ l.by_target)) × (member ≢ l.by_filter)))
      (new : List Row) (gone : (row_at new x).link ≡ None) (others : (y : ℕ) → y ≢ x → (row_at new y).link ≡ (row_at rows y).link) where
    away : (y : ℕ) (m : Link) → (row_at new y).link ≡ Some m → y ≢ x
    away y m at same = none-some m (sym gone ∙ ap (λ (z : ℕ). (row_at new z).link) (sym same) ∙ at)

    was : (y : ℕ) (m : Link) → (row_at new y).link ≡ Some m → (row_at rows y).link ≡ Some m
    was y m at = sym (others y (away y m at)) ∙ at

    stays : (list node y : ℕ) → Contains (nodes_of s.lists list) node → context_of contexts node ≡ y → y ≢ x →
        Contains (nodes_of later.lists list) node
    stays list node y found names differs =
        (members list node).1 (
          (found, λ same. differs (sym names ∙ ap (context_of contexts) same ∙ placed.target_names)),
          λ same. differs (sym names ∙ ap (context_of contexts) same ∙ placed.filter_names),
        )

    -- links and nodes still belong to each other
    pub AreLinked-less : AreLinked new filters later contexts
    AreLinked-less = record {
      as_many = as_many;
      placed = λ y m at. let p = are.placed y m (was y m at) in record {
        there = p.there;
        target = stays _ m.by_target y p.target p.target_names (away y m at);
        filter = stays _ m.by_filter y p.filter p.filter_names (away y m at);
        target_within = p.target_within;
        filter_within = p.filter_within;
        differ = p.differ;
        target_names = p.target_names;
        filter_names = p.filter_names;
      };
      named = λ list node found.
          let both = (members list node).0 found in
          let n = are.named list node both.0.0 in
          let differs : context_of contexts node ≢ x =
          λ here. elim (own list node both.0.0 here) [ inl same ↦ both.0.1 same | inr same ↦ both.1 same ] in
          record { link = n.link; is = others (context_of contexts node) differs ∙ n.is; filter = n.filter; target = n.target };
      one = λ y z m n at also same. are.one y z m n (was y m at) (was z n also) same;
    }

  -- ---- the link is another's

  module _ (to : ℕ) (free : (row_at rows to).link ≡ None) (new : List Row) (names : List ℕ) (gone : (row_at new x).link ≡ None)
      (given : (row_at new to).link ≡ Some l) (others : (y : ℕ) → y ≢ x → y ≢ to → (row_at new y).link ≡ (row_at rows y).link)
      (as_long : length names ≡ length contexts) (target_named : context_of names l.by_target ≡ to)
      (filter_named : context_of names l.by_filter ≡ to)
      (same_names : (node : ℕ) → node ≢ l.by_target → node ≢ l.by_filter → context_of names node ≡ context_of contexts node) where
    -- a link is that of the new context, or it was there
    from : (y : ℕ) (m : Link) → (row_at new y).link ≡ Some m → ((y ≡ to) × (m ≡ l))
        ⊎ (((y ≢ x) × (y ≢ to)) × ((row_at rows y).link ≡ Some m))
    from y m at = elim (cases_eq y to) [
      | inl here ↦ inl (here, same_Some m l (sym at ∙ ap (λ (z : ℕ). (row_at new z).link) here ∙ given))
      | inr away ↦ elim (cases_eq y x) [
        | inl lost ↦ absurd (none-some m (sym gone ∙ ap (λ (z : ℕ). (row_at new z).link) (sym lost) ∙ at))
        | inr other ↦ inr ((other, away), sym (others y other away) ∙ at)
      ]
    ]

    keeps_name : (node y : ℕ) → context_of contexts node ≡ y → y ≢ x → context_of names node ≡ y
    keeps_name node y is_named differs =
        same_names node (λ same. differs (sym is_named ∙ ap (context_of contexts) same ∙ placed.target_names))
        (λ same. differs (sym is_named ∙ ap (context_of contexts) same ∙ placed.filter_names)) ∙ is_named

    placed_by : (y : ℕ) (m : Link) → ((y ≡ to) × (m ≡ l)) ⊎ (((y ≢ x) × (y ≢ to)) × ((row_at rows y).link ≡ Some m)) →
        IsPlaced filters s names y m
    placed_by y m (inl h) =
        let p : IsPlaced filters s names to l =
        record {
          there = placed.there;
          target = placed.target;
          filter = placed.filter;
          target_within = omega (arith, placed.target_within, as_long);
          filter_within =
              omega (arith, placed.filter_within, as_long);
          differ = placed.differ;
          target_names = target_named;
          filter_names =
              filter_named;
        } in
        subst (λ (z : ℕ). IsPlaced filters s names z m) (sym h.0) (subst (λ (k : Link). IsPlaced filters s names to k) (sym h.1) p)
    placed_by y m (inr h) =
        let p = are.placed y m h.1 in
        record {
          there = p.there;
          target = p.target;
          filter = p.filter;
          target_within = omega (arith, p.target_within, as_long);
          filter_within = omega (arith, p.filter_within, as_long);
          differ = p.differ;
          target_names =
              keeps_name m.by_target y p.target_names h.0.0;
          filter_names = keeps_name m.by_filter y p.filter_names h.0.0;
        }

    -- what has one key was there, or is the link
    same_by : (y z : ℕ) (m n : Link) → ((y ≡ to) × (m ≡ l)) ⊎ (((y ≢ x) × (y ≢ to)) × ((row_at rows y).link ≡ Some m)) →
        ((z ≡ to) × (n ≡ l)) ⊎ (((z ≢ x) × (z ≢ to)) × ((row_at rows z).link ≡ Some n)) → m.key ≡ n.key → y ≡ z
    same_by y z m n (inl h) (inl k) same = h.0 ∙ sym k.0
    same_by y z m n (inr h) (inr k) same = are.one y z m n h.1 k.1 same
    same_by y z m n (inl h) (inr k) same = absurd (k.0.0 (are.one z x n l k.1 is (sym same ∙ ap (λ (o : Link). o.key) h.1)))
    same_by y z m n (inr h) (inl k) same = absurd (h.0.0 (are.one y x m l h.1 is (same ∙ ap (λ (o : Link). o.key) k.1)))

    named_by : (list node : ℕ) → Contains (nodes_of s.lists list) node →
        ((node ≡ l.by_target) ⊎ (node ≡ l.by_filter)) ⊎ (context_of contexts node ≢ x) → IsOfLink filters new names list node
    named_by list node found (inr differs) =
        let n = are.named list node found in
        let name : context_of names node ≡ context_of contexts node = keeps_name node (context_of contexts node) refl differs in
        let not_to : context_of contexts node ≢ to =
        λ here. none-some n.link (sym free ∙ ap (λ (z : ℕ). (row_at rows z).link) (sym here) ∙ n.is) in
        record {
          link = n.link;
          is = ap (λ (z : ℕ). (row_at new z).link) name ∙ others (context_of contexts node) differs not_to
              ∙ n.is;
          filter = n.filter;
          target = n.target;
        }
    named_by list node found (inl either) =
        let was : context_of contexts node ≡ x =
        elim either [
          | inl same ↦ ap (context_of contexts) same ∙ placed.target_names
          | inr same ↦ ap (context_of contexts) same
              ∙ placed.filter_names
        ] in
        let name : context_of names node ≡ to =
        elim either [ inl same ↦ ap (context_of names) same ∙ target_named | inr same ↦ ap (context_of names) same ∙ filter_named ] in
        let n = are.named list node found in
        let same : n.link ≡ l = same_Some n.link l (sym n.is ∙ ap (λ (y : ℕ). (row_at rows y).link) was ∙ is) in
        record {
          link = l;
          is = ap (λ (z : ℕ). (row_at new z).link) name ∙ given;
          filter = λ less. ap (λ (m : Link). m.by_filter) (sym same) ∙ n.filter less;
          target = λ more. ap (λ (m : Link). m.by_target) (sym same) ∙ n.target more;
        }

    -- links and nodes still belong to each other
    pub AreLinked-moved : AreLinked new filters s names
    AreLinked-moved = record {
      as_many = are.as_many;
      placed = λ y m at. placed_by y m (from y m at);
      named = λ list node found. named_by list node found
          (elim (cases_eq (context_of contexts node) x) [ inl here ↦ inl (own list node found here) | inr differs ↦ inr differs ]);
      one = λ y z m n at also same. same_by y z m n (from y m at) (from z n also) same;
    }

-- ---- two nodes and two rows written

module _ (contexts first both : List ℕ) (t f to : ℕ) (t_within : t < length contexts) (f_within : f < length contexts) (differ : t ≢ f)
    (one : first ≡ set contexts t to) (two : both ≡ set first f to) where
  -- no name is added
  pub named_length : length both ≡ length contexts
  named_length = ap (λ (ns : List ℕ). length ns) two ∙ length-set first f to ∙ ap (λ (ns : List ℕ). length ns) one
      ∙ length-set contexts t to

  -- the filter's node names the new context
  pub filter_named : context_of both f ≡ to
  filter_named =
      let within : f < length first = omega (arith, f_within, ap (λ (ns : List ℕ). length ns) one ∙ length-set contexts t to) in
      ap (λ (ns : List ℕ). get_or ns f 0) two ∙ get_or-set_same first f to 0 within

  -- the target's node names the new context
  pub target_named : context_of both t ≡ to
  target_named = ap (λ (ns : List ℕ). get_or ns t 0) two ∙ get_or-set_other first f t to 0 differ
      ∙ ap (λ (ns : List ℕ). get_or ns t 0) one ∙ get_or-set_same contexts t to 0 t_within

  -- other nodes name what they named
  pub others_named : (node : ℕ) → node ≢ t → node ≢ f → context_of both node ≡ context_of contexts node
  others_named node away off = ap (λ (ns : List ℕ). get_or ns node 0) two ∙ get_or-set_other first f node to 0 off
      ∙ ap (λ (ns : List ℕ). get_or ns node 0) one ∙ get_or-set_other contexts t node to 0 away

module _ (rows : List Row) (x to : ℕ) (gone given : Row) (x_within : x < length rows) (to_within : to < length rows) (differ : x ≢ to) where
  abbrev both_rows : List Row
  both_rows = set (set rows x gone) to given

  -- the first row is the one that was written first
  pub row_gone : row_at both_rows x ≡ gone
  row_gone = get_or-set_other (set rows x gone) to x given no_row differ ∙ get_or-set_same rows x gone no_row x_within

  -- the second row is the one that was written last
  pub row_given : row_at both_rows to ≡ given
  row_given = get_or-set_same (set rows x gone) to given no_row (omega (arith, to_within, length-set rows x gone))

  -- other rows are as they were
  pub row_other : (y : ℕ) → y ≢ x → y ≢ to → row_at both_rows y ≡ row_at rows y
  row_other y away off = get_or-set_other (set rows x gone) to y given no_row off ∙ get_or-set_other rows x y gone no_row away

-- ---- two nodes out, one after the other

-- the members of lists once two nodes are taken out and removed
pub both_out : (s s1 s2 s3 s4 : Sequences) (t f : ℕ) →
    ((list member : ℕ) → Contains (nodes_of s1.lists list) member ↔ (Contains (nodes_of s.lists list) member × (member ≢ t))) →
    s2.lists ≡ s1.lists →
    ((list member : ℕ) → Contains (nodes_of s3.lists list) member ↔ (Contains (nodes_of s2.lists list) member × (member ≢ f))) →
    s4.lists ≡ s3.lists → (list member : ℕ) →
    Contains (nodes_of s4.lists list) member ↔ ((Contains (nodes_of s.lists list) member × (member ≢ t)) × (member ≢ f))
both_out s s1 s2 s3 s4 t f one same two also list member = (
  λ found.
      let h = (two list member).0 (subst (λ (ls : List (List ℕ)). Contains (nodes_of ls list) member) also found) in
      ((one list member).0 (subst (λ (ls : List (List ℕ)). Contains (nodes_of ls list) member) same h.0), h.1),
  λ both. subst (λ (ls : List (List ℕ)). Contains (nodes_of ls list) member) (sym also)
      ((two list member).1 (
        subst (λ (ls : List (List ℕ)). Contains (nodes_of ls list) member) (sym same)
            ((one list member).1 both.0),
        both.1,
      )),
)

-- there are as many lists afterwards
pub as_many_out : (filters : ℕ) (s s1 s2 s3 s4 : Sequences) (t f : ℕ) → length s.lists ≡ filters + 1025 →
    s1 ≡ record s { lists = map (without t) s.lists } → s2.lists ≡ s1.lists → s3 ≡ record s2 { lists = map (without f) s2.lists } →
    s4.lists ≡ s3.lists → length s4.lists ≡ filters + 1025
as_many_out filters s s1 s2 s3 s4 t f count one same two also =
    ap (λ (ls : List (List ℕ)). length ls) also ∙ ap (λ (q : Sequences). length q.lists) two ∙ length-map s2.lists (without f)
    ∙ ap (λ (ls : List (List ℕ)). length ls) same ∙ ap (λ (q : Sequences). length q.lists) one ∙ length-map s.lists (without t) ∙ count

-- ---- a new link

-- names of other nodes may change, and lists that stay are linked alike
pub AreLinked-renamed : (rows : List Row) (filters : ℕ) (s later : Sequences) (contexts names : List ℕ) →
    AreLinked rows filters s contexts → later.lists ≡ s.lists → length contexts ≤ length names →
    ((list node : ℕ) → Contains (nodes_of s.lists list) node → context_of names node ≡ context_of contexts node) →
    AreLinked rows filters later names
AreLinked-renamed rows filters s later contexts names are same longer alike =
    let back : (list node : ℕ) → Contains (nodes_of later.lists list) node → Contains (nodes_of s.lists list) node =
    λ list node found. subst (λ (ls : List (List ℕ)). Contains (nodes_of ls list) node) same found in
    let forth : (list node : ℕ) → Contains (nodes_of s.lists list) node → Contains (nodes_of later.lists list) node =
    λ list node found. subst (λ (ls : List (List ℕ)). Contains (nodes_of ls list) node) (sym same) found in
    record {
      as_many = ap (λ (ls : List (List ℕ)). length ls) same ∙ are.as_many;
      placed = λ x l is. let p = are.placed x l is in record {
        there = p.there;
        target = forth _ l.by_target p.target;
        filter = forth _ l.by_filter p.filter;
        target_within = omega (arith, p.target_within, longer);
        filter_within = omega (arith, p.filter_within, longer);
        differ = p.differ;
        target_names = alike _ l.by_target p.target ∙ p.target_names;
        filter_names = alike _ l.by_filter p.filter ∙ p.filter_names;
      };
      named = λ list node found.
          let was = back list node found in
          let n = are.named list node was in
          record {
            link = n.link;
            is = ap (λ (x : ℕ). (row_at rows x).link) (alike list node was) ∙ n.is;
            filter = n.filter;
            target = n.target;
          };
      one = are.one;
    }

module _ (rows : List Row) (filters : ℕ) (s : Sequences) (contexts : List ℕ) (are : AreLinked rows filters s contexts) (x : ℕ) (l : Link)
    (none : (row_at rows x).link ≡ None) (alone : (y : ℕ) (m : Link) → (row_at rows y).link ≡ Some m → m.key ≢ l.key)
    (low : l.key.filter < filters) (differ : l.by_target ≢ l.by_filter) (target_in : l.by_target < length contexts)
    (filter_in : l.by_filter < length contexts) (target_names : context_of contexts l.by_target ≡ x)
    (filter_names : context_of contexts l.by_filter ≡ x) (later : Sequences) (as_many : length later.lists ≡ filters + 1025)
    (members : (list member : ℕ) → Contains (nodes_of later.lists list) member ↔
    ((Contains (nodes_of s.lists list) member ⊎ ((list ≡ filters + place_of l.key.target) × (member ≡ l.by_target)))
    ⊎ ((list ≡ l.key.filter) × (member ≡ l.by_filter))))
    (new : List Row) (given : (row_at new x).link ≡ Some l) (others : (y : ℕ) → y ≢ x → (row_at new y).link ≡ (row_at rows y).link) where
  cases : (y : ℕ) (m : Link) → (row_at new y).link ≡ Some m → ((y ≡ x) × (m ≡ l)) ⊎ ((row_at rows y).link ≡ Some m)
  cases y m at = elim (cases_eq y x) [
    | inl here ↦ inl (here, same_Some m l (sym at ∙ ap (λ (z : ℕ). (row_at new z).link) here ∙ given))
    | inr away ↦ inr (sym (others y away) ∙ at)
  ]

  placed_new : (y : ℕ) (m : Link) → ((y ≡ x) × (m ≡ l)) ⊎ ((row_at rows y).link ≡ Some m) → IsPlaced filters later contexts y m
  placed_new y m (inl h) =
      let p : IsPlaced filters later contexts x l = record {
        there = low;
        target = (members (filters + place_of l.key.target) l.by_target).1 (inl (inr (refl, refl)));
        filter = (members l.key.filter l.by_filter).1 (inr (refl, refl));
        target_within = target_in;
        filter_within = filter_in;
        differ = differ;
        target_names = target_names;
        filter_names = filter_names;
      } in
      subst (λ (z : ℕ). IsPlaced filters later contexts z m) (sym h.0)
      (subst (λ (k : Link). IsPlaced filters later contexts x k) (sym h.1) p)
  placed_new y m (inr was) =
      let p = are.placed y m was in
      record {
        there = p.there;
        target = (members _ m.by_target).1 (inl (inl p.target));
        filter = (members _ m.by_filter).1 (inl (inl p.filter));
        target_within = p.target_within;
        filter_within = p.filter_within;
        differ = p.differ;
        target_names = p.target_names;
        filter_names = p.filter_names;
      }

  named_new : (list node : ℕ) →
      (Contains (nodes_of s.lists list) node ⊎ ((list ≡ filters + place_of l.key.target) × (node ≡ l.by_target)))
      ⊎ ((list ≡ l.key.filter) × (node ≡ l.by_filter)) →
      IsOfLink filters new contexts list node
  named_new list node (inl (inl found)) =
      let n = are.named list node found in
      let away : context_of contexts node ≢ x =
      λ here. none-some n.link (sym none ∙ ap (λ (z : ℕ). (row_at rows z).link) (sym here) ∙ n.is) in
      record { link = n.link; is = others (context_of contexts node) away ∙ n.is; filter = n.filter; target = n.target }
  named_new list node (inl (inr h)) = record {
    link = l;
    is = ap (λ (z : ℕ). (row_at new z).link) (ap (context_of contexts) h.1 ∙ target_names) ∙ given;
    filter = λ less. absurd (omega (arith, less, h.0));
    target = λ more. sym h.1;
  }
  named_new list node (inr h) = record {
    link = l;
    is = ap (λ (z : ℕ). (row_at new z).link) (ap (context_of contexts) h.1 ∙ filter_names) ∙ given;
    filter = λ less. sym h.1;
    target = λ more. absurd (omega (arith, more, h.0, low));
  }

  one_new : (y z : ℕ) (m n : Link) → ((y ≡ x) × (m ≡ l)) ⊎ ((row_at rows y).link ≡ Some m) →
      ((z ≡ x) × (n ≡ l)) ⊎ ((row_at rows z).link ≡ Some n) → m.key ≡ n.key → y ≡ z
  one_new y z m n (inl h) (inl k) same = h.0 ∙ sym k.0
  one_new y z m n (inr h) (inr k) same = are.one y z m n h k same
  one_new y z m n (inl h) (inr k) same = absurd (alone z n k (sym same ∙ ap (λ (o : Link). o.key) h.1))
  one_new y z m n (inr h) (inl k) same = absurd (alone y m h (same ∙ ap (λ (o : Link). o.key) k.1))

  -- links and nodes still belong to each other
  pub AreLinked-more : AreLinked new filters later contexts
  AreLinked-more = record {
    as_many = as_many;
    placed = λ y m at. placed_new y m (cases y m at);
    named = λ list node found. named_new list node ((members list node).0 found);
    one = λ y z m n at also same. one_new y z m n (cases y m at) (cases z n also) same;
  }

-- two nodes in, one after the other
pub both_in : (s s1 s2 : Sequences) (p t q f : ℕ) →
    ((list member : ℕ) → Contains (nodes_of s1.lists list) member ↔
    (Contains (nodes_of s.lists list) member ⊎ ((list ≡ p) × (member ≡ t)))) →
    ((list member : ℕ) → Contains (nodes_of s2.lists list) member ↔
    (Contains (nodes_of s1.lists list) member ⊎ ((list ≡ q) × (member ≡ f)))) →
    (list member : ℕ) →
    Contains (nodes_of s2.lists list) member ↔
    ((Contains (nodes_of s.lists list) member ⊎ ((list ≡ p) × (member ≡ t))) ⊎ ((list ≡ q) × (member ≡ f)))
both_in s s1 s2 p t q f one two list member = (
  λ found. elim ((two list member).0 found) [ inl h ↦ inl ((one list member).0 h) | inr h ↦ inr h ],
  λ either. (two list member).1 (elim either [ inl h ↦ inl ((one list member).1 h) | inr h ↦ inr h ]),
)
