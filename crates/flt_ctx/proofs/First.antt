-- The first key of a filter's links.
use Rattle.std.proofs.Common.{◌≡◌, ◌≢◌, ℕ, ◌+◌, ◌<◌, ◌≤◌, Bool, true, false, is_some, List, [], ◌∷◌, length, map}
use Rattle.std.proofs.Common.{Option, Some, None, IfSome, refl, sym, ap, ◌∙◌, subst, arith, inl, inr, Contains}
use Rattle.std.specs.BTreeSet.{BTreeSet}
use Rattle.std.proofs.lemmas.Bool.{cases_lt, true≢false}
use Rattle.ilist_core.specs.NodeLists.{Sequences, nodes_of, first_of, AreApart}
use Rattle.flt_ctx.specs.declared.key.Key.{Key}
use Rattle.flt_ctx.specs.declared.key.Target.{Target}
use Rattle.flt_ctx.specs.declared.key.Target.TheVariants.{Stream, Instance}
use Rattle.flt_ctx.specs.declared.links.Row.{Row}
use Rattle.flt_ctx.specs.Contexts.{Context, ContextTable, context_at, linked_at, order_of}
use Rattle.flt_ctx.specs.Rows.{row_at, key_of, as_context, context_of}
use Rattle.flt_ctx.specs.Kept.{AreKept}
use Rattle.flt_ctx.specs.Streams.{stream_key}
use Rattle.pair_set.specs.Pairs.{has}
use Rattle.flt_ctx.proofs.Rows.{context_is}
use Rattle.flt_ctx.proofs.Walks.{linked_alone}
use Rattle.flt_ctx.proofs.Indexed.{with_key}

module _ (rows : List Row) (closed : List Bool) (s : Sequences) (contexts : List ℕ) (streams : BTreeSet (ℕ × ℕ))
    (are : AreKept rows (length closed) s contexts streams) (h : ContextTable)
    (view : record { contexts = map as_context rows; closed = closed } ≡ h)
    (filter : ℕ) where
  link_is : (x : ℕ) → (context_at h x).link ≡ key_of (row_at rows x).link
  link_is x = ap (λ (c : Context). c.link) (context_is rows closed h view x)

  is_linked : (x : ℕ) (key : Key) → (context_at h x).link ≡ Some key → is_some (linked_at h key) ≡ true
  is_linked x key is = ap (λ (o : Option ℕ). is_some o) (linked_alone rows (length closed) s contexts are.linked key closed h view x is)

  -- at a stream of the set a context is linked
  pub stream_linked : (file : ℕ) → has streams filter file ≡ true → is_some (linked_at h (stream_key filter file)) ≡ true
  stream_linked file there =
      let at = (are.indexed.each filter file).0 there in
      is_linked at.0 (stream_key filter file) (link_is at.0 ∙ at.1)

  -- where the filter's list is empty, no key is of the filter
  none_listed : (filter < length closed → nodes_of s.lists filter ≡ []) → (x : ℕ) (key : Key) → (context_at h x).link ≡ Some key →
      key.filter ≢ filter
  none_listed empty x key is same =
      let l = with_key (row_at rows x).link key (sym (link_is x) ∙ is) in
      let placed = are.linked.placed x l.0 l.1 in
      let here : l.0.key.filter ≡ filter = ap (λ (k : Key). k.filter) l.2 ∙ same in
      let found : Contains (nodes_of s.lists filter) l.0.by_filter =
      subst (λ (f : ℕ). Contains (nodes_of s.lists f) l.0.by_filter) here placed.filter in
      let out : Contains [] l.0.by_filter =
      subst (λ (nodes : List ℕ). Contains nodes l.0.by_filter) (empty (omega (arith, here, placed.there))) found in
      omega (arith, out.1)

  -- a node of the filter's list is of a link of the filter
  one_listed : AreApart s → (node : ℕ) → filter < length closed → Contains (nodes_of s.lists filter) node →
      (x : ℕ) × (key : Key) × (((context_at h x).link ≡ Some key) × (key.filter ≡ filter))
  one_listed apart node low found =
      let n = are.linked.named filter node found in
      let placed = are.linked.placed (context_of contexts node) n.link n.is in
      let also : Contains (nodes_of s.lists n.link.key.filter) node =
      subst (λ (m : ℕ). Contains (nodes_of s.lists n.link.key.filter) m) (n.filter low) placed.filter in (
        context_of contexts node,
        n.link.key,
        (link_is (context_of contexts node) ∙ ap key_of n.is, apart.in_two n.link.key.filter filter node also found),
      )

  -- where the filter is not there, no key is of it
  pub none_past : length closed ≤ filter → (x : ℕ) (key : Key) → (context_at h x).link ≡ Some key → key.filter ≢ filter
  none_past past = none_listed (λ low. absurd (omega (arith, past, low)))

  -- the filter's list has a first node exactly where a key is of the filter
  module _ (list : ℕ) (here : list ≡ filter) (first : Option ℕ) where
    -- where a filter's list has a first node, the filter has a link
    pub first_some : AreApart s → filter < length closed → IfSome first (Contains (nodes_of s.lists list)) → is_some first ≡ true →
        (x : ℕ) × (key : Key) × (((context_at h x).link ≡ Some key) × (key.filter ≡ filter))
    first_some apart low within there = by first within there
      where
        by : (o : Option ℕ) → IfSome o (Contains (nodes_of s.lists list)) → is_some o ≡ true →
            (x : ℕ) × (key : Key) × (((context_at h x).link ≡ Some key) × (key.filter ≡ filter))
        by None within there = absurd (true≢false (sym there))
        by (Some node) within there = one_listed apart node low (subst (λ (f : ℕ). Contains (nodes_of s.lists f) node) here within)

    -- where a filter's list has no first node, the filter has no link
    pub first_none : first ≡ first_of (nodes_of s.lists list) None → is_some first ≡ false → (x : ℕ) (key : Key) →
        (context_at h x).link ≡ Some key → key.filter ≢ filter
    first_none is absent =
        none_listed (λ _. ap (λ (f : ℕ). nodes_of s.lists f) (sym here)
        ∙ empty (nodes_of s.lists list) (ap (λ (o : Option ℕ). is_some o) (sym is) ∙ absent))
      where
        empty : (nodes : List ℕ) → is_some (first_of nodes None) ≡ false → nodes ≡ []
        empty [] none = refl
        empty (node ∷ nodes) none = absurd (true≢false none)

  module _ (no_instance : is_some (linked_at h (record { filter = filter; target = Instance })) ≡ false) where
    -- where no context is linked to the instance, a key of the filter is that of a stream of the set
    is_of_stream : (x number : ℕ) (target : Target) → (context_at h x).link ≡ Some (record { filter = number; target = target }) →
        number ≡ filter →
        (file : ℕ) × (target ≡ Stream file) × (has streams filter file ≡ true)
    is_of_stream x number (Stream file) is same = (
      file,
      refl,
      (are.indexed.each filter file).1
          (x, sym (link_is x) ∙ is ∙ (λ i. Some (record { filter = same i; target = Stream file }))),
    )
    is_of_stream x number Instance is same =
        absurd (true≢false (sym (is_linked x (record { filter = filter; target = Instance })
        (is ∙ (λ i. Some (record { filter = same i; target = Instance })))) ∙ no_instance))

    -- the least stream of the set stands at or before each key of the filter
    pub stream_least : (least : ℕ) → ((file : ℕ) → file < least → has streams filter file ≡ false) → (x : ℕ) (other : Key) →
        (context_at h x).link ≡ Some other → other.filter ≡ filter → least + 1 ≤ order_of other.target
    stream_least least before x other is same =
        let found = is_of_stream x other.filter other.target is same in
        let at_or_after : least ≤ found.0 = elim (cases_lt found.0 least) [
          | inl less ↦ absurd (true≢false (sym found.2 ∙ before found.0 less))
          | inr more ↦ more
        ] in
        subst (λ (t : Target). least + 1 ≤ order_of t) (sym found.1) (omega (arith, at_or_after))

    -- where the set has no stream of the filter, no key is of the filter
    pub stream_none : ((file : ℕ) → has streams filter file ≡ false) → (x : ℕ) (key : Key) → (context_at h x).link ≡ Some key →
        key.filter ≢ filter
    stream_none none x key is same =
        let found = is_of_stream x key.filter key.target is same in
        true≢false (sym found.2 ∙ none found.0)
