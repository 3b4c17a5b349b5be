-- Walks along the list of a target.
use Rattle.std.proofs.Common.{◌≡◌, ◌≢◌, ℕ, zero, suc, ◌+◌, ◌<◌, ◌==◌, ◌&&◌, Bool, true, false, cond, nat_lt, List, [], ◌∷◌, length}
use Rattle.std.proofs.Common.{map, get_or, find, position, Option, Some, None, refl, sym, ap, ◌∙◌, subst, arith, Contains, inl, inr}
use Rattle.std.proofs.lemmas.Bool.{eqb-true, eq-eqb, lt-ltb, ltb-true, cases_lt, true≢false, false_from_ne_true}
use Rattle.std.proofs.lemmas.List.{length-map, get_or_past}
use Rattle.std.proofs.lemmas.List.Sums.{position_or_len_is, fails_before_first}
use Rattle.std.proofs.lemmas.Option.{none-some, same_Some}
use Rattle.std.proofs.Math.ListN.{get_or-map}
use Rattle.std.specs.List.{position_or_len}
use Rattle.ilist_core.specs.NodeLists.{Sequences, nodes_of, nodes_from}
use Rattle.flt_ctx.specs.declared.key.Key.{Key}
use Rattle.flt_ctx.specs.declared.key.Target.{Target}
use Rattle.flt_ctx.specs.declared.key.Target.TheVariants.{Stream, Instance}
use Rattle.flt_ctx.specs.declared.links.Link.{Link}
use Rattle.flt_ctx.specs.declared.links.Row.{Row}
use Rattle.flt_ctx.specs.Contexts.{Context, ContextTable, context_at, linked_at, no_context, same_target, same_key, is_key}
use Rattle.flt_ctx.proofs.Rows.{context_is}
use Rattle.flt_ctx.specs.Rows.{row_at, key_of, as_context, no_row, context_of, place_of, AreLinked}

-- ---- keys

-- targets that pass for one are one, and each passes for itself
target_is : (t u : Target) → same_target t u ≡ true → t ≡ u
target_is (Stream f) (Stream g) is = ap Stream (eqb-true f g is)
target_is Instance Instance is = refl
target_is (Stream f) Instance is = absurd (true≢false (sym is))
target_is Instance (Stream g) is = absurd (true≢false (sym is))

both : (a b : Bool) → (a && b) ≡ true → (a ≡ true) × (b ≡ true)
both true b is = (refl, is)
both false b is = absurd (true≢false (sym is))

same_self : (n : ℕ) → (n == n) ≡ true
same_self n = eq-eqb n n refl

target_self : (t : Target) → same_target t t ≡ true
target_self (Stream f) = same_self f
target_self Instance = refl

-- a key passes for itself
pub key_self : (key : Key) → same_key key key ≡ true
key_self key = (λ i. same_self key.filter i && same_target key.target key.target) ∙ target_self key.target

-- a key that passes for another is that one
pub key_is : (key l : Key) → same_key key l ≡ true → key ≡ l
key_is key l is =
    let h = both (key.filter == l.filter) (same_target key.target l.target) is in
    λ i. record { filter = eqb-true key.filter l.filter h.0 i; target = target_is key.target l.target h.1 i }

-- a link that passes for a key, with that key
pub link_is : (key : Key) (link : Option Link) → is_key key (key_of link) ≡ true → (l : Link) × (link ≡ Some l) × (key ≡ l.key)
link_is key None is = absurd (true≢false (sym is))
link_is key (Some l) is = (l, refl, key_is key l.key is)

-- ---- walks

-- a walk that has come to a node that passes has found it
pub walk_found : (test : ℕ → Bool) (nodes rest : List ℕ) (at : Option ℕ) (node : ℕ) → find test nodes ≡ find test (nodes_from nodes at) →
    at ≡ Some node → nodes_from nodes (Some node) ≡ node ∷ rest → test node ≡ true → Some node ≡ find test nodes
walk_found test nodes rest at node same is from passes =
    sym (same ∙ ap (λ (o : Option ℕ). find test (nodes_from nodes o)) is ∙ ap (find test) from
    ∙ ap (λ (b : Bool). cond b (Some node) (find test rest)) passes)

-- what is found passes, and where nothing is found nothing passes
pub found_passes : (test : ℕ → Bool) (nodes : List ℕ) (node : ℕ) → find test nodes ≡ Some node → test node ≡ true
found_passes test [] node is = absurd (none-some node is)
found_passes test (x ∷ xs) node is = by (test x) refl is (found_passes test xs node)
  where
    by : (b : Bool) → test x ≡ b → find test (x ∷ xs) ≡ Some node → (find test xs ≡ Some node → test node ≡ true) → test node ≡ true
    by true here is rest = let h = rw here at is in subst (λ (n : ℕ). test n ≡ true) (same_Some x node h) here
    by false here is rest = let h = rw here at is in rest h

-- where nothing is found no member passes
pub none_passes : (test : ℕ → Bool) (nodes : List ℕ) (node : ℕ) → find test nodes ≡ None → Contains nodes node → test node ≡ true → ⊥
none_passes test [] node is found passes = absurd (omega (arith, found.1))
none_passes test (x ∷ xs) node is found passes = by (test x) refl is (none_passes test xs node) found
  where
    by : (b : Bool) → test x ≡ b → find test (x ∷ xs) ≡ None → (find test xs ≡ None → Contains xs node → test node ≡ true → ⊥) →
        Contains (x ∷ xs) node → ⊥
    by true here is rest found = let h = rw here at is in absurd (none-some x (sym h))
    by false here is rest (zero, within, same) = true≢false (sym passes ∙ ap test (sym same) ∙ here)
    by false here is rest (suc k, within, same) = let h = rw here at is in rest h (k, omega (arith, within), same) passes

-- ---- the context of a key

module _ (rows : List Row) (filters : ℕ) (s : Sequences) (contexts : List ℕ) (are : AreLinked rows filters s contexts) (key : Key) where
  abbrev passes : Context → Bool
  passes c = is_key key c.link

  abbrev test : ℕ → Bool
  test node = is_key key (key_of (row_at rows (context_of contexts node)).link)

  at_row : (x : ℕ) → passes (get_or (map as_context rows) x no_context) ≡ is_key key (key_of (row_at rows x).link)
  at_row x = ap passes (get_or-map as_context rows x no_row)

  within : (x : ℕ) → is_key key (key_of (row_at rows x).link) ≡ true → x < length (map as_context rows)
  within x is = elim (cases_lt x (length rows)) [
    | inl less ↦ omega (arith, less, length-map rows as_context)
    | inr past ↦ absurd (true≢false (sym is ∙ ap (λ (r : Row). is_key key (key_of r.link)) (get_or_past rows x no_row past)))
  ]

  alone : (x y : ℕ) → is_key key (key_of (row_at rows x).link) ≡ true → is_key key (key_of (row_at rows y).link) ≡ true → y ≡ x
  alone x y is also =
      let l = link_is key (row_at rows x).link is in
      let m = link_is key (row_at rows y).link also in
      are.one y x m.0 l.0 m.1 l.1 (sym m.2 ∙ l.2)

  -- a context with the key is the one that is linked there
  pub position_at : (x : ℕ) → is_key key (key_of (row_at rows x).link) ≡ true → Some x ≡ position passes (map as_context rows)
  position_at x here =
      let inside : x < length (map as_context rows) = within x here in
      let place : position_or_len passes (map as_context rows) ≡ x =
      position_or_len_is passes (map as_context rows) x no_context (omega (arith, inside))
      (λ k less. false_from_ne_true (passes (get_or (map as_context rows) k no_context))
      (λ also. absurd (omega (arith, less, alone x k here (sym (at_row k) ∙ also)))))
      (λ _. at_row x ∙ here) in
      let less : nat_lt (position_or_len passes (map as_context rows)) (length (map as_context rows)) ≡ true =
      lt-ltb _ _ (omega (arith, inside, place)) in
      ap (λ (n : ℕ). Some n) (sym place) ∙ sym (ap (λ (b : Bool). cond b (Some (position_or_len passes (map as_context rows))) None) less)

  -- the context of the node that a walk finds is the one that is linked there
  pub linked_is : (node : ℕ) → Some node ≡ find test (nodes_of s.lists (filters + place_of key.target)) →
      Some (context_of contexts node) ≡ position passes (map as_context rows)
  linked_is node is = position_at (context_of contexts node)
      (found_passes test (nodes_of s.lists (filters + place_of key.target)) node (sym is))

  -- where a walk finds no node, no context has the key
  missing : None ≡ find test (nodes_of s.lists (filters + place_of key.target)) → (x : ℕ) →
      is_key key (key_of (row_at rows x).link) ≡ true → ⊥
  missing is x has =
      let l = link_is key (row_at rows x).link has in
      let placed = are.placed x l.0 l.1 in
      none_passes test (nodes_of s.lists (filters + place_of key.target)) l.0.by_target (sym is)
      (subst (λ (k : Key). Contains (nodes_of s.lists (filters + place_of k.target)) l.0.by_target) (sym l.2) placed.target)
      (ap (λ (y : ℕ). is_key key (key_of (row_at rows y).link)) placed.target_names ∙ has)

  -- where a walk finds no node, none is linked there
  pub linked_none : None ≡ find test (nodes_of s.lists (filters + place_of key.target)) → None ≡ position passes (map as_context rows)
  linked_none is =
      let place : position_or_len passes (map as_context rows) ≡ length (map as_context rows) =
      position_or_len_is passes (map as_context rows) (length (map as_context rows)) no_context (omega arith)
      (λ k less. false_from_ne_true (passes (get_or (map as_context rows) k no_context)) (λ also. missing is k (sym (at_row k) ∙ also)))
      (λ less. absurd (omega (arith, less))) in
      let more : nat_lt (position_or_len passes (map as_context rows)) (length (map as_context rows)) ≡ false =
      false_from_ne_true _ (λ less. absurd (omega (arith, place, ltb-true _ _ less))) in
      sym (ap (λ (b : Bool). cond b (Some (position_or_len passes (map as_context rows))) None) more)

  -- where none is linked there no link has the key
  pub alone_none : position passes (map as_context rows) ≡ None → (y : ℕ) (m : Link) → (row_at rows y).link ≡ Some m → m.key ≢ key
  alone_none is y m at same =
      let has : is_key key (key_of (row_at rows y).link) ≡ true = ap (λ (o : Option Link). is_key key (key_of o)) at
      ∙ ap (λ (k : Key). same_key key k) same ∙ key_self key in
      let inside : y < length (map as_context rows) = within y has in
      elim (cases_lt (position_or_len passes (map as_context rows)) (length (map as_context rows))) [
        | inl less ↦
            let test : nat_lt (position_or_len passes (map as_context rows)) (length (map as_context rows)) ≡ true = lt-ltb _ _ less in
            none-some _ (sym is ∙ ap (λ (b : Bool). cond b (Some (position_or_len passes (map as_context rows))) None) test)
        | inr more ↦ true≢false (sym (at_row y ∙ has)
            ∙ fails_before_first passes (map as_context rows) y no_context (omega (arith, inside, more)))
      ]

  -- to contracts: a context that has the key is the one that is linked there
  pub linked_alone : (closed : List Bool) (h : ContextTable) → record { contexts = map as_context rows; closed = closed } ≡ h → (x : ℕ) →
      (context_at h x).link ≡ Some key → linked_at h key ≡ Some x
  linked_alone closed h view x is =
      let row : key_of (row_at rows x).link ≡ Some key = sym (ap (λ (c : Context). c.link) (context_is rows closed h view x)) ∙ is in
      ap (λ (q : ContextTable). linked_at q key) (sym view) ∙ sym (position_at x (ap (is_key key) row ∙ key_self key))
