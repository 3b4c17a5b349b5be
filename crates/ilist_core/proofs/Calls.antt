-- What each call reads and leaves, in the words of its contract.
use Rattle.std.proofs.Common.{◌≡◌, ◌↔◌, ℕ, ◌<◌, Bool, true, false, List, [], ◌∷◌, ◌++◌, length, get_or, set, map, drop, Option}
use Rattle.std.proofs.Common.{Some, None, is_some, IsSome, IfSome, IfNone, refl, sym, ap, ◌∙◌, inl, inr, subst, arith, Contains}
use Rattle.std.proofs.lemmas.Bool.{cases_eq}
use Rattle.std.proofs.lemmas.List.{ext_get_or, get_or_read, length-set, length-map, get_or-set_same, get_or-set_other}
use Rattle.std.specs.Ordering.{nat_cmp}
use Rattle.std.specs.FinSet as finite
use Rattle.std.proofs.lemmas.List.Elements.{Contains-append_right}
use Rattle.std.proofs.lemmas.Option.{none-some, same_Some}
use Rattle.slab.proofs.SlabLemmas.{Contains-cons}
use Rattle.slab.specs.Slab.{Slab, get, ContainsKey, with_value, Updates}
use Rattle.ilist_core.specs.declared.rows.Row.{Row}
use Rattle.ilist_core.specs.declared.rows.Ends.{Ends}
use Rattle.ilist_core.specs.NodeLists.{Sequences, nodes_of, first_of, last_of, without, NoneTwice, IsNode, IsLinked, IsUnlinked, AreApart}
use Rattle.ilist_core.specs.Rows.{row_at, row_in, ends_at, no_ends, free_row, with_next, with_previous, with_first, with_last}
use Rattle.ilist_core.specs.Sound.{Spells, IsSound, lists_of, nodes_in, keys_from}
use Rattle.ilist_core.proofs.Nodes.{Cut, cut, apart_first, without-absent, without-cut}
use Rattle.ilist_core.proofs.Spelled.{linked_row, Spells-right}
use Rattle.ilist_core.proofs.Mended.{list_in, with_value-same, with_value-other, with_first-keeps}
use Rattle.ilist_core.proofs.NodeSet.{contains-nodes_in, nodes_in-kept, nodes_in-insert, nodes_in-remove}
use Rattle.ilist_core.proofs.Linked.{lists_of-sound}
use Rattle.ilist_core.proofs.Changes.{first_of-Contains, there-named, named, one_list, last_within, nodes_of-without, pushed_rows}
use Rattle.ilist_core.proofs.Changes.{pushed_ends, IsSound-push, pushed-there, previous, next, row-named, previous-there, next-there_still}
use Rattle.ilist_core.proofs.Changes.{mended_rows, node-there, unlinked_rows, unlinked_ends, list-within, IsSound-unlink, unlinked-there}
use Rattle.ilist_core.proofs.Changes.{unlinked-none, mended-keeps, IsSound-same, IsSound-add, IsSound-remove, IsSound-new_list}

-- what a contract sees of a table and its ends
abbrev pub seen : Slab Row → List Ends → Sequences
seen rows ends = record { lists = lists_of rows ends; nodes = nodes_in rows; next_node = rows.vacant_key }

abbrev sequences : List (List ℕ) → finite.FinSet nat_cmp → ℕ → Sequences
sequences lists nodes next_node = record { lists = lists; nodes = nodes; next_node = next_node }

-- a sound table is seen as its lists, its nodes and its next key
pub seen-sound : (rows : Slab Row) (ends : List Ends) (lists : List (List ℕ)) (nodes : finite.FinSet nat_cmp) (next_node : ℕ) →
    IsSound rows ends lists → nodes_in rows ≡ nodes → rows.vacant_key ≡ next_node →
    seen rows ends ≡ record { lists = lists; nodes = nodes; next_node = next_node }
seen-sound rows ends lists nodes next_node sound same key =
    let lists_is = lists_of-sound rows ends lists sound in
    λ i. sequences (lists_is i) (same i) (key i)

-- a table with no row and no ends is sound, and holds no list and no node
pub empty-sound : (rows : Slab Row) (ends : List Ends) → rows.slots ≡ [] → ends ≡ [] → IsSound rows ends []
empty-sound rows ends no_rows no_ends_there =
    record {
      as_many = ap (λ (es : List Ends). length es) (sym no_ends_there);
      ends_meet = λ list. ap (λ es. ends_at es list) no_ends_there;
      spelled = λ list. tt;
      none_twice = λ list i j d below within. absurd (omega arith);
      listed = λ list node names. absurd (none-some list (sym (ap (λ slots. (row_in (get_or slots node None)).list) no_rows) ∙ names));
    }

-- a table without slots has no nodes
pub empty-nodes : (rows : Slab Row) → rows.slots ≡ [] → nodes_in rows ≡ finite.empty
unfolding nodes_in
empty-nodes rows no_rows = ap (λ slots. finite.from_list (keys_from 0 slots)) no_rows

-- two tests are one that hold together
pub same_test : (a b : Bool) → ((a ≡ true) ↔ (b ≡ true)) → a ≡ b
same_test true b both = sym (both.0 refl)
same_test false true both = both.1 refl
same_test false false both = refl

-- an exact answer, read at each variant
pub if_some : (s : Sequences) (node : ℕ) (answer : Option ℕ) →
    ((list : ℕ) → (answer ≡ Some list) ↔ Contains (nodes_of s.lists list) node) →
    IfSome answer (λ list. Contains (nodes_of s.lists list) node)
if_some s node None exact = tt
if_some s node (Some list) exact = (exact list).0 refl

-- where the answer names no list, the node is in none
pub if_none : (s : Sequences) (node : ℕ) (answer : Option ℕ) →
    ((list : ℕ) → (answer ≡ Some list) ↔ Contains (nodes_of s.lists list) node) → IfNone answer (IsUnlinked s node)
if_none s node None exact = λ list found. none-some list ((exact list).1 found)
if_none s node (Some list) exact = tt

-- the same nodes and next number, with other lists
abbrev pub with_lists : Sequences → List (List ℕ) → Sequences
with_lists s lists = record s { lists = lists }

-- a pop takes the node out of the one list that it begins
pub without_first : (s : Sequences) (list node : ℕ) → AreApart s → list < length s.lists →
    first_of (nodes_of s.lists list) None ≡ Some node → map (without node) s.lists ≡ set s.lists list (drop 1 (nodes_of s.lists list))
without_first s list node apart within first =
    ext_get_or [] (map (without node) s.lists) (set s.lists list (drop 1 (nodes_of s.lists list)))
    (length-map s.lists (without node) ∙ sym (length-set s.lists list (drop 1 (nodes_of s.lists list))))
    (λ k inside. nodes_of-without node s.lists k ∙ (elim (cases_eq k list) [
      | inl here ↦
          subst (λ m. without node (nodes_of s.lists m) ≡ nodes_of (set s.lists list (drop 1 (nodes_of s.lists list))) m) (sym here)
          (headed (nodes_of s.lists list) (apart.in_one list) first
          ∙ sym (get_or-set_same s.lists list (drop 1 (nodes_of s.lists list)) [] within))
      | inr away ↦
          without-absent node (nodes_of s.lists k)
          (λ there. away (apart.in_two k list node there (first_of-Contains (nodes_of s.lists list) node first)))
          ∙ sym (get_or-set_other s.lists list k (drop 1 (nodes_of s.lists list)) [] away)
    ]))
  where
    headed : (nodes : List ℕ) → NoneTwice nodes → first_of nodes None ≡ Some node → without node nodes ≡ drop 1 nodes
    headed [] once first = refl
    headed (x ∷ xs) once first =
        let same : x ≡ node = same_Some x node first in
        subst (λ n. without n (x ∷ xs) ≡ xs) same (without-cut x [] xs (λ none. absurd (omega (arith, none.1))) (apart_first x xs once))

module _ (rows : Slab Row) (ends : List Ends) (now : Sequences) (inner : IsSound rows ends (lists_of rows ends))
    (view : seen rows ends ≡ now) where
  pub sound : IsSound rows ends now.lists
  sound = subst (IsSound rows ends) (ap (λ (s : Sequences). s.lists) view) inner

  -- the nodes that have a row are the nodes of the model
  pub nodes-are : nodes_in rows ≡ now.nodes
  nodes-are = ap (λ (s : Sequences). s.nodes) view

  -- the row that is vacant next is the next node
  pub next-is : rows.vacant_key ≡ now.next_node
  next-is = ap (λ (s : Sequences). s.next_node) view

  -- a node is there where it has a row
  pub contains-node : (node : ℕ) → finite.contains now.nodes node ≡ is_some (get rows node)
  contains-node node = ap (λ s. finite.contains s node) (sym nodes-are) ∙ contains-nodes_in rows node

  -- a node has a row
  pub node-key : (node key : ℕ) → key ≡ node → IsNode now node → ContainsKey rows key
  node-key node key is there = subst (ContainsKey rows) (sym is) (sym (contains-node node) ∙ there)

  -- a node in a list has a row
  pub linked-key : (node key : ℕ) → key ≡ node → IsLinked now node → ContainsKey rows key
  linked-key node key is linked = subst (ContainsKey rows) (sym is)
      (there-named rows node linked.0 (named rows ends now.lists sound linked.0 node linked.1))

  -- no node is in two lists, or twice in one
  pub are_apart : AreApart now
  are_apart =
      record {
        in_one = sound.none_twice;
        in_two = one_list rows ends now.lists sound;
        there = λ node linked. contains-node node ∙ linked-key node node refl linked;
      }

  -- what the row of a node says
  pub list-exact : (node key : ℕ) (row : Row) → key ≡ node → get rows key ≡ Some row → (list : ℕ) → (row.list ≡ Some list) ↔
      Contains (nodes_of now.lists list) node
  list-exact node key row is read list =
      let at : (row_at rows node).list ≡ row.list = subst (λ k. (row_at rows k).list ≡ row.list) is (ap list_in read) in (
        λ names. sound.listed list node (at ∙ names),
        λ found. sym at ∙ named rows ends now.lists sound list node found,
      )

  -- the next node that a row names is the one after it in its list
  pub next-exact : (node key : ℕ) (row : Row) → key ≡ node → get rows key ≡ Some row → (list : ℕ) (before after : List ℕ) →
      nodes_of now.lists list ≡ before ++ node ∷ after → row.next ≡ first_of after None
  next-exact node key row is read list before after cut =
      let right = Spells-right rows list None before (node ∷ after) None
      (subst (λ ns. Spells rows list None ns None) cut (sound.spelled list)) in
      let same : row ≡ linked_row list (last_of None before) (first_of after None) =
      same_Some _ _ (sym read ∙ ap (get rows) is ∙ right.0) in
      ap (λ (r : Row). r.next) same

  -- the next node that a row names is in a list
  pub next-linked : (node key : ℕ) (row : Row) → key ≡ node → get rows key ≡ Some row → IsLinked now node → IfSome row.next (IsLinked now)
  next-linked node key row is read linked = by_case row.next (next-exact node key row is read linked.0 at.before at.after at.is)
    where
      at : Cut (nodes_of now.lists linked.0) node
      at = cut (nodes_of now.lists linked.0) node linked.1

      by_case : (p : Option ℕ) → p ≡ first_of at.after None → IfSome p (IsLinked now)
      by_case None e = tt
      by_case (Some m) e = (
        linked.0,
        subst (λ ns. Contains ns m) (sym at.is)
            (Contains-append_right at.before (node ∷ at.after) m (Contains-cons node m at.after (first_of-Contains at.after m (sym e)))),
      )

  -- a new list
  pub new_list-sound : IsSound rows (ends ++ no_ends ∷ []) (now.lists ++ [] ∷ [])
  new_list-sound = IsSound-new_list rows ends now.lists sound

  -- one more list, with nothing in it, keeps the table sound
  pub listed-sound : (final : List Ends) → final ≡ ends ++ no_ends ∷ [] → IsSound rows final (now.lists ++ [] ∷ [])
  listed-sound final written = subst (λ es. IsSound rows es (now.lists ++ [] ∷ [])) (sym written) new_list-sound

  -- a new node
  pub same-slots : (roomy : Slab Row) (capacity : ℕ) → roomy ≡ record rows { capacity = capacity } → (node : ℕ) →
      get roomy node ≡ get rows node
  same-slots roomy capacity is node = ap (λ r. get r node) is

  -- more room keeps the table sound
  pub roomy-sound : (roomy : Slab Row) (capacity : ℕ) → roomy ≡ record rows { capacity = capacity } → IsSound roomy ends now.lists
  roomy-sound roomy capacity is = IsSound-same rows ends now.lists sound roomy (same-slots roomy capacity is)

  pub roomy-nodes : (roomy : Slab Row) (capacity : ℕ) → roomy ≡ record rows { capacity = capacity } → nodes_in roomy ≡ now.nodes
  roomy-nodes roomy capacity is = nodes_in-kept rows roomy (λ node. ap is_some (same-slots roomy capacity is node)) ∙ nodes-are

  -- more room changes nothing that is seen
  pub roomy-seen : (roomy : Slab Row) (capacity : ℕ) → roomy ≡ record rows { capacity = capacity } → seen roomy ends ≡ now
  roomy-seen roomy capacity is =
      seen-sound roomy ends now.lists now.nodes now.next_node (roomy-sound roomy capacity is) (roomy-nodes roomy capacity is)
      (ap (λ (r : Slab Row). r.vacant_key) is ∙ next-is)

  -- a row that comes has a key that no node had
  pub fresh-key : (roomy : Slab Row) (capacity key : ℕ) → roomy ≡ record rows { capacity = capacity } → get roomy key ≡ None →
      finite.contains now.nodes key ≡ false
  fresh-key roomy capacity key is vacant = contains-node key ∙ ap is_some (sym (same-slots roomy capacity is key) ∙ vacant)

  -- a row that comes free keeps the table sound
  pub added-sound : (roomy later : Slab Row) (capacity key : ℕ) → roomy ≡ record rows { capacity = capacity } →
      get roomy key ≡ None → Updates roomy later key (Some free_row) → IsSound later ends now.lists
  added-sound roomy later capacity key is vacant made =
      IsSound-add roomy ends now.lists (roomy-sound roomy capacity is) later key vacant made

  -- a row that comes is one node more
  pub added-nodes : (roomy later : Slab Row) (capacity key : ℕ) → roomy ≡ record rows { capacity = capacity } →
      Updates roomy later key (Some free_row) → nodes_in later ≡ finite.insert now.nodes key
  added-nodes roomy later capacity key is made = nodes_in-insert roomy later key free_row made
      ∙ ap (λ s. finite.insert s key) (roomy-nodes roomy capacity is)

  -- a removed node
  pub removed-sound : (later : Slab Row) (node key : ℕ) → key ≡ node → IsUnlinked now node → Updates rows later key None →
      IsSound later ends now.lists
  removed-sound later node key is unlinked made =
      IsSound-remove rows ends now.lists sound later key
      (λ list found. unlinked list (subst (λ n. Contains (nodes_of now.lists list) n) is found)) made

  -- a row that goes is one node less
  pub removed-nodes : (later : Slab Row) (node key : ℕ) → key ≡ node → Updates rows later key None →
      nodes_in later ≡ finite.remove now.nodes node
  removed-nodes later node key is made = nodes_in-remove rows later key made ∙ (λ i. finite.remove (nodes-are i) (is i))

  -- the ends of a list name its first node
  pub first-is : (list : ℕ) → list < length now.lists → (e : Ends) (at : ℕ) → at ≡ list → e ≡ get_or ends at e →
      e.first ≡ first_of (nodes_of now.lists list) None
  first-is list within e at is read =
      let inside : at < length ends = omega (arith, within, is, sound.as_many) in
      ap (λ (x : Ends). x.first) (get_or_read ends at e inside read no_ends ∙ ap (ends_at ends) is ∙ sound.ends_meet list)

  -- a push
  module _ (list node : ℕ) (within : list < length now.lists) (there : IsNode now node) (unlinked : IsUnlinked now node) where
    -- the row that is written, and then the table and the ends
    pub last-is : (e : Ends) (at : ℕ) → at ≡ list → e ≡ get_or ends at e → e.last ≡ last_of None (nodes_of now.lists list)
    last-is e at is read =
        let inside : at < length ends = omega (arith, within, is, sound.as_many) in
        ap (λ (x : Ends). x.last) (get_or_read ends at e inside read no_ends ∙ ap (ends_at ends) is ∙ sound.ends_meet list)

    -- the last node of the list has a row still after the new node's row is written
    pub last-there : (key : ℕ) (row : Row) (last : Option ℕ) → key ≡ node → last ≡ last_of None (nodes_of now.lists list) →
        IfSome last (ContainsKey (with_value rows key row))
    last-there key row last is last_is = by_case last last_is
      where
        by_case : (p : Option ℕ) → p ≡ last_of None (nodes_of now.lists list) → IfSome p (ContainsKey (with_value rows key row))
        by_case None e = tt
        by_case (Some m) e =
            let m_names : (row_at rows m).list ≡ Some list = last_within rows ends now.lists sound list m (sym e) in
            let m_there : ContainsKey rows m = there-named rows m list m_names in
            elim (cases_eq m key) [
              | inl here ↦ subst (ContainsKey (with_value rows key row)) (sym here)
                  (ap is_some (with_value-same rows key row (subst (ContainsKey rows) here m_there)))
              | inr away ↦ ap is_some (with_value-other rows key row m away) ∙ m_there
            ]

    rows_is : (later : Slab Row) (key : ℕ) (last : Option ℕ) → key ≡ node → last ≡ last_of None (nodes_of now.lists list) →
        later ≡ with_next (with_value rows key (linked_row list last None)) last (Some node) →
        later ≡ pushed_rows rows ends now.lists sound list node within (node-key node node refl there) unlinked
    rows_is later key last is last_is written = written
        ∙ (λ i. with_next (with_value rows (is i) (linked_row list (last_is i) None)) (last_is i) (Some node))

    ends_is : (final : List Ends) (last : Option ℕ) → last ≡ last_of None (nodes_of now.lists list) →
        final ≡ with_last (with_first ends list last (Some node)) list (Some node) None →
        final ≡ pushed_ends rows ends now.lists sound list node within (node-key node node refl there) unlinked
    ends_is final last last_is written = written ∙ (λ i. with_last (with_first ends list (last_is i) (Some node)) list (Some node) None)

    -- a node that is put behind the last one of a list keeps the table sound
    pub pushed-sound : (later : Slab Row) (final : List Ends) (key : ℕ) (last : Option ℕ) → key ≡ node →
        last ≡ last_of None (nodes_of now.lists list) →
        later ≡ with_next (with_value rows key (linked_row list last None)) last (Some node) →
        final ≡ with_last (with_first ends list last (Some node)) list (Some node) None →
        IsSound later final (set now.lists list (nodes_of now.lists list ++ node ∷ []))
    pushed-sound later final key last is last_is rows_written ends_written =
        let a = rows_is later key last is last_is rows_written in
        let b = ends_is final last last_is ends_written in
        subst (λ r. IsSound r final (set now.lists list (nodes_of now.lists list ++ node ∷ []))) (sym a)
        (subst (λ e. IsSound (pushed_rows rows ends now.lists sound list node within (node-key node node refl there) unlinked) e
        (set now.lists list (nodes_of now.lists list ++ node ∷ []))) (sym b)
        (IsSound-push rows ends now.lists sound list node within (node-key node node refl there) unlinked))

    pub pushed-nodes : (later : Slab Row) (key : ℕ) (last : Option ℕ) → key ≡ node →
        last ≡ last_of None (nodes_of now.lists list) →
        later ≡ with_next (with_value rows key (linked_row list last None)) last (Some node) → nodes_in later ≡ now.nodes
    pushed-nodes later key last is last_is written =
        nodes_in-kept rows later (λ other.
        ap (λ r. is_some (get r other)) (rows_is later key last is last_is written)
        ∙ pushed-there rows ends now.lists sound list node within (node-key node node refl there) unlinked other)
        ∙ nodes-are

    pub pushed-key : (later : Slab Row) (key : ℕ) (last : Option ℕ) →
        later ≡ with_next (with_value rows key (linked_row list last None)) last (Some node) → later.vacant_key ≡ now.next_node
    pushed-key later key last written = ap (λ (r : Slab Row). r.vacant_key) written ∙ by_case last ∙ next-is
      where
        by_case : (p : Option ℕ) → (with_next (with_value rows key (linked_row list last None)) p (Some node)).vacant_key ≡ rows.vacant_key
        by_case None = refl
        by_case (Some m) = refl

    -- a node that is put behind the last one of a list is the last in what is seen
    pub pushed-seen : (later : Slab Row) (final : List Ends) (key : ℕ) (last : Option ℕ) → key ≡ node →
        last ≡ last_of None (nodes_of now.lists list) →
        later ≡ with_next (with_value rows key (linked_row list last None)) last (Some node) →
        final ≡ with_last (with_first ends list last (Some node)) list (Some node) None →
        seen later final ≡ record {
          lists = set now.lists list (nodes_of now.lists list ++ node ∷ []);
          nodes = now.nodes;
          next_node = now.next_node;
        }
    pushed-seen later final key last is last_is rows_written ends_written =
        seen-sound later final (set now.lists list (nodes_of now.lists list ++ node ∷ [])) now.nodes now.next_node
        (pushed-sound later final key last is last_is rows_written ends_written)
        (pushed-nodes later key last is last_is rows_written)
        (pushed-key later key last rows_written)

  -- an unlinking
  module _ (node : ℕ) (linked : IsLinked now node) (key : ℕ) (is : key ≡ node) (row : Row) (read : get rows key ≡ Some row) where
    row-is : row ≡ linked_row linked.0 (previous rows ends now.lists sound linked.0 node linked.1)
        (next rows ends now.lists sound linked.0 node linked.1)
    row-is = same_Some _ _ (sym read ∙ ap (get rows) is ∙ row-named rows ends now.lists sound linked.0 node linked.1)

    list-is : row.list ≡ Some linked.0
    list-is = ap (λ (r : Row). r.list) row-is

    previous-is : row.previous ≡ previous rows ends now.lists sound linked.0 node linked.1
    previous-is = ap (λ (r : Row). r.previous) row-is

    next-is_read : row.next ≡ next rows ends now.lists sound linked.0 node linked.1
    next-is_read = ap (λ (r : Row). r.next) row-is

    -- the row of a node that is unlinked names its list
    pub has-list : IsSome row.list
    has-list = ap is_some list-is

    -- the previous node of one that is unlinked has a row
    pub has-previous : IfSome row.previous (ContainsKey rows)
    has-previous = subst (λ p. IfSome p (ContainsKey rows)) (sym previous-is)
        (previous-there rows ends now.lists sound linked.0 node linked.1)

    module _ (list : ℕ) (unwrapped : row.list ≡ Some list) where
      same_list : list ≡ linked.0
      same_list = same_Some list linked.0 (sym unwrapped ∙ list-is)

      -- the list of a node that is unlinked has its ends
      pub ends-there : list < length ends
      ends-there = subst (λ l. l < length ends) (sym same_list) (list-within rows ends now.lists sound linked.0 node linked.1)

      module _ (one : Slab Row) (first : List Ends) (one-is : one ≡ with_next rows row.previous row.next)
          (first-is : first ≡ with_first ends list row.previous row.next) where
        -- the ends of the list are there still after the first one is changed
        pub ends-there_still : list < length first
        ends-there_still =
            let kept : length (with_first ends list row.previous row.next) ≡ length ends =
            (with_first-keeps ends list row.previous row.next).as_many in
            omega (arith, ends-there, kept, ap (λ (es : List Ends). length es) first-is)

        one-is_at : one ≡ with_next rows (previous rows ends now.lists sound linked.0 node linked.1)
            (next rows ends now.lists sound linked.0 node linked.1)
        one-is_at = one-is ∙ (λ i. with_next rows (previous-is i) (next-is_read i))

        -- the next node of one that is unlinked has a row still after the previous one's is written
        pub has-next : IfSome row.next (ContainsKey one)
        has-next =
            let at = next-there_still rows ends now.lists sound linked.0 node linked.1 in
            subst (λ n. IfSome n (ContainsKey one)) (sym next-is_read)
            (subst (λ r. IfSome (next rows ends now.lists sound linked.0 node linked.1) (ContainsKey r)) (sym one-is_at) at)

        module _ (two : Slab Row) (final : List Ends) (two-is : two ≡ with_previous one row.previous row.next)
            (final-is : final ≡ with_last first list row.previous row.next) where
          two-is_at : two ≡ mended_rows rows ends now.lists sound linked.0 node linked.1
          two-is_at = two-is ∙ (λ i. with_previous (one-is_at i) (previous-is i) (next-is_read i))

          final-is_at : final ≡ unlinked_ends rows ends now.lists sound linked.0 node linked.1
          final-is_at =
              final-is
              ∙ ap (λ es. with_last es list row.previous row.next) first-is
              ∙ (λ i. with_last (with_first ends (same_list i) (previous-is i) (next-is_read i)) (same_list i) (previous-is i)
              (next-is_read i))

          module _ (at : ℕ) (at-is : at ≡ node) where
            -- a node that is unlinked has a row still after its neighbours' are written
            pub has-node : ContainsKey two at
            has-node = subst (ContainsKey two) (sym at-is)
                (subst (λ r. ContainsKey r node) (sym two-is_at) (node-there rows ends now.lists sound linked.0 node linked.1))

            rows-are : with_value two at free_row ≡ unlinked_rows rows ends now.lists sound linked.0 node linked.1
            rows-are = λ i. with_value (two-is_at i) (at-is i) free_row

            -- a node that is taken out of its list keeps the table sound
            pub unlinked-sound : IsSound (with_value two at free_row) final (map (without node) now.lists)
            unlinked-sound =
                subst (λ r. IsSound r final (map (without node) now.lists)) (sym rows-are)
                (subst (λ e. IsSound (unlinked_rows rows ends now.lists sound linked.0 node linked.1) e
                (map (without node) now.lists)) (sym final-is_at)
                (IsSound-unlink rows ends now.lists sound linked.0 node linked.1))

            -- a node that is taken out of its list is in none of what is seen, and the rest stays
            pub unlinked-seen : seen (with_value two at free_row) final
                ≡ record { lists = map (without node) now.lists; nodes = now.nodes; next_node = now.next_node }
            unlinked-seen =
                seen-sound (with_value two at free_row) final (map (without node) now.lists) now.nodes now.next_node unlinked-sound
                (nodes_in-kept rows (with_value two at free_row)
                (λ other. ap (λ r. is_some (get r other)) rows-are
                ∙ unlinked-there rows ends now.lists sound linked.0 node linked.1 other) ∙ nodes-are)
                (ap (λ (r : Slab Row). r.vacant_key) rows-are
                ∙ (mended-keeps rows ends now.lists sound linked.0 node linked.1).next_node ∙ next-is)

            -- a node that was taken out is in no list
            pub unlinked-free : (list' : ℕ) → Contains (nodes_of (lists_of (with_value two at free_row) final) list') node → ⊥
            unlinked-free list' found =
                unlinked-none rows ends now.lists sound linked.0 node linked.1 list'
                (subst (λ ls. Contains (nodes_of ls list') node)
                (lists_of-sound (with_value two at free_row) final (map (without node) now.lists) unlinked-sound) found)
