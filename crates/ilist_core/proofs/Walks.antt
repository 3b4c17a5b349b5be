-- Walks along a list from node to node, and a node that leaves its one list.
use Rattle.std.proofs.Common.{◌≡◌, ◌≢◌, ◌⊎◌, ◌↔◌, ℕ, zero, suc, ◌<◌, true, false, eqb, List, [], ◌∷◌, ◌++◌, length, map, set}
use Rattle.std.proofs.Common.{Option, Some, None, IfSome, refl, sym, ap, ◌∙◌, inl, inr, subst, arith, Contains, append_assoc}
use Rattle.std.proofs.lemmas.Bool.{cases_eq, eq-eqb, ne_eqb, true≢false}
use Rattle.std.proofs.lemmas.List.{ext_get_or, length-set, length-map, get_or-set_same, get_or-set_other}
use Rattle.std.proofs.lemmas.List.Elements.{Contains-append_left, Contains-append_right, Contains-append_cases}
use Rattle.std.specs.FinSet as finite
use Rattle.slab.proofs.SlabLemmas.{Contains-cons, Contains-cons_cases}
use Rattle.ilist_core.specs.NodeLists.{Sequences, nodes_of, nodes_from, first_of, without, NoneTwice, AreApart}
use Rattle.ilist_core.proofs.Nodes.{cut, Contains-nil, Contains-without, Contains-here, Contains-at, apart_across}
use Rattle.ilist_core.proofs.Nodes.{apart_first, NoneTwice-right, without-absent, without-cut}
use Rattle.ilist_core.proofs.Changes.{nodes_of-without}

-- the first node of a list, if there is one, is of the list
pub first_within : (nodes : List ℕ) → IfSome (first_of nodes None) (Contains nodes)
first_within [] = tt
first_within (node ∷ rest) = Contains-here node rest

-- from the first node on, a list is whole
pub from_first : (nodes : List ℕ) → nodes_from nodes (first_of nodes None) ≡ nodes
from_first [] = refl
from_first (node ∷ rest) = let here : eqb node node ≡ true = eq-eqb node node refl in rw here refl

-- from no node on, nothing is left
from_none : (nodes : List ℕ) → nodes_from nodes None ≡ []
from_none [] = refl
from_none (node ∷ rest) = refl

-- a list that is cut at a node, from that node on
from_cut : (before after : List ℕ) (node : ℕ) → (Contains before node → ⊥) → nodes_from (before ++ node ∷ after) (Some node) ≡ node ∷ after
from_cut [] after node absent = let here : eqb node node ≡ true = eq-eqb node node refl in rw here refl
from_cut (x ∷ before) after node absent =
    let differs : eqb x node ≡ false = ne_eqb x node (λ same. absent (0, omega arith, same)) in
    rw differs (from_cut before after node (λ found. absent (Contains-cons x node before found)))

-- and from the node after it on
from_after : (before after : List ℕ) (node : ℕ) → NoneTwice (before ++ node ∷ after) →
    nodes_from (before ++ node ∷ after) (first_of after None) ≡ after
from_after before [] node apart = from_none (before ++ node ∷ [])
from_after before (next ∷ more) node apart =
    let whole : (before ++ node ∷ []) ++ next ∷ more ≡ before ++ node ∷ next ∷ more = append_assoc before (node ∷ []) (next ∷ more) in
    subst (λ (nodes : List ℕ). nodes_from nodes (Some next) ≡ next ∷ more) whole
    (from_cut (before ++ node ∷ []) more next
    (λ found. apart_across (before ++ node ∷ []) (next ∷ more) (subst NoneTwice (sym whole) apart) next found (Contains-here next more)))

-- what a walk's next step gives, where it is the node that follows
module _ (nodes : List ℕ) (node : ℕ) (next : Option ℕ) where
  -- it is of the same list
  pub next_within : Contains nodes node →
      ((before after : List ℕ) → nodes ≡ before ++ node ∷ after → next ≡ first_of after None) → IfSome next (Contains nodes)
  next_within found follows =
      let c = cut nodes node found in
      let is = follows c.before c.after c.is in
      subst (λ (o : Option ℕ). IfSome o (Contains nodes)) (sym is) (later c.before c.after c.is)
    where
      later : (before after : List ℕ) → nodes ≡ before ++ node ∷ after → IfSome (first_of after None) (Contains nodes)
      later before [] is = tt
      later before (x ∷ xs) is = subst (λ (ns : List ℕ). Contains ns x) (sym is)
          (Contains-append_right before (node ∷ x ∷ xs) x (Contains-cons node x (x ∷ xs) (Contains-here x xs)))

  -- from the node on comes the node, then what comes from the next one on
  pub next_from : NoneTwice nodes → Contains nodes node →
      ((before after : List ℕ) → nodes ≡ before ++ node ∷ after → next ≡ first_of after None) →
      nodes_from nodes (Some node) ≡ node ∷ nodes_from nodes next
  next_from apart found follows =
      let c = cut nodes node found in
      let is = follows c.before c.after c.is in
      let once : NoneTwice (c.before ++ node ∷ c.after) = subst NoneTwice c.is apart in
      ap (λ (ns : List ℕ). nodes_from ns (Some node)) c.is
      ∙ from_cut c.before c.after node (λ here. apart_across c.before (node ∷ c.after) once node here (Contains-here node c.after))
      ∙ ap (λ (ns : List ℕ). node ∷ ns) (sym (from_after c.before c.after node once)
      ∙ ap (λ (ns : List ℕ). nodes_from ns (first_of c.after None)) (sym c.is) ∙ ap (nodes_from nodes) (sym is))

-- a node is taken out of the one list that it is in
without_one : (s : Sequences) (list node : ℕ) → AreApart s → Contains (nodes_of s.lists list) node →
    map (without node) s.lists ≡ set s.lists list (without node (nodes_of s.lists list))
without_one s list node apart found =
    let nodes = nodes_of s.lists list in
    ext_get_or [] (map (without node) s.lists) (set s.lists list (without node nodes))
    (length-map s.lists (without node) ∙ sym (length-set s.lists list (without node nodes)))
    (λ k inside. nodes_of-without node s.lists k ∙ (elim (cases_eq k list) [
      | inl here ↦
          let within : list < length s.lists =
          subst (λ (m : ℕ). m < length s.lists) here (subst (λ (n : ℕ). k < n) (length-map s.lists (without node)) inside) in
          subst (λ (m : ℕ). without node (nodes_of s.lists m) ≡ nodes_of
          (set s.lists list (without node (nodes_of s.lists list))) m) (sym here)
          (sym (get_or-set_same s.lists list (without node (nodes_of s.lists list)) [] within))
      | inr away ↦
          without-absent node (nodes_of s.lists k) (λ there. away (apart.in_two k list node there found))
          ∙ sym (get_or-set_other s.lists list k (without node (nodes_of s.lists list)) [] away)
    ]))

-- where that list is cut at the node, its two parts are left
pub without_cut : (s : Sequences) (list node : ℕ) → AreApart s → (before after : List ℕ) →
    nodes_of s.lists list ≡ before ++ node ∷ after → map (without node) s.lists ≡ set s.lists list (before ++ after)
without_cut s list node apart before after is =
    let once : NoneTwice (before ++ node ∷ after) = subst NoneTwice is (apart.in_one list) in
    without_one s list node apart (subst (λ (ns : List ℕ). Contains ns node) (sym is) (Contains-at before node after))
    ∙ ap (set s.lists list)
    (ap (without node) is
    ∙ without-cut node before after
    (λ here. apart_across before (node ∷ after) once node here (Contains-here node after))
    (λ here. apart_first node after (NoneTwice-right before (node ∷ after) once) here))

-- a new node is in no list, as each node of a list was there before
pub new_unlinked : (s : Sequences) (lists : List (List ℕ)) (node : ℕ) → AreApart s → lists ≡ s.lists →
    finite.contains s.nodes node ≡ false → (list : ℕ) → Contains (nodes_of lists list) node → ⊥
new_unlinked s lists node apart same fresh list found =
    true≢false (sym (apart.there node (list, subst (λ (ls : List (List ℕ)). Contains (nodes_of ls list) node) same found)) ∙ fresh)

-- ---- members

-- a node that isn't taken out stays
member_with : (node other : ℕ) (xs : List ℕ) → Contains xs other → other ≢ node → Contains (without node xs) other
member_with node other [] found away = absurd (Contains-nil other found)
member_with node other (x ∷ xs) found away =
    elim (cases_eq x node) [
      | inl same ↦
          let test : eqb x node ≡ true = eq-eqb x node same in
          rw test (elim (Contains-cons_cases x other xs found) [
            | inl here ↦ absurd (away (sym here ∙ same))
            | inr there ↦ member_with node other xs there away
          ])
      | inr differs ↦
          let test : eqb x node ≡ false = ne_eqb x node differs in
          rw test (elim (Contains-cons_cases x other xs found) [
            | inl here ↦ (0, omega arith, here)
            | inr there ↦ Contains-cons x other (without node xs) (member_with node other xs there away)
          ])
    ]

-- which nodes are in which list after a node was taken out
pub without_members : (node list member : ℕ) (lists : List (List ℕ)) →
    Contains (nodes_of (map (without node) lists) list) member ↔ (Contains (nodes_of lists list) member × (member ≢ node))
without_members node list member lists = (
  λ found. let h = Contains-without node member (nodes_of lists list)
      (subst (λ (ns : List ℕ). Contains ns member) (nodes_of-without node lists list) found) in (h.1, h.0),
  λ both. subst (λ (ns : List ℕ). Contains ns member) (sym (nodes_of-without node lists list))
      (member_with node member (nodes_of lists list) both.0 both.1),
)

-- and after one was put at the end of a list
pub pushed_members : (list node other member : ℕ) (lists : List (List ℕ)) → list < length lists →
    Contains (nodes_of (set lists list (nodes_of lists list ++ node ∷ [])) other) member ↔
    (Contains (nodes_of lists other) member ⊎ ((other ≡ list) × (member ≡ node)))
pushed_members list node other member lists within = elim (cases_eq other list) [
  | inl here ↦
      subst (λ (o : ℕ). Contains (nodes_of (set lists list (nodes_of lists list ++ node ∷ [])) o) member ↔
      (Contains (nodes_of lists o) member ⊎ ((o ≡ list) × (member ≡ node)))) (sym here)
      (subst (λ (ns : List ℕ). Contains ns member ↔ (Contains (nodes_of lists list) member ⊎ ((list ≡ list) × (member ≡ node))))
      (sym (get_or-set_same lists list (nodes_of lists list ++ node ∷ []) [] within)) (
        λ found. elim (Contains-append_cases (nodes_of lists list) (node ∷ []) member found) [
          | inl left ↦ inl left
          | inr right ↦ inr (refl, only node member right)
        ],
        λ either. elim either [
          | inl left ↦ Contains-append_left (nodes_of lists list) (node ∷ []) member left
          | inr right ↦ Contains-append_right (nodes_of lists list) (node ∷ []) member (0, omega arith, sym right.1)
        ],
      ))
  | inr away ↦
      subst (λ (ns : List ℕ). Contains ns member ↔ (Contains (nodes_of lists other) member ⊎ ((other ≡ list) × (member ≡ node))))
      (sym (get_or-set_other lists list other (nodes_of lists list ++ node ∷ []) [] away))
      (λ found. inl found, λ either. elim either [ inl left ↦ left | inr right ↦ absurd (away right.0) ])
]
  where
    only : (node member : ℕ) → Contains (node ∷ []) member → member ≡ node
    only node member (zero, within, is) = sym is
    only node member (suc k, within, is) = absurd (omega (arith, within))
