-- Each node that is there is in a list.
use Rattle.std.proofs.Common.{◌≡◌, ◌≢◌, ◌⊎◌, ◌↔◌, ℕ, true, false, eqb, IsTrue, List, refl, sym, ap, ◌∙◌, subst, inl, inr, Contains}
use Rattle.std.proofs.lemmas.Bool.{cases_eq, eq-eqb, ne_eqb, true≢false}
use Rattle.std.specs.Ordering.{nat_cmp}
use Rattle.std.specs.Cmp.{nat_cmp_total, unsigned_tied}
use Rattle.std.specs.FinSet.{FinSet, contains, insert, remove, contains-insert, contains-remove}
use Rattle.ilist_core.specs.NodeLists.{Sequences, nodes_of, IsNode}
use Rattle.flt_ctx.specs.Rows.{AreUsed}

-- ---- sets

insert-away : (s : FinSet nat_cmp) (key node : ℕ) → node ≢ key → contains (insert s key) node ≡ contains s node
insert-away s key node away =
    let differs : eqb node key ≡ false = ne_eqb node key away in
    contains-insert nat_cmp_total s key node ∙ rw (unsigned_tied node key, differs) refl

remove-here : (s : FinSet nat_cmp) (key : ℕ) → contains (remove s key) key ≡ false
remove-here s key =
    let same : eqb key key ≡ true = eq-eqb key key refl in
    contains-remove nat_cmp_total s key key ∙ rw (unsigned_tied key key, same) refl

remove-away : (s : FinSet nat_cmp) (key node : ℕ) → node ≢ key → contains (remove s key) node ≡ contains s node
remove-away s key node away =
    let differs : eqb node key ≡ false = ne_eqb node key away in
    contains-remove nat_cmp_total s key node ∙ rw (unsigned_tied node key, differs) refl

-- what is there once a node was made was there, or is that node
pub made : (s later : FinSet nat_cmp) (key node : ℕ) → later ≡ insert s key → IsTrue (contains later node) →
    IsTrue (contains s node) ⊎ (node ≡ key)
made s later key node is there = elim (cases_eq node key) [
  | inl same ↦ inr same
  | inr away ↦ inl (sym (ap (λ (q : FinSet nat_cmp). contains q node) is ∙ insert-away s key node away) ∙ there)
]

-- what is there once a node was removed was there, and is another
removed : (s later : FinSet nat_cmp) (key node : ℕ) → later ≡ remove s key → IsTrue (contains later node) →
    IsTrue (contains s node) × (node ≢ key)
removed s later key node is there =
    let away : node ≢ key = λ same. true≢false
    (sym there ∙ ap (λ (q : FinSet nat_cmp). contains q node) is ∙ ap (contains (remove s key)) same ∙ remove-here s key) in
    (sym (ap (λ (q : FinSet nat_cmp). contains q node) is ∙ remove-away s key node away) ∙ there, away)

-- ---- nodes

-- each node is in a list once two are taken out and removed
pub AreUsed-less : (s s1 s2 s3 s4 : Sequences) (t f : ℕ) → AreUsed s → s1.nodes ≡ s.nodes → s2.nodes ≡ remove s1.nodes t →
    s3.nodes ≡ s2.nodes → s4.nodes ≡ remove s3.nodes f →
    ((list member : ℕ) → Contains (nodes_of s4.lists list) member ↔
    ((Contains (nodes_of s.lists list) member × (member ≢ t)) × (member ≢ f))) → AreUsed s4
AreUsed-less s s1 s2 s3 s4 t f used one two three four members = λ node is.
    let last = removed s3.nodes s4.nodes f node four is in
    let first = removed s1.nodes s2.nodes t node two (subst (λ (q : FinSet nat_cmp). IsTrue (contains q node)) three last.0) in
    let was = used node (subst (λ (q : FinSet nat_cmp). IsTrue (contains q node)) one first.0) in
    (was.0, (members was.0 node).1 ((was.1, first.1), last.1))

-- each node is in a list once two are made and put into lists
pub AreUsed-more : (s s1 s2 s4 : Sequences) (t f p q : ℕ) → AreUsed s →
    ((node : ℕ) → IsNode s1 node → IsNode s node ⊎ (node ≡ t)) → ((node : ℕ) → IsNode s2 node → IsNode s1 node ⊎ (node ≡ f)) →
    s4.nodes ≡ s2.nodes → s2.lists ≡ s.lists →
    ((list member : ℕ) → Contains (nodes_of s4.lists list) member ↔
    ((Contains (nodes_of s2.lists list) member ⊎ ((list ≡ p) × (member ≡ t))) ⊎ ((list ≡ q) × (member ≡ f)))) → AreUsed s4
AreUsed-more s s1 s2 s4 t f p q used one two nodes lists members = λ node is.
    elim (two node (subst (λ (n : FinSet nat_cmp). IsTrue (contains n node)) nodes is)) [
      | inr last ↦ (q, (members q node).1 (inr (refl, last)))
      | inl was ↦ elim (one node was) [
        | inr first ↦ (p, (members p node).1 (inl (inr (refl, first))))
        | inl old ↦
            let here = used node old in (
              here.0,
              (members here.0 node).1 (inl
                  (inl (subst (λ (ls : List (List ℕ)). Contains (nodes_of ls here.0) node) (sym lists) here.1))),
            )
      ]
    ]
