-- What a contract sees of `Lists`.
use Rattle.std.specs.Prelude.{◌≡◌, ◌≢◌, ℕ, ◌<◌, not, IsTrue, List, [], ◌∷◌, length, Option, Some, None, cond, ◌==◌, slice_index_or, refl}
use Rattle.std.specs.List.{Contains, AllPairs, filter}
use Rattle.std.specs.Ordering.{nat_cmp}
use Rattle.std.specs.FinSet as set
use Rattle.std.specs.Coded.{Coded, code_by, coded×, coded_ℕ, coded_list}

-- the nodes of each list in order, by the list's number; the nodes that are there, in a list or in
-- none; and the number that the next node gets
pub record Sequences : Type 0 where
  pub lists : List (List ℕ)
  pub nodes : set.FinSet nat_cmp
  pub next_node : ℕ

-- sequences are stored as the tuple of their fields
abbrev pub sequences_code : Coded Sequences
sequences_code =
    code_by
    (List (List ℕ) × (set.FinSet nat_cmp × ℕ))
    (coded× (coded_list (coded_list coded_ℕ)) (coded× (set.code coded_ℕ) coded_ℕ))
    (λ s. (s.lists, (s.nodes, s.next_node)))
    (λ p. record { lists = p.0; nodes = p.1.0; next_node = p.1.1 })
    (λ _. refl)

-- the nodes of one list, and none where there is no such list
abbrev pub nodes_of : List (List ℕ) → ℕ → List ℕ
nodes_of lists list = slice_index_or lists list []

-- the list is there
abbrev pub IsList : Sequences → ℕ → Type 0
IsList s list = list < length s.lists

-- the node is there
abbrev pub IsNode : Sequences → ℕ → Type 0
IsNode s node = IsTrue (set.contains s.nodes node)

-- the node is in a list
abbrev pub IsLinked : Sequences → ℕ → Type 0
IsLinked s node = (list : ℕ) × Contains (nodes_of s.lists list) node

-- the node is in no list
abbrev pub IsUnlinked : Sequences → ℕ → Type 0
IsUnlinked s node = (list : ℕ) → Contains (nodes_of s.lists list) node → ⊥

-- the first of these nodes, or what comes after them where there are none
abbrev pub first_of : List ℕ → Option ℕ → Option ℕ
first_of [] after = after
first_of (node ∷ rest) after = Some node

-- the last of these nodes, or what comes before them where there are none
abbrev pub last_of : Option ℕ → List ℕ → Option ℕ
last_of before [] = before
last_of before (node ∷ rest) = last_of (Some node) rest

-- these nodes less this one
abbrev pub without : ℕ → List ℕ → List ℕ
without node nodes = filter (λ other. not (other == node)) nodes

-- the nodes of a list from this one on, where a walk along the list has come; none at its end, or where the list doesn't have the node
abbrev pub nodes_from : List ℕ → Option ℕ → List ℕ
nodes_from [] at = []
nodes_from (other ∷ rest) None = []
nodes_from (other ∷ rest) (Some node) = cond (other == node) (other ∷ rest) (nodes_from rest (Some node))

-- no node comes twice in this list
abbrev pub NoneTwice : List ℕ → Type 0
NoneTwice nodes = AllPairs (λ a b. a ≢ b) nodes

-- no node stands twice anywhere, in one list or in two, and every node in a list is there
pub record AreApart (s : Sequences) : Type 0 where
  pub in_one : (list : ℕ) → NoneTwice (nodes_of s.lists list)
  pub in_two : (list other node : ℕ) → Contains (nodes_of s.lists list) node → Contains (nodes_of s.lists other) node → list ≡ other
  pub there : (node : ℕ) → IsLinked s node → IsNode s node
