-- How the queues are kept: each as a list of nodes, whose entries stand in one row by the numbers of the nodes, with the nodes
-- of each visit
-- beside it.
use Rattle.std.specs.Prelude.{◌≡◌, ◌≢◌, ℕ, Bool, true, List, [], ◌∷◌, ◌++◌, length, map, get_or, set, None, unwrap_or}
use Rattle.std.specs.BTreeMap.{is_at}
use Rattle.std.specs.List.{Contains, filter}
use Rattle.std.specs.Map.{lookup}
use Rattle.std.specs.Ordering.{nat_cmp}
use Rattle.ilist_core.specs.NodeLists.{Sequences, nodes_of}
use Rattle.flt_cbdq.specs.declared.entry.Entry.{Entry}
use Rattle.flt_cbdq.specs.declared.queues.Queue.{Queue}
use Rattle.flt_cbdq.specs.Queues.{has_visit}

-- the entry where none is
abbrev pub no_entry : Entry
no_entry = record { visit = 0; context = None }

-- the entry of a node
abbrev pub entry_at : List Entry → ℕ → Entry
entry_at entries node = get_or entries node no_entry

-- the entries of each list of nodes
abbrev pub entries_of : List Entry → List (List ℕ) → List (List Entry)
entries_of entries lists = map (map (entry_at entries)) lists

-- whether the entry of a node is of the visit
abbrev pub is_with : List Entry → ℕ → ℕ → Bool
is_with entries visit node = has_visit visit (entry_at entries node)

-- the nodes that are noted as those of a visit
unfoldable pub nodes_with : List (ℕ × List ℕ) → ℕ → List ℕ
nodes_with nodes visit = unwrap_or (lookup (is_at (nat_cmp visit)) nodes) []

-- the queue where none is
abbrev pub no_queue : Queue
no_queue = record { nodes = []; disabled = true }

-- whether each queue is disabled
abbrev pub disabled_of : List Queue → List Bool
disabled_of queues = map (λ (q : Queue). q.disabled) queues

-- each filter's queue is the list of its number, and the nodes noted for a visit are those of the list whose entries are of it
pub record IsKept (queues : List Queue) (entries : List Entry) (s : Sequences) : Type 0 where
  pub as_many : length s.lists ≡ length queues
  pub noted : (list visit : ℕ) → nodes_with (get_or queues list no_queue).nodes visit ≡ filter (is_with entries visit)
      (nodes_of s.lists list)

-- a new node with this entry stands at the end of a list, and is noted as one of the entry's visit
pub record IsAdded (list : ℕ) (entry : Entry) (old : Sequences) (entries : List Entry) (nodes : List (ℕ × List ℕ))
    (new : Sequences) (later : List Entry) (noted : List (ℕ × List ℕ)) : Type 0 where
  pub node : ℕ
  pub unlinked : (other : ℕ) → Contains (nodes_of old.lists other) node → ⊥
  pub lists : new.lists ≡ set old.lists list (nodes_of old.lists list ++ node ∷ [])
  pub put : entry_at later node ≡ entry
  pub others : (other : ℕ) → other ≢ node → entry_at later other ≡ entry_at entries other
  pub here : nodes_with noted entry.visit ≡ nodes_with nodes entry.visit ++ node ∷ []
  pub apart : (visit : ℕ) → visit ≢ entry.visit → nodes_with noted visit ≡ nodes_with nodes visit
