-- How contexts and links are kept, by this project's own rules: a row for each context, and for each link a node in the list of its
-- target and one in the list of its filter. The lists are numbered: first those of the filters, then that of the instances, then
-- 1,024 lists of streams, where streams with one remainder share a list.
use Rattle.std.specs.Prelude.{◌≡◌, ◌≢◌, ℕ, ◌+◌, ◌%◌, ◌<◌, ◌≤◌, List, length, option_map, Option, Some, None, get_or}
use Rattle.std.specs.List.{Contains}
use Rattle.ilist_core.specs.NodeLists.{Sequences, nodes_of, IsNode, IsLinked}
use Rattle.flt_ctx.specs.declared.key.Key.{Key}
use Rattle.flt_ctx.specs.declared.key.Target.{Target}
use Rattle.flt_ctx.specs.declared.key.Target.TheVariants.{Stream, Instance}
use Rattle.flt_ctx.specs.declared.links.Link.{Link}
use Rattle.flt_ctx.specs.declared.links.Row.{Row}
use Rattle.flt_ctx.specs.Contexts.{Context}

-- the row where none is
abbrev pub no_row : Row
no_row = record { owner = 0; references = 0; value = 0; link = None }

-- the row of a context
abbrev pub row_at : List Row → ℕ → Row
row_at rows x = get_or rows x no_row

-- the key of a link
abbrev pub key_of : Option Link → Option Key
key_of link = option_map (λ (l : Link). l.key) link

-- a row as contracts see it
abbrev pub as_context : Row → Context
as_context row = record { owner = row.owner; references = row.references; value = row.value; link = key_of row.link }

-- the context that a node links
abbrev pub context_of : List ℕ → ℕ → ℕ
context_of contexts node = get_or contexts node 0

-- the place of a target's list behind those of the filters
abbrev pub place_of : Target → ℕ
place_of Instance = 0
place_of (Stream file) = 1 + file % 1024

-- the two nodes of a link stand in the lists of its target and of its filter, and name its context
pub record IsPlaced (filters : ℕ) (s : Sequences) (contexts : List ℕ) (x : ℕ) (l : Link) : Type 0 where
  pub there : l.key.filter < filters
  pub target : Contains (nodes_of s.lists (filters + place_of l.key.target)) l.by_target
  pub filter : Contains (nodes_of s.lists l.key.filter) l.by_filter
  pub target_within : l.by_target < length contexts
  pub filter_within : l.by_filter < length contexts
  pub differ : l.by_target ≢ l.by_filter
  pub target_names : context_of contexts l.by_target ≡ x
  pub filter_names : context_of contexts l.by_filter ≡ x

-- a node of a list is one of the two of its context's link
pub record IsOfLink (filters : ℕ) (rows : List Row) (contexts : List ℕ) (list node : ℕ) : Type 0 where
  pub link : Link
  pub is : (row_at rows (context_of contexts node)).link ≡ Some link
  pub filter : list < filters → link.by_filter ≡ node
  pub target : filters ≤ list → link.by_target ≡ node

-- links and nodes belong to each other, and no two contexts have one key
pub record AreLinked (rows : List Row) (filters : ℕ) (s : Sequences) (contexts : List ℕ) : Type 0 where
  pub as_many : length s.lists ≡ filters + 1025
  pub placed : (x : ℕ) (l : Link) → (row_at rows x).link ≡ Some l → IsPlaced filters s contexts x l
  pub named : (list node : ℕ) → Contains (nodes_of s.lists list) node → IsOfLink filters rows contexts list node
  pub one : (x y : ℕ) (l m : Link) → (row_at rows x).link ≡ Some l → (row_at rows y).link ≡ Some m → l.key ≡ m.key → x ≡ y

-- each node is in a list: none is kept for nothing
abbrev pub AreUsed : Sequences → Type 0
AreUsed s = (node : ℕ) → IsNode s node → IsLinked s node
