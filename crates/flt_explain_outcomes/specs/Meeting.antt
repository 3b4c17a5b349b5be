-- Which filters meet. This project's own definitions.
use Rattle.std.specs.Prelude.{ℕ, ◌+◌, Bool, false, ◌&&◌, ◌||◌, List, Option, Some, None, take, drop, slice_get}
use Rattle.std.specs.List.{list_any}
use Rattle.flt_rules.specs.Place.{all_operations, same_operation}
use Rattle.flt_rules.specs.declared.place.Operation.{Operation}
use Rattle.flt_tree.specs.declared.filter.Callback.{Callback}
use Rattle.flt_tree.specs.declared.filter.Filter.{Filter}
use Rattle.flt_tree.specs.declared.filter.Head.{Head}
use Rattle.flt_tree.specs.declared.filter.Head.TheVariants as head
use Rattle.flt_tree.specs.declared.tree.Tree.{Tree}

-- a callback is of an operation
abbrev pub is_of : Operation → Callback → Bool
is_of kind c = is_head_of c.head where
  is_head_of : Head → Bool
  is_head_of (head.Pre own) = same_operation own kind
  is_head_of (head.Post own) = same_operation own kind
  is_head_of _ = false

-- a filter has a callback of an operation
abbrev pub sees : Filter → Operation → Bool
sees f kind = list_any (is_of kind) f.callbacks

-- two filters both have a callback of an operation
abbrev pub meet_on : Filter → Filter → Operation → Bool
meet_on f g kind = sees f kind && sees g kind

abbrev pub meet : Filter → Filter → Bool
meet f g = list_any (meet_on f g) all_operations

abbrev pub meets_some : Filter → List Tree → Bool
meets_some f others = list_any (λ (other : Tree). meet f other.filter) others

-- the filter of a number meets one of the others
abbrev pub meets_others : List Tree → ℕ → Bool
meets_others trees n = own_meets (slice_get trees n) where
  own_meets : Option Tree → Bool
  own_meets (Some own) = meets_some own.filter (take n trees) || meets_some own.filter (drop (n + 1) trees)
  own_meets None = false
