-- Whether a context has two kinds, by the cells of both: as a body finds it that looks at each statement.
use Rattle.std.specs.Prelude.{ℕ, zero, suc, Bool, true, false, is_some, List, [], ◌∷◌, ◌++◌, Option, Some, None}
use Rattle.flt_rules.specs.declared.call.Anchor.{Anchor}
use Rattle.flt_rules.specs.declared.call.Anchor.TheVariants.{Stream, Instance}
use Rattle.flt_graph.specs.Graph.{points_at}
use Rattle.flt_graph.specs.declared.graph.Graph.{Graph}
use Rattle.flt_kinds.specs.Cells.{Cells, cell}
use Rattle.flt_kinds.specs.Flows.{spot}
use Rattle.flt_kinds.specs.Sites.{begun_at, given_at}
use Rattle.flt_kinds.specs.declared.mixed.MixedContext.{MixedContext}
use Rattle.flt_kinds.specs.declared.sites.ContextSite.{ContextSite}
use Rattle.flt_kinds.specs.declared.slot.Slot.{Slot}
use Rattle.flt_kinds.specs.declared.slot.Spot.{Spot}

-- ---- one statement

-- a context that two statements set, each for its kind
abbrev pub both : Spot → Option Spot → Option Spot → Option MixedContext
both at (Some stream) (Some instance) = Some (record { site = at; stream = stream; instance = instance })
both at _ _ = None

-- a context that is allocated
abbrev pub begun_twice : Cells → Cells → Spot → Option Slot → Option MixedContext
begun_twice streams instances at (Some slot) = both at (cell streams slot) (cell instances slot)
begun_twice streams instances at None = None

abbrev pub set_elsewhere : Cells → Cells → Spot → Anchor → Slot → Option MixedContext
set_elsewhere streams instances at Stream slot = both at (Some at) (cell instances slot)
set_elsewhere streams instances at Instance slot = both at (cell streams slot) (Some at)

-- a context that is given
abbrev pub given_twice : Cells → Cells → Spot → Option ContextSite → Option MixedContext
given_twice streams instances at (Some found) = set_elsewhere streams instances at found.anchor found.slot
given_twice streams instances at None = None

abbrev pub first_of : Option MixedContext → Option MixedContext → Option MixedContext
first_of (Some m) other = Some m
first_of None other = other

unfoldable pub mixed_at : Graph → Cells → Cells → ℕ → ℕ → Option MixedContext
mixed_at g streams instances callback point =
    first_of (begun_twice streams instances (spot callback point) (begun_at g callback point))
    (first_of (given_twice streams instances (spot callback point) (given_at g callback point true))
    (given_twice streams instances (spot callback point) (given_at g callback point false)))

-- ---- all statements

abbrev pub mixed_below : Graph → Cells → Cells → ℕ → ℕ → Option MixedContext
mixed_below g streams instances callback zero = None
mixed_below g streams instances callback (suc n) =
    first_of (mixed_below g streams instances callback n) (mixed_at g streams instances callback n)

abbrev pub mixed_in : Graph → Cells → Cells → ℕ → Option MixedContext
mixed_in g streams instances zero = None
mixed_in g streams instances (suc n) =
    first_of (mixed_in g streams instances n) (mixed_below g streams instances n (points_at g n))

-- ---- contexts of the instance

abbrev pub has_setter : Cells → Option Slot → Bool
has_setter instances (Some slot) = is_some (cell instances slot)
has_setter instances None = false

unfoldable pub is_needed : Graph → Cells → ℕ → ℕ → Bool
is_needed g instances callback point = has_setter instances (begun_at g callback point)

abbrev pub only : Bool → Spot → List Spot
only true at = at ∷ []
only false at = []

abbrev pub needed_below : Graph → Cells → ℕ → ℕ → List Spot
needed_below g instances callback zero = []
needed_below g instances callback (suc n) =
    needed_below g instances callback n ++ only (is_needed g instances callback n) (spot callback n)

abbrev pub needed_in : Graph → Cells → ℕ → List Spot
needed_in g instances zero = []
needed_in g instances (suc n) = needed_in g instances n ++ needed_below g instances n (points_at g n)
