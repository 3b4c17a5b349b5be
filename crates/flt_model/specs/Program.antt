-- The filters of a run, as their texts declare them. They are numbered from the highest altitude, from 0.
-- Source: the driver kit's pages on altitudes and on registering pre- and postoperation callbacks.
use Rattle.std.specs.Prelude.{ℕ, ◌≡◌, ◌≢◌, Bool, true, false, ◌==◌, nat_lt, if◌then◌else◌, List, [], ◌∷◌, ◌++◌}
use Rattle.std.specs.Prelude.{length, Option, Some, None, AllPairs, find, get_or, map, option_map, slice_get}
use Rattle.std.specs.List.{list_any, position_or_len}
use Rattle.flt_rules.specs.Call.{place_of}
use Rattle.flt_rules.specs.declared.call.LockKind.{LockKind}
use Rattle.flt_rules.specs.declared.call.LockNumber.{LockNumber}
use Rattle.flt_rules.specs.declared.place.Place.{Place}
use Rattle.flt_rules.specs.declared.place.Place.TheVariants as place
use Rattle.flt_tree.specs.Filter.{head_place}
use Rattle.flt_tree.specs.declared.filter.Callback.{Callback}
use Rattle.flt_tree.specs.declared.filter.Filter.{Filter}
use Rattle.flt_tree.specs.declared.filter.Head.{Head}
use Rattle.flt_tree.specs.declared.filter.Head.TheVariants as head
use Rattle.flt_tree.specs.declared.filter.Statement.{Statement}
use Rattle.flt_tree.specs.declared.tree.Tree.{Tree}
pub use Rattle.flt_tree.specs.Registered.{is_pre_of, is_post_of, has_pre, has_post, is_paired, are_paired, routine_of}

-- ---- filters by number

-- the filters of trees
abbrev pub filters_of : List Tree → List Filter
filters_of trees = map (λ t. t.filter) trees

-- no two filters have one altitude
abbrev pub HasDistinctAltitudes : List Filter → Type 0
HasDistinctAltitudes filters = AllPairs (λ (f g : Filter). f.altitude ≢ g.altitude) filters

-- the filter of a number, from 0, is the first whose altitude an earlier one has
pub record IsRepeated (filters : List Filter) (number : ℕ) : Type 0 where
  pub before : List Filter
  pub filter : Filter
  pub after : List Filter
  pub parts : filters ≡ before ++ filter ∷ after
  pub counted : number ≡ length before
  pub distinct : HasDistinctAltitudes before
  pub earlier : (at : ℕ) × (other : Filter) × (slice_get before at ≡ Some other) × (other.altitude ≡ filter.altitude)

-- a filter goes before the first one that is lower
abbrev pub put_by_altitude : Filter → List Filter → List Filter
put_by_altitude f [] = f ∷ []
put_by_altitude f (g ∷ rest) = if nat_lt g.altitude f.altitude then f ∷ g ∷ rest else g ∷ put_by_altitude f rest

-- where that is
abbrev pub first_lower : Filter → List Filter → ℕ
first_lower f filters = position_or_len (λ (g : Filter). nat_lt g.altitude f.altitude) filters

-- the filters from the highest altitude to the lowest
abbrev pub by_altitude : List Filter → List Filter
by_altitude [] = []
by_altitude (f ∷ rest) = put_by_altitude f (by_altitude rest)

-- a filter that isn't there has nothing
abbrev pub no_filter : Filter
no_filter = record { name = []; altitude = 0; locks = []; queue = None; callbacks = [] }

-- the filter of a number
abbrev pub filter_at : List Filter → ℕ → Filter
filter_at p f = get_or p f no_filter

-- its callbacks
abbrev pub callbacks_at : List Filter → ℕ → List Callback
callbacks_at p f = (filter_at p f).callbacks

-- the number of the filter at an altitude; past all filters where there is none
abbrev pub filter_of : List Filter → ℕ → ℕ
filter_of p altitude = position_or_len (λ (f : Filter). f.altitude == altitude) p

-- ---- callbacks by what they are registered for

-- the CompleteCanceledIo callback
abbrev pub is_canceled : Head → Bool
is_canceled head.Canceled = true
is_canceled _ = false

-- whether one of the callbacks has such a head
abbrev pub has_head : (Head → Bool) → List Callback → Bool
has_head test cs = list_any (λ (c : Callback). test c.head) cs

-- the statements of a callback; none where it isn't there
abbrev pub body_of : Option Callback → List Statement
body_of None = []
body_of (Some c) = c.body

-- the statements of the first callback whose head passes
abbrev pub body_for : (Head → Bool) → List Callback → List Statement
body_for test cs = body_of (find (λ (c : Callback). test c.head) cs)

-- the statements of the callback of a number
abbrev pub body_at : List Callback → ℕ → List Statement
body_at cs routine = body_of (slice_get cs routine)

-- the place of a callback that may not be there
abbrev pub place_for : Option Callback → Place
place_for None = place.Generic
place_for (Some c) = head_place c.head

-- the place of the callback of a number
abbrev pub place_at : List Callback → ℕ → Place
place_at cs routine = place_for (slice_get cs routine)

-- ---- locks

-- the kind of a declared lock
abbrev pub kind_of_lock : Filter → LockNumber → Option LockKind
kind_of_lock f l = option_map (λ lock. lock.kind) (slice_get f.locks (place_of l))
