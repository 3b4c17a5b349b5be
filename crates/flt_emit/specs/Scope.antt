-- Where a statement stands, and what it may name.
use Rattle.std.specs.Prelude.{ℕ, Bool, ◌==◌, ◌&&◌, List}
use Rattle.std.specs.List.{list_any}
use Rattle.flt_rules.specs.declared.place.Place.{Place}
use Rattle.flt_tree.specs.declared.filter.Lock.{Lock}
use Rattle.flt_emit.specs.declared.scope.Allocation.{Allocation}
use Rattle.flt_emit.specs.declared.scope.Scope as declared

-- a callback's number and place, the filter's locks, and the points at which contexts of the instance are allocated
pub record Scope : Type 0 where
  pub callback : ℕ
  pub place : Place
  pub locks : List Lock
  pub instances : List Allocation

abbrev pub scope_of : declared.Scope → Scope
scope_of s = record { callback = s.callback; place = s.place; locks = s.locks.now; instances = s.instances.now }

-- whether an allocation is the one at a point of a callback
abbrev pub is_at : ℕ → ℕ → Allocation → Bool
is_at callback point found = found.callback == callback && found.point == point

-- whether the context that is allocated at a point is one of the instance
abbrev pub allocates_for_instance : Scope → ℕ → Bool
allocates_for_instance scope point = list_any (is_at scope.callback point) scope.instances
