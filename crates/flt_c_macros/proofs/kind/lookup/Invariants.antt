use Rattle.std.proofs.Common.{◌≡◌, length, map}
use Rattle.flt_c_macros.specs.Kinds.{lookup}
use Rattle.flt_c_macros.proofs.kind.lookup.Given as goal

abbrev pub invariant-loop-table : goal.invariant-loop-table
invariant-loop-table l = lookup l.kind (map (λ e. (e.0, e.1.now)) l.table) ≡ lookup l.kind (map (λ e. (e.0, e.1.now)) l.initial.table)

abbrev pub decreases-loop-table : goal.decreases-loop-table
decreases-loop-table l = length l.table
