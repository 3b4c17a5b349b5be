use Rattle.std.proofs.Common.{◌≡◌, length, map}
use Rattle.flt_c_macros.specs.Directives.{lookup}
use Rattle.flt_c_macros.proofs.directive.lookup.Given as goal

abbrev pub invariant-loop-table : goal.invariant-loop-table
invariant-loop-table l = lookup l.name (map (λ e. (e.0.now, e.1)) l.table) ≡ lookup l.name (map (λ e. (e.0.now, e.1)) l.initial.table)

abbrev pub decreases-loop-table : goal.decreases-loop-table
decreases-loop-table l = length l.table
