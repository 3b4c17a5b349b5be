use Rattle.std.proofs.Common.{◌≡◌, length, map}
use Rattle.flt_syntax.specs.Lex.{lookup}
use Rattle.flt_syntax.proofs.lex.lookup.Given as goal

abbrev pub invariant-loop-table : goal.invariant-loop-table
invariant-loop-table l = lookup (map (λ e. (e.0.now, e.1)) l.table) l.name ≡ lookup (map (λ e. (e.0.now, e.1)) l.initial.table) l.name

abbrev pub decreases-loop-table : goal.decreases-loop-table
decreases-loop-table l = length l.table
