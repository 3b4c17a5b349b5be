use Rattle.std.proofs.Common.{◌≡◌, ◌+◌, ◌≤◌, ◌++◌, drop}
use Rattle.flt_tree.specs.Measures.{points}
use Rattle.flt_emit.specs.Scope.{scope_of}
use Rattle.flt_emit.specs.Statements.{body_text}
use Rattle.flt_emit.proofs.statements.+statements.Given as goal

abbrev pub invariant-body-loop-found : goal.invariant-body-loop-found
invariant-body-loop-found l =
    record {
      same : l.out.items ++ body_text (scope_of l.scope) (drop l.found-index l.statements) l.level l.next
          ≡ l.fn.out.items ++ body_text (scope_of l.scope) l.statements l.level l.point;
      next : l.next + points (drop l.found-index l.statements) ≡ l.point + points l.statements;
      deep : l.level + points (drop l.found-index l.statements) ≤ 1024;
    }
