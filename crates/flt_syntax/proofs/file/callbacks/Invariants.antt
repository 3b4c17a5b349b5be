use Rattle.std.proofs.Common.{◌≡◌, ◌-◌}
use Rattle.std.specs.List.{list_all}
use Rattle.std.specs.Prelude.{IsTrue}
use Rattle.flt_tree.specs.Measures.{is_small}
use Rattle.flt_syntax.specs.File.{callbacks, callbacks_from}
use Rattle.flt_tree.specs.Names.{routine_names}
use Rattle.flt_syntax.specs.Scope.{scope_of}
use Rattle.flt_syntax.proofs.file.callbacks.Given as goal

abbrev pub invariant-loop-turn : goal.invariant-loop-turn
invariant-loop-turn l =
    record {
      same : callbacks (scope_of l.scope) l.fn.tokens.rest.now
          ≡ callbacks_from (scope_of l.scope) (l._turn-end - l._turn) l.found l.tokens.rest.now;
      small : IsTrue (list_all is_small l.found);
      numbered : l.routines ≡ routine_names l.found;
    }
