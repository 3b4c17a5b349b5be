use Rattle.std.proofs.Common.{◌≡◌, ◌++◌, drop}
use Rattle.std.specs.List.{list_all}
use Rattle.std.specs.Prelude.{IsTrue}
use Rattle.flt_tree.specs.Measures.{is_small}
use Rattle.flt_emit.specs.Callbacks.{callbacks_text}
use Rattle.flt_emit.proofs.callbacks.callbacks.Given as goal

abbrev pub invariant-loop-number : goal.invariant-loop-number
invariant-loop-number l =
    record {
      same : l.out.items ++ callbacks_text l.locks l.instances l.number (drop l.number l.found)
          ≡ l.initial.out.items ++ callbacks_text l.locks l.instances 0 l.found;
      small : IsTrue (list_all is_small (drop l.number l.found));
    }
