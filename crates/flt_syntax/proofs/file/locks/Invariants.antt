use Rattle.std.proofs.Common.{◌≡◌, ◌-◌}
use Rattle.flt_syntax.specs.File.{locks, locks_from}
use Rattle.flt_tree.specs.Names.{lock_names}
use Rattle.flt_syntax.proofs.file.locks.Given as goal

abbrev pub invariant-loop-turn : goal.invariant-loop-turn
invariant-loop-turn l =
    record {
      same : locks l.text l.fn.tokens.rest.now ≡ locks_from l.text (l._turn-end - l._turn) l.found l.tokens.rest.now;
      numbered : l.names ≡ lock_names l.found;
    }
