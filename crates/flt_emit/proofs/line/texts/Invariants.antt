use Rattle.std.proofs.Common.{◌≡◌, ◌++◌, take}
use Rattle.flt_emit.specs.Line.{all_of}
use Rattle.flt_emit.proofs.line.texts.Given as goal

abbrev pub invariant-loop-found : goal.invariant-loop-found
invariant-loop-found l = l.out.items ≡ l.initial.out.items ++ all_of (take l.found-index l.texts)
