use Rattle.std.proofs.Common.{◌≡◌, ◌++◌, flat_map, take}
use Rattle.flt_emit.specs.Line.{piece_text}
use Rattle.flt_emit.proofs.line.write.Given as goal

abbrev pub invariant-loop-found : goal.invariant-loop-found
invariant-loop-found l = l.out.items ≡ l.initial.out.items ++ flat_map piece_text (take l.found-index l.pieces)
