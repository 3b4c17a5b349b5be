use Rattle.std.proofs.Common.{◌≡◌, ◌++◌, length, map}
use Rattle.flt_c_items.specs.Items.{item}
use Rattle.flt_c_items.proofs.file.items_of.Given as goal

abbrev pub invariant-loop-rest : goal.invariant-loop-rest
invariant-loop-rest l = map (item l.fn.words l.fn.tokens) l.fn.chunks ≡ l.found.items ++ map (item l.fn.words l.fn.tokens) l.rest

abbrev pub decreases-loop-rest : goal.decreases-loop-rest
decreases-loop-rest l = length l.rest
