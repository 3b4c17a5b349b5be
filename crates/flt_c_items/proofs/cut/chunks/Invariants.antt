use Rattle.std.proofs.Common.{◌≡◌, ◌+◌, ◌++◌, length}
use Rattle.flt_c_items.specs.Cutting.{chunks, chunks_from}
use Rattle.flt_c_items.proofs.cut.chunks.Given as goal

abbrev pub invariant-loop-rest : goal.invariant-loop-rest
invariant-loop-rest l =
    record {
      same : chunks l.fn.words l.fn.tokens ≡ l.found.items ++ chunks_from l.fn.words l.state l.at l.rest;
      counted : l.at + length l.rest ≡ length l.fn.tokens;
    }

abbrev pub decreases-loop-rest : goal.decreases-loop-rest
decreases-loop-rest l = length l.rest
