use Rattle.std.proofs.Common.{◌≡◌, ◌+◌, ◌++◌, drop, length}
use Rattle.flt_tree.specs.Measures.{points}
use Rattle.flt_graph.proofs.lowering.+lower.Given as goal
use Rattle.flt_graph.specs.Codes.{block_code}

abbrev pub invariant-add_block-loop-statement : goal.invariant-add_block-loop-statement
invariant-add_block-loop-statement l =
    record {
      added : length l.found.items + points (drop l.statement-index l.block) ≡ length l.fn.found.items + points l.block;
      left : l.left + l.statement-index ≡ length l.block;
      points : l.found.items ++ block_code l.callbacks (drop l.statement-index l.block) (length l.found.items) l.after ≡
          l.fn.found.items ++ block_code l.callbacks l.block (length l.fn.found.items) l.after;
    }
