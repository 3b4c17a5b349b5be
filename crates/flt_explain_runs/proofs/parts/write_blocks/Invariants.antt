use Rattle.std.proofs.Common.{◌≡◌, ◌++◌, flat_map, take}
use Rattle.flt_explain_runs.specs.Parts.{block_bytes}
use Rattle.flt_explain_runs.proofs.parts.write_blocks.Given as goal

abbrev pub invariant-loop-block : goal.invariant-loop-block
invariant-loop-block l = l.out.items ≡ l.fn.out.items ++ flat_map block_bytes (take l.block-index l.blocks)
