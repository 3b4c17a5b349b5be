use Rattle.std.proofs.Common.{take}
use Rattle.flt_explain_runs.specs.Printing.{AreBlocksOf}
use Rattle.flt_explain_runs.proofs.printing.Printer.blocks.Given as goal

abbrev pub invariant-loop-place : goal.invariant-loop-place
invariant-loop-place l =
    AreBlocksOf l.self l.scene l.traces (take l.place l.traces.groups) (take l.place l.noted.each) l.blocks.items
