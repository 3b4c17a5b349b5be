use Rattle.std.proofs.Common.{◌-◌, length, map}
use Rattle.flt_c_headers.specs.World.{max_headers}
use Rattle.flt_c_headers.proofs.Closing.{Closes}
use Rattle.flt_c_headers.proofs.reading.read_headers.Given as goal

abbrev pub invariant-loop-file : goal.invariant-loop-file
invariant-loop-file g l =
    Closes (g.I.HeaderFiles.gives l.inputs) (map (λ dir. dir.now) l.folders) l.fn.spellings l.fn.headers l.spellings l.headers

abbrev pub decreases-loop-file : goal.decreases-loop-file
decreases-loop-file g l = max_headers - length l.headers.tokens
