use Rattle.std.proofs.Common.{◌≡◌, ◌+◌, length, map}
use Rattle.flt_c_functions.proofs.Reading.{Read}
use Rattle.flt_c_functions.proofs.source.read_sources.Given as goal

abbrev pub invariant-loop-rest : goal.invariant-loop-rest
invariant-loop-rest g l =
    record {
      read : Read (g.I.HeaderFiles.gives l.fn.inputs) (map (λ folder. folder.now) l.fn.folders) (map (λ line. line.items) l.fn.lines)
          (map (λ name. name.now) l.fn.names) (record { texts = l.fn.spellings; headers = l.fn.headers })
          (map (λ file. file.items) l.fn.files) (record { texts = l.spellings; headers = l.headers }) l.at
          (map (λ file. file.items) l.rest) l.found.items;
      counted : l.at + length l.rest ≡ length l.fn.files;
    }

abbrev pub decreases-loop-rest : goal.decreases-loop-rest
decreases-loop-rest g l = length l.rest
