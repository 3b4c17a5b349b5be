use Rattle.std.proofs.Common.{length, map}
use Rattle.flt_c_headers.proofs.Linking.{Linked}
use Rattle.flt_c_headers.proofs.linked.linked.Given as goal

abbrev pub invariant-loop-rest : goal.invariant-loop-rest
invariant-loop-rest g l =
    Linked (g.I.HeaderFiles.gives l.inputs) (map (λ dir. dir.now) l.folders) l.name l.file l.spellings l.tokens l.fn.headers l.rest l.headers
    l.linked.items

abbrev pub decreases-loop-rest : goal.decreases-loop-rest
decreases-loop-rest g l = length l.rest
