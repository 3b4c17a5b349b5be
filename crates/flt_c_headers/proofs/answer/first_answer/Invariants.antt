use Rattle.std.proofs.Common.{length, map}
use Rattle.flt_c_headers.proofs.Linking.{Asked}
use Rattle.flt_c_headers.proofs.answer.first_answer.Given as goal

abbrev pub invariant-loop-rest : goal.invariant-loop-rest
invariant-loop-rest g l =
    Asked (g.I.HeaderFiles.gives l.inputs) (map (λ name. name.items) l.names) l.fn.headers (map (λ name. name.items) l.rest) l.headers

abbrev pub decreases-loop-rest : goal.decreases-loop-rest
decreases-loop-rest g l = length l.rest
