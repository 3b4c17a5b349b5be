use Rattle.std.proofs.Common.{map, take}
use Rattle.flt_model.specs.Program.{filters_of}
use Rattle.flt_stack.specs.Loading as spec
use Rattle.flt_stack.proofs.reading.read_all.Given as goal

abbrev pub invariant-loop-file : goal.invariant-loop-file
invariant-loop-file l = spec.AreReadFiles (map (λ f. spec.file f.0.now f.1.now) (take l.file l.files))
    (filters_of l.filters.trees.items) l.filters.graphs.items l.filters.certificates.items
