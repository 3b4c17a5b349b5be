use Rattle.std.proofs.Common.{◌≡◌, drop, map}
use Rattle.flt_explain_parts.specs.Files.{with_names}
use Rattle.flt_explain_parts.specs.declared.drifted.DriftedFile.{DriftedFile}
use Rattle.flt_explain_parts.proofs.file.add_drifted.Given as goal

-- with the names of the other files they are all
abbrev pub invariant-loop-file : goal.invariant-loop-file
invariant-loop-file l =
    with_names l.names.items (map (λ (f : DriftedFile). f.name) (drop l.file-index l.drifted))
    ≡ with_names l.initial.names.items (map (λ (f : DriftedFile). f.name) l.drifted)
