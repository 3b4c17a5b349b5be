use Rattle.std.proofs.Common.{◌≡◌, drop, map}
use Rattle.flt_explain_parts.specs.Files.{with_names}
use Rattle.flt_places.specs.declared.files.SourceFile.{SourceFile}
use Rattle.flt_explain_parts.proofs.file.add_names.Given as goal

-- with the names of the other files they are all
abbrev pub invariant-loop-file : goal.invariant-loop-file
invariant-loop-file l =
    with_names l.names.items (map (λ (f : SourceFile). f.name) (drop l.file-index l.files))
    ≡ with_names l.initial.names.items (map (λ (f : SourceFile). f.name) l.files)
