use Rattle.std.proofs.Common.{◌≡◌, take}
use Rattle.flt_explain_parts.specs.Files.{files_of}
use Rattle.flt_explain_parts.proofs.file.files_of.Given as goal

abbrev pub invariant-loop-source : goal.invariant-loop-source
invariant-loop-source l = l.files.items ≡ files_of l.names (take l.source-index l.sources)
