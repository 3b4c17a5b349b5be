use Rattle.std.proofs.Common.{◌≡◌, take}
use Rattle.flt_explain_parts.specs.Files.{artifacts_of}
use Rattle.flt_explain_parts.proofs.file.artifacts_of.Given as goal

abbrev pub invariant-loop-file : goal.invariant-loop-file
invariant-loop-file l = l.artifacts ≡ artifacts_of l.names (take l.file-index l.files)
