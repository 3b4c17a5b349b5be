use Rattle.std.proofs.Common.{◌≡◌, flat_map, take}
use Rattle.flt_commands_texts.specs.Outcomes.{printed}
use Rattle.flt_commands_texts.proofs.outcomes.printed_files.Given as goal

abbrev pub invariant-loop-file : goal.invariant-loop-file
invariant-loop-file l = l.bytes.items ≡ flat_map (printed l.mode) (take l.file-index l.files)
