use Rattle.std.proofs.Common.{◌≡◌, flat_map, take}
use Rattle.flt_commands_explain.specs.Remarks.{unread_lines}
use Rattle.flt_commands_explain.proofs.remarks.unread_lines.Given as goal

abbrev pub invariant-loop-file : goal.invariant-loop-file
invariant-loop-file l = l.lines.items ≡ flat_map unread_lines (take l.file-index l.files)
