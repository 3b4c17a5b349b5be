use Rattle.std.proofs.Common.{◌≡◌, flat_map, take}
use Rattle.flt_commands_texts.specs.LayoutRemarks.{unread_line}
use Rattle.flt_commands_texts.proofs.layout_remarks.unread_lines.Given as goal

abbrev pub invariant-loop-file : goal.invariant-loop-file
invariant-loop-file l = l.lines.items ≡ flat_map unread_line (take l.file-index l.files)
