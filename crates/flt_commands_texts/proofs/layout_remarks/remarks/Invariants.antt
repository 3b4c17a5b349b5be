use Rattle.std.proofs.Common.{◌≡◌, flat_map, take}
use Rattle.flt_commands_texts.specs.LayoutRemarks.{remarked}
use Rattle.flt_commands_texts.proofs.layout_remarks.remarks.Given as goal

abbrev pub invariant-loop-file : goal.invariant-loop-file
invariant-loop-file l = l.lines.items ≡ flat_map (remarked l.mode) (take l.file-index l.files)
