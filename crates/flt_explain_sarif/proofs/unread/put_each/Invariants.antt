use Rattle.std.proofs.Common.{flat_map, take}
use Rattle.flt_explain_parts.specs.Members.{Added}
use Rattle.flt_explain_sarif.specs.Sarif.{notification}
use Rattle.flt_explain_sarif.proofs.unread.put_each.Given as goal

abbrev pub invariant-loop-file : goal.invariant-loop-file
invariant-loop-file l = Added l.initial.writer l.writer (flat_map notification (take l.file-index l.files))
