use Rattle.std.proofs.Common.{◌≡◌, ◌++◌, flat_map, string_bytes, take}
use Rattle.flt_explain_timeline.specs.Text.{line}
use Rattle.flt_explain_timeline.proofs.timeline.Timeline.put_lines.Given as goal

-- the lines so far
abbrev pub invariant-loop-row : goal.invariant-loop-row
invariant-loop-row l =
    string_bytes l.out ≡ string_bytes l.initial.out ++ flat_map (line l.self l.indent l.field) (take l.row-index l.rows)
