use Rattle.std.proofs.Common.{◌≡◌, ◌++◌, drop}
use Rattle.flt_explain_reports.specs.Shown.{all_drawn}
use Rattle.flt_explain_reports.proofs.shown_lines.draw_marks.Given as goal

abbrev pub invariant-loop-mark : goal.invariant-loop-mark
invariant-loop-mark l = record {
  coloured : l.drawing.coloured ≡ l.initial.drawing.coloured;
  margin : l.drawing.margin ≡ l.initial.drawing.margin;
  drawn :
      l.page.out.items ++ all_drawn l.initial.drawing.coloured l.initial.drawing.margin l.scene.files l.drawing.file l.scene.lines.now
      l.scene.graph.now l.finding l.subject l.shown.answer l.drawing.last (drop l.mark-index l.marks)
      ≡ l.initial.page.out.items ++ all_drawn l.initial.drawing.coloured l.initial.drawing.margin l.scene.files l.initial.drawing.file
      l.scene.lines.now l.scene.graph.now l.finding l.subject l.shown.answer l.initial.drawing.last l.marks;
}
