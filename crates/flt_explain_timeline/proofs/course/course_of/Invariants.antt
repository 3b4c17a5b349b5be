use Rattle.std.proofs.Common.{◌≡◌, ◌++◌, List, None, drop, false, length}
use Rattle.flt_explain_timeline.specs.Course as spec
use Rattle.flt_explain_timeline.specs.Tellings.{AreToldBy}
use Rattle.flt_explain_timeline.specs.declared.running.DescribedEntry.{DescribedEntry}
use Rattle.flt_explain_timeline.proofs.course.course_of.Given as goal

-- what is told so far, and then what is told of the entries that come next, is all
abbrev pub invariant-loop-entry : goal.invariant-loop-entry
invariant-loop-entry l = record {
  so_far : List DescribedEntry;
  told : AreToldBy l.course.tellings l.course.told l.course.whos so_far;
  all : so_far ++ spec.next_told l.stage.stack.now l.verdict l.course.progress l.entry-index l.scene (drop l.entry-index l.journal)
      ≡ spec.told_from l.stage.stack.now l.verdict 0 0 l.initial.scene l.journal;
  refused : spec.next_refused l.stage.stack.now l.verdict l.course.progress l.entry-index l.scene (drop l.entry-index l.journal)
      ≡ spec.refused_from l.stage.stack.now l.verdict 0 l.initial.scene l.journal;
  clear : l.course.progress.is_over ≡ false → l.course.progress.refusal ≡ None;
  each : length l.course.told ≡ l.entry-index;
  on : length l.course.whos ≡ l.entry-index;
}
