use Rattle.std.proofs.Common.{◌≡◌, ◌≤◌, ◌+◌, ◌-◌, ◌<◌, [], length}
use Rattle.flt_model.specs.JournalText.{longest_operation}
use Rattle.flt_model.specs.JournalTextReading.{operation_from}
use Rattle.flt_model.proofs.lines.operation_by_bytes.Given as goal

abbrev pub invariant-loop-next : goal.invariant-loop-next
invariant-loop-next g l = record {
  read : operation_from [] (g.R.Source.coming l.fn.reader) ≡ operation_from l.front (g.R.Source.coming l.reader);
  short : length l.front < longest_operation;
  fine : g.R.Source.failures l.reader ≡ g.R.Source.failures l.fn.reader;
  reads : g.R.Source.reads l.reader ≤ g.R.Source.reads l.fn.reader + length l.front;
}

abbrev pub decreases-loop-next : goal.decreases-loop-next
decreases-loop-next g l = longest_operation - length l.front
