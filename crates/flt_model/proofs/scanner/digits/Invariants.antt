use Rattle.std.proofs.Common.{◌≡◌, ◌≤◌, ◌+◌}
use Rattle.flt_model.specs.JournalTextReading.{digits}
use Rattle.flt_model.proofs.scanner.digits.Given as goal

abbrev pub invariant-loop-next : goal.invariant-loop-next
invariant-loop-next g l = record {
  read : digits l.fn.left l.end l.fn.number (g.R.Source.coming l.fn.reader) ≡ digits l.left l.end l.number (g.R.Source.coming l.reader);
  fine : g.R.Source.failures l.reader ≡ g.R.Source.failures l.fn.reader;
  reads : g.R.Source.reads l.reader + l.left ≤ g.R.Source.reads l.fn.reader + l.fn.left;
}

abbrev pub decreases-loop-next : goal.decreases-loop-next
decreases-loop-next g l = l.left
