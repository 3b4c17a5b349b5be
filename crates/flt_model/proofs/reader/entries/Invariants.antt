use Rattle.std.proofs.Common.{◌≡◌, ◌≤◌, ◌+◌, ◌-◌, ◌*◌, [], length}
use Rattle.flt_model.specs.JournalText.{most_entries, longest_move}
use Rattle.flt_model.specs.JournalTextReading.{entries_from}
use Rattle.flt_model.proofs.reader.entries.Given as goal

abbrev pub invariant-loop-number : goal.invariant-loop-number
invariant-loop-number g l = record {
  count : length l.found ≡ l.number;
  read : entries_from (most_entries - l.number) l.found (g.R.Source.coming l.reader) ≡ entries_from most_entries []
      (g.R.Source.coming l.fn.reader);
  fine : g.R.Source.failures l.reader ≡ g.R.Source.failures l.fn.reader;
  reads : g.R.Source.reads l.reader ≤ g.R.Source.reads l.fn.reader + l.number * (longest_move + 1);
}
