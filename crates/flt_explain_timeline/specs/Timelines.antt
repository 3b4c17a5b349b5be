-- Timelines. This project's own definitions.
use Rattle.std.specs.Prelude.{◌≡◌, List, Option, length, map, slice_get}
use Rattle.std.specs.Borrow.{Bor}
use Rattle.flt_places.specs.declared.files.Files.{Files}
use Rattle.flt_tree.specs.declared.filter.Filter.{Filter}
use Rattle.flt_model.specs.Program.{by_altitude, filter_of}
use Rattle.flt_model.specs.declared.moves.JournalEntry.{JournalEntry}
use Rattle.flt_model.specs.declared.verdict.Verdict.{Verdict}
use Rattle.flt_replay_world.specs.Filters.{filters_behind}
use Rattle.flt_explain_timeline.specs.Course.{refused_of, told_of}
use Rattle.flt_explain_timeline.specs.Folds.{AreFolds}
use Rattle.flt_explain_timeline.specs.Folds as repeating
use Rattle.flt_explain_timeline.specs.Rows.{Cover}
use Rattle.flt_explain_timeline.specs.Rows as cutting
use Rattle.flt_explain_timeline.specs.Tellings.{AreToldBy}
use Rattle.flt_explain_timeline.specs.declared.timeline.Timeline.{Timeline}

-- the files of one of some filters, where each of them has these: those of the first one of its altitude
abbrev pub files_for : List Filter → List Files → Filter → Option Files
files_for filters files filter = slice_get files (filter_of filters filter.altitude)

-- the same of the filters in another order
abbrev pub files_in : List Filter → List Files → List (Bor Filter) → List (Option Files)
files_in filters files ordered = map (λ (f : Bor Filter). files_for filters files f.now) ordered

-- the timeline of a journal on some filters, in any order, whose texts are in these files, as far as they are known, of which this is the
-- verdict: what is told of each entry and who was on is by the machine; each entry stands in one row, in the journal's order; the rows are
-- cut where an entry doesn't join the one before it; each row stands in one block or repeats one, and the blocks are those that these rows
-- have
pub record IsTimeline (filters : List Filter) (files : List Files) (journal : List JournalEntry) (verdict : Verdict) (t : Timeline)
    : Type 0 where
  pub ordered : filters_behind t.filters.items ≡ by_altitude filters
  pub named : t.files ≡ files_in filters files t.filters.items
  pub judged : t.verdict ≡ verdict
  pub refused : t.refusal ≡ refused_of (by_altitude filters) verdict journal
  pub entries : AreToldBy t.tellings t.told t.whos (told_of (by_altitude filters) verdict journal)
  pub each : length t.told ≡ length journal
  pub rows : Cover 0 t.rows (length journal)
  pub cuts : t.rows ≡ cutting.rows_of t.whos
  pub folds : AreFolds t.told t.rows 0 t.folds (length t.rows)
  pub blocks : t.folds ≡ repeating.folds t.told t.rows
