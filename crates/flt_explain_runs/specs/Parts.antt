-- What is written of the parts of a text's report. This project's own program.
use Rattle.std.specs.Prelude.{ℕ, List, [], ◌++◌, flat_map, string_bytes}
use Rattle.flt_explain_runs.specs.Quiet.{quieted}
use Rattle.flt_explain_outcomes.specs.declared.noted.Note.{Note}
use Rattle.flt_explain_runs.specs.declared.parts.Block.{Block}
use Rattle.flt_explain_runs.specs.declared.parts.Body.{Body}
use Rattle.flt_explain_runs.specs.declared.parts.Body.TheVariants.{Lines, Findings}
use Rattle.flt_explain_runs.specs.declared.parts.TextReport.{TextReport}

-- a block: its lines on runs as they are, and the others quieted
abbrev pub block_bytes : Block → List ℕ
block_bytes b =
    quieted b.report.items ++ b.note.line.items ++ quieted b.note.rows.items ++ b.again.line.items ++ quieted b.again.rows.items

-- what is above the last line
abbrev pub body_bytes : Body → List ℕ
body_bytes (Lines lines) = quieted lines.items
body_bytes (Findings blocks notes) = flat_map block_bytes blocks.items

-- a text's report
abbrev pub report_bytes : TextReport → List ℕ
report_bytes r = body_bytes r.body ++ quieted (string_bytes r.closing)

-- the notes in it
abbrev pub body_notes : Body → List Note
body_notes (Lines lines) = []
body_notes (Findings blocks notes) = notes

abbrev pub notes_in : TextReport → List Note
notes_in r = body_notes r.body
