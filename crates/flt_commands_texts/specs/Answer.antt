-- How the answers of commands on texts and C files are written. This project's own program.
use Rattle.std.specs.Prelude.{ℕ, Bool, if◌then◌else◌, List, [], ◌∷◌, ◌++◌, codes, flat_map}
use Rattle.std.specs.Fmt.{decimal}
use Rattle.flt_files.specs.Unread.{status_beside}
use Rattle.flt_rules.specs.Refusal.{refusal_line}
use Rattle.flt_commands_texts.specs.Comparison.{compared_status, printed as printed_comparison}
use Rattle.flt_commands_texts.specs.Driver.{driver_status}
use Rattle.flt_commands_texts.specs.Outcomes.{files_status, printed}
use Rattle.flt_commands_texts.specs.declared.answer.TextAnswer.{TextAnswer}
use Rattle.flt_commands_texts.specs.declared.answer.TextAnswer.TheVariants.{Accepted, Refused, Certificate, Extracted, Formatted}
use Rattle.flt_commands_texts.specs.declared.answer.TextAnswer.TheVariants.{Emitted, NotEmitted, EmittedInto, Compared, Listed}
use Rattle.flt_commands_texts.specs.declared.emit.EmitFault.{EmitFault}
use Rattle.flt_commands_texts.specs.declared.emit.EmitFault.TheVariants.{Kinds, Create, Return}

-- a context that is set in these two lines
abbrev pub mixture : ℕ → ℕ → List ℕ
mixture stream instance =
    codes "a context that may be set on a stream (line " ++ decimal stream ++ codes ") and on the instance (line " ++ decimal instance
    ++ codes ")"

-- why a text can't be emitted
abbrev pub unemitted_line : EmitFault → List ℕ
unemitted_line (Kinds line stream instance) = codes "not emitted line " ++ (decimal line ++ (codes " " ++ mixture stream instance))
unemitted_line (Create line) = codes "not emitted line " ++ (decimal line ++ codes " a pre create that completes with STATUS_SUCCESS")
unemitted_line (Return line) = codes "not emitted line " ++ (decimal line ++ codes " a return that does not fit its callback")

-- what stands on the standard output: the certificate, a text or its map, a layout or which files differ from theirs, reports or how much
-- was compared, a part of a driver, or a line and a line feed
abbrev pub output : TextAnswer → List ℕ
output Accepted = codes "accepted" ++ 10 ∷ []
output (Refused f) = refusal_line f ++ 10 ∷ []
output (Certificate bytes) = bytes.items
output (Extracted bytes) = bytes.items
output (Formatted mode found) = flat_map (printed mode) found.files.items
output (Emitted bytes) = bytes.items
output (NotEmitted why) = unemitted_line why ++ 10 ∷ []
output (EmittedInto driver) = []
output (Compared found) = printed_comparison found
output (Listed found) = found.text.items

-- of a listing, where all is read, and where something isn't
abbrev pub listing_status : Bool → ℕ
listing_status whole = if whole then 0 else 1

-- the exit status: 0 where the certificate covers or is found, of annotations, and of a part of a driver; of layouts, their own, where each
-- file is read; 1 for any other answer
abbrev pub status_of : TextAnswer → ℕ
status_of Accepted = 0
status_of (Refused f) = 1
status_of (Certificate bytes) = 0
status_of (Extracted bytes) = 0
status_of (Formatted mode found) = status_beside (files_status mode found.files.items) found.unread.items
status_of (Emitted bytes) = 0
status_of (NotEmitted why) = 1
status_of (EmittedInto driver) = driver_status driver.outcome
status_of (Compared found) = compared_status found.reports.items
status_of (Listed found) = listing_status found.is_whole
