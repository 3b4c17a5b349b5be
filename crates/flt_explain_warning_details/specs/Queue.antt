-- Operations that are left in the queue (W03). This project's own program.
use Rattle.std.specs.Prelude.{codes}
use Rattle.flt_tree.specs.Names.{Text}
use Rattle.flt_explain.specs.declared.finding.Subject.TheVariants as about
use Rattle.flt_explain_warnings.specs.declared.warning.Site.{Site}
use Rattle.flt_explain_warning_details.specs.Parsed.{Parsed}
use Rattle.flt_explain_warning_details.specs.Places.{marks_at}
use Rattle.flt_explain_warning_details.specs.declared.detail.RelatedPlace.{RelatedPlace}

-- ---- in a text that removes nothing from its queue

abbrev pub kept_title : Text
kept_title = codes "`FltCbdqInsertIo` pends an operation that no callback takes out of the queue"

abbrev pub kept_help : Text
kept_help = codes "call `FltCbdqRemoveNextIo` in the routine of a work item, and complete there what it gives"

abbrev pub kept_note : Text
kept_note = codes "the operation waits until it is cancelled or the filter is unloaded"

-- ---- where no work item is queued that removes

abbrev pub left_title : Text
left_title = codes "`FltCbdqInsertIo` pends an operation for which no work item is queued"

abbrev pub left_help : Text
left_help = codes "queue a work item whose routine calls `FltCbdqRemoveNextIo` on each path from here to that `return PENDING`"

abbrev pub left_note : Text
left_note = codes "the operation waits until a work item is queued for another one, it is cancelled or the filter is unloaded"

-- what is done where the callback returns
abbrev pub left_words : Text
left_words = codes "returns with the operation in the queue"

-- that place
abbrev pub left_place : Parsed → Site → RelatedPlace
left_place x s = record { marks = marks_at x s about.Status; words = left_words }
