-- What is said of each warning: where it is, what is wrong, what to write, and which other places it is about. This project's own program.
use Rattle.std.specs.Prelude.{ℕ, List, [], ◌∷◌, Option, Some, None}
use Rattle.flt_tree.specs.Names.{Text}
use Rattle.flt_tree.specs.declared.variable.OperationVariable.TheVariants.{Data}
use Rattle.flt_explain.specs.declared.finding.Subject.TheVariants as about
use Rattle.flt_explain_texts.specs.declared.operands.Marks.{Marks}
use Rattle.flt_order.specs.declared.order.Acquisition.{Acquisition}
use Rattle.flt_explain_warnings.specs.Warning.{site, site_of}
use Rattle.flt_explain_warnings.specs.declared.warning.Site.{Site}
use Rattle.flt_explain_warnings.specs.declared.warning.Warning.{Warning}
use Rattle.flt_explain_warnings.specs.declared.warning.Warning.TheVariants as warning
use Rattle.flt_explain_warning_details.specs.Contexts as contexts
use Rattle.flt_explain_warning_details.specs.Late as late
use Rattle.flt_explain_warning_details.specs.Locks as locks
use Rattle.flt_explain_warning_details.specs.Parsed.{Parsed, head, instruction, line}
use Rattle.flt_explain_warning_details.specs.Places.{marks_at, marks_of_head, marks_of_lock}
use Rattle.flt_explain_warning_details.specs.Queue as queue
use Rattle.flt_explain_warning_details.specs.Unused as unused
use Rattle.flt_explain_warning_details.specs.declared.detail.RelatedPlace.{RelatedPlace}

-- ---- places

-- where a point is that works on a context, and the variable that it names
abbrev pub context_marks : Parsed → Site → Marks
context_marks x s = marks_at x s (contexts.subject_of (contexts.worked_on (instruction x s)))

-- where a warning is: its statement with what it names, or its declaration
abbrev pub marks_of : Parsed → Warning → Marks
marks_of x (warning.LockCircle c) = locks.circle_marks x c
marks_of x (warning.CalledLocked s l) = marks_at x s about.Call
marks_of x (warning.NeverRemoved s) = marks_at x s (about.Operation Data)
marks_of x (warning.LeftPended s q) = marks_at x s (about.Operation Data)
marks_of x (warning.ChangedUnlocked s o) = context_marks x s
marks_of x (warning.LostContext s q) = context_marks x s
marks_of x (warning.UnusedLock l) = marks_of_lock x l
marks_of x (warning.UnusedCallback n) = marks_of_head x n
marks_of x (warning.Unreached s) = marks_at x s about.Call
marks_of x (warning.NeverHolds s) = marks_at x s about.Call
marks_of x (warning.CalledLate s) = marks_at x s about.Call

-- the line of a point, if there is one
abbrev pub line_at : Parsed → Option Site → ℕ
line_at x (Some s) = line x s
line_at x None = 0

-- the line where its statement begins, or its declaration
abbrev pub line_of : Parsed → Warning → ℕ
line_of x (warning.UnusedLock l) = (marks_of_lock x l).statement.first.line
line_of x (warning.UnusedCallback n) = (marks_of_head x n).statement.first.line
line_of x w = line_at x (site_of w)

-- the head of the callback of a point, if there is one
abbrev pub head_at : Parsed → Option Site → Text
head_at x (Some s) = head x s.callback
head_at x None = []

-- the head of its callback; nothing where it is in none
abbrev pub head_of : Parsed → Warning → Text
head_of x (warning.UnusedCallback n) = head x n
head_of x w = head_at x (site_of w)

-- the other places that it is about
abbrev pub related_of : Parsed → Warning → List RelatedPlace
related_of x (warning.LockCircle c) = locks.circle_places x c
related_of x (warning.LeftPended s q) = queue.left_place x (site s.callback q) ∷ []
related_of x (warning.ChangedUnlocked s o) = contexts.access_place x o ∷ []
related_of x (warning.LostContext s q) = contexts.lost_place x s q ∷ []
related_of x _ = []

-- the acquisitions of the circle that it is about; nothing where it is about none
abbrev pub circle_of : Warning → List Acquisition
circle_of (warning.LockCircle c) = c
circle_of _ = []

-- ---- words

-- what is wrong
abbrev pub title_of : Parsed → Warning → Text
title_of x (warning.LockCircle c) = locks.circle_title x c
title_of x (warning.CalledLocked s l) = locks.called_title x s l
title_of x (warning.NeverRemoved s) = queue.kept_title
title_of x (warning.LeftPended s q) = queue.left_title
title_of x (warning.ChangedUnlocked s o) = contexts.changed_title x s
title_of x (warning.LostContext s q) = contexts.lost_title x s
title_of x (warning.UnusedLock l) = unused.lock_title x l
title_of x (warning.UnusedCallback n) = unused.callback_title x n
title_of x (warning.Unreached s) = unused.unreached_title
title_of x (warning.NeverHolds s) = unused.never_title x s
title_of x (warning.CalledLate s) = late.late_title x s

-- what to write
abbrev pub help_of : Parsed → Warning → Text
help_of x (warning.LockCircle c) = locks.circle_help x c
help_of x (warning.CalledLocked s l) = locks.called_help x l
help_of x (warning.NeverRemoved s) = queue.kept_help
help_of x (warning.LeftPended s q) = queue.left_help
help_of x (warning.ChangedUnlocked s o) = contexts.changed_help
help_of x (warning.LostContext s q) = contexts.lost_help x s
help_of x (warning.UnusedLock l) = unused.lock_help
help_of x (warning.UnusedCallback n) = unused.callback_help x n
help_of x (warning.Unreached s) = unused.unreached_help
help_of x (warning.NeverHolds s) = unused.never_help x s
help_of x (warning.CalledLate s) = late.late_help

-- what may come of it, or why it is so; or nothing
abbrev pub note_of : Parsed → Warning → Text
note_of x (warning.LockCircle c) = locks.circle_note
note_of x (warning.CalledLocked s l) = locks.called_note x l
note_of x (warning.NeverRemoved s) = queue.kept_note
note_of x (warning.LeftPended s q) = queue.left_note
note_of x (warning.ChangedUnlocked s o) = contexts.changed_note
note_of x (warning.LostContext s q) = contexts.lost_note x s
note_of x (warning.NeverHolds s) = unused.never_note
note_of x (warning.CalledLate s) = late.late_note
note_of x _ = []
