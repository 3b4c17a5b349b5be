-- What is wrong with a lock, and how to fix it (R09 to R12). This project's own program.
use Rattle.std.specs.Prelude.{if◌then◌else◌, List, [], ◌∷◌, codes, Option, Some, None}
use Rattle.std.specs.List.{concat}
use Rattle.flt_rules.specs.Held.{holds_lock}
use Rattle.flt_rules.specs.declared.call.LockNumber.{LockNumber}
use Rattle.flt_rules.specs.declared.held.HeldLock.{HeldLock}
use Rattle.flt_tree.specs.Names.{Text}
use Rattle.flt_abs.specs.State.{State}
use Rattle.flt_explain.specs.declared.finding.Subject.{Subject}
use Rattle.flt_explain.specs.declared.finding.Subject.TheVariants as about
use Rattle.flt_explain_origins.specs.declared.answer.Step.{Step}
use Rattle.flt_explain_advice.specs.Advice.Sentences.{around, at_end, on_line}
use Rattle.flt_explain_advice.specs.Case.{Circumstances, cause, line_of, lock_name, state}
use Rattle.flt_explain_texts.specs.Page.{quoted}
use Rattle.flt_explain_advice.specs.declared.advice.locks.Release.{Release}
use Rattle.flt_explain_advice.specs.declared.advice.locks.Release.TheVariants.{NotHeld, Under, Unknown}

-- ---- what is wrong

-- a lock that is held, but wasn't taken last, lies under that one
abbrev pub under_last : List HeldLock → Release
under_last [] = NotHeld
under_last (h ∷ []) = Under h.lock
under_last (h ∷ k ∷ locks) = under_last (k ∷ locks)

abbrev pub release_in : LockNumber → State → Release
release_in l s = if holds_lock l s.locks then under_last s.locks else NotHeld

abbrev pub release_by : Subject → Option State → Release
release_by (about.Lock l) (Some s) = release_in l s
release_by _ _ = Unknown

-- what is wrong with the release of a lock: it isn't held, or another one was taken later
unfoldable pub release : Circumstances → Release
release x = release_by x.finding.subject (state x)

-- ---- titles

abbrev pub release_fault : Release → Text
release_fault NotHeld = codes " is released and isn't held"
release_fault _ = codes " isn't the lock that was taken last"

-- R09
abbrev pub release_title : Circumstances → Text
release_title x = around x [] (release_fault (release x))

-- R10
abbrev pub end_title : Circumstances → Text
end_title x = at_end x (codes " is still held when ")

-- R11
abbrev pub twice_title : Circumstances → Text
twice_title x = around x [] (codes " is taken twice")

-- R12
abbrev pub meeting_title : Circumstances → Text
meeting_title x = around x (codes "two paths join with different locks held: ") []

-- ---- helps

abbrev pub release_help_by : Circumstances → Release → Text
release_help_by x NotHeld = around x (codes "take ") (codes " on this path too, or release it only where it is held")
release_help_by x (Under later) = concat (codes "release " ∷ quoted (lock_name x later) ∷ codes ", taken later, first" ∷ [])
release_help_by x Unknown = around x (codes "release the locks that were taken after ") (codes " first")

-- R09
unfoldable pub release_help : Circumstances → Text
release_help x = release_help_by x (release x)

-- R10
abbrev pub end_help : Circumstances → Text
end_help x = around x (codes "release ") (codes " on this path")

abbrev pub twice_help_by : Circumstances → Option Step → Text
twice_help_by x (Some s) =
    on_line x (line_of x s) (codes " took ") (codes ": release it before it is taken again, and shared before exclusive")
twice_help_by x None = around x (codes "release ") (codes " before it is taken again")

-- R11, by the step that took it first
unfoldable pub twice_help : Circumstances → Text
twice_help x = twice_help_by x (cause x)

-- R12
abbrev pub meeting_help : Circumstances → Text
meeting_help x = around x (codes "release ") (codes " on both paths before they join, or on none")
