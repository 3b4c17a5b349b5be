-- What a word says: of code, or of an annotation. This project's own rule.
use Rattle.std.specs.Prelude.{ℕ, Bool, true, false, ◌||◌, if◌then◌else◌, List, codes, Option, Some, None}
use Rattle.std.specs.Str.{bytes_eq}
use Rattle.flt_c_drift.specs.Names.{c_status_of, call_of, lock_call_of, operation_of, status_of}
use Rattle.flt_c_drift.specs.Wrappers.{Wrapping, call_in}
use Rattle.flt_c_drift.specs.declared.mark.MarkKind.{MarkKind}
use Rattle.flt_c_drift.specs.declared.mark.MarkKind.TheVariants as k
use Rattle.flt_c_drift.specs.declared.word.Before.{Before}
use Rattle.flt_c_drift.specs.declared.word.Before.TheVariants as before
use Rattle.flt_c_drift.specs.declared.word.Entry.{Entry}
use Rattle.flt_c_drift.specs.declared.word.Entry.TheVariants as entry

-- what a word is to the word after it
abbrev pub lock_before : Option ℕ → Before
lock_before None = before.Nothing
lock_before (Some call) = before.Lock call

abbrev pub before_of : List ℕ → Before
before_of word =
    if bytes_eq word (codes "return") then before.Return
    else (if bytes_eq word (codes "pre") then before.Pre
    else (if bytes_eq word (codes "post") then before.Post else lock_before (lock_call_of word)))

-- ---- code

-- no callback
abbrev pub is_null : List ℕ → Bool
is_null word = bytes_eq word (codes "NULL") || bytes_eq word (codes "0")

-- what a word of an entry of a table registers
abbrev pub registered : Entry → Option MarkKind
registered (entry.Pre (Some operation)) = Some (k.RegistersPre operation)
registered (entry.Post (Some operation)) = Some (k.RegistersPost operation)
registered (entry.Pre None) = Some k.RegistersOther
registered (entry.Post None) = Some k.RegistersOther
registered _ = None

-- the status that a word is, where it stands after `return`
abbrev pub returned : Before → List ℕ → Option ℕ
returned before.Return word = c_status_of word
returned _ word = None

abbrev pub called : Option ℕ → Option MarkKind
called None = None
called (Some call) = Some (k.Calls call)

abbrev pub or_called : Option ℕ → Option ℕ → Option MarkKind
or_called None call = called call
or_called (Some status) call = Some (k.Returns status)

abbrev pub or_said : Option MarkKind → Option MarkKind → Option MarkKind
or_said None said = said
or_said (Some first) said = Some first

-- what a word of code says
abbrev pub said_by_code : List Wrapping → Entry → Before → List ℕ → Option MarkKind
said_by_code ws at before word =
    or_said (if is_null word then None else registered at) (or_called (returned before word) (call_in ws word))

-- ---- annotations

abbrev pub named : Option ℕ → Option MarkKind
named None = None
named (Some call) = Some (k.Names call)

abbrev pub answered : Option ℕ → Option MarkKind
answered None = None
answered (Some status) = Some (k.Answers status)

abbrev pub pre_headed : Option ℕ → Option MarkKind
pre_headed None = None
pre_headed (Some operation) = Some (k.HeadsPre operation)

abbrev pub post_headed : Option ℕ → Option MarkKind
post_headed None = None
post_headed (Some operation) = Some (k.HeadsPost operation)

-- what a word says by the word before it
abbrev pub said_after : Before → List ℕ → Option MarkKind
said_after before.Nothing word = None
said_after before.Return word = answered (status_of word)
said_after before.Pre word = pre_headed (operation_of word)
said_after before.Post word = post_headed (operation_of word)
said_after (before.Lock call) word = None

-- what a word of an annotation says; one of the text alone says nothing
abbrev pub said_by_note : Bool → Before → List ℕ → Option MarkKind
said_by_note true before word = None
said_by_note false before word = or_said (said_after before word) (named (call_of word))
