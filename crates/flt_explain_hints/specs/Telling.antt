-- What is said of a text that doesn't parse, in words for people, to the letter. This project's own program.
use Rattle.std.specs.Prelude.{ℕ, Bool, true, false, not, ◌&&◌, ◌||◌, List, [], ◌∷◌, ◌++◌, Option, Some}
use Rattle.std.specs.Prelude.{None, codes, if◌then◌else◌, is_none, length, map, min, nat_lt, take}
use Rattle.std.specs.Borrow.{Bor}
use Rattle.std.specs.Char.{is_ascii, is_ascii_control}
use Rattle.std.specs.List.{flat_map}
use Rattle.std.specs.Option.{option_or}
use Rattle.flt_syntax.specs.declared.fault.FaultKind.{FaultKind}
use Rattle.flt_syntax.specs.declared.fault.FaultKind.TheVariants.{E01, E02, E03, E04, E05, E06, E07, E08}
use Rattle.flt_tree.specs.Names.{Text}
use Rattle.flt_explain_hints.specs.Absences as absences
use Rattle.flt_explain_hints.specs.Choices.{are_none}
use Rattle.flt_explain_hints.specs.Hint as hints
use Rattle.flt_explain_hints.specs.Hinting.{absence_in}
use Rattle.flt_explain_hints.specs.Misspelt.{misspelt_absence}
use Rattle.flt_explain_hints.specs.OpenCall.{lock_words, word_of}
use Rattle.flt_explain_hints.specs.Phrases.{Phrase, of_kind, of_word, phrases}
use Rattle.flt_explain_hints.specs.declared.absences.Absence.{Absence}
use Rattle.flt_explain_hints.specs.declared.hint.Hint.{Hint}
use Rattle.flt_explain_hints.specs.declared.hint.Hint.TheVariants as hint
use Rattle.flt_explain_hints.specs.declared.open_call.OpenCall.{OpenCall}
use Rattle.flt_explain_hints.specs.declared.troubles.Trouble.{Trouble}

-- ---- bytes and phrases

-- how many bytes of a token are shown at most
abbrev pub max_shown : ℕ
max_shown = 80

-- a byte as it is shown: `?` for one that isn't printed as it stands
abbrev pub shown : ℕ → ℕ
shown byte = if is_ascii byte && not (is_ascii_control byte) then byte else 63

-- what stands behind the bytes of a token: a mark, and two points before it where some aren't shown
abbrev pub closing_mark : Text → Text
closing_mark bytes = if nat_lt max_shown (length bytes) then codes "..`" else codes "`"

-- bytes of a text in marks
unfoldable pub quoted : Text → Text
quoted bytes = codes "`" ++ (map shown (take (min (length bytes) max_shown) bytes) ++ closing_mark bytes)

-- a phrase: the name of a kind, or a word in marks
abbrev pub said : Phrase → Text
said (of_kind name) = name
said (of_word word) = quoted word

-- what stands between a phrase and those behind it
abbrev pub joint : List Phrase → Text
joint [] = []
joint (p ∷ []) = codes " or "
joint (p ∷ q ∷ ps) = codes ", "

-- some phrases, with commas and an `or` between them
abbrev pub listed : List Phrase → Text
listed [] = []
listed (p ∷ ps) = said p ++ (joint ps ++ listed ps)

-- ---- the title

-- what is found
abbrev pub found_of : Text → Text
found_of [] = codes "the end of the text"
found_of (b ∷ []) = if is_ascii b then quoted (b ∷ []) else codes "a byte that isn't ASCII"
found_of (b ∷ c ∷ z) = quoted (b ∷ c ∷ z)

-- the same of a trouble
abbrev pub found : Trouble → Text
found t = found_of t.spot.bytes.now

-- what may stand there, and what stands there
abbrev pub awaited : List Phrase → Text
awaited [] = codes "expected a name that is declared"
awaited (p ∷ ps) = codes "expected " ++ listed (p ∷ ps)

abbrev pub expected : Trouble → List Phrase → Text
expected t ps = awaited ps ++ (codes ", found " ++ found t)

-- what a call lacks: the name of a lock, or else what may stand there
abbrev pub lacked : Option (Text × Text) → List Phrase → Text
lacked (Some lock) ps = lock.0
lacked None ps = listed ps

abbrev pub operand : OpenCall → List Phrase → Text
operand call ps = lacked (lock_words call.kind) ps

-- what a call lacks, and what stands in its place
abbrev pub operand_expected : Trouble → OpenCall → List Phrase → Text
operand_expected t call ps = codes "expected " ++ (operand call ps ++ (codes ", found " ++ found t))

-- whether a call takes the filter's queue, and the filter has none
abbrev pub needs_queue : Option Hint → Bool
needs_queue (Some hint.NeedsQueue) = true
needs_queue _ = false

-- whether nothing may stand there that has a phrase
abbrev pub is_nothing : List Phrase → Bool
is_nothing [] = true
is_nothing (p ∷ ps) = false

-- whether all that can be said of a name is that it isn't known
unfoldable pub is_unknown : Option Hint → List Phrase → Bool
is_unknown h ps = is_nothing ps || needs_queue h

-- the name that isn't known
unfoldable pub unknown_name : Trouble → Text
unknown_name t = codes "unknown name " ++ found t

-- what is wrong with a name: that it isn't known, or what may stand there
abbrev pub unknown : Trouble → List Phrase → Text
unknown t ps = if is_unknown t.hint ps then unknown_name t else expected t ps

-- what is wrong, where the hint alone says it
abbrev pub own_title : Option Hint → Option Text
own_title (Some hint.TooLarge) = Some (codes "the text is too large")
own_title (Some hint.ByteOrderMark) = Some (codes "the text begins with a byte order mark")
own_title (Some hint.NeedsCanceled) = Some (codes "`queue` without a `canceled` callback")
own_title (Some hint.NeedsPre) = Some (codes "`post` callback without its `pre` callback")
own_title _ = None

-- whether a callback stands twice
abbrev pub is_callback_twice : Option Hint → Bool
is_callback_twice (Some hint.CallbackTwice) = true
is_callback_twice _ = false

-- what is wrong, by the fault
abbrev pub title_by_fault : FaultKind → Trouble → List Phrase → Text
title_by_fault E02 t ps = found t ++ codes " is no word or number"
title_by_fault E04 t ps = unknown t ps
title_by_fault E05 t ps = codes "the name " ++ (found t ++ codes " is declared twice")
title_by_fault E06 t ps = codes "a limit is passed at " ++ found t
title_by_fault E08 t ps = found t ++ codes " appears twice in one call"
title_by_fault E01 t ps = expected t ps
title_by_fault E03 t ps = expected t ps
title_by_fault E07 t ps = expected t ps

-- what is wrong, by what the hint says, or else by the fault
abbrev pub title_by_hint : Option Text → Trouble → List Phrase → Text
title_by_hint (Some words) t ps = words
title_by_hint None t ps =
    if is_callback_twice t.hint then codes "this " ++ (found t ++ codes " callback appears twice")
    else title_by_fault t.spot.fault.kind t ps

abbrev pub title_by_call : Option OpenCall → Trouble → List Phrase → Text
title_by_call (Some call) t ps = operand_expected t call ps
title_by_call None t ps = title_by_hint (own_title t.hint) t ps

-- what is wrong, in one line without its end: what is expected, and what is found
unfoldable pub title_of : Trouble → Text
title_of t = title_by_call t.open_call t (phrases t.choices)

-- ---- the word that is meant

-- whether this word is meant
unfoldable pub question : Text → Text
question word = codes "did you mean " ++ (quoted word ++ codes "?")

-- the same, if there is one
abbrev pub question_if : Option (Bor Text) → Text
question_if None = []
question_if (Some word) = question word.now

-- which word is probably meant, if one is
unfoldable pub meant_of : Trouble → Text
meant_of t = question_if t.meant

-- ---- the notes

-- further names
abbrev pub further : List (Bor Text) → Text
further = flat_map (λ (name : Bor Text). codes ", " ++ quoted name.now)

-- a name and further ones, in a line
unfoldable pub declared_here : Text → List (Bor Text) → Text
declared_here name names = codes "   = note: declared here: " ++ (quoted name ++ (further names ++ 10 ∷ []))

-- the names that may stand there, in a line
abbrev pub names_line : List (Bor Text) → Text
names_line [] = []
names_line (name ∷ names) = declared_here name.now names

-- that a call isn't complete: its word, and the name of its line
unfoldable pub incomplete : OpenCall → Text → Text
incomplete call line =
    codes "the call before this isn't complete: " ++ (quoted (word_of call.kind) ++ (codes " in line " ++ line))

-- the same with what it lacks
unfoldable pub lacking : OpenCall → Text → List Phrase → Text
lacking call line ps = incomplete call line ++ (codes " lacks " ++ operand call ps)

-- how a lock is declared, where a call takes one and the filter declares none
abbrev pub declaration_by : Option (Text × Text) → Trouble → Text
declaration_by (Some lock) t = if are_none t.choices then lock.1 else []
declaration_by None t = []

-- the same of a call
unfoldable pub declaration : OpenCall → Trouble → Text
declaration call t = declaration_by (lock_words call.kind) t

-- what a call lacks, by what may stand there
abbrev pub lacking_there : Trouble → OpenCall → Text → Text
lacking_there t call line = lacking call line (phrases t.choices)

-- how to complete a call
abbrev pub call_help : Trouble → OpenCall → Text → Text
call_help t call line = lacking_there t call line ++ declaration call t

-- what to write in place of what the language leaves out, by the word that names it, be it misspelt
abbrev pub absence_at : Trouble → Option Absence
absence_at t = option_or (absence_in t.spot.bytes.now t.choices) (misspelt_absence t.spot.bytes.now)

abbrev pub absence_sentence : Option Absence → Text
absence_sentence (Some absence) = absences.sentence absence ++ absences.rest absence
absence_sentence None = hints.sentence hint.LeftOut

-- the sentence of a hint
abbrev pub is_left_out : Hint → Bool
is_left_out hint.LeftOut = true
is_left_out _ = false

abbrev pub sentence_of : Trouble → Hint → Text
sentence_of t h = if is_left_out h then absence_sentence (absence_at t) else hints.sentence h

-- how to mend what is wrong
abbrev pub help_by : Option OpenCall → Option Hint → Trouble → Text → Text
help_by (Some call) h t line = call_help t call line
help_by None (Some h) t line = sentence_of t h
help_by None None t line = []

-- the same in a line
abbrev pub help_line : Trouble → Text → Text
help_line t line =
    if is_none t.open_call && is_none t.hint then []
    else codes "   = help: " ++ (help_by t.open_call t.hint t line ++ 10 ∷ [])

-- which declared names may stand there, unless any name may, and how to mend what is wrong. The line of a call that isn't complete has this
-- name
unfoldable pub notes_of : Trouble → Text → Text
notes_of t line = (if t.choices.takes_name then [] else names_line t.choices.names) ++ help_line t line
