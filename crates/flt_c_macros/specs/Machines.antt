-- The machine that expands a use of a macro: what it has left to read, and what it does with it.
--
-- Its items are read first, then the text after the use, of which so many tokens are left: `source` has all tokens of that text.
use Rattle.std.specs.Prelude.{ℕ, ◌+◌, ◌-◌, nat_le, Bool, true, ◌||◌, if◌then◌else◌, List, [], ◌∷◌, ◌++◌, length, drop, take}
use Rattle.flt_c_tokens.specs.declared.token.Token.{Token}
use Rattle.flt_c_macros.specs.declared.arguments.Search.{Search}
use Rattle.flt_c_macros.specs.declared.item.Item.{Item}
use Rattle.flt_c_macros.specs.declared.item.Item.TheVariants.{Read, End}
use Rattle.flt_c_macros.specs.declared.item.Word.{Word}
use Rattle.flt_c_macros.specs.declared.machine.Machine.{Machine}
use Rattle.flt_c_macros.specs.declared.machine.Prepared.{Prepared}
use Rattle.flt_c_macros.specs.declared.note.Note.{Note}
use Rattle.flt_c_macros.specs.declared.note.NoteKind.{NoteKind}
use Rattle.flt_c_macros.specs.declared.note.NoteKind.TheVariants as note
use Rattle.flt_c_macros.specs.Arguments.{begun, looked, passed}
use Rattle.flt_c_macros.specs.Bodies.{words_of}
use Rattle.flt_c_macros.specs.Items.{items_of, plain, text_items}

-- a use at a token of text, before it is read, that may add so many items; brackets are looked for where fewer tokens of the text are left
-- than `quiet`
abbrev pub fresh : Token → ℕ → ℕ → ℕ → Machine
fresh t left after quiet =
    record { items = Read (plain t) ∷ []; busy = []; left = left; after = after; quiet = quiet; written = []; notes = [] }

-- the last tokens of a text, so many of them
abbrev pub last : ℕ → List Token → List Token
last n source = drop (length source - n) source

-- all that is left
abbrev pub ahead : List Token → Machine → List Item
ahead source m = m.items ++ text_items (last m.after source)

-- how many turns the machine takes at most: each takes an item away, and what is put in is paid
abbrev pub size : Machine → ℕ
size m = length m.items + m.left

abbrev pub wrote : Word → Machine → Machine
wrote w m = record m { written = m.written ++ w ∷ [] }

-- a name stays, for a reason
abbrev pub left_alone : NoteKind → Token → Machine → Machine
left_alone kind t m =
    record m { written = m.written ++ record { token = t; is_painted = true } ∷ []; notes = m.notes ++ record { kind = kind; at = t } ∷ [] }

-- the latest name isn't in work any longer
abbrev pub ended : Machine → Machine
ended m = record m { busy = take (length m.busy - 1) m.busy }

-- so many words and an end are too many, or the body would be within 16 others
abbrev pub is_large : ℕ → ℕ → ℕ → Bool
is_large count names left = nat_le left count || nat_le 16 names

-- so many words and an end are paid
abbrev pub paid : ℕ → Machine → Machine
paid count m = record m { left = m.left - (count + 1) }

-- the words of a body, and its end, are to be read
abbrev pub entered : ℕ → List Word → Machine → Machine
entered name words m = record m { items = items_of words ++ End ∷ m.items; busy = m.busy ++ name ∷ [] }

-- a name of a macro without parameters
abbrev pub opened : Token → List Token → Machine → Machine
opened t body m =
    if is_large (length body) (length m.busy) m.left then left_alone note.Large t m
    else entered t.word (words_of t body) (paid (length body) m)

-- ---- macros with parameters

-- the search for the arguments of a name that was read
abbrev pub searched : List Token → ℕ → Machine → Search
searched source commas m = looked m.busy (ahead source m) (begun commas (length m.busy))

-- how much of the text is left behind what a search passed
abbrev pub behind : Search → Machine → ℕ
behind s m = m.after - (passed s - length m.items)

-- the name stays; behind it no brackets are looked for, up to where its own were looked for
abbrev pub failed : NoteKind → Token → Search → Machine → Machine
failed kind t s m = record (left_alone kind t m) { quiet = behind s m }

-- the items that a search passed are taken away
abbrev pub passed_by : Search → ℕ → List Note → Machine → Machine
passed_by s left notes m =
    record m {
      items = drop (passed s) m.items;
      busy = take s.names m.busy;
      left = left;
      after = behind s m;
      notes = m.notes ++ notes;
    }

-- ---- arguments

-- an argument is read alone: in no text, with the names that are in work
abbrev pub alone : List ℕ → List Word → ℕ → Machine
alone busy words left =
    record { items = items_of words; busy = busy; left = left; after = 0; quiet = 1; written = []; notes = [] }

-- no argument was read yet
abbrev pub unprepared : ℕ → Prepared
unprepared left = record { given = []; left = left; notes = [] }

-- an argument, and what the machine made of it
abbrev pub with_argument : ℕ → List Word → Machine → Prepared → Prepared
with_argument name a m p =
    record { given = p.given ++ record { name = name; raw = a; words = m.written } ∷ []; left = m.left; notes = p.notes ++ m.notes }

-- an argument that isn't read
abbrev pub with_unread : ℕ → List Word → Prepared → Prepared
with_unread name a p = record p { given = p.given ++ record { name = name; raw = a; words = [] } ∷ [] }
