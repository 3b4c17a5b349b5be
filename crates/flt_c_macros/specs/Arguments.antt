-- The arguments of a use: what is in the brackets behind a macro's name, cut at commas. They may begin in a body and end in text.
use Rattle.std.specs.Prelude.{◌≤◌, ℕ, ◌+◌, ◌-◌, ◌==◌, nat_eq, Bool, true, false, not, ◌&&◌, ◌||◌, if◌then◌else◌}
use Rattle.std.specs.Prelude.{List, [], ◌∷◌, ◌++◌, length, take, Option, Some, None}
use Rattle.flt_c_tokens.specs.declared.token.Kind.{Kind}
use Rattle.flt_c_tokens.specs.declared.token.Kind.TheVariants as k
use Rattle.flt_c_macros.specs.declared.arguments.Search.{Search}
use Rattle.flt_c_macros.specs.declared.arguments.Stage.{Stage}
use Rattle.flt_c_macros.specs.declared.arguments.Stage.TheVariants.{Before, Within, Absent, Closed}
use Rattle.flt_c_macros.specs.declared.item.Item.{Item}
use Rattle.flt_c_macros.specs.declared.item.Item.TheVariants.{Read, End}
use Rattle.flt_c_macros.specs.declared.item.Word.{Word}
use Rattle.flt_c_macros.specs.declared.note.NoteKind.{NoteKind}
use Rattle.flt_c_macros.specs.declared.note.NoteKind.TheVariants.{Large, Open}
use Rattle.flt_c_macros.specs.Items.{colored}
use Rattle.flt_c_macros.specs.Kinds.{same_kind}

-- the commas that separate arguments: what is behind those of the named parameters is one argument for `...`
abbrev pub commas_of : List ℕ → Option ℕ → ℕ
commas_of names None = 4096
commas_of names (Some rest) = length names - 1

-- nothing was looked at yet; so many commas separate arguments, and so many names are in work
abbrev pub begun : ℕ → ℕ → Search
begun commas names = record { stage = Before; arguments = []; last = []; commas = commas; names = names; room = 4096 }

-- how many items were passed
abbrev pub passed : Search → ℕ
passed s = 4096 - s.room

-- how many brackets are open within the one that opens the arguments
abbrev pub depth_of : Stage → ℕ
depth_of Before = 0
depth_of (Within depth) = depth
depth_of Absent = 0
depth_of Closed = 0

abbrev pub is_found : Stage → Bool
is_found Before = false
is_found (Within depth) = false
is_found Absent = true
is_found Closed = true

-- an end is known, or 4,096 items were passed
abbrev pub is_over : Search → Bool
is_over s = is_found s.stage || s.room == 0

-- a word of the argument that is being read
abbrev pub taken_in : Word → ℕ → Search → Search
taken_in w depth s = record s { stage = Within depth; last = s.last ++ w ∷ [] }

-- the end of an argument
abbrev pub cut : Stage → Search → Search
cut stage s = record s { stage = stage; arguments = s.arguments ++ s.last ∷ []; last = []; commas = s.commas - 1 }

-- a word in the brackets: those within it nest, and commas within those separate nothing
abbrev pub seen_within : ℕ → Word → Kind → Search → Search
seen_within depth w kind s =
    if same_kind kind k.OpenParen then taken_in w (depth + 1) s
    else (if same_kind kind k.CloseParen then (if depth == 0 then cut Closed s else taken_in w (depth - 1) s)
    else (if same_kind kind k.Comma && depth == 0 && not (s.commas == 0) then cut (Within 0) s else taken_in w depth s))

-- without a bracket there are no arguments
abbrev pub seen_word : Stage → Word → Search → Search
seen_word Before w s = record s { stage = if same_kind w.token.kind k.OpenParen then Within 0 else Absent }
seen_word (Within depth) w s = seen_within depth w w.token.kind s
seen_word Absent w s = s
seen_word Closed w s = s

-- an item: behind the end of a body its macro isn't in work any longer
abbrev pub seen : List ℕ → Item → Search → Search
seen busy End s = record s { names = s.names - 1; room = s.room - 1 }
seen busy (Read w) s = seen_word s.stage (colored (take s.names busy) w) (record s { room = s.room - 1 })

-- items in turn, up to the end
abbrev pub looked : List ℕ → List Item → Search → Search
looked busy [] s = s
looked busy (x ∷ xs) s = if is_over s then s else looked busy xs (seen busy x s)

-- why brackets are open: the text ends, or 4,096 items were passed
abbrev pub unclosed : Search → NoteKind
unclosed s = if s.room == 0 then Large else Open

-- the code counts brackets, of which it passes no more than items
abbrev pub IsNested : Search → Type 0
IsNested s = depth_of s.stage + s.room ≤ 4096

-- there is an argument for each parameter; where there is none, nothing is in the brackets
abbrev pub are_all_given : List ℕ → List (List Word) → Bool
are_all_given [] (a ∷ []) = nat_eq (length a) 0
are_all_given names arguments = nat_eq (length names) (length arguments)

-- one for `...` may be missing
abbrev pub are_given : List ℕ → Option ℕ → List (List Word) → Bool
are_given names None arguments = are_all_given names arguments
are_given names (Some rest) arguments =
    nat_eq (length names) (length arguments) || nat_eq (length names) (length arguments + 1)
