-- What is known and what was read, at a place of the tokens; and the spellings, of which there may be more behind each step.
use Rattle.std.specs.List.{list_any}
use Rattle.std.specs.Prelude.{◌≡◌, ◌||◌, ◌&&◌, ℕ, ◌-◌, min, nat_eq, nat_lt, Bool, true, false, if◌then◌else◌, List, [], ◌∷◌, ◌++◌, length, take}
use Rattle.std.specs.Prelude.{Result, Ok, Err}
use Rattle.flt_c_tokens.specs.Bytes.{Text}
use Rattle.flt_c_tokens.specs.Spelled.{has_text, with_text, number_of, max_spellings}
use Rattle.flt_c_macros.specs.Texts.{Texts}
use Rattle.flt_c_tokens.specs.declared.token.Kind.{Kind}
use Rattle.flt_c_tokens.specs.declared.token.Token.{Token}
use Rattle.flt_c_macros.specs.declared.error.MacroError.{MacroError}
use Rattle.flt_c_macros.specs.declared.error.MacroError.TheVariants.{OutOfMemory, TooManySpellings}
use Rattle.flt_c_macros.specs.declared.groups.Group.{Group}
use Rattle.flt_c_macros.specs.declared.note.Note.{Note}
use Rattle.flt_c_macros.specs.declared.note.NoteKind.{NoteKind}
use Rattle.flt_c_macros.specs.declared.note.NoteKind.TheVariants.{Large}
use Rattle.flt_c_macros.specs.declared.state.State.{State}
use Rattle.flt_c_macros.specs.Notes.{same_reason}

-- ---- steps

-- the spellings, and what else is known
abbrev pub World : Type 0
World = Texts × State

-- what a step leads to, or the line and column where there would be too many spellings
abbrev pub Outcome : Type 0 → Type 0
Outcome A = Result A (ℕ × ℕ)

abbrev pub and_then : {A B : Type 0} → Outcome A → (A → Outcome B) → Outcome B
and_then (Ok x) f = f x
and_then (Err place) f = Err place

-- a function of the code does what a step does, unless memory runs out
abbrev pub Does : Outcome World → Result (Unit {0}) MacroError → Texts → State → Type 0
Does outcome (Ok u) texts state = outcome ≡ Ok (texts, state)
Does outcome (Err OutOfMemory) texts state = Unit {0}
Does outcome (Err (TooManySpellings line column)) texts state = outcome ≡ Err (line, column)

-- ---- what steps are made of

-- how many items macros may add to a file: tokens, and ends of bodies
abbrev pub max_added : ℕ
max_added = 4194304

-- nothing was read
abbrev pub start : State
start = record { tokens = []; notes = []; macros = []; groups = []; headers = []; room = max_added; is_full = false }

abbrev pub pushed : Token → State → State
pushed t s = record s { tokens = s.tokens ++ t ∷ [] }

abbrev pub noted : NoteKind → Token → State → State
noted kind at s = record s { notes = s.notes ++ record { kind = kind; at = at } ∷ [] }

abbrev pub with_groups : List Group → State → State
with_groups groups s = record s { groups = groups }

-- a header was read, by its number
abbrev pub was_read : ℕ → State → Bool
was_read n s = list_any (λ header. nat_eq header n) s.headers

abbrev pub with_header : ℕ → State → State
with_header n s = record s { headers = s.headers ++ n ∷ [] }

-- the token that marks a group, at the place of a directive
abbrev pub mark : Kind → ℕ → Token → Token
mark kind word at = record at { kind = kind; word = word }

-- ---- what macros add

-- how many items a use may add
abbrev pub allowed : State → ℕ
allowed s = min 4096 s.room

-- so many items were added
abbrev pub paid : ℕ → State → State
paid count s = record s { room = s.room - count }

-- a note on a use that was too large: where the room is less than what a use may add, its size may not be the reason
abbrev pub is_scarce : Note → State → Bool
is_scarce n s = nat_lt s.room 4096 && same_reason n.kind Large

-- a note on a use; of all those that may stay for lack of room the first one alone is noted
abbrev pub told : Note → State → State
told n s =
    if is_scarce n s then (if s.is_full then s else noted n.kind n.at (record s { is_full = true })) else noted n.kind n.at s

-- ---- spellings

-- those that are there keep their numbers
abbrev pub Stay : Texts → Texts → Type 0
Stay before after = take (length before) after ≡ before

-- the number of a spelling that is needed at a token, and the spellings with it
unfoldable pub numbered : Text → Token → Texts → Outcome (Texts × ℕ)
numbered text at texts =
    if has_text texts text || nat_lt (length texts) max_spellings
    then (let more = with_text texts text in Ok (more, number_of more text)) else Err (at.line, at.column)

abbrev pub Numbers : Outcome (Texts × ℕ) → Result ℕ MacroError → Texts → Type 0
Numbers outcome (Ok number) texts = outcome ≡ Ok (texts, number)
Numbers outcome (Err OutOfMemory) texts = Unit {0}
Numbers outcome (Err (TooManySpellings line column)) texts = outcome ≡ Err (line, column)
