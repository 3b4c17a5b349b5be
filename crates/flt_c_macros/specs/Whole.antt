-- All tokens of a driver: text and lines of directives in turn. Where a line includes a header, its tokens are read in place of the line.
use Rattle.std.specs.Prelude.{◌≡◌, ◌≤◌, ◌+◌, ℕ, zero, suc, Bool, if◌then◌else◌, List, [], ◌∷◌, ◌++◌, drop, slice_get, slice_range}
use Rattle.std.specs.Prelude.{Option, Some, None, Result, Ok, Err}
use Rattle.flt_c_macros.specs.Texts.{Texts}
use Rattle.flt_c_tokens.specs.declared.token.Kind.TheVariants as k
use Rattle.flt_c_tokens.specs.declared.token.Token.{Token}
use Rattle.flt_c_macros.specs.declared.error.MacroError.{MacroError}
use Rattle.flt_c_macros.specs.declared.error.MacroError.TheVariants.{OutOfMemory, TooManySpellings}
use Rattle.flt_c_macros.specs.declared.note.NoteKind.TheVariants as note
use Rattle.flt_c_macros.specs.declared.state.State.{State}
use Rattle.flt_c_macros.specs.declared.whole.Expansion.{Expansion}
use Rattle.flt_c_macros.specs.declared.whole.Part.{Part}
use Rattle.flt_c_macros.specs.Branches.{closed}
use Rattle.flt_c_macros.specs.Directives.{directive}
use Rattle.flt_c_macros.specs.Groups.{is_read}
use Rattle.flt_c_macros.specs.Kinds.{same_kind}
use Rattle.flt_c_macros.specs.States.{World, Outcome, and_then, noted, start, pushed, was_read, with_header}
use Rattle.flt_c_macros.specs.Uses.{text}

-- what a part begins with: the `#` of a directive, or nothing where it is text
abbrev pub Beginning : Type 0
Beginning = Option Token

-- what reads a header, by the `#` of the line that includes it, and its number
abbrev pub Entry : Type 0
Entry = Token → ℕ → World → Outcome World

-- the number of the header that a line includes
abbrev pub header_in : List Token → Option ℕ
header_in (c ∷ t ∷ i) = if same_kind t.kind k.Header then Some t.word else None
header_in _ = None

-- a line includes a header where text is read
abbrev pub line_read : Entry → Option ℕ → Token → List Token → List Token → World → Outcome World
line_read enter None at line after w = directive at line after w
line_read enter (Some n) at line after w = if is_read w.1.groups then enter at n w else Ok w

-- reads a part, behind which there are some tokens: text counts where it is read
abbrev pub part_read : List Bool → Entry → Beginning → List Token → List Token → World → Outcome World
part_read kept enter (Some at) part after w = line_read enter (header_in part) at part after w
part_read kept enter None part after w = Ok (w.0, if is_read w.1.groups then text kept part w.1 else w.1)

-- a line ends with its LineEnd, text before the next `#`
abbrev pub ends : Beginning → Token → Bool
ends (Some at) t = same_kind t.kind k.LineEnd
ends None t = same_kind t.kind k.Directive

-- how the part behind such a token begins
abbrev pub beginning : Token → Beginning
beginning t = if same_kind t.kind k.Directive then Some t else None

-- reads tokens behind a part of which some tokens were met, up to an End
abbrev pub read : List Bool → Entry → Beginning → List Token → List Token → World → Outcome World
read kept enter at part [] w = part_read kept enter at part [] w
read kept enter at part (t ∷ i) w =
    if same_kind t.kind k.End then part_read kept enter at part [] w
    else (if ends at t then and_then (part_read kept enter at part i w) (λ v. read kept enter (beginning t) [] i v)
    else read kept enter at (part ++ t ∷ []) i w)

-- ---- headers

-- A header's tokens are read, if there are any, and if something may read them: it is within too many others otherwise.
abbrev pub opened_header : Option (List Token → World → Outcome World) → Option (List Token) → Token → ℕ → World → Outcome World
opened_header (Some go) (Some tokens) at n w = go tokens (w.0, with_header n w.1)
opened_header _ _ at n w = Ok (w.0, noted note.Header at w.1)

-- a header is read once
abbrev pub header_read : Option (List Token → World → Outcome World) → Option (List Token) → Token → ℕ → World → Outcome World
header_read go tokens at n w = if was_read n w.1 then Ok w else opened_header go tokens at n w

-- includes a header, of those that have these tokens, where so many may be within each other
unfoldable pub entered : List Bool → List (List Token) → ℕ → Entry
entered kept headers zero at n w = header_read None (slice_get headers n) at n w
entered kept headers (suc depth) at n w =
    header_read (Some (read kept (entered kept headers depth) None [])) (slice_get headers n) at n w

-- ---- all of it

-- what is behind the last part: groups that are open are closed, before the End if there is one
abbrev pub ended_with : Option Token → State → State
ended_with None s = closed s
ended_with (Some t) s = pushed t (closed s)

-- the first End
abbrev pub end_in : List Token → Option Token
end_in [] = None
end_in (t ∷ i) = if same_kind t.kind k.End then Some t else end_in i

-- The code goes past the token at a place: what is to be read from there on is what was to be read, or there are too many spellings.
abbrev pub Passes : List Bool → Entry → List Token → ℕ → Outcome World → Result Part MacroError → World → Type 0
Passes kept enter tokens i outcome (Ok p) w =
    (outcome ≡ read kept enter p.at (slice_range tokens p.start (i + 1)) (drop (i + 1) tokens) w) × (p.start ≤ i + 1)
Passes kept enter tokens i outcome (Err OutOfMemory) w = Unit {0}
Passes kept enter tokens i outcome (Err (TooManySpellings line column)) w = outcome ≡ Err (line, column)

abbrev pub expansion : State → Expansion
expansion s = record { tokens = s.tokens; notes = s.notes; headers = s.headers }

-- The tokens of a driver, with the names that are never expanded, the headers' tokens, and the spellings before. As many as 64 headers may
-- be within each other.
unfoldable pub whole : List Bool → List (List Token) → List Token → Texts → Outcome (Texts × Expansion)
whole kept headers tokens texts =
    and_then (read kept (entered kept headers 64) None [] tokens (texts, start))
    (λ w. Ok (w.0, expansion (ended_with (end_in tokens) w.1)))

-- the code gives the same, unless memory runs out
abbrev pub Gives : Outcome (Texts × Expansion) → Result Expansion MacroError → Texts → Type 0
Gives outcome (Ok found) texts = outcome ≡ Ok (texts, found)
Gives outcome (Err OutOfMemory) texts = Unit {0}
Gives outcome (Err (TooManySpellings line column)) texts = outcome ≡ Err (line, column)
