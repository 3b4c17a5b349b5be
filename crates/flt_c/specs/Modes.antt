-- What is read in C after each byte: code, comments, strings, character constants and annotations. The C standard's translation phases 2
-- and 3, without trigraphs; the marker `@flt` is this project's own rule.
use Rattle.std.specs.Prelude.{ℕ, Bool, true, false, not, ◌||◌, if◌then◌else◌, ◌==◌, Option, Some, None, Result, Ok, Err}
use Rattle.flt_c.specs.declared.fault.FaultKind.{FaultKind}
use Rattle.flt_c.specs.declared.fault.FaultKind.TheVariants as k
use Rattle.flt_c.specs.declared.mode.Mode.{Mode}
use Rattle.flt_c.specs.declared.mode.Mode.TheVariants as m

-- blanks are space, tab, line feed and carriage return
abbrev pub is_blank : ℕ → Bool
is_blank b = b == 32 || b == 9 || b == 10 || b == 13

-- the marker is `@flt`: after `@` comes `f`, after `f` an `l`, then `t`
abbrev pub following : ℕ → ℕ
following b = if b == 64 then 102 else (if b == 102 then 108 else 116)

-- `/` may begin a comment, `"` begins a string, `'` a character constant, and `R` may begin a raw string
abbrev pub in_code : ℕ → Mode
in_code b =
    if b == 47 then m.Slash else (if b == 34 then m.String else (if b == 39 then m.Character else (if b == 82 then m.LetterR else m.Code)))

-- a line comment ends with its line
abbrev pub in_line : ℕ → Mode
in_line b = if b == 10 then m.Code else m.Line

-- so does an annotation in one
abbrev pub in_line_text : ℕ → Mode
in_line_text b = if b == 10 then m.Code else m.LineText

-- a block comment ends at `*/`
abbrev pub in_block : ℕ → Mode
in_block b = if b == 42 then m.BlockStar else m.Block

-- so does an annotation in one
abbrev pub in_block_text : ℕ → Mode
in_block_text b = if b == 42 then m.BlockTextStar else m.BlockText

-- `//` and `/*` begin comments
abbrev pub after_slash : ℕ → Mode
after_slash b = if b == 47 then m.LineMark 64 else (if b == 42 then m.BlockMark 64 else in_code b)

-- the marker of a line comment, byte by byte; code that no compiler reads has no annotations
abbrev pub line_mark : Bool → ℕ → ℕ → Mode
line_mark skipped wanted b =
    if not (b == wanted) then in_line b
    else (if b == 116 then (if skipped then m.Line else m.LineMarked) else m.LineMark (following b))

-- the same of a block comment
abbrev pub block_mark : Bool → ℕ → ℕ → Mode
block_mark skipped wanted b =
    if not (b == wanted) then in_block b
    else (if b == 116 then (if skipped then m.Block else m.BlockMarked) else m.BlockMark (following b))

-- a blank stands after the marker; `@flt-` begins a comment of another kind
abbrev pub line_marked : ℕ → Result Mode FaultKind
line_marked b = if is_blank b then Ok (in_line_text b) else (if b == 45 then Ok m.Line else Err k.Marker)

-- or the end of the comment does
abbrev pub block_marked : ℕ → Result Mode FaultKind
block_marked b = if is_blank b || b == 42 then Ok (in_block_text b) else (if b == 45 then Ok m.Block else Err k.Marker)

-- a quote that isn't closed in its line is a fault, but in a directive and in code that no compiler reads, where it ends with the line
abbrev pub line_end : Bool → FaultKind → Result Mode FaultKind
line_end lenient unended = if lenient then Ok m.Code else Err unended

-- strings and character constants end at their quote; a backslash takes the next byte with it
abbrev pub in_quotes : Bool → ℕ → Mode → Mode → FaultKind → ℕ → Result Mode FaultKind
in_quotes lenient quote inside escape unended b =
    if b == quote then Ok m.Code else (if b == 92 then Ok escape else (if b == 10 then line_end lenient unended else Ok inside))

-- the byte after a backslash in one
abbrev pub escaped : Bool → Mode → FaultKind → ℕ → Result Mode FaultKind
escaped lenient inside unended b = if b == 10 then line_end lenient unended else Ok inside

-- what is read after a byte: whether a quote may end with its line, and whether no compiler reads the code
abbrev pub turn : Bool → Bool → Mode → ℕ → Result Mode FaultKind
turn lenient skipped m.Code b = Ok (in_code b)
turn lenient skipped m.LetterR b = if b == 34 then Err k.RawString else Ok (in_code b)
turn lenient skipped m.Slash b = Ok (after_slash b)
turn lenient skipped (m.LineMark wanted) b = Ok (line_mark skipped wanted b)
turn lenient skipped m.Line b = Ok (in_line b)
turn lenient skipped m.LineMarked b = line_marked b
turn lenient skipped m.LineText b = Ok (in_line_text b)
turn lenient skipped (m.BlockMark wanted) b = Ok (block_mark skipped wanted b)
turn lenient skipped m.Block b = Ok (in_block b)
turn lenient skipped m.BlockStar b = Ok (if b == 47 then m.Code else in_block b)
turn lenient skipped m.BlockMarked b = block_marked b
turn lenient skipped m.BlockText b = Ok (in_block_text b)
turn lenient skipped m.BlockTextStar b = Ok (if b == 47 then m.Code else in_block_text b)
turn lenient skipped m.String b = in_quotes lenient 34 m.String m.StringEscape k.String b
turn lenient skipped m.StringEscape b = escaped lenient m.String k.String b
turn lenient skipped m.Character b = in_quotes lenient 39 m.Character m.CharacterEscape k.Character b
turn lenient skipped m.CharacterEscape b = escaped lenient m.Character k.Character b

-- what stands after a marker is an annotation
abbrev pub is_note : Mode → Bool
is_note m.LineMarked = true
is_note m.LineText = true
is_note m.BlockMarked = true
is_note m.BlockText = true
is_note m.BlockTextStar = true
is_note _ = false

-- a block comment goes over lines
abbrev pub is_block : Mode → Bool
is_block (m.BlockMark wanted) = true
is_block m.Block = true
is_block m.BlockStar = true
is_block m.BlockMarked = true
is_block m.BlockText = true
is_block m.BlockTextStar = true
is_block _ = false

-- what has to be closed before the file ends, unless a quote may end with its line
abbrev pub unended : Bool → Mode → Option FaultKind
unended lenient m.String = if lenient then None else Some k.String
unended lenient m.StringEscape = if lenient then None else Some k.String
unended lenient m.Character = if lenient then None else Some k.Character
unended lenient m.CharacterEscape = if lenient then None else Some k.Character
unended lenient mode = if is_block mode then Some k.Comment else None
