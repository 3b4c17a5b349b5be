-- What is probably wrong where a text doesn't parse, by what is found and what stands round it. This project's own rule.
use Rattle.std.specs.Prelude.{ℕ, ◌==◌, Bool, true, false, not, ◌&&◌, ◌||◌, List, [], ◌∷◌, ◌++◌, Option}
use Rattle.std.specs.Prelude.{Some, None, codes, if◌then◌else◌, is_some, map, nat_eq, nat_le}
use Rattle.std.specs.Char.{is_ascii_digit}
use Rattle.std.specs.List.{list_all, starts_with}
use Rattle.std.specs.Option.{option_map, option_or}
use Rattle.std.specs.Str.{bytes_eq}
use Rattle.flt_rules.specs.declared.call.LockKind.{LockKind}
use Rattle.flt_rules.specs.declared.call.LockKind.TheVariants.{Spin, Fast, Push}
use Rattle.flt_syntax.specs.Lex.{same_kind}
use Rattle.flt_syntax.specs.declared.fault.FaultKind.{FaultKind}
use Rattle.flt_syntax.specs.declared.fault.FaultKind.TheVariants.{E01, E02, E03, E04, E05, E06, E07, E08}
use Rattle.flt_syntax.specs.declared.token.Kind.{Kind}
use Rattle.flt_syntax.specs.declared.token.Kind.TheVariants as k
use Rattle.flt_tree.specs.Names.{Text, has_name}
use Rattle.flt_explain_hints.specs.Absences.{absence_of}
use Rattle.flt_explain_hints.specs.Choices.{are_none, takes}
use Rattle.flt_explain_hints.specs.Kinds.{begins_callback, is_context_variable, is_fallible, is_final_status, is_plain}
use Rattle.flt_explain_hints.specs.Kinds.{is_variable, lock_of}
use Rattle.flt_explain_hints.specs.declared.absences.Absence.{Absence}
use Rattle.flt_explain_hints.specs.declared.absences.Absence.TheVariants as absence
use Rattle.flt_explain_hints.specs.declared.before.KindsBefore.{KindsBefore}
use Rattle.flt_explain_hints.specs.declared.choices.Choices.{Choices}
use Rattle.flt_explain_hints.specs.declared.hint.Hint.{Hint}
use Rattle.flt_explain_hints.specs.declared.hint.Hint.TheVariants as hint
use Rattle.flt_explain_hints.specs.declared.hinting.Scene as declared

-- what is found, and what stands round it
pub record Scene : Type 0 where
  pub before : KindsBefore
  pub found : Kind
  pub bytes : Text
  pub is_meant : Bool
  pub is_misspelt_absence : Bool
  pub goes_on : Bool
  pub behind : Text
  pub is_declared : Bool

-- what a value of the code stands for
abbrev pub scene_of : declared.Scene → Scene
scene_of s = record {
  before = s.before;
  found = s.found;
  bytes = s.bytes.now;
  is_meant = s.is_meant;
  is_misspelt_absence = s.is_misspelt_absence;
  goes_on = s.goes_on;
  behind = s.behind.now;
  is_declared = s.is_declared;
}

-- ---- bytes with which no token begins

-- whether a text begins with a byte
abbrev pub begins_with : Text → ℕ → Bool
begins_with [] byte = false
begins_with (b ∷ z) byte = b == byte

-- signs that mean the same
abbrev pub all_mean : Hint → Text → List (ℕ × Hint)
all_mean meant = map (λ sign. (sign, meant))

-- signs that mean one thing wherever they stand: of arithmetic, between statements, round what a call takes, of other languages
unfoldable pub signs : List (ℕ × Hint)
signs =
    all_mean hint.Operator (codes "*%^~") ++ all_mean hint.Semicolon (codes ";") ++ all_mean hint.Bracket (codes "()[],")
    ++ all_mean hint.AndOr (codes "|") ++ all_mean hint.Not (codes "!") ++ all_mean hint.Greater (codes ">")
    ++ all_mean hint.Quote (34 ∷ 39 ∷ [])

-- what a sign of a table means
abbrev pub meant_among : List (ℕ × Hint) → ℕ → Option Hint
meant_among [] byte = None
meant_among (e ∷ es) byte = if e.0 == byte then Some e.1 else meant_among es byte

-- a slash begins a comment of other languages, or divides
abbrev pub slash_hint : Text → Hint
slash_hint behind = if begins_with behind 47 || begins_with behind 42 then hint.Comment else hint.Operator

-- an ampersand is half of an `and`, or takes an address
abbrev pub ampersand_hint : Text → Hint
ampersand_hint behind = if begins_with behind 38 then hint.AndOr else hint.Address

-- a point behind a number is of a fraction, and an altitude's is told by what may stand there; another is of a member
abbrev pub point_hint : Scene → Choices → Hint
point_hint s c =
    if not (same_kind s.before.last k.Number) then hint.Member
    else (if takes c k.Lock then hint.AltitudeFraction else hint.Fraction)

-- whether the text has a byte order mark there
abbrev pub is_byte_order_mark : Scene → Bool
is_byte_order_mark s = bytes_eq s.bytes (239 ∷ []) && starts_with nat_eq s.behind (187 ∷ 191 ∷ [])

-- of a byte that isn't ASCII
abbrev pub foreign_hint : Scene → ℕ → Option Hint
foreign_hint s byte =
    if is_byte_order_mark s then Some hint.ByteOrderMark
    else (if nat_le 128 byte then Some hint.NotAscii else None)

-- of a byte with which no token begins
abbrev pub byte_hint : Scene → Choices → ℕ → Option Hint
byte_hint s c byte =
    if byte == 47 then Some (slash_hint s.behind)
    else (if byte == 38 then Some (ampersand_hint s.behind)
    else (if byte == 46 then Some (point_hint s c)
    else option_or (meant_among signs byte) (foreign_hint s byte)))

-- the same of what is found
abbrev pub stray_hint : Scene → Choices → Text → Option Hint
stray_hint s c [] = None
stray_hint s c (byte ∷ z) = byte_hint s c byte

-- ---- runs that are no word or number

-- whether a run begins otherwise than a number does
abbrev pub begins_word : Text → Bool
begins_word [] = false
begins_word (b ∷ z) = not (is_ascii_digit b)

-- of a run that is no word or number
abbrev pub malformed_hint : Text → Hint
malformed_hint run =
    if starts_with nat_eq run (codes "0x") || starts_with nat_eq run (codes "0X") then hint.Hexadecimal
    else (if begins_word run then hint.TooLongWord
    else (if not (list_all is_ascii_digit run) then hint.LettersInNumber
    else (if begins_with run 48 then hint.LeadingZero
    else hint.TooGreat)))

-- ---- words that the language hasn't

-- what the language leaves out, if a word that stands in a place names it
abbrev pub absence_in : Text → Choices → Option Absence
absence_in word c =
    if starts_with nat_eq word (codes "IRP_MJ_") then Some absence.Operation
    else (if starts_with nat_eq word (codes "STATUS_") && takes c k.StatusSuccess then Some absence.FinalStatus
    else absence_of word)

-- statuses that take a context
abbrev pub takes_context : Kind → Bool
takes_context k.WithCallback = true
takes_context k.Synchronize = true
takes_context _ = false

-- of a name in place of what a status takes, behind it in its line
abbrev pub operand_hint : Scene → Choices → Option Hint
operand_hint s c =
    if s.is_meant || not s.goes_on then None
    else (if takes_context s.before.last && takes c k.Context then Some hint.NeedsContext
    else (if same_kind s.before.last k.Complete && takes c k.StatusSuccess then Some hint.NeedsFinalStatus
    else None))

-- of a word that names what the language leaves out
abbrev pub absence_hint : Scene → Choices → Option Hint
absence_hint s c =
    if not s.is_meant && (s.is_misspelt_absence || is_some (absence_in s.bytes c)) then Some hint.LeftOut else operand_hint s c

-- words of C
abbrev pub loop_words : List Text
loop_words = codes "while" ∷ codes "for" ∷ codes "do" ∷ []

abbrev pub jump_words : List Text
jump_words = codes "goto" ∷ codes "break" ∷ codes "continue" ∷ codes "switch" ∷ []

abbrev pub joining_words : List Text
joining_words = codes "and" ∷ codes "or" ∷ []

-- of a word that the language hasn't
abbrev pub name_hint : Scene → Choices → Option Hint
name_hint s c =
    if has_name s.bytes loop_words then Some hint.Loop
    else (if has_name s.bytes jump_words then Some hint.Jump
    else (if bytes_eq s.bytes (codes "NT_SUCCESS") then Some hint.Success
    else (if has_name s.bytes joining_words then Some hint.AndOr
    else (if bytes_eq s.bytes (codes "not") then Some hint.Not
    else (if starts_with nat_eq s.bytes (codes "STATUS_") && takes c k.NoCallback then Some hint.FinalStatus
    else absence_hint s c)))))

-- ---- tokens that the grammar doesn't have there

-- `=` and `==`
abbrev pub is_equality : Kind → Bool
is_equality k.Equal = true
is_equality k.Assign = true
is_equality _ = false

-- `+` and `-`
abbrev pub is_sum : Kind → Bool
is_sum k.Plus = true
is_sum k.Minus = true
is_sum _ = false

-- all operators but `<`
abbrev pub is_operator : Kind → Bool
is_operator kind = is_equality kind || (same_kind kind k.NotEqual || is_sum kind)

-- of an operator
abbrev pub operator_hint : Kind → Choices → Option Hint
operator_hint found c =
    if is_equality found && takes c k.NotEqual then Some hint.EqualsNull
    else (if same_kind found k.Equal && takes c k.Assign then Some hint.Assignment
    else (if same_kind found k.Assign && takes c k.Equal then Some hint.Comparison
    else (if same_kind found k.NotEqual && takes c k.Equal then Some hint.NotEqual
    else (if is_sum found && takes c k.Return then Some hint.SecondOperator
    else None))))

-- whether a variable behind a status that takes a context was read as the beginning of a statement
abbrev pub has_nameless_context : Scene → Choices → Bool
has_nameless_context s c = takes_context s.before.earlier && (is_context_variable s.before.last && takes c k.Assign)

-- whether a variable that was meant to begin a statement was read as the operand of the call before it
abbrev pub has_taken_operand : Scene → Choices → Bool
has_taken_operand s c =
    (is_plain s.before.earlier || same_kind s.before.earlier k.As) && (is_variable s.before.last && takes c k.Return)

-- what a context variable lacks before it
abbrev pub nameless_hint : Scene → Choices → Option Hint
nameless_hint s c =
    if not (is_context_variable s.found) then None
    else (if takes c k.As then Some hint.NamelessCopy
    else (if takes c k.Context then Some hint.NamelessContext
    else (if takes c k.Old then Some hint.NamelessOld
    else None)))

-- whether callbacks or statements may stand there, where locks and the queue are declared too late
abbrev pub is_late : Choices → Bool
is_late c = takes c k.Pre || takes c k.Return

-- of a word that has its place elsewhere in the text, or behind another word
abbrev pub place_hint : Scene → Choices → Option Hint
place_hint s c =
    if same_kind s.found k.Lock && is_late c then Some hint.LateLock
    else (if same_kind s.found k.Queue && is_late c then Some hint.LateQueue
    else (if same_kind s.before.last k.Complete && takes c k.StatusSuccess then Some hint.NeedsFinalStatus
    else nameless_hint s c))

-- of a word between statements: an `else`, the end of the text or the beginning of a callback
abbrev pub between_hint : Scene → Choices → Option Hint
between_hint s c =
    if same_kind s.found k.If && same_kind s.before.last k.Else then Some hint.ElseIf
    else (if same_kind s.found k.Else then Some hint.LoneElse
    else (if (same_kind s.found k.End || begins_callback s.found) && takes c k.CloseBrace then Some hint.MissingBrace
    else (if is_context_variable s.found && takes c k.Null then Some hint.Copy
    else (if is_final_status s.found && takes c k.NoCallback then Some hint.FinalStatus
    else place_hint s c))))

-- of a call, or of a word between statements
abbrev pub statement_hint : Scene → Choices → Option Hint
statement_hint s c =
    if is_fallible s.found && takes c k.Return then Some hint.CanFail
    else (if is_plain s.found && takes c k.Draining then Some hint.NeverFails
    else between_hint s c)

-- a lock of the kind has to be declared
abbrev pub needs_of : LockKind → Hint
needs_of Spin = hint.NeedsSpinLock
needs_of Fast = hint.NeedsFastMutex
needs_of Push = hint.NeedsPushLock

-- the lock that a call takes has to be declared
abbrev pub needs_lock : Kind → Option Hint
needs_lock kind = option_map needs_of (lock_of kind)

-- of what stands in place of a lock's name, where the filter declares no lock that the call takes: nothing may stand there
abbrev pub lock_hint : Scene → Choices → Option Hint
lock_hint s c = if are_none c then needs_lock s.before.last else None

-- of a name, an operator or another token
abbrev pub found_hint : Scene → Choices → Option Hint
found_hint s c =
    if same_kind s.found k.Name then name_hint s c
    else (if is_operator s.found then operator_hint s.found c
    else statement_hint s c)

-- of a token by what stands before it
abbrev pub token_hint_behind : Scene → Choices → Option Hint
token_hint_behind s c =
    if has_nameless_context s c then Some hint.NamelessContext
    else (if same_kind s.found k.Assign && has_taken_operand s c then Some hint.TakenOperand
    else found_hint s c)

-- of a token that the grammar doesn't have there
abbrev pub token_hint : Scene → Choices → Option Hint
token_hint s c = option_or (lock_hint s c) (token_hint_behind s c)

-- ---- names and limits

-- calls that take the filter's queue
abbrev pub takes_queue : Kind → Bool
takes_queue k.InsertIo = true
takes_queue k.RemoveNextIo = true
takes_queue _ = false

-- of a name that isn't known there
abbrev pub unknown_hint : Scene → Choices → Option Hint
unknown_hint s c =
    if takes_queue s.found then Some hint.NeedsQueue
    else (if s.is_declared then Some hint.OtherKind
    else lock_hint s c)

-- of a name that is declared twice
abbrev pub twice_hint : Scene → Hint
twice_hint s = if begins_callback s.found && not (begins_callback s.before.last) then hint.CallbackTwice else hint.NameTwice

-- the kinds of locks
abbrev pub is_lock_kind : Kind → Bool
is_lock_kind k.Spin = true
is_lock_kind k.Fast = true
is_lock_kind k.Push = true
is_lock_kind _ = false

-- of a limit that is passed
abbrev pub limit_hint : Scene → Hint
limit_hint s =
    if same_kind s.before.last k.Altitude && same_kind s.found k.Number then hint.Altitude
    else (if same_kind s.before.last k.Repeat && same_kind s.found k.Number then hint.Turns
    else (if is_lock_kind s.before.last then hint.Locks
    else (if same_kind s.found k.OpenBrace then hint.NestedBlocks
    else (if same_kind s.found k.Repeat then hint.NestedRepeats
    else hint.Callbacks))))

-- of a declaration that lacks another one
abbrev pub incomplete_hint : Scene → Hint
incomplete_hint s = if same_kind s.found k.Queue then hint.NeedsCanceled else hint.NeedsPre

-- what is probably wrong
unfoldable pub hint_of : FaultKind → Scene → Choices → Option Hint
hint_of E01 s c = stray_hint s c s.bytes
hint_of E02 s c = Some (malformed_hint s.bytes)
hint_of E03 s c = token_hint s c
hint_of E04 s c = unknown_hint s c
hint_of E05 s c = Some (twice_hint s)
hint_of E06 s c = Some (limit_hint s)
hint_of E07 s c = Some (incomplete_hint s)
hint_of E08 s c = Some hint.VariableTwice
