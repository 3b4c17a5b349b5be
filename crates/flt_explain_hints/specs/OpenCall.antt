-- A call that isn't complete where the text goes on in another line. This project's own rule.
use Rattle.std.specs.Prelude.{Bool, true, false, not, ◌&&◌, ◌||◌, nat_lt, List, [], ◌∷◌, Option, Some, None, codes, if◌then◌else◌}
use Rattle.std.specs.List.{fold}
use Rattle.std.specs.Option.{option_map}
use Rattle.flt_rules.specs.declared.call.LockKind.{LockKind}
use Rattle.flt_rules.specs.declared.call.LockKind.TheVariants.{Spin, Fast, Push}
use Rattle.flt_syntax.specs.Lex.{same_kind}
use Rattle.flt_syntax.specs.Vocabulary.{vocabulary}
use Rattle.flt_syntax.specs.declared.fault.FaultKind.{FaultKind}
use Rattle.flt_syntax.specs.declared.fault.FaultKind.TheVariants.{E03, E04}
use Rattle.flt_syntax.specs.declared.token.Kind.{Kind}
use Rattle.flt_syntax.specs.declared.token.Kind.TheVariants as k
use Rattle.flt_syntax.specs.declared.token.Token.{Token}
use Rattle.flt_tree.specs.Names.{Text}
use Rattle.flt_explain_hints.specs.Before.{kinds_before, tokens_before}
use Rattle.flt_explain_hints.specs.Choices.{takes}
use Rattle.flt_explain_hints.specs.Kinds.{is_call, is_context_variable, is_operand_word, is_operation_variable}
use Rattle.flt_explain_hints.specs.Kinds.{is_status, lock_of}
use Rattle.flt_explain_hints.specs.declared.choices.Choices.{Choices}
use Rattle.flt_explain_hints.specs.declared.open_call.OpenCall.{OpenCall}

-- ---- which call is open

-- words that are a part of a call, behind the call's own word
abbrev pub is_part : Kind → Bool
is_part kind = is_context_variable kind || (is_operation_variable kind || (is_status kind || is_operand_word kind))

-- which call is open behind a token: the one that it begins, or the one of which it may be a part
abbrev pub open_behind : Option OpenCall → Token → Option OpenCall
open_behind so_far t =
    if is_call t.word.kind then Some (record { kind = t.word.kind; line = t.position.line })
    else (if is_part t.word.kind then so_far else None)

-- the last call before a token, if only its parts stand between
abbrev pub open_before : List Token → Token → Option OpenCall
open_before tokens t = fold open_behind None (tokens_before t tokens)

-- the same where all of that stands in lines above
abbrev pub call_above : List Token → Token → Option OpenCall
call_above tokens t = if nat_lt (kinds_before tokens t).line t.position.line then open_before tokens t else None

-- whether an operand is what may stand there: neither what follows a call nor what follows a variable that begins a statement
abbrev pub take_operand : Choices → Bool
take_operand c = c.takes_name || not (takes c k.Return || (takes c k.OpenBrace || takes c k.Assign))

-- words and symbols of the language
abbrev pub is_of_the_language : Kind → Bool
is_of_the_language k.Name = false
is_of_the_language k.Number = false
is_of_the_language k.Stray = false
is_of_the_language k.Malformed = false
is_of_the_language k.End = false
is_of_the_language _ = true

-- the call above, where a word of the language stands in place of an operand
abbrev pub open_there : List Token → Token → Choices → Option OpenCall
open_there tokens t c = if is_of_the_language t.word.kind && take_operand c then call_above tokens t else None

-- the call that lacks an operand where a token is refused that begins something else in a line of its own
abbrev pub open_call : FaultKind → List Token → Token → Choices → Option OpenCall
open_call E03 tokens t c = open_there tokens t c
open_call E04 tokens t c = open_there tokens t c
open_call _ tokens t c = None

-- ---- its words

-- the first word of a table that is of a kind
abbrev pub word_among : List (Text × Kind) → Kind → Text
word_among [] kind = []
word_among (e ∷ es) kind = if same_kind e.1 kind then e.0 else word_among es kind

-- the word of a kind
abbrev pub word_of : Kind → Text
word_of kind = word_among vocabulary kind

-- what a call lacks that takes a lock, and how a lock is declared where the filter has none of that kind
abbrev pub words_of_lock : LockKind → Text × Text
words_of_lock Spin = (codes "the name of a spin lock", codes "; declare one after the altitude, `lock spin NAME`")
words_of_lock Fast = (codes "the name of a fast mutex", codes "; declare one after the altitude, `lock fast NAME`")
words_of_lock Push = (codes "the name of a push lock", codes "; declare one after the altitude, `lock push NAME`")

-- the same of the lock that a call takes
abbrev pub lock_words : Kind → Option (Text × Text)
lock_words kind = option_map words_of_lock (lock_of kind)
