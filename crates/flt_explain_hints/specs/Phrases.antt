-- What may stand in a place, in words. This project's own program.
use Rattle.std.specs.Prelude.{Bool, true, false, ◌&&◌, ◌||◌, List, [], ◌∷◌, ◌++◌, Option, Some, None, codes, if◌then◌else◌, map, nat_eq}
use Rattle.std.specs.List.{list_any, starts_with}
use Rattle.std.specs.Str.{bytes_eq}
use Rattle.flt_syntax.specs.declared.token.Kind.{Kind}
use Rattle.flt_syntax.specs.declared.token.Kind.TheVariants as k
use Rattle.flt_tree.specs.Names.{Text}
use Rattle.flt_explain_hints.specs.Choices.{takes}
use Rattle.flt_explain_hints.specs.Kinds.{begins_callback, is_context_variable, is_number_variable}
use Rattle.flt_explain_hints.specs.Kinds.{is_operation_variable, is_status, is_variable}
use Rattle.flt_explain_hints.specs.declared.choices.Choices.{Choices}
use Rattle.flt_explain_hints.specs.declared.choices.ExpectedWord.{ExpectedWord}
use Rattle.flt_explain_hints.specs.declared.phrases.Phrase as declared
use Rattle.flt_explain_hints.specs.declared.phrases.Phrase.TheVariants as parts

-- what may stand in a place: a kind of thing by its name, or a word itself
pub data Phrase : Type 0 where
  of_kind : Text → Phrase
  of_word : Text → Phrase

-- the phrase that a value of the code stands for
abbrev pub phrase_of : declared.Phrase → Phrase
phrase_of (parts.Kind name) = of_kind name.now
phrase_of (parts.Word word) = of_word word.now

-- ---- the names of kinds

-- words that begin a statement, besides calls and variables
abbrev pub begins_statement : Kind → Bool
begins_statement k.If = true
begins_statement k.Repeat = true
begins_statement k.Return = true
begins_statement k.Value = true
begins_statement _ = false

-- words that begin a test, besides variables
abbrev pub begins_test : Kind → Bool
begins_test k.Irp = true
begins_test k.Draining = true
begins_test _ = false

-- words that name calls
abbrev pub names_call : Text → Bool
names_call word =
    starts_with nat_eq word (codes "Flt") || (starts_with nat_eq word (codes "Ke") || starts_with nat_eq word (codes "Ex"))

-- a variable or a call begins a statement, and a test or what can fail
abbrev pub begins_either : Kind → Text → Bool
begins_either kind word = is_variable kind || names_call word

-- whether a word begins a statement where one may stand
abbrev pub is_for_statement : Kind → Text → Choices → Bool
is_for_statement kind word c = takes c k.Return && (begins_statement kind || begins_either kind word)

-- whether a word begins what stands behind `if`, where that may stand
abbrev pub is_for_test : Kind → Text → Choices → Bool
is_for_test kind word c = takes c k.Draining && (begins_test kind || begins_either kind word)

-- the name of a kind of words that has one wherever they stand
abbrev pub own_name : Kind → Option Text
own_name kind =
    if begins_callback kind then Some (codes "a callback")
    else (if is_status kind then Some (codes "a status")
    else (if is_number_variable kind then Some (codes "a number variable")
    else (if is_context_variable kind then Some (codes "a context variable")
    else (if is_operation_variable kind then Some (codes "an operation variable")
    else None))))

-- the name of a word's kind, where words of its kind are told by that
abbrev pub kind_name : Kind → Text → Choices → Option Text
kind_name kind word c =
    if is_for_statement kind word c then Some (codes "a statement")
    else (if is_for_test kind word c then Some (codes "a test or a call that can fail")
    else own_name kind)

-- a word by the name of its kind, or itself
abbrev pub named_or : Option Text → Text → Phrase
named_or (Some name) word = of_kind name
named_or None word = of_word word

-- the phrase for a word of the language
abbrev pub phrase_for : Choices → ExpectedWord → Phrase
phrase_for c e = named_or (kind_name e.kind e.word.now c) e.word.now

-- ---- which are said

-- whether a phrase is the name of this kind
abbrev pub is_kind : Text → Phrase → Bool
is_kind name (of_kind other) = bytes_eq other name
is_kind name (of_word word) = false

-- whether a phrase is a kind that is said already
abbrev pub is_said : List Phrase → Phrase → Bool
is_said said (of_kind name) = list_any (is_kind name) said
is_said said (of_word word) = false

-- those of some phrases that are said behind others: each kind once
abbrev pub each_once : List Phrase → List Phrase → List Phrase
each_once said [] = []
each_once said (p ∷ ps) = if is_said said p then each_once said ps else p ∷ each_once (said ++ p ∷ []) ps

-- a number, if one may stand there
abbrev pub number_phrase : Choices → List Phrase
number_phrase c = if c.takes_number then of_kind (codes "a number") ∷ [] else []

-- what may stand in a place: a name alone, or a number and the words of the language, each kind once
unfoldable pub phrases : Choices → List Phrase
phrases c =
    if c.takes_name then of_kind (codes "a name") ∷ []
    else number_phrase c ++ each_once (number_phrase c) (map (phrase_for c) c.expected)
