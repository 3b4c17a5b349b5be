-- Which word is probably meant, and what is probably wrong, in the place of a token. This project's own rule.
use Rattle.std.specs.Prelude.{◌==◌, Bool, false, not, ◌&&◌, List, [], ◌∷◌, Option, Some, None}
use Rattle.std.specs.Prelude.{codes, drop, if◌then◌else◌, is_none, is_some, length, min, nat_eq}
use Rattle.std.specs.Borrow.{Bor}
use Rattle.std.specs.List.{starts_with}
use Rattle.std.specs.Option.{unwrap_or}
use Rattle.flt_syntax.specs.Lex.{same_kind}
use Rattle.flt_syntax.specs.declared.fault.FaultKind.{FaultKind}
use Rattle.flt_syntax.specs.declared.fault.FaultKind.TheVariants.{E03, E04}
use Rattle.flt_syntax.specs.declared.token.Kind.{Kind}
use Rattle.flt_syntax.specs.declared.token.Kind.TheVariants as k
use Rattle.flt_syntax.specs.declared.token.Token.{Token}
use Rattle.flt_tree.specs.Names.{Text}
use Rattle.flt_explain_hints.specs.Absences.{absence_of}
use Rattle.flt_explain_hints.specs.Before.{kinds_before}
use Rattle.flt_explain_hints.specs.Hinting.{Scene, hint_of}
use Rattle.flt_explain_hints.specs.Misspelt.{misspelt_absence}
use Rattle.flt_explain_hints.specs.Names.{declares_name}
use Rattle.flt_explain_hints.specs.Nearest.{nearest_word}
use Rattle.flt_explain_hints.specs.Trial.{Gap, if_it_may}
use Rattle.flt_explain_hints.specs.declared.choices.Choices.{Choices}
use Rattle.flt_explain_hints.specs.declared.hint.Hint.{Hint}
use Rattle.flt_explain_hints.specs.declared.hint.Hint.TheVariants as hint

-- ---- which word is meant

-- what the driver kit's names begin with, and the language leaves out
abbrev pub prefixes : List Text
prefixes =
    codes "FLT_PREOP_SUCCESS_" ∷ codes "FLT_PREOP_" ∷ codes "FLT_POSTOP_" ∷ codes "FLT_SET_CONTEXT_" ∷ codes "IRP_MJ_" ∷ []

-- a word without the first of some prefixes with which it begins
abbrev pub without_one : List Text → Text → Option Text
without_one [] word = None
without_one (p ∷ ps) word = if starts_with nat_eq word p then Some (drop (min (length p) (length word)) word) else without_one ps word

-- a word of the driver kit without its prefix
unfoldable pub without_prefix : Text → Option Text
without_prefix word = without_one prefixes word

-- what is compared with the words that may stand there: a word, or what is left of it without a prefix
abbrev pub written : Text → Text
written word = unwrap_or (without_prefix word) word

-- whether what is found is a misspelt word for what the language leaves out
abbrev pub is_misspelt_absence : FaultKind → Kind → Text → Bool
is_misspelt_absence E03 found word = same_kind found k.Name && is_some (misspelt_absence word)
is_misspelt_absence _ found word = false

-- whether a word of the language is probably meant: by another word that the language doesn't leave out, or by a name that isn't known
abbrev pub may_be_misspelt : FaultKind → Kind → Text → Bool
may_be_misspelt E03 found word = same_kind found k.Name && is_none (absence_of word)
may_be_misspelt E04 found word = same_kind found k.Name
may_be_misspelt _ found word = false

-- the word that is probably meant by what is found: the nearest to it, or to what is left of it without a prefix, that may stand there
unfoldable pub meant_by : Gap → FaultKind → Kind → Text → Choices → Option (Bor Text)
meant_by gap kind found word c =
    if may_be_misspelt kind found word && not (is_misspelt_absence kind found word) then
    if_it_may gap (nearest_word (written word) c)
    else None

-- ---- what is wrong

-- what is found in a text, and what stands round it
abbrev pub scene_at : Text → List Token → FaultKind → Token → Text → Bool → Scene
scene_at text tokens kind t word is_meant = record {
  before = kinds_before tokens t;
  found = t.word.kind;
  bytes = word;
  is_meant = is_meant;
  is_misspelt_absence = is_misspelt_absence kind t.word.kind word;
  goes_on = (kinds_before tokens t).line == t.position.line;
  behind = drop (min t.end (length text)) text;
  is_declared = declares_name text tokens word;
}

-- what is probably wrong: a prefix too many where a word is meant without it, or else what the scene says
unfoldable pub hint_at : Text → List Token → FaultKind → Token → Text → Choices → Option (Bor Text) → Option Hint
hint_at text tokens kind t word c meant =
    if is_some meant && is_some (without_prefix word) then Some hint.Prefix
    else hint_of kind (scene_at text tokens kind t word (is_some meant)) c
