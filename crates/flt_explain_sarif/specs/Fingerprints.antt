-- What tells results apart whatever lines they are on. This project's own format.
use Rattle.std.specs.Fmt.{decimal}
use Rattle.std.specs.Prelude.{ℕ, List, [], ◌∷◌, ◌++◌, ◌-◌, ◌==◌, Bool, Option, Some, None}
use Rattle.std.specs.Prelude.{codes, count_by, drop, if◌then◌else◌, length, take}
use Rattle.std.specs.Str.Lossy.{utf8_lossy}
use Rattle.std.specs.Str.{bytes_eq}
use Rattle.flt_rules.specs.Rule.{rule_name}
use Rattle.flt_explain_details.specs.declared.study.Detail.{Detail}
use Rattle.flt_explain_details.specs.declared.study.Maker.{Maker}
use Rattle.flt_places.specs.Places.{line_of}
use Rattle.flt_places.specs.declared.places.Region.{Region}
use Rattle.flt_tree.specs.Names.{Text}
use Rattle.flt_explain_warning_details.specs.declared.detail.WarningDetail.{WarningDetail}
use Rattle.flt_explain_warnings.specs.Kinds.{kind_name}
use Rattle.json.specs.Token.{Token}

-- ---- what is at a place

-- how many bytes of the line in which a region begins are before the region's end
abbrev pub width : Text → Region → ℕ
width line r = if r.end.line == r.first.line then r.end.column - 1 else length line

-- the region's bytes in the line in which it begins
abbrev pub cut : Text → Region → Text
cut line r = drop (r.first.column - 1) (take (width line r) line)

-- what a region has in the line in which it begins: all of it, where it is in one line
abbrev pub text_in : Text → Region → Text
text_in text r = cut (line_of text r.first.line) r

-- the word that a warning names; nothing where it names none
abbrev pub word_in : Text → Option Region → Text
word_in text None = []
word_in text (Some r) = text_in text r

-- the statement that made a finding so; its own, where that isn't known
abbrev pub made_at : Option Maker → Region → Region
made_at None statement = statement
made_at (Some m) statement = m.marks.statement

-- ---- keys

-- the parts of a key before its words are taken for UTF-8
abbrev pub parts : List ℕ → List ℕ → List ℕ → List ℕ → List ℕ
parts rule head subject statement = rule ++ codes "; " ++ head ++ codes "; " ++ subject ++ codes "; " ++ statement

-- the rule, the head of the callback, what it is about, and the statement; what isn't UTF-8 is U+FFFD
abbrev pub key_of : List ℕ → List ℕ → List ℕ → List ℕ → List ℕ
key_of rule head subject statement = utf8_lossy (parts rule head subject statement)

abbrev pub finding_key : Text → Detail → List ℕ
finding_key text d =
    key_of (rule_name d.finding.rule) d.words.head.items d.words.subject.items (text_in text (made_at d.route.origin d.marks.statement))

abbrev pub warning_key : Text → WarningDetail → List ℕ
warning_key text d = key_of (kind_name d.kind) d.head (word_in text d.marks.operand) (text_in text d.marks.statement)

-- ---- fingerprints

-- two keys are the same
abbrev pub is_same : List ℕ → List ℕ → Bool
is_same key other = bytes_eq other key

-- how many results before have the same key
abbrev pub times : List (List ℕ) → List ℕ → ℕ
times before key = count_by (is_same key) before

-- a key and a number
abbrev pub labelled : List ℕ → ℕ → List ℕ
labelled key number = key ++ codes "; " ++ decimal number

-- a key with how many results before have the same
abbrev pub fingerprint : List (List ℕ) → List ℕ → List ℕ
fingerprint before key = labelled key (times before key)

-- the results of several, each by the keys of those before it, where these are the keys of those before the first
abbrev pub numbered : {A : Type 0} → (A → List ℕ) → (List (List ℕ) → A → List Token) → List (List ℕ) → List A → List Token
numbered key f before [] = []
numbered key f before (x ∷ xs) = f before x ++ numbered key f (before ++ key x ∷ []) xs
