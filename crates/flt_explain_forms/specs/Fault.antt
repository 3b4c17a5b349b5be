-- What is said of a text that doesn't parse, as JSON. This project's own format.
use Rattle.std.specs.Prelude.{◌≡◌, ℕ, List, [], ◌∷◌, ◌++◌, Some, codes, length, map}
use Rattle.flt_explain_hints.specs.Telling.{title_of}
use Rattle.flt_explain_hints.specs.Trouble.{IsDescribed}
use Rattle.flt_explain_hints.specs.declared.choices.Choices.{Choices}
use Rattle.flt_explain_hints.specs.declared.choices.ExpectedWord.{ExpectedWord}
use Rattle.flt_explain_hints.specs.declared.troubles.Trouble.{Trouble}
use Rattle.flt_places.specs.Columns.{file_column_up_to}
use Rattle.flt_explain_texts.specs.Closing.{fault_name}
use Rattle.flt_places.specs.Files.{file_name, file_place}
use Rattle.flt_places.specs.declared.files.Files.{Files}
use Rattle.flt_syntax.specs.declared.fault.SyntaxFault.{SyntaxFault}
use Rattle.json.specs.Token.{Token, begin_object, end_object}
use Rattle.flt_tree.specs.declared.filter.Position.{Position}
use Rattle.flt_explain_parts.specs.Members.{array_member, bytes_member, filled_member, line_of, number_member}
use Rattle.flt_explain_parts.specs.Members.{string_member, text_items, text_member}
use Rattle.flt_explain_parts.specs.Help.{help_of, home_of, place_of}
use Rattle.flt_explain_forms.specs.Preface.{preface}

-- the column of the last byte of what is found there; one before its first, where its line ends there
abbrev pub last_column : Files → SyntaxFault → List ℕ → ℕ
last_column files f found = file_column_up_to files (place_of f) (length found)

-- where a text is refused, in its file, and where this line and what is found there end
abbrev pub fault_place : Position → ℕ → List Token
fault_place first last =
    number_member (codes "line") first.line ++ (number_member (codes "column") first.column
    ++ (number_member (codes "end_line") first.line ++ number_member (codes "end_column") last))

-- where a text is refused, what is found there, and by which fault
abbrev pub place : Files → SyntaxFault → List ℕ → List Token
place files f found =
    fault_place (file_place files (place_of f)) (last_column files f found) ++ string_member (codes "rule") (fault_name f.kind)

-- the words and symbols of the language that may stand there, and the names that the text declares
abbrev pub choices : Choices → List Token
choices c =
    array_member (codes "expected") (text_items (map (λ (e : ExpectedWord). e.word.now) c.expected))
    ++ array_member (codes "names") (text_items (map (λ name. name.now) c.names))

-- a fault of a file, with what is said of it and how to fix it
abbrev pub fault : Files → Trouble → List ℕ → List ℕ → List Token
fault files t message help =
    begin_object ∷ preface (codes "fault") (file_name files (home_of files t)) ++
    (place files t.spot.fault t.spot.bytes.now ++ (bytes_member (codes "found") (Some t.spot.bytes)
    ++ (choices t.choices ++ (bytes_member (codes "meant") t.meant ++ (text_member (codes "message") message
    ++ (filled_member (codes "help") help ++ end_object ∷ []))))))

-- the line of a text that doesn't parse: its first fault, what is said of it, and how to fix it
pub record IsFaultLine (files : Files) (text printed : List ℕ) : Type 0 where
  pub trouble : Trouble
  pub described : IsDescribed text (Some trouble)
  pub line : printed ≡ line_of (fault files trouble (title_of trouble) (help_of files trouble))
