-- Texts that don't parse: where one is refused, and how to fix it. This project's own program.
use Rattle.std.specs.Prelude.{◌==◌, ℕ, List, [], ◌∷◌, Option, Some, None, codes, drop, if◌then◌else◌, length, take}
use Rattle.std.specs.Cmp.Lexicographic.{pointwise}
use Rattle.std.specs.List.{slice_split}
use Rattle.flt_explain_hints.specs.Telling.{notes_of}
use Rattle.flt_explain_hints.specs.declared.open_call.OpenCall.{OpenCall}
use Rattle.flt_explain_hints.specs.declared.troubles.Trouble.{Trouble}
use Rattle.flt_explain_texts.specs.Page.{line_told}
use Rattle.flt_places.specs.Files.{file_at}
use Rattle.flt_places.specs.declared.files.Files.{Files}
use Rattle.flt_syntax.specs.declared.fault.SyntaxFault.{SyntaxFault}
use Rattle.flt_tree.specs.declared.filter.Position.{Position}

-- where a text is refused
abbrev pub place_of : SyntaxFault → Position
place_of f = record { line = f.line; column = f.column }

-- what stands behind a word with which a line begins
abbrev pub behind : List ℕ → List ℕ → Option (List ℕ)
behind word line = if pointwise (λ a b. a == b) (take (length word) line) word then Some (drop (length word) line) else None

-- the same of the first of some lines, or of the others
abbrev pub or_else : Option (List ℕ) → List ℕ → List ℕ
or_else (Some found) others = found
or_else None others = others

-- what stands behind a word in the first line that begins with it; nothing where none does
abbrev pub first_behind : List ℕ → List (List ℕ) → List ℕ
first_behind word [] = []
first_behind word (line ∷ lines) = or_else (behind word line) (first_behind word lines)

-- what notes say of how to fix it
unfoldable pub help_in : List ℕ → List ℕ
help_in notes = first_behind (codes "   = help: ") (slice_split (λ b. b == 10) notes)

-- the number of the file in which a text is refused
abbrev pub home_of : Files → Trouble → ℕ
home_of files t = file_at files t.spot.fault.line

-- the line of the call that lacks an operand, by its name in a file; nothing if none does
abbrev pub open_line_by : Files → ℕ → Option OpenCall → List ℕ
open_line_by files home None = []
open_line_by files home (Some call) = line_told files home call.line

abbrev pub open_line : Files → Trouble → List ℕ
open_line files t = open_line_by files (home_of files t) t.open_call

-- what is said of a trouble on how to fix it
unfoldable pub help_of : Files → Trouble → List ℕ
help_of files t = help_in (notes_of t (open_line files t))
