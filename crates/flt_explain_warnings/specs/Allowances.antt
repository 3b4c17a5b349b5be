-- The comments of a text that leave warnings out. This project's own definitions.
use Rattle.std.specs.Prelude.{ℕ, ◌==◌, ◌+◌, ◌-◌, if◌then◌else◌, List, [], ◌∷◌, ◌++◌, Option, Some, None, length}
use Rattle.std.specs.List.{slice_split}
use Rattle.flt_places.specs.declared.places.Region.{Region}
use Rattle.flt_tree.specs.Names.{Text}
use Rattle.flt_explain_warnings.specs.declared.warning.Kind.{Kind}
use Rattle.flt_explain_warnings.specs.Comment.{after_blanks, end_of, comment_of, is_comment}
use Rattle.flt_explain_warnings.specs.declared.allowance.Allowance.{Allowance}

-- where a comment is in a line of a text: from its `#` to the end of the line without the blanks there
abbrev pub region_in : ℕ → Text → Region
region_in number line = record {
  first = record { line = number; column = length line - length (after_blanks line) + 1 };
  end = record { line = number; column = end_of line + 1 };
}

-- the first line that is no such comment, of some of which the first has a number; the one after them where each is such
abbrev pub statement_from : ℕ → List Text → ℕ
statement_from number [] = number
statement_from number (line ∷ lines) = if is_comment line then statement_from (number + 1) lines else number

-- a number, or another where it isn't known
abbrev pub known_or : Option ℕ → ℕ → ℕ
known_or (Some n) other = n
known_or None other = other

abbrev pub allowance_with : Region → ℕ → Option Kind → Text → Allowance
allowance_with region statement kind reason = record { region = region; kind = kind; reason = reason; statement = statement }

-- what a line allows that has a number, for a line after it; nothing where it says nothing
abbrev pub allowed_by : ℕ → Text → ℕ → Option (Option Kind × Text) → List Allowance
allowed_by number line statement None = []
allowed_by number line statement (Some c) = allowance_with (region_in number line) statement c.0 c.1 ∷ []

-- the comments among some lines, of which the first has a number
abbrev pub allowances_in : ℕ → List Text → List Allowance
allowances_in number [] = []
allowances_in number (line ∷ lines) =
    allowed_by number line (statement_from (number + 1) lines) (comment_of line) ++ allowances_in (number + 1) lines

-- those of a text, in order
unfoldable pub allowances_of : Text → List Allowance
allowances_of text = allowances_in 1 (slice_split (λ b. b == 10) text)
