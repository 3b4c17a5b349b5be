-- Where comments begin in a text. This project's own definitions.
use Rattle.std.specs.Prelude.{◌≡◌, ℕ, Bool, true, ◌==◌, ◌-◌, get_or}
use Rattle.std.specs.List.{list_all}
use Rattle.flt_places.specs.Places.{line_of}
use Rattle.flt_tree.specs.Names.{Text}
use Rattle.flt_tree.specs.declared.filter.Position.{Position}
use Rattle.flt_explain_warnings.specs.Allowances.{allowances_of}
use Rattle.flt_explain_warnings.specs.declared.allowance.Allowance.{Allowance}

-- the byte of a text at a place; 0 where there is none
abbrev pub byte_at : Text → Position → ℕ
byte_at text at = get_or (line_of text at.line) (at.column - 1) 0

-- a comment begins with a `#` in a text
abbrev pub begins_with_mark : Text → Allowance → Bool
begins_with_mark text a = byte_at text a.region.first == 35

-- so does each comment of a text
abbrev pub CommentsBeginWithMarks : Type 0
CommentsBeginWithMarks = (text : Text) → list_all (begins_with_mark text) (allowances_of text) ≡ true
