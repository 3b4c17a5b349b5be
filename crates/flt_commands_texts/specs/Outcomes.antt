-- What texts come to that are laid out, and how that is printed. This project's own program.
use Rattle.std.specs.List.{list_any}
use Rattle.std.specs.Prelude.{ℕ, Bool, true, false, ◌&&◌, if◌then◌else◌, List, [], ◌∷◌, ◌++◌, codes, string_bytes}
use Rattle.flt_words.specs.Shown.{visible}
use Rattle.flt_words.specs.declared.request.FormatMode.{FormatMode}
use Rattle.flt_words.specs.declared.request.FormatMode.TheVariants as modes
use Rattle.flt_files.specs.Inputs.{Text}
use Rattle.flt_commands_texts.specs.declared.outcomes.FileOutcome.{FileOutcome}
use Rattle.flt_commands_texts.specs.declared.outcomes.Outcome.{Outcome}
use Rattle.flt_commands_texts.specs.declared.outcomes.Outcome.TheVariants.{Same, Other}

-- ---- the exit status

-- there is no layout, or it isn't written
abbrev pub is_failed : Outcome → Bool
is_failed (Same layout) = false
is_failed (Other layout) = false
is_failed _ = true

-- the file differs from its layout
abbrev pub is_other : Outcome → Bool
is_other (Other layout) = true
is_other _ = false

abbrev pub is_check : FormatMode → Bool
is_check modes.Check = true
is_check _ = false

-- 2 where a file has no layout or it isn't written, else 1 where files are checked and one differs from its layout, else 0
abbrev pub files_status : FormatMode → List FileOutcome → ℕ
files_status mode files =
    if list_any (λ (file : FileOutcome). is_failed file.outcome) files then 2
    else (if is_check mode && list_any (λ (file : FileOutcome). is_other file.outcome) files then 1 else 0)

-- ---- the standard output

-- the layout of a file, if it has one
abbrev pub layout_in : Outcome → List ℕ
layout_in (Same layout) = layout.items
layout_in (Other layout) = layout.items
layout_in _ = []

-- the line that says that the file of a name differs from its layout, where it does
abbrev pub unformatted_line : Text → Outcome → List ℕ
unformatted_line name outcome = if is_other outcome then codes "not formatted " ++ (visible name ++ 10 ∷ []) else []

-- what is printed of a file: its layout, that it differs from it, or nothing
abbrev pub printed : FormatMode → FileOutcome → List ℕ
printed modes.Print file = layout_in file.outcome
printed modes.Check file = unformatted_line (string_bytes file.name) file.outcome
printed modes.Write file = []
