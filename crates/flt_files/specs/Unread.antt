-- The exit status beside files that aren't read. This project's own program.
use Rattle.std.specs.Prelude.{ℕ, List, [], ◌∷◌}
use Rattle.flt_files.specs.declared.unread.UnreadFile.{UnreadFile}

-- the exit status of reports, or of what files come to: their own, or 2 where a file isn't read
abbrev pub status_beside : ℕ → List UnreadFile → ℕ
status_beside status [] = status
status_beside status (file ∷ files) = 2
