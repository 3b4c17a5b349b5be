-- That a file isn't written. This project's own program.
use Rattle.std.specs.Prelude.{ℕ, List, [], ◌∷◌, ◌++◌, codes}
use Rattle.flt_words.specs.Shown.{visible}
use Rattle.flt_files.specs.Inputs.{Text}

-- that a file isn't written
abbrev pub unwritten_line : Text → List ℕ
unwritten_line name = codes "cannot write " ++ (visible name ++ 10 ∷ [])
