-- Lines behind a word that stands before the first of them alone. This project's own program.
use Rattle.std.specs.Prelude.{Bool, true, false, if◌then◌else◌, List, [], ◌∷◌, ◌++◌, length, replicate}
use Rattle.flt_tree.specs.Names.{Text}

-- what stands before a line: a word, or as many blanks where another line is above
unfoldable pub before : Bool → Text → Text
before is_below word = if is_below then replicate (length word) 32 else word

-- lines with that before each, where another one may be above the first
abbrev pub headed_from : Bool → Text → List Text → Text
headed_from is_below word [] = []
headed_from is_below word (line ∷ lines) = before is_below word ++ (line ++ headed_from true word lines)

-- a word before the first of some lines, and as many blanks before each other one; nothing where there are no lines
abbrev pub headed : Text → List Text → Text
headed = headed_from false
