-- What is wrong with a C file, in words. This project's own program.
use Rattle.std.specs.Fmt.{decimal}
use Rattle.std.specs.Prelude.{ℕ, List, ◌++◌, codes}
use Rattle.flt_c.specs.declared.fault.Fault.{Fault}
use Rattle.flt_c.specs.declared.files.Flaw.{Flaw}
use Rattle.flt_c.specs.declared.files.Flaw.TheVariants.{Faulty, Large, Bare, Long}
use Rattle.flt_c.specs.declared.place.Place.{Place}
use Rattle.flt_c.specs.Flaws.{fault_words}

-- a place of a file, as compilers write it behind its name
abbrev pub spot : Place → List ℕ
spot at = decimal at.line ++ codes ":" ++ decimal at.column

-- a fault of the file of a name
abbrev pub fault_line : List ℕ → Fault → List ℕ
fault_line name f = name ++ (codes ":" ++ (spot f.place ++ (codes ": " ++ fault_words f.kind)))

-- what is wrong with the file of a name
abbrev pub flaw_line : List ℕ → Flaw → List ℕ
flaw_line name (Faulty f) = fault_line name f
flaw_line name Large = name ++ codes ": too large"
flaw_line name Bare = name ++ codes ": no annotation"
flaw_line name Long = name ++ codes ": text too long"
