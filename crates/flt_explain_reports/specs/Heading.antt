-- The first lines of reports. This project's own program.
use Rattle.std.specs.Prelude.{ℕ, Bool, [], ◌∷◌, ◌++◌, Option, Some, None, codes}
use Rattle.std.specs.Fmt.{decimal}
use Rattle.flt_tree.specs.Names.{Text}
use Rattle.flt_tree.specs.declared.filter.Position.{Position}
use Rattle.flt_shown.specs.Shown.{shown}
use Rattle.flt_places.specs.Files.{file_at, file_name, file_place}
use Rattle.flt_places.specs.declared.files.Files.{Files}
use Rattle.flt_explain_reports.specs.Colours.{bold, plain, red, yellow}

-- a code between brackets, if there is one
unfoldable pub bracketed : Option Text → Text
bracketed None = []
bracketed (Some code) = codes "[" ++ (code ++ codes "]")

-- a word for how serious it is, in a colour, and a code, if there is one
unfoldable pub severity : Bool → Text → Text → Option Text → Text
severity coloured colour word code = colour ++ (word ++ (bracketed code ++ (codes ": " ++ plain coloured)))

-- a title, and a file's name on the next line
unfoldable pub titled : Bool → Text → Text → Text
titled coloured title name = bold coloured ++ (shown title ++ (plain coloured ++ (10 ∷ codes "  --> " ++ shown name)))

-- what is wrong, and in which file
unfoldable pub heading : Bool → Option Text → Text → Text → Text
heading coloured code title name = severity coloured (red coloured) (codes "error") code ++ titled coloured title name

-- what a warning of a kind says, and in which file
unfoldable pub warning_heading : Bool → Text → Text → Text → Text
warning_heading coloured kind title name =
    severity coloured (yellow coloured) (codes "warning") (Some kind) ++ titled coloured title name

-- a line and a column behind a file's name
unfoldable pub at_place : Position → Text
at_place place = codes ":" ++ (decimal place.line ++ (codes ":" ++ decimal place.column))

-- the name of the file in which a line of the text is
abbrev pub name_at : Files → ℕ → Text
name_at files line = file_name files (file_at files line)

-- the place in its file of a place in the text, behind the file's name
abbrev pub at_file_place : Files → Position → Text
at_file_place files place = at_place (file_place files place)
