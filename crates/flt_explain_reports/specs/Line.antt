-- The report of a line of a file that isn't the text of a filter. This project's own program.
use Rattle.std.specs.Prelude.{◌==◌, Bool, if◌then◌else◌, [], ◌∷◌, ◌++◌, None, codes, length}
use Rattle.flt_tree.specs.Names.{Text}
use Rattle.flt_tree.specs.declared.filter.Position.{Position}
use Rattle.flt_shown.specs.Shown.{shown}
use Rattle.flt_places.specs.declared.places.Site.{Site}
use Rattle.flt_explain_reports.specs.Heading.{at_place, heading}
use Rattle.flt_explain_reports.specs.Marks.{drawn_alone, width}
use Rattle.flt_explain_reports.specs.declared.marks.Stroke.TheVariants as strokes
use Rattle.flt_explain_reports.specs.declared.line_report.MarkedLine.{MarkedLine}

-- which word is probably meant; nothing where there is none
unfoldable pub meant : Text → Text
meant word = if length word == 0 then [] else codes " did you mean `" ++ shown word ++ codes "`?"

-- where it is wrong
abbrev pub place_of : MarkedLine → Position
place_of m = record { line = m.line; column = m.column }

-- the bytes that are marked
abbrev pub site_of : MarkedLine → Site
site_of m = record { place = place_of m; length = m.marked }

-- what of the line is shown, with marks under the bytes that are wrong; nothing where nothing is shown
unfoldable pub picture : Bool → MarkedLine → Text
picture coloured m =
    if length m.shown.now == 0 then []
    else drawn_alone coloured (width m.line) m.shown.now (site_of m) strokes.Error ++ meant m.meant.now ++ 10 ∷ []

-- a line of help; nothing where there is none
unfoldable pub help_line : Text → Text
help_line help = if length help == 0 then [] else codes "   = help: " ++ help ++ 10 ∷ []

-- what is wrong and where, the line with its marks, and how to fix it
unfoldable pub line_report : Bool → MarkedLine → Text
line_report coloured m =
    heading coloured None m.message.now m.name.now ++ (at_place (place_of m) ++ (10 ∷ (picture coloured m ++ help_line m.help.now)))
