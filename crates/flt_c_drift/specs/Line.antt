-- Drifts as lines of one sentence each, as compilers say them. This project's own program.
use Rattle.std.specs.Prelude.{List, [], ◌++◌, codes, decimal, flat_map, if◌then◌else◌}
use Rattle.flt_c_drift.specs.declared.drift.Drift.{Drift}
use Rattle.flt_places.specs.Places.{place_in}
use Rattle.flt_tree.specs.Names.{Text}
use Rattle.flt_tree.specs.declared.filter.Position.{Position}
use Rattle.flt_c_drift.specs.Report.{has_difference, message}

-- the line of a drift at a place of the file of a name
unfoldable pub line_at : Text → Text → Position → Drift → Text
line_at name file place d =
    name ++ (codes ":" ++ (decimal place.line ++ (codes ":" ++ (decimal place.column ++ (codes ": " ++ message file d)))))

-- the line of a drift in the file of a name
abbrev pub drift_line : Text → Text → Drift → Text
drift_line name file d = line_at name file (place_in file d.start) d

-- the lines of drifts, one below the other
abbrev pub lines_of : Text → Text → List Drift → Text
lines_of name file drifts = flat_map (drift_line name file) drifts

-- the same; notes alone have none
abbrev pub drift_lines : Text → Text → List Drift → Text
drift_lines name file drifts = if has_difference drifts then lines_of name file drifts else []
