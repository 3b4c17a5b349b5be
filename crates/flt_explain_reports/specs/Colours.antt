-- The signs by which a terminal draws what follows in a colour; none where there are no colours. ECMA-48, "select graphic rendition".
use Rattle.std.specs.Prelude.{Bool, if◌then◌else◌, [], ◌∷◌, codes}
use Rattle.flt_tree.specs.Names.{Text}

-- an escape sign, and which colour it asks for
abbrev pub coloured_by : Bool → Text → Text
coloured_by coloured code = if coloured then 27 ∷ code else []

unfoldable pub red : Bool → Text
red coloured = coloured_by coloured (codes "[1;31m")

unfoldable pub yellow : Bool → Text
yellow coloured = coloured_by coloured (codes "[1;33m")

unfoldable pub blue : Bool → Text
blue coloured = coloured_by coloured (codes "[1;34m")

unfoldable pub bold : Bool → Text
bold coloured = coloured_by coloured (codes "[1m")

-- as the rest of the page is drawn
unfoldable pub plain : Bool → Text
plain coloured = coloured_by coloured (codes "[0m")
