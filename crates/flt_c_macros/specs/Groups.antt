-- Groups of lines that are open, the innermost one first.
use Rattle.std.specs.Prelude.{Bool, true, List, [], ◌∷◌, Option, Some, None}
use Rattle.flt_c_macros.specs.declared.groups.Group.{Group}

-- the innermost group
abbrev pub top : List Group → Option Group
top [] = None
top (g ∷ gs) = Some g

-- another one in its place
abbrev pub with_top : Group → List Group → List Group
with_top g [] = []
with_top g (h ∷ gs) = g ∷ gs

-- text is read outside groups, and in a branch that is read
abbrev pub is_read : List Group → Bool
is_read [] = true
is_read (g ∷ gs) = g.is_read

-- what is read here is read for certain: no open group is marked
abbrev pub is_certain : List Group → Bool
is_certain [] = true
is_certain (g ∷ gs) = g.is_certain
