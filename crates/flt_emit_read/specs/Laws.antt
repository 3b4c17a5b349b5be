-- The laws of reading back.
use Rattle.std.specs.Prelude.{◌≡◌, List, true, Some}
use Rattle.flt_tree.specs.WellFormed.{IsWellFormed}
use Rattle.flt_tree.specs.declared.filter.Filter.{Filter}
use Rattle.flt_emit.specs.Source.{source}
use Rattle.flt_emit.specs.declared.scope.Allocation.{Allocation}
use Rattle.flt_print.specs.Reprinting.{without_places}
use Rattle.flt_emit_read.specs.AsRead.{returns_fit, as_read}
use Rattle.flt_emit_read.specs.Sources.{read_back}

-- the source of a well-formed filter says the filter, each return as C has it
abbrev pub ReadsBack : Type 0
ReadsBack = (instances : List Allocation) (f : Filter) → IsWellFormed f → read_back (source instances f) ≡ Some (as_read f)

-- where each return is one of its place, the source says the filter apart from its places
abbrev pub ReadsBackWhole : Type 0
ReadsBackWhole =
    (instances : List Allocation) (f : Filter) → IsWellFormed f → returns_fit f ≡ true →
    read_back (source instances f) ≡ Some (without_places f)

-- a source says one filter, each return as C has it
abbrev pub SaysOneFilter : Type 0
SaysOneFilter =
    (here there : List Allocation) (f g : Filter) → IsWellFormed f → IsWellFormed g → source here f ≡ source there g →
    as_read f ≡ as_read g
