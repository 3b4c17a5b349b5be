-- Sets of callbacks as marks, one for each callback in the order of the text. This project's own definitions.
use Rattle.std.specs.Prelude.{ℕ, Bool, false, not, ◌||◌, List, get_or}
use Rattle.std.specs.List.{list_all}
use Rattle.flt_rules.specs.Place.{all_operations}
use Rattle.flt_rules.specs.declared.place.Operation.{Operation}
use Rattle.flt_tree.specs.Registered.{has_pre}
use Rattle.flt_tree.specs.declared.filter.Callback.{Callback}
use Rattle.flt_model.specs.Program.{body_at, place_at}
use Rattle.flt_starts.specs.Closed.{body_within, pre_number}

-- a callback is marked; one that isn't there isn't
abbrev pub is_marked : List Bool → ℕ → Bool
is_marked marks k = get_or marks k false

-- the pre callback of an operation is marked, if there is one
abbrev pub has_entry : List Callback → List Bool → Operation → Bool
has_entry cs marks kind = not (has_pre cs kind) || is_marked marks (pre_number cs kind)

-- that of each operation
abbrev pub has_entries : List Callback → List Bool → Bool
has_entries cs marks = list_all (has_entry cs marks) all_operations

-- all that a callback asks for is marked, if it is marked itself
abbrev pub is_kept : List Callback → List Bool → ℕ → Bool
is_kept cs marks k = not (is_marked marks k) || body_within cs (is_marked marks) (place_at cs k) (body_at cs k)
