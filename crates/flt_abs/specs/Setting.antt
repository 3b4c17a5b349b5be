-- Where a point stands, and at which level it is reached.
use Rattle.std.specs.Prelude.{ℕ, Bool, true, false, List, Option, slice_get}
use Rattle.std.specs.List.{list_any, list_all}
use Rattle.flt_rules.specs.Call.{place_of}
use Rattle.flt_rules.specs.Held.{level_with}
use Rattle.flt_rules.specs.Place.{entry_level, same_operation}
use Rattle.flt_rules.specs.declared.call.LockKind.{LockKind}
use Rattle.flt_rules.specs.declared.call.LockNumber.{LockNumber}
use Rattle.flt_rules.specs.declared.place.Operation.{Operation}
use Rattle.flt_rules.specs.declared.place.Place.{Place}
use Rattle.flt_rules.specs.declared.place.Place.TheVariants.{Pre, Post}
use Rattle.flt_graph.specs.Graph.{place_at}
use Rattle.flt_graph.specs.declared.graph.CallbackGraph.{CallbackGraph}
use Rattle.flt_graph.specs.declared.graph.Graph.{Graph}
use Rattle.flt_abs.specs.State.{State}
use Rattle.flt_abs.specs.declared.setting.Setting.{Setting}

abbrev pub is_post_at : Operation → Place → Bool
is_post_at operation (Post own) = same_operation own operation
is_post_at operation _ = false

-- the post callback of an operation
abbrev pub is_post_of : Operation → CallbackGraph → Bool
is_post_of operation c = is_post_at operation c.place

abbrev pub has_post : List CallbackGraph → Operation → Bool
has_post cs operation = list_any (is_post_of operation) cs

-- a pre callback whose operation has a post callback
abbrev pub is_registered : List CallbackGraph → Place → Bool
is_registered cs (Pre operation) = has_post cs operation
is_registered cs _ = false

abbrev pub is_paired_at : List CallbackGraph → Place → Bool
is_paired_at cs (Pre operation) = has_post cs operation
is_paired_at cs _ = true

-- a callback of an operation that has a post callback, or no pre callback at all
abbrev pub is_paired : List CallbackGraph → CallbackGraph → Bool
is_paired cs c = is_paired_at cs c.place

-- each operation with a pre callback has a post callback
abbrev pub are_paired : List CallbackGraph → Bool
are_paired cs = list_all (is_paired cs) cs

-- the kind of a declared lock
abbrev pub kind_at : List LockKind → LockNumber → Option LockKind
kind_at kinds l = slice_get kinds (place_of l)

abbrev pub setting_of : Graph → ℕ → State → Setting
setting_of g callback x =
    let here = place_at g callback in
    record {
      place = here;
      level = level_with (kind_at g.locks) (entry_level here) x.locks;
      registered = is_registered g.callbacks here;
      all_registered = are_paired g.callbacks;
    }

-- the same setting, as if no callback were registered
abbrev pub unregistered : Setting → Setting
unregistered s = record s { registered = false; all_registered = false }
