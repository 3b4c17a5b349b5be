-- What a filter is registered for, and the numbers of its routines, from 0. Source: FLT_REGISTRATION in the driver kit.
use Rattle.std.specs.Prelude.{ℕ, Bool, not, ◌||◌, List, [], ◌∷◌}
use Rattle.std.specs.List.{list_all, position_or_len}
use Rattle.flt_rules.specs.Place.{all_operations}
use Rattle.flt_rules.specs.declared.place.Operation.{Operation}
use Rattle.flt_tree.specs.Declarations.{same_event, has_event}
use Rattle.flt_tree.specs.Filter.{is_named}
use Rattle.flt_tree.specs.declared.filter.Callback.{Callback}
use Rattle.flt_tree.specs.declared.filter.FallibleCall.{FallibleCall}
use Rattle.flt_tree.specs.declared.filter.FallibleCall.TheVariants as fallible
use Rattle.flt_tree.specs.declared.filter.Head.{Head}
use Rattle.flt_tree.specs.declared.filter.Head.TheVariants.{Pre, Post}
use Rattle.flt_tree.specs.declared.filter.Routine.{Routine}

-- ---- pre and post callbacks

-- a pre callback of the operation
abbrev pub is_pre_of : Operation → Head → Bool
is_pre_of kind h = same_event h (Pre kind)

-- a post callback of the operation
abbrev pub is_post_of : Operation → Head → Bool
is_post_of kind h = same_event h (Post kind)

-- whether the operation has a pre callback
abbrev pub has_pre : List Callback → Operation → Bool
has_pre cs kind = has_event (Pre kind) cs

-- whether the operation has a post callback
abbrev pub has_post : List Callback → Operation → Bool
has_post cs kind = has_event (Post kind) cs

-- the operation has a post callback, or no pre callback
abbrev pub is_paired : List Callback → Operation → Bool
is_paired cs kind = not (has_pre cs kind) || has_post cs kind

-- each operation with a pre callback has a post callback
abbrev pub are_paired : List Callback → Bool
are_paired cs = list_all (is_paired cs) all_operations

-- ---- routines

-- the number of the routine that a call names; past all callbacks where there is none
abbrev pub routine_of : List Callback → Routine → ℕ
routine_of cs r = position_or_len (λ (c : Callback). is_named r.name c.head) cs

-- a call that can fail, which names its routine by number
abbrev pub numbered : List Callback → FallibleCall Routine → FallibleCall ℕ
numbered cs (fallible.AllocateContext d) = fallible.AllocateContext d
numbered cs (fallible.GetContext on d) = fallible.GetContext on d
numbered cs (fallible.SetContext on existing c old) = fallible.SetContext on existing c old
numbered cs (fallible.DeleteContextOf on old) = fallible.DeleteContextOf on old
numbered cs (fallible.InsertIo c) = fallible.InsertIo c
numbered cs (fallible.RemoveNextIo o d) = fallible.RemoveNextIo o d
numbered cs (fallible.QueueDeferredIoWorkItem r c) = fallible.QueueDeferredIoWorkItem (routine_of cs r) c
numbered cs (fallible.QueueGenericWorkItem r c) = fallible.QueueGenericWorkItem (routine_of cs r) c
