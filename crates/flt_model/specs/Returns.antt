-- The end of a callback, with the status that it returns. The end of a body is a `return` without one.
-- Source: "Returning status from preoperation callback routines" and the same of postoperation ones.
use Rattle.std.specs.Prelude.{ℕ, Bool, true, false, ◌||◌, if◌then◌else◌, List, [], ◌∷◌, ◌++◌, Option, Some, None, is_some, set}
use Rattle.flt_rules.specs.Place.{answers}
use Rattle.flt_tree.specs.Filter.{named_context}
use Rattle.flt_tree.specs.declared.filter.Filter.{Filter}
use Rattle.flt_tree.specs.declared.filter.Status.{Status}
use Rattle.flt_tree.specs.declared.variable.OperationVariable.TheVariants.{Data}
use Rattle.flt_model.specs.declared.event.Answer.TheVariants.{Returned}
use Rattle.flt_model.specs.declared.event.Event.{Event}
use Rattle.flt_model.specs.declared.event.Event.TheVariants as event
use Rattle.flt_model.specs.declared.event.Object.TheVariants.{Visit}
use Rattle.flt_model.specs.Effects.{Step, optional, uses, empties, loses_context}
use Rattle.flt_model.specs.Settling.{Way, way_of, settles_visit, makes_frame, settled_by}
use Rattle.flt_model.specs.Trace.{is_held}
use Rattle.flt_model.specs.Variables.{operation_in, named_in}
use Rattle.flt_model.specs.World.{World, Store, Activation, activation_at, actor_at}

-- a context that is named, and not NULL
abbrev pub there : Option (Option ℕ) → Option ℕ
there None = None
there (Some x) = x

-- a trace and a world, and the activation that ends
module _ (p : List Filter) (t : List Event) (w : World) (a : ℕ) where
  -- the activation that ends
  abbrev act : Activation
  act = activation_at w a

  -- nothing remains of it; a lock that it kept stays held
  abbrev pub ended : Activation
  ended = record act { rest = []; ended = true }

  -- it ends, with these events before its last
  abbrev pub ends : Store → List Event → Step
  ends s events = record {
    world = record w { activations = set w.activations a ended; store = s };
    events = events ++ event.End a ∷ [];
  }

  -- a status is given, or is missing where one is wanted
  abbrev pub status_given : Option Status → List Event
  status_given st = if answers (actor_at w a).place || is_some st then event.Status a (Returned st) ∷ [] else []

  -- the context that goes with the status is used
  abbrev pub context_used : Option Status → List Event
  context_used st = let needs = optional (named_in act (named_context st)) in uses a needs ++ empties a needs

  -- the visit is lost where it is held, and is settled either way; a frame takes the context over
  abbrev pub visit_given_back : ℕ → Option ℕ → Way → List Event
  visit_given_back v x way =
      (if is_held t a (Visit v) then event.Lose a (Visit v) ∷ [] else [])
      ++ (if makes_frame w.store v way then loses_context a x else [])
      ++ (if settles_visit way then event.Settle v ∷ [] else [])

  -- the visit is settled by the status
  abbrev pub answered : Option Status → ℕ → Option ℕ → Step
  answered st v x =
      let way = way_of p w.store v (Returned st) in
      ends (settled_by w.store v x way) (status_given st ++ context_used st ++ visit_given_back v x way)

  -- only a callback that answers for its operation settles a visit; what others return settles nothing
  abbrev pub returned : Option Status → Bool → Option ℕ → Step
  returned st true (Some v) = answered st v (there (named_in act (named_context st)))
  returned st true None = ends w.store (status_given st ++ context_used st)
  returned st false given = ends w.store (status_given st ++ context_used st)

  -- `return`, with a status or without
  abbrev pub returns : Option Status → Step
  returns st = returned st (answers (actor_at w a).place) (operation_in act Data)
