-- What the end of a callback reads of its activation.
use Rattle.std.specs.Prelude.{◌≡◌, ℕ, Bool, ◌||◌, if◌then◌else◌, List, [], ◌∷◌, ◌++◌, Option, Some, is_some}
use Rattle.flt_rules.specs.Place.{answers}
use Rattle.flt_tree.specs.Filter.{named_context}
use Rattle.flt_tree.specs.declared.filter.Status.{Status}
use Rattle.flt_tree.specs.declared.variable.OperationVariable.TheVariants.{Data}
use Rattle.flt_model.specs.declared.event.Answer.TheVariants.{Returned}
use Rattle.flt_model.specs.declared.event.Event.{Event}
use Rattle.flt_model.specs.declared.event.Event.TheVariants as event
use Rattle.flt_model.specs.declared.event.Object.TheVariants.{Visit}
use Rattle.flt_model.specs.Effects.{optional, uses, empties, loses_context}
use Rattle.flt_model.specs.declared.settling.Way.{Way}
use Rattle.flt_model.specs.Settling.{makes_frame, settles_visit}
use Rattle.flt_model.specs.Trace.{is_held}
use Rattle.flt_model.specs.Variables.{operation_in, named_in}
use Rattle.flt_model.specs.World.{World, Store, actor_at, activation_at}
use Rattle.flt_machine_calls.specs.declared.settling.Returning.{Returning}

-- a status is given, or is missing where one is wanted
abbrev pub status_told : ℕ → Bool → Option Status → List Event
status_told a answering st = if answering || is_some st then event.Status a (Returned st) ∷ [] else []

-- the context that goes with the status is used, or reported where it is NULL
abbrev pub context_told : ℕ → Option (Option ℕ) → List Event
context_told a named = let needs = optional named in uses a needs ++ empties a needs

-- the visit is lost where it is held, and is settled either way; a frame takes the context over
abbrev pub visit_told : Store → ℕ → Bool → ℕ → Option ℕ → Way → List Event
visit_told s a held v x way =
    (if held then event.Lose a (Visit v) ∷ [] else [])
    ++ (if makes_frame s v way then loses_context a x else [])
    ++ (if settles_visit way then event.Settle v ∷ [] else [])

-- what is read of an activation at its end is so
pub record IsReturning (t : List Event) (w : World) (a : ℕ) (st : Option Status) (r : Returning) : Type 0 where
  pub answering : answers (actor_at w a).place ≡ r.answers
  pub given : operation_in (activation_at w a) Data ≡ r.given
  pub held : (v : ℕ) → r.given ≡ Some v → r.held ≡ is_held t a (Visit v)
  pub named : named_in (activation_at w a) (named_context st) ≡ r.named
