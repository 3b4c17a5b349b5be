-- What steps are made of: the world after them, and their events in order: the call, its status or lock, the variables it uses,
-- and then what is gained, lost, freed and settled, and the end.
use Rattle.std.specs.Prelude.{ℕ, ◌==◌, if◌then◌else◌, List, [], ◌∷◌, ◌++◌, Option, Some, None, set, option_map}
use Rattle.flt_rules.specs.declared.call.Call.{Call}
use Rattle.flt_tree.specs.declared.filter.Statement.{Statement}
use Rattle.flt_tree.specs.declared.variable.ContextVariable.{ContextVariable}
use Rattle.flt_model.specs.declared.event.Event.{Event}
use Rattle.flt_model.specs.declared.event.Event.TheVariants as event
use Rattle.flt_model.specs.declared.event.Object.{Object}
use Rattle.flt_model.specs.declared.event.Object.TheVariants.{Context, Visit}
use Rattle.flt_model.specs.World.{World, Store, Activation, context_at, activation_at, drop_reference, with_link}
use Rattle.flt_model.specs.Variables.{with_old}

-- the world after a step, and what happened
pub record Step : Type 0 where
  pub world : World
  pub events : List Event

-- ---- variables that a call asks to be held, each as what it names

-- what a context variable names, as an object
abbrev pub context : Option ℕ → Option Object
context x = option_map Context x

-- what an operation variable names, as an object
abbrev pub operation : Option ℕ → Option Object
operation v = option_map Visit v

-- that of a variable which a call need not have
abbrev pub optional : Option (Option ℕ) → List (Option Object)
optional None = []
optional (Some x) = context x ∷ []

-- each that names something is used
abbrev pub uses : ℕ → List (Option Object) → List Event
uses a [] = []
uses a (None ∷ needs) = uses a needs
uses a (Some o ∷ needs) = event.Use a o ∷ uses a needs

-- and each that is NULL is reported
abbrev pub empties : ℕ → List (Option Object) → List Event
empties a [] = []
empties a (None ∷ needs) = event.Empty a ∷ empties a needs
empties a (Some o ∷ needs) = empties a needs

-- ---- events of what may be there

-- a context that may be there is gained
abbrev pub gains_context : ℕ → Option ℕ → List Event
gains_context a None = []
gains_context a (Some x) = event.Gain a (Context x) ∷ []

-- a context that may be there is lost
abbrev pub loses_context : ℕ → Option ℕ → List Event
loses_context a None = []
loses_context a (Some x) = event.Lose a (Context x) ∷ []

-- the context is freed where its last reference is dropped
abbrev pub freed_by_drop : Store → ℕ → List Event
freed_by_drop s x = if (context_at s x).references == 1 then event.Free x ∷ [] else []

-- ---- the reference of a link that is gone: it goes to the variable that receives it, or is dropped

-- the store without the link
abbrev pub after_unlink : Store → ℕ → Option ContextVariable → Store
after_unlink s x None = drop_reference (with_link s x None) x
after_unlink s x (Some d) = with_link s x None

-- the events of that
abbrev pub events_of_unlink : ℕ → Store → ℕ → Option ContextVariable → List Event
events_of_unlink a s x None = freed_by_drop s x
events_of_unlink a s x (Some d) = event.Gain a (Context x) ∷ []

-- ---- steps of an activation of a world

module _ (w : World) (a : ℕ) where
  -- it goes on with these statements
  abbrev pub onward : List Statement → Activation
  onward rest = record (activation_at w a) { rest = rest }

  -- the activation is now this, and what activations share is that
  abbrev pub goes_on : Activation → Store → List Event → Step
  goes_on act s events = record {
    world = record w { activations = set w.activations a act; store = s };
    events = events;
  }

  -- it goes on and nothing else changes, as where an object is needed and a variable is NULL
  abbrev pub unchanged : List Statement → Step
  unchanged rest = goes_on (onward rest) w.store []

  -- the variable that receives what a call gives is NULL where it gives nothing
  abbrev pub gives_nothing : Option ContextVariable → List Statement → Step
  gives_nothing old rest = goes_on (with_old (onward rest) old None) w.store []

  -- an effect with the uses before it
  abbrev pub needing : List (Option Object) → Step → Step
  needing needs effect = record effect { events = uses a needs ++ empties a needs ++ effect.events }

  -- a call: the events of its own, the uses, the effect
  abbrev pub calling : Call → List Event → List (Option Object) → Step → Step
  calling k own needs effect =
      record effect { events = event.Call a k ∷ own ++ uses a needs ++ empties a needs ++ effect.events }
