-- V1 in two halves: what a step's events use or lose is held at that moment, and what they touch wasn't freed and is the filter's
-- own. This file has both tests, and builds the first half event by event.
use Rattle.std.proofs.Common.{◌≡◌, Bool, true, false, List, [], ◌∷◌, ◌++◌, refl}
use Rattle.std.specs.Prelude.{◌&&◌}
use Rattle.flt_model.specs.declared.event.Event.{Event}
use Rattle.flt_model.specs.declared.event.Event.TheVariants.{Use, Lose, Gain, Empty}
use Rattle.flt_model.specs.Trace.{is_held}
use Rattle.flt_model.specs.Violations.{along, is_live, is_own}
use Rattle.flt_model.specs.World.{World}

-- the event uses or loses what is held, if anything, and names no variable that is NULL
abbrev pub is_had : List Event → Event → Bool
is_had t (Use a o) = is_held t a o
is_had t (Lose a o) = is_held t a o
is_had t (Empty a) = false
is_had t _ = true

-- each event does, after the trace and those before it
abbrev pub uses_held : List Event → List Event → Bool
uses_held t events = along is_had t events

-- the other half of V1: what the event touches wasn't freed, and is of the activation's own filter
abbrev pub is_clean : World → List Event → Event → Bool
is_clean w t (Use a o) = is_live t o && is_own w a o
is_clean w t (Lose a o) = is_live t o && is_own w a o
is_clean w t (Gain a o) = is_live t o && is_own w a o
is_clean w t _ = true

-- the events use and lose what is held, each after the trace and those before it
pub record AreHad (t es : List Event) : Type 0 where
  pub is : uses_held t es ≡ true

-- no event does otherwise
pub none_had : (t : List Event) → AreHad t []
none_had t = record { is = refl }

-- an event that uses and loses what is held, if anything, and then such events
pub had_then : {t es : List Event} (e : Event) → is_had t e ≡ true → AreHad (t ++ e ∷ []) es → AreHad t (e ∷ es)
had_then {t} {es} e h f = record { is = simp h f.is }
