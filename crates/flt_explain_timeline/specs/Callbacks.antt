-- Which callback an activation runs, and where. This project's own definitions.
use Rattle.std.specs.Prelude.{ℕ, Bool, false, List, [], ◌∷◌, Option, Some, None, slice_get}
use Rattle.std.specs.List.{position_or_len}
use Rattle.flt_rules.specs.declared.place.Place.{Place}
use Rattle.flt_rules.specs.declared.place.Place.TheVariants as places
use Rattle.flt_tree.specs.Filter.{span_of}
use Rattle.flt_tree.specs.declared.filter.Callback.{Callback}
use Rattle.flt_tree.specs.declared.filter.Filter.{Filter}
use Rattle.flt_tree.specs.declared.filter.Head.{Head}
use Rattle.flt_tree.specs.declared.filter.Statement.{Statement, out-Statement}
use Rattle.flt_model.specs.Program.{callbacks_at, is_canceled, is_post_of, is_pre_of}
use Rattle.flt_model.specs.World.{Actor}
use Rattle.flt_explain_timeline.specs.declared.telling.StartedCallback.{StartedCallback}

-- whether a head is registered for a place, which no work item's routine is
abbrev pub is_registered : Place → Head → Bool
is_registered (places.Pre kind) head = is_pre_of kind head
is_registered (places.Post kind) head = is_post_of kind head
is_registered places.Canceled head = is_canceled head
is_registered _ head = false

-- the number of the callback for a place; past all callbacks where there is none
abbrev pub callback_for : List Callback → Place → ℕ
callback_for cs place = position_or_len (λ (c : Callback). is_registered place c.head) cs

-- the number of the callback that runs; a routine is known by the work item that started it
abbrev pub callback_of : List Filter → Actor → Option ℕ → ℕ
callback_of p actor (Some routine) = routine
callback_of p actor None = callback_for (callbacks_at p actor.filter) actor.place

-- a callback that has started
abbrev pub start_of : List Filter → Actor → Option ℕ → StartedCallback
start_of p actor routine = record { filter = actor.filter; callback = callback_of p actor routine; draining = actor.draining }

-- ---- lines

-- the line of a callback's closing brace; 0 where the callback isn't there
abbrev pub end_of : Option Callback → ℕ
end_of (Some c) = c.end.line
end_of None = 0

-- the same of a callback that has started
abbrev pub end_line : List Filter → StartedCallback → ℕ
end_line p started = end_of (slice_get (callbacks_at p started.filter) started.callback)

-- the line of the next step, by the statements that remain: at the end of a body that of the closing brace
abbrev pub next_line : ℕ → List Statement → ℕ
next_line end [] = end
next_line end (s ∷ rest) = (span_of (out-Statement s)).line
