-- What may not happen in a run, each a test of its own: of the events of a step after those before it, or of the world and
-- the trace after it.
use Rattle.std.specs.Prelude.{ℕ, zero, suc, ◌+◌, Bool, true, false, not, ◌&&◌, ◌||◌, ◌==◌, if◌then◌else◌}
use Rattle.std.specs.Prelude.{List, [], ◌∷◌, ◌++◌, length, sum_by, Option, Some, None}
use Rattle.std.specs.List.{list_all}
use Rattle.flt_rules.specs.Call.{is_legal_in_draining}
use Rattle.flt_rules.specs.Columns.{has_place}
use Rattle.flt_rules.specs.Held.{holds_lock, is_latest}
use Rattle.flt_rules.specs.Place.{is_above}
use Rattle.flt_rules.specs.Table.{row}
use Rattle.flt_tree.specs.declared.filter.Filter.{Filter}
use Rattle.flt_model.specs.declared.event.Event.{Event}
use Rattle.flt_model.specs.declared.event.Event.TheVariants.{Call, Status, Lock, Unlock, Use, Empty, Gain, Lose, Settle, End}
use Rattle.flt_model.specs.declared.event.Object.{Object}
use Rattle.flt_model.specs.declared.event.Object.TheVariants.{Context, Visit}
use Rattle.flt_model.specs.Levels.{level_at}
use Rattle.flt_model.specs.Locks.{locks_exclude}
use Rattle.flt_model.specs.Moves.{is_empty}
use Rattle.flt_model.specs.Program.{filter_at}
use Rattle.flt_model.specs.Statuses.{may_answer, may_pend}
use Rattle.flt_model.specs.Trace.{one_if, frees, settles, is_held}
use Rattle.flt_model.specs.World.{World, Activation, Entry, Item, activation_at, actor_at, context_at, is_settled}

-- each event passes, after the events before it
abbrev pub along : (List Event → Event → Bool) → List Event → List Event → Bool
along test t [] = true
along test t (e ∷ es) = test t e && along test (t ++ e ∷ []) es

-- ---- V1, no stale use: what is used or lost is held; no context is touched after it was freed, or by another filter; no
-- variable is NULL where an object is needed

-- a context that wasn't freed
unfoldable pub is_live : List Event → Object → Bool
is_live t (Context x) = frees t x == 0
is_live t (Visit v) = true

-- a context of the activation's own filter
abbrev pub is_own : World → ℕ → Object → Bool
is_own w a (Context x) = (context_at w.store x).owner == (actor_at w a).filter
is_own w a (Visit v) = true

-- the event touches nothing stale
abbrev pub is_fresh : World → List Event → Event → Bool
is_fresh w t (Use a o) = is_held t a o && (is_live t o && is_own w a o)
is_fresh w t (Lose a o) = is_held t a o && (is_live t o && is_own w a o)
is_fresh w t (Gain a o) = is_live t o && is_own w a o
is_fresh w t (Empty a) = false
is_fresh w t _ = true

-- owners are read in the world after the step, which has what the step made
abbrev pub no_stale_use : World → List Event → List Event → Bool
no_stale_use after t events = along (is_fresh after) t events

-- ---- V2, no leak: an activation that ends holds no context; what went to a frame, an entry or an item was lost

-- the context of an event, if it gained one, isn't held by the activation
abbrev pub is_let_go : List Event → ℕ → Event → Bool
is_let_go t a (Gain b (Context x)) = not (is_held t a (Context x))
is_let_go t a _ = true

-- at its end the activation has let everything go
abbrev pub leaks_nothing : List Event → Event → Bool
leaks_nothing t (End a) = list_all (is_let_go t a) t
leaks_nothing t _ = true

-- no event leaks
abbrev pub no_leak : List Event → List Event → Bool
no_leak t events = along leaks_nothing t events

-- ---- V3, settled once

-- no visit is settled again
abbrev pub is_first_settling : List Event → Event → Bool
is_first_settling t (Settle v) = settles t v == 0
is_first_settling t _ = true

-- no event settles again
abbrev pub settled_once : List Event → List Event → Bool
settled_once t events = along is_first_settling t events

-- ---- V4, one owner: an unsettled visit is held by one activation or stands in one entry or one item, a settled one nowhere

-- 1 where the activation goes on and holds the visit
unfoldable pub holding : List Event → ℕ → ℕ → Activation → ℕ
holding t v a act = if not act.ended && is_held t a (Visit v) then 1 else 0

-- how many activations from a number on hold it
abbrev pub holders_from : List Event → ℕ → ℕ → List Activation → ℕ
holders_from t v a [] = 0
holders_from t v a (act ∷ acts) = holding t v a act + holders_from t v (a + 1) acts

-- how many entries of a queue have the visit
unfoldable pub in_queue : ℕ → List Entry → ℕ
in_queue v queue = sum_by (λ (e : Entry). one_if e.visit v) queue

-- 1 where it is this visit
abbrev pub in_some : ℕ → Option ℕ → ℕ
in_some v None = 0
in_some v (Some u) = one_if u v

-- 1 where a work item has the visit
abbrev pub in_item : ℕ → Option Item → ℕ
in_item v None = 0
in_item v (Some i) = in_some v i.visit

-- how many activations, entries and work items have the visit
unfoldable pub owners : World → List Event → ℕ → ℕ
owners w t v = holders_from t v 0 w.activations + sum_by (in_queue v) w.store.queues + sum_by (in_item v) w.store.items

-- one while it is unsettled, none after
abbrev pub is_owned : World → List Event → ℕ → Bool
is_owned w t v = owners w t v == (if is_settled w.store v then 0 else 1)

-- each number below this one
abbrev pub all_below : ℕ → (ℕ → Bool) → Bool
all_below zero test = true
all_below (suc n) test = test n && all_below n test

-- in the world and the trace after the step
abbrev pub one_owner : World → List Event → Bool
one_owner after t = all_below (length after.store.visits) (is_owned after t)

-- ---- the world before the step

module _ (p : List Filter) (w : World) (t : List Event) where
  -- V5, legal statuses: those given are legal, and what is queued or deferred is an I/O request packet
  abbrev pub is_legal : Event → Bool
  is_legal (Status a answer) = may_answer p w t a answer
  is_legal (Call a k) = may_pend p w t a k
  is_legal _ = true

  -- each event is legal
  abbrev pub legal_statuses : List Event → Bool
  legal_statuses events = list_all is_legal events

  -- V6, levels: no call above its greatest level
  abbrev pub is_low_enough : Event → Bool
  is_low_enough (Call a k) =
      not (is_above (level_at (filter_at p (actor_at w a).filter) (actor_at w a).place (activation_at w a).locks) (row k).greatest)
  is_low_enough _ = true

  -- each call is low enough
  abbrev pub levels_kept : List Event → Bool
  levels_kept events = list_all is_low_enough events

  -- V7, lock discipline: the latest lock is released first, none is taken twice, none is kept at the end; and after the step no
  -- lock is held exclusively beside another activation
  abbrev pub is_disciplined : Event → Bool
  is_disciplined (Lock a l) = not (holds_lock l (activation_at w a).locks)
  is_disciplined (Unlock a l) = is_latest l (activation_at w a).locks
  is_disciplined (End a) = is_empty (activation_at w a).locks
  is_disciplined _ = true

  -- each event keeps the discipline, and so does the world after the step
  abbrev pub lock_discipline : World → List Event → Bool
  lock_discipline after events = list_all is_disciplined events && locks_exclude after

  -- V8, legal places: each call where the table has it, and in a draining callback only what cleans up
  abbrev pub is_in_place : Event → Bool
  is_in_place (Call a k) =
      has_place (row k).places (actor_at w a).place && (not (actor_at w a).draining || is_legal_in_draining k)
  is_in_place _ = true

  -- each call is in place
  abbrev pub legal_places : List Event → Bool
  legal_places events = list_all is_in_place events
