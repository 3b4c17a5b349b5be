-- Closed sets of callbacks of a filter: they have the pre callbacks, which the filter manager calls by itself, and all that the statements
-- of their callbacks ask for. A callback has the number of its place in the text, from 0. This project's own definitions; what asks for
-- which callback is in the driver kit's pages on FLT_PREOP_CALLBACK_STATUS, FltCbdqInsertIo, FltQueueDeferredIoWorkItem and
-- FltQueueGenericWorkItem.
use Rattle.std.specs.Prelude.{◌≡◌, ℕ, Bool, true, false, not, ◌&&◌, ◌||◌, List, [], ◌∷◌, map, Option, Some}
use Rattle.std.specs.List.{list_all, position_or_len}
use Rattle.flt_rules.specs.Place.{all_operations}
use Rattle.flt_rules.specs.declared.place.Operation.{Operation}
use Rattle.flt_rules.specs.declared.place.Place.{Place}
use Rattle.flt_rules.specs.declared.place.Place.TheVariants as place
use Rattle.flt_tree.specs.Registered.{is_pre_of, is_post_of, has_pre, has_post, routine_of}
use Rattle.flt_tree.specs.declared.filter.Callback.{Callback}
use Rattle.flt_tree.specs.declared.filter.Condition.{Condition}
use Rattle.flt_tree.specs.declared.filter.Condition.TheVariants as condition
use Rattle.flt_tree.specs.declared.filter.FallibleCall.{FallibleCall}
use Rattle.flt_tree.specs.declared.filter.FallibleCall.TheVariants as fallible
use Rattle.flt_tree.specs.declared.filter.Head.{Head}
use Rattle.flt_tree.specs.declared.filter.PlainCall.{PlainCall}
use Rattle.flt_tree.specs.declared.filter.PlainCall.TheVariants as plain
use Rattle.flt_tree.specs.declared.filter.Routine.{Routine}
use Rattle.flt_tree.specs.declared.filter.Statement.{Statement}
use Rattle.flt_tree.specs.declared.filter.Statement.TheFolds.{fold-Statement}
use Rattle.flt_tree.specs.declared.filter.Statement.TheOpen.{Statement-F}
use Rattle.flt_tree.specs.declared.filter.Status.{Status}
use Rattle.flt_model.specs.Program.{is_canceled, body_at, place_at}
use Rattle.flt_model.specs.Settling.{asks_for_frame, way_before}

-- ---- callbacks by number

-- the first callback whose head passes; past all callbacks where there is none
abbrev pub number_for : (Head → Bool) → List Callback → ℕ
number_for test cs = position_or_len (λ (c : Callback). test c.head) cs

-- the pre callback of an operation
abbrev pub pre_number : List Callback → Operation → ℕ
pre_number cs kind = number_for (is_pre_of kind) cs

-- its post callback
abbrev pub post_number : List Callback → Operation → ℕ
post_number cs kind = number_for (is_post_of kind) cs

-- the callback of cancelled queue entries
abbrev pub canceled_number : List Callback → ℕ
canceled_number cs = number_for is_canceled cs

-- ---- what statements ask for

module _ (cs : List Callback) (may_start : ℕ → Bool) where
  -- where a status, returned or handed on, asks for the post callback of an operation, that one may start
  abbrev pub status_within : Bool → Option Status → Operation → Bool
  status_within returned st kind =
      not (asks_for_frame (way_before (has_post cs kind) returned st)) || may_start (post_number cs kind)

  -- a status that a pre callback returns asks for the post callback of the same operation; one that another callback returns asks for none
  abbrev pub return_within : Place → Option Status → Bool
  return_within (place.Pre kind) st = status_within true st kind
  return_within _ st = true

  -- a pended operation that is completed is of any kind
  abbrev pub plain_within : PlainCall → Bool
  plain_within (plain.CompletePendedPreOperation d st) = list_all (status_within false (Some st)) all_operations
  plain_within _ = true

  -- an entry of the queue asks for the callback of cancelled ones, and a work item for its routine
  abbrev pub fallible_within : FallibleCall Routine → Bool
  fallible_within (fallible.InsertIo c) = may_start (canceled_number cs)
  fallible_within (fallible.QueueDeferredIoWorkItem r c) = may_start (routine_of cs r)
  fallible_within (fallible.QueueGenericWorkItem r c) = may_start (routine_of cs r)
  fallible_within _ = true

  -- a test asks for nothing
  abbrev pub condition_within : Condition → Bool
  condition_within (condition.Succeeds c) = fallible_within c
  condition_within (condition.Test x) = true

  -- a statement of a callback at a place, given those inside
  abbrev pub step_within : Place → Statement-F Bool → Bool
  step_within at (Statement-F.Act span x) = true
  step_within at (Statement-F.Call span c) = plain_within c
  step_within at (Statement-F.Return span st) = return_within at st
  step_within at (Statement-F.If span asked granted refused) =
      condition_within asked && (list_all (λ b. b) granted && list_all (λ b. b) refused)
  step_within at (Statement-F.Repeat span turns block) = list_all (λ b. b) block

  -- all that a statement asks for may start
  abbrev pub statement_within : Place → Statement → Bool
  statement_within at = fold-Statement Bool (step_within at)

  -- all that statements ask for
  abbrev pub body_within : Place → List Statement → Bool
  body_within at body = list_all (λ b. b) (map (statement_within at) body)

-- the pre callbacks may start, and so may all that is asked for in a callback that may start
pub record IsClosed (cs : List Callback) (may_start : ℕ → Bool) : Type 0 where
  pub pre : (kind : Operation) → has_pre cs kind ≡ true → may_start (pre_number cs kind) ≡ true
  pub asked : (k : ℕ) → may_start k ≡ true → body_within cs may_start (place_at cs k) (body_at cs k) ≡ true
