-- Where a status is legal in a world: the table of statuses, read on what is so there.
-- Source: FLT_PREOP_CALLBACK_STATUS and FLT_POSTOP_CALLBACK_STATUS in the driver kit; what may be handed on is this project's
-- own rule.
use Rattle.std.specs.Prelude.{ℕ, Bool, true, false, not, ◌&&◌, ◌||◌, List, Option, Some, None}
use Rattle.flt_rules.specs.Place.{same_mode, same_stage, fits_stage, is_pre_create}
use Rattle.flt_rules.specs.Status as asked
use Rattle.flt_rules.specs.Status.{status_row, is_complete, is_with_callback}
use Rattle.flt_rules.specs.declared.call.Call.{Call}
use Rattle.flt_rules.specs.declared.call.Call.TheVariants as call
use Rattle.flt_rules.specs.declared.call.Possessed.{Possessed}
use Rattle.flt_rules.specs.declared.call.Possessed.TheVariants.{Given}
use Rattle.flt_rules.specs.declared.place.Mode.{Mode}
use Rattle.flt_rules.specs.declared.place.Mode.TheVariants.{Irp}
use Rattle.flt_rules.specs.declared.place.Place.{Place}
use Rattle.flt_rules.specs.declared.place.Place.TheVariants as place
use Rattle.flt_rules.specs.declared.place.Stage.TheVariants as stage
use Rattle.flt_rules.specs.declared.status.Possession.{Possession}
use Rattle.flt_rules.specs.declared.status.StatusRow.{StatusRow}
use Rattle.flt_rules.specs.declared.status.StatusWord.{StatusWord}
use Rattle.flt_tree.specs.Filter.{word_of, completes_pending}
use Rattle.flt_tree.specs.declared.filter.Filter.{Filter}
use Rattle.flt_tree.specs.declared.filter.Status.{Status}
use Rattle.flt_tree.specs.declared.variable.OperationVariable.TheVariants.{Data}
use Rattle.flt_model.specs.declared.event.Answer.{Answer}
use Rattle.flt_model.specs.declared.event.Answer.TheVariants.{Returned, CompletesPre, CompletesPost}
use Rattle.flt_model.specs.declared.event.Event.{Event}
use Rattle.flt_model.specs.declared.event.Object.TheVariants.{Visit}
use Rattle.flt_model.specs.Program.{callbacks_at, has_post, are_paired}
use Rattle.flt_model.specs.Trace.{is_held}
use Rattle.flt_model.specs.Variables.{operation_in}
use Rattle.flt_model.specs.World.{World, activation_at, actor_at, arrival_of, visit_at}

-- ---- returned

-- held, or given away
abbrev pub is_possessed : Bool → Possession → Bool
is_possessed held = asked.is_possessed held (not held)

-- the mode that a row asks for, if it asks for one
abbrev pub is_of_mode : Mode → Option Mode → Bool
is_of_mode m = asked.is_of_mode (same_mode m)

module _ (p : List Filter) (w : World) (t : List Event) (a : ℕ) where
  -- the status of a row may be returned about a visit
  abbrev pub fits_row : StatusRow → ℕ → Bool
  fits_row r v =
      let actor = actor_at w a in
      let arrival = arrival_of w.store v in
      fits_stage actor.place r.stage
      && (not r.needs_post || has_post (callbacks_at p actor.filter) arrival.kind)
      && (r.in_create || not (is_pre_create actor.place))
      && is_possessed (is_held t a (Visit v)) r.data
      && is_of_mode arrival.mode r.mode
      && (r.in_draining || not actor.draining)

  -- about a visit that is there, by the row of the status
  abbrev pub is_returned_legally : Status → Option ℕ → Bool
  is_returned_legally st None = false
  is_returned_legally st (Some v) = fits_row (status_row (word_of st)) v && not (completes_pending st)

  -- a status that is missing isn't legal
  abbrev pub may_return : Option Status → Bool
  may_return None = false
  may_return (Some st) = is_returned_legally st (operation_in (activation_at w a) Data)

  -- ---- handed on by FltCompletePendedPreOperation

  -- the given operation, in the callback of a cancelled queue entry, is completed by COMPLETE alone
  abbrev pub fits_canceled : Place → Possessed → StatusWord → Bool
  fits_canceled place.Canceled Given st = is_complete st
  fits_canceled _ _ st = true

  -- to a visit before the filters below; WITH_CALLBACK where each operation with a pre callback has a post callback
  abbrev pub may_hand : Possessed → ℕ → Status → Bool
  may_hand whose v st =
      same_stage (visit_at w.store v).stage stage.Pre
      && (status_row (word_of st)).handed
      && not (completes_pending st)
      && fits_canceled (actor_at w a).place whose (word_of st)
      && (not (is_with_callback (word_of st)) || are_paired (callbacks_at p (actor_at w a).filter))

  -- FINISHED_PROCESSING is for a visit after the filters below
  abbrev pub may_answer : Answer → Bool
  may_answer (Returned st) = may_return st
  may_answer (CompletesPre whose v st) = may_hand whose v st
  may_answer (CompletesPost v) = same_stage (visit_at w.store v).stage stage.Post

  -- ---- pended: only an I/O request packet may be queued or deferred

  -- the operation is an I/O request packet, if there is one
  abbrev pub is_packet : Option ℕ → Bool
  is_packet None = true
  is_packet (Some v) = same_mode (arrival_of w.store v).mode Irp

  -- the calls that queue or defer `data`
  abbrev pub may_pend : Call → Bool
  may_pend call.InsertIo = is_packet (operation_in (activation_at w a) Data)
  may_pend call.QueueDeferredIoWorkItem = is_packet (operation_in (activation_at w a) Data)
  may_pend _ = true
