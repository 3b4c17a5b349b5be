-- The run of a journal, entry by entry: which activation starts or continues, and where that is. This project's own definitions.
use Rattle.std.specs.Prelude.{◌≡◌, ℕ, zero, suc, Bool, List, [], ◌∷◌, ◌++◌, Option, Some}
use Rattle.std.specs.Prelude.{None, if◌then◌else◌, length, nat_lt, option_map, slice_get}
use Rattle.flt_tree.specs.declared.filter.Callback.{Callback}
use Rattle.flt_tree.specs.declared.filter.Filter.{Filter}
use Rattle.flt_tree.specs.declared.filter.Span.{Span}
use Rattle.flt_tree.specs.declared.filter.Statement.{Statement, out-Statement}
use Rattle.flt_model.specs.declared.moves.JournalEntry.{JournalEntry}
use Rattle.flt_model.specs.declared.moves.JournalEntry.TheVariants as entries
use Rattle.flt_model.specs.declared.moves.Move.{Move}
use Rattle.flt_model.specs.Program.{callbacks_at}
use Rattle.flt_model.specs.Steps.{Make, Board}
use Rattle.flt_model.specs.World.{World, activation_at, actor_at, opening}
use Rattle.flt_replay_course.specs.Leading.{after_step}
use Rattle.flt_replay_steps.specs.Unseen.{unseen}
use Rattle.flt_tree.specs.Filter.{span_of}
use Rattle.flt_explain_timeline.specs.Callbacks.{start_of}
use Rattle.flt_explain_timeline.specs.Course.{operation_on, routine_of}
use Rattle.flt_explain_timeline.specs.declared.telling.StartedCallback.{StartedCallback}
use Rattle.flt_explain_flows.specs.declared.running.Active.{Active}
use Rattle.flt_explain_flows.specs.declared.running.Course.{Course}
use Rattle.flt_explain_flows.specs.declared.running.Run.{Run}
use Rattle.flt_explain_flows.specs.declared.running.EntryActivation.{EntryActivation}

-- the outcome of an entry: what is kept of it, and how far the journal was run after it; or it isn't enabled
pub data Entered : Type 0 where
  Goes : (taken : EntryActivation) → (after : Course) → Entered
  Stops : Entered

-- ---- places

-- the place of a callback that isn't there
abbrev pub nowhere : Span
nowhere = record { line = 0; start = 0; end = 0 }

-- the head of a callback
abbrev pub head_of : Option Callback → Span
head_of (Some c) = c.span
head_of None = nowhere

-- the closing brace of a callback
abbrev pub end_of : Option Callback → Span
end_of (Some c) = c.end
end_of None = nowhere

-- the callback of an activation
abbrev pub callback_at : List Filter → StartedCallback → Option Callback
callback_at p started = slice_get (callbacks_at p started.filter) started.callback

-- the place of the next step, by the statements that remain: at the end of a body that of the closing brace
abbrev pub next_span : Span → List Statement → Span
next_span end [] = end
next_span end (s ∷ rest) = span_of (out-Statement s)

-- ---- moves

-- the filter manager does something that starts no callback
abbrev pub nobody : EntryActivation
nobody = record { activation = None; span = None }

-- a callback has started, as the activation of this number: it is at its head
abbrev pub after_start : List Filter → World → List Active → ℕ → Option ℕ → Entered
after_start p w actives a routine =
    let started = start_of p (actor_at w a) routine in
    Goes (record { activation = Some a; span = Some (head_of (callback_at p started)) })
    (record { world = w; actives = actives ++ record { started = started; operation = operation_on w a } ∷ [] })

-- a move was made: a callback has started, or none
abbrev pub after_move : List Filter → Course → Move → World → Entered
after_move p s move w =
    let before = length s.world.activations in
    if nat_lt before (length w.activations)
    then after_start p w s.actives before (routine_of s.world.store move)
    else Goes nobody (record { world = w; actives = s.actives })

-- it isn't enabled, or was made
abbrev pub entered_by : (World → Entered) → Option World → Entered
entered_by onward None = Stops
entered_by onward (Some w) = onward w

-- a move
abbrev pub move_entry : List Filter → Course → Move → Entered
move_entry p s move = entered_by (after_move p s move) (after_step p s.world [] (Make move))

-- ---- an activation continues

-- the outcome: the place of the step that others see, and the world after it; or one of the steps isn't enabled
pub data Gone : Type 0 where
  Comes : (span : Span) → (world : World) → Gone
  Stays : Gone

module _ (p : List Filter) (a : ℕ) (grant : Bool) (end : Span) where
  -- it isn't enabled, or was made
  abbrev pub gone_by : World → Option World → Gone
  gone_by w None = Stays
  gone_by w (Some u) = Comes (next_span end (activation_at w a).rest) u

  -- the step that others see
  abbrev pub seen : World → Gone
  seen w = gone_by w (after_step p w [] (Board a grant))

  -- the same after the steps that nobody else sees
  abbrev pub after_unseen : Option World → Gone
  after_unseen None = Stays
  after_unseen (Some w) = seen w

  -- so many steps, of which exactly the last is one that others see
  abbrev pub go : ℕ → World → Gone
  go zero w = Stays
  go (suc steps) w = after_unseen (unseen steps w a)

-- an activation has continued
abbrev pub after_go : Course → ℕ → Gone → Entered
after_go s a Stays = Stops
after_go s a (Comes span w) = Goes (record { activation = Some a; span = Some span }) (record { world = w; actives = s.actives })

-- one that has started
abbrev pub go_entry : List Filter → Course → ℕ → ℕ → Bool → Option Active → Entered
go_entry p s a steps grant None = Stops
go_entry p s a steps grant (Some active) = after_go s a (go p a grant (end_of (callback_at p active.started)) steps s.world)

-- ---- entries

-- an entry
abbrev pub entry_of : List Filter → Course → JournalEntry → Entered
entry_of p s (entries.Move move) = move_entry p s move
entry_of p s (entries.Go a steps grant) = go_entry p s a steps grant (slice_get s.actives a)

-- what is kept of one more entry, before others
abbrev pub with_first : EntryActivation → Run → Run
with_first taken run = record run { taken = taken ∷ run.taken }

-- an entry and those after it
abbrev pub ran_by : Entered → (Course → Option Run) → Option Run
ran_by Stops onward = None
ran_by (Goes taken after) onward = option_map (with_first taken) (onward after)

-- what is kept of some entries and of all activations; nothing if one of the entries isn't enabled
unfoldable pub ran_from : List Filter → Course → List JournalEntry → Option Run
ran_from p s [] = Some (record { taken = []; actives = s.actives })
ran_from p s (e ∷ es) = ran_by (entry_of p s e) (λ after. ran_from p after es)

-- before the first entry
abbrev pub course_before : List Filter → Course
course_before p = record { world = opening p; actives = [] }

-- what is kept of a journal's run on these filters, from the highest altitude; nothing if the journal isn't a run on them
abbrev pub run_of : List Filter → List JournalEntry → Option Run
run_of p journal = ran_from p (course_before p) journal

-- ---- what functions answer

-- the place of the step, if it was made, and the world after it
abbrev pub IsGone : Option Span → World → Gone → Type 0
IsGone (Some span) w gone = gone ≡ Comes span w
IsGone None w gone = gone ≡ Stays

-- what is kept of an entry, and how far the journal was run
abbrev pub GoesTo : EntryActivation → Course → Entered → Type 0
GoesTo taken after entered = entered ≡ Goes taken after

-- the same, if the entry is enabled
abbrev pub IsEntered : Option EntryActivation → Course → Entered → Type 0
IsEntered (Some taken) after entered = GoesTo taken after entered
IsEntered None after entered = entered ≡ Stops

-- what is kept of some entries, if all of them are enabled
abbrev pub IsRan : Option (List EntryActivation) → Course → Option Run → Type 0
IsRan (Some taken) after run = run ≡ Some (record { taken = taken; actives = after.actives })
IsRan None after run = run ≡ None
