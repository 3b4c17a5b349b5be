-- What is told of a journal, entry by entry in the machine's world: it reads neither what a step breaks nor any event. This project's own
-- definitions.
use Rattle.std.specs.Prelude.{◌≡◌, ℕ, zero, suc, ◌+◌, ◌-◌, ◌==◌, Bool, true, false, nat_lt, if◌then◌else◌, List, [], ◌∷◌, ◌++◌}
use Rattle.std.specs.Prelude.{count_by, length, map, Option, Some, None, Result, Ok, Err, is_some, option_map, slice_get}
use Rattle.flt_tree.specs.declared.filter.Filter.{Filter}
use Rattle.flt_tree.specs.declared.variable.OperationVariable.TheVariants.{Data}
use Rattle.flt_replay_course.specs.Leading.{after_step}
use Rattle.flt_model.specs.declared.moves.JournalEntry.{JournalEntry}
use Rattle.flt_model.specs.declared.moves.JournalEntry.TheVariants as entries
use Rattle.flt_model.specs.declared.moves.Move.{Move}
use Rattle.flt_model.specs.declared.moves.Move.TheVariants as moves
use Rattle.flt_model.specs.declared.verdict.Verdict.{Verdict}
use Rattle.flt_model.specs.declared.verdict.Verdict.TheVariants as verdicts
use Rattle.flt_model.specs.Effects.{Step}
use Rattle.flt_model.specs.LocalSteps.{local_step}
use Rattle.flt_model.specs.Steps.{Make, Board, local}
use Rattle.flt_model.specs.Variables.{operation_in}
use Rattle.flt_model.specs.declared.parts.Item.{Item}
use Rattle.flt_model.specs.World.{World, Store, activation_at, actor_at, item_at, opening, visit_at}
use Rattle.flt_explain_timeline.specs.Callbacks.{end_line, next_line, start_of}
use Rattle.flt_explain_timeline.specs.Columns.{alive_in, arrived, begun, column_of, gone_on, opened, was_on}
use Rattle.flt_explain_timeline.specs.Outcomes.{shows, sign_of}
use Rattle.flt_explain_timeline.specs.Refusals.{of_move, of_step}
use Rattle.flt_explain_timeline.specs.declared.columns.Columns.{Columns}
use Rattle.flt_explain_timeline.specs.declared.course.Progress.{Progress}
use Rattle.flt_explain_timeline.specs.declared.refusal.Refusal.{Refusal}
use Rattle.flt_explain_timeline.specs.declared.refusal.Refusal.TheVariants as refusals
use Rattle.flt_explain_timeline.specs.declared.running.Run.{Run}
use Rattle.flt_explain_timeline.specs.declared.running.Scene.{Scene}
use Rattle.flt_explain_timeline.specs.declared.running.DescribedEntry.{DescribedEntry}
use Rattle.flt_explain_timeline.specs.declared.telling.Column.TheVariants.{Margin}
use Rattle.flt_explain_timeline.specs.declared.telling.Happening.{Happening}
use Rattle.flt_explain_timeline.specs.declared.telling.Happening.TheVariants as happenings
use Rattle.flt_explain_timeline.specs.declared.telling.StartedCallback.{StartedCallback}
use Rattle.flt_explain_timeline.specs.declared.telling.Who.{Who}

-- what comes of an entry: what is told of it, and what is there after it; or why it isn't enabled
pub data Entered : Type 0 where
  Goes : (here : DescribedEntry) → (after : Scene) → Entered
  Stops : (why : Refusal) → Entered

-- nobody was on
abbrev pub nobody : Who
nobody = record { operation = None; activation = None; ends = false }

-- what is told of an entry, after it, in this world and with these columns
abbrev pub told_in : World → Columns → Who → Option StartedCallback → Happening → DescribedEntry
told_in w all who resumed happening = record {
  telling = record {
    column = column_of all.tenants who.operation;
    alive = alive_in w.store all.tenants;
    resumed = resumed;
    happening = happening;
  };
  who = who;
}

-- what is told of an entry that changes nothing, in the margin; the columns are those of the last entry that was made
abbrev pub aside : ℕ → Happening → DescribedEntry
aside alive happening = record {
  telling = record { column = Margin; alive = alive; resumed = None; happening = happening };
  who = nobody;
}

-- ---- a callback starts

-- the operation that an activation is about, if it is about one
abbrev pub operation_on : World → ℕ → Option ℕ
operation_on w a = option_map (λ v. (visit_at w.store v).operation) (operation_in (activation_at w a) Data)

-- the routine of the work item that a move starts
abbrev pub routine_of : Store → Move → Option ℕ
routine_of s (moves.Work i) = option_map (λ (item : Item). item.routine) (item_at s i)
routine_of s _ = None

-- the callback that it runs is on in its operation's column
abbrev pub after_start : List Filter → World → Columns → List Run → ℕ → Option ℕ → Entered
after_start p w all runs a routine =
    let started = start_of p (actor_at w a) routine in
    let operation = operation_on w a in
    let now = begun all (column_of all.tenants operation) a in
    Goes
    (told_in w now (record { operation = operation; activation = Some a; ends = false }) None (happenings.Starts started))
    (record { world = w; columns = now; runs = runs ++ record { operation = operation; started = started } ∷ [] })

-- ---- a move that starts nothing

-- the operation that it is about, if it is about one: one that arrives is the last one
abbrev pub operation_of : Store → Move → Option ℕ
operation_of s (moves.Arrive kind mode file) = Some (length s.routes - 1)
operation_of s (moves.Skip o) = Some o
operation_of s (moves.Lower o) = Some o
operation_of s (moves.Cancel o) = Some o
operation_of s _ = None

-- what it comes to
abbrev pub happening_of : Move → Happening
happening_of (moves.Arrive kind mode file) = happenings.Arrives kind mode file
happening_of (moves.Skip o) = happenings.Skips
happening_of (moves.Lower o) = happenings.Lowers
happening_of (moves.Cancel o) = happenings.Cancels
happening_of (moves.Detach altitude) = happenings.Detaches altitude
happening_of (moves.Unlink altitude key) = happenings.Unlinks altitude key
happening_of (moves.Detached altitude) = happenings.IsDetached altitude
happening_of move = happenings.IsRefused (entries.Move move)

-- an operation that arrives takes a column
abbrev pub columns_after : Store → Columns → Move → Columns
columns_after s all (moves.Arrive kind mode file) = arrived s all (length s.routes - 1)
columns_after s all _ = all

-- the system was on
abbrev pub after_system : Scene → Move → World → Entered
after_system s move w =
    let now = columns_after w.store s.columns move in
    Goes
    (told_in w now (record { operation = operation_of w.store move; activation = None; ends = false }) None (happening_of move))
    (record { world = w; columns = now; runs = s.runs })

-- ---- moves

-- a move was made: a callback has started, or none
abbrev pub after_move : List Filter → Scene → Move → World → Entered
after_move p s move w =
    let before = length s.world.activations in
    if nat_lt before (length w.activations)
    then after_start p w s.columns s.runs before (routine_of s.world.store move)
    else after_system s move w

-- it isn't enabled, or was made
abbrev pub entered_by : Refusal → (World → Entered) → Option World → Entered
entered_by why onward None = Stops why
entered_by why onward (Some w) = onward w

-- a move
abbrev pub move_entry : List Filter → Scene → Move → Entered
move_entry p s move = entered_by (of_move p s.world.store move) (after_move p s move) (after_step p s.world [] (Make move))

-- ---- an activation goes on

-- where it comes to: a world and what happened, or why it can't
pub data Gone : Type 0 where
  Comes : (world : World) → (happening : Happening) → Gone
  Stays : (why : Refusal) → Gone

module _ (p : List Filter) (a : ℕ) (grant : Bool) (filter end : ℕ) where
  -- what the step that others see came to, from one world to another: the number of the filter, its line, and how a call or a test in it
  -- came out
  abbrev pub ran : World → World → Happening
  ran w u =
      let rest = (activation_at w a).rest in
      happenings.Runs filter (next_line end rest) (option_map (shows u a) (sign_of w a grant rest))

  -- it isn't enabled, or was made
  abbrev pub gone_by : World → Option World → Gone
  gone_by w None = let act = activation_at w a in Stays (of_step (is_some (local_step (actor_at w a).draining act act.rest)) grant)
  gone_by w (Some u) = Comes u (ran w u)

  -- the step that others see
  abbrev pub seen : World → Gone
  seen w = gone_by w (after_step p w [] (Board a grant))

  -- a step that nobody else sees, after so many; or another step comes there
  abbrev pub unless_seen : ℕ → (World → Gone) → Option Step → Gone
  unless_seen made onward None = Stays (refusals.IsSeen (made + 1))
  unless_seen made onward (Some s) = onward s.world

  -- after so many steps that nobody else sees, so many more of them, and then one that others see
  unfoldable pub go_from : ℕ → ℕ → World → Gone
  go_from made zero w = seen w
  go_from made (suc more) w = unless_seen made (go_from (made + 1) more) (local [] [] w a)

  -- by so many steps, one at least, unless the activation has ended
  abbrev pub go : ℕ → World → Gone
  go steps w =
      if (activation_at w a).ended then Stays refusals.HasEnded
      else if steps == 0 then Stays refusals.NoStep
      else go_from 0 (steps - 1) w

-- its callback is named where another was the last one in the column
abbrev pub resumed_if : Bool → StartedCallback → Option StartedCallback
resumed_if on started = if on then None else Some started

-- an activation has gone on
abbrev pub after_run : Scene → ℕ → Run → Gone → Entered
after_run s a run (Stays why) = Stops why
after_run s a run (Comes w happening) =
    let ends = (activation_at w a).ended in
    let column = column_of s.columns.tenants run.operation in
    let now = gone_on s.columns column a ends in
    Goes
    (told_in w now (record { operation = run.operation; activation = Some a; ends = ends })
    (resumed_if (was_on s.columns.tenants column a) run.started) happening)
    (record { world = w; columns = now; runs = s.runs })

-- one that has started
abbrev pub go_entry : List Filter → Scene → ℕ → ℕ → Bool → Option Run → Entered
go_entry p s a steps grant None = Stops refusals.NoActivation
go_entry p s a steps grant (Some run) = after_run s a run (go p a grant run.started.filter (end_line p run.started) steps s.world)

-- ---- entries

-- an entry
abbrev pub entry_of : List Filter → Scene → JournalEntry → Entered
entry_of p s (entries.Move move) = move_entry p s move
entry_of p s (entries.Go a steps grant) = go_entry p s a steps grant (slice_get s.runs a)

-- a run ends with the entry that the verdict names, if it names one
abbrev pub ends_at : Verdict → ℕ → Bool
ends_at verdicts.Legal number = false
ends_at (verdicts.NotARun last) number = last == number
ends_at (verdicts.Breaks violation last) number = last == number

-- the run ends with it
abbrev pub ending : DescribedEntry → DescribedEntry
ending here = record here { who = record here.who { ends = true } }

-- the same, if it ends with it
abbrev pub ending_if : Bool → DescribedEntry → DescribedEntry
ending_if ends here = if ends then ending here else here

-- what an entry comes to that isn't enabled
abbrev pub not_enabled : JournalEntry → Happening
not_enabled e = happenings.IsRefused e

-- entries after the end of the run are left out
abbrev pub left_out : ℕ → List JournalEntry → List DescribedEntry
left_out alive es = map (λ _. aside alive happenings.IsLeftOut) es

-- an entry that isn't enabled or that the verdict names is the last one; others follow another one
abbrev pub followed : JournalEntry → ℕ → List JournalEntry → Bool → Entered → (ℕ → Scene → List DescribedEntry) → List DescribedEntry
followed e alive es ends (Stops why) onward = ending (aside alive (not_enabled e)) ∷ left_out alive es
followed e alive es true (Goes here after) onward = ending here ∷ left_out here.telling.alive es
followed e alive es false (Goes here after) onward = here ∷ onward here.telling.alive after

-- what is told of each entry, where so many are before them
unfoldable pub told_from : List Filter → Verdict → ℕ → ℕ → Scene → List JournalEntry → List DescribedEntry
told_from p v number alive s [] = []
told_from p v number alive s (e ∷ es) =
    followed e alive es (ends_at v number) (entry_of p s e) (λ bits after. told_from p v (number + 1) bits after es)

-- why the entry that ends the run isn't enabled, if it isn't
abbrev pub refused_by : Bool → Entered → (Scene → Option Refusal) → Option Refusal
refused_by ends (Stops why) onward = Some why
refused_by true (Goes here after) onward = None
refused_by false (Goes here after) onward = onward after

-- the same of entries where so many are before them
unfoldable pub refused_from : List Filter → Verdict → ℕ → Scene → List JournalEntry → Option Refusal
refused_from p v number s [] = None
refused_from p v number s (e ∷ es) =
    refused_by (ends_at v number) (entry_of p s e) (λ after. refused_from p v (number + 1) after es)

-- ---- a journal

-- whether an operation arrives
abbrev pub is_arrival : JournalEntry → Bool
is_arrival (entries.Move (moves.Arrive kind mode file)) = true
is_arrival _ = false

-- before the first entry
abbrev pub scene_before : List Filter → List JournalEntry → Scene
scene_before p journal = record { world = opening p; columns = opened (count_by is_arrival journal); runs = [] }

-- what is told of each entry of a journal on these filters, of which this is the verdict
abbrev pub told_of : List Filter → Verdict → List JournalEntry → List DescribedEntry
told_of p v journal = told_from p v 0 0 (scene_before p journal) journal

-- why the entry that ends the run isn't enabled, if it isn't
abbrev pub refused_of : List Filter → Verdict → List JournalEntry → Option Refusal
refused_of p v journal = refused_from p v 0 (scene_before p journal) journal

-- ---- the entries that come next

-- before the first entry
abbrev pub unstarted : Progress
unstarted = record { is_over = false; alive = 0; refusal = None }

-- what is told of the entries that come next, by how far the run was told
abbrev pub next_told : List Filter → Verdict → Progress → ℕ → Scene → List JournalEntry → List DescribedEntry
next_told p v progress number s es = if progress.is_over then left_out progress.alive es else told_from p v number progress.alive s es

-- why the entry that ended the run isn't enabled, or one of those that come next
abbrev pub next_refused : List Filter → Verdict → Progress → ℕ → Scene → List JournalEntry → Option Refusal
next_refused p v progress number s es = if progress.is_over then progress.refusal else refused_from p v number s es

-- ---- what functions answer

-- what came of going on, or why it couldn't, and the world after it
abbrev pub IsGone : Result Happening Refusal → World → Gone → Type 0
IsGone (Ok happening) w gone = gone ≡ Comes w happening
IsGone (Err why) w gone = gone ≡ Stays why

-- what is told of an entry that was made, and the scene after it
abbrev pub GoesTo : DescribedEntry → Scene → Entered → Type 0
GoesTo here after entered = entered ≡ Goes here after

-- the same, or why it isn't enabled
abbrev pub IsEntered : Result DescribedEntry Refusal → Scene → Entered → Type 0
IsEntered (Ok here) after entered = GoesTo here after entered
IsEntered (Err why) after entered = entered ≡ Stops why
