-- Short names for the trees and the journals of worked runs. Everything stands on line 1, and names are a byte or none.
use Rattle.std.specs.Prelude.{ℕ, true, List, [], ◌∷◌, Option, Some, None, option_and_then, option_map, map}
use Rattle.flt_rules.specs.declared.call.LockKind.{LockKind}
use Rattle.flt_rules.specs.declared.held.HeldLock.{HeldLock}
use Rattle.flt_rules.specs.declared.place.Mode.TheVariants.{Irp}
use Rattle.flt_rules.specs.declared.place.Operation.{Operation}
use Rattle.flt_tree.specs.declared.filter.Callback.{Callback}
use Rattle.flt_tree.specs.declared.filter.Condition.TheVariants as condition
use Rattle.flt_tree.specs.declared.filter.FallibleCall.{FallibleCall}
use Rattle.flt_tree.specs.declared.filter.Filter.{Filter}
use Rattle.flt_tree.specs.declared.filter.Head.{Head}
use Rattle.flt_tree.specs.declared.filter.Head.TheVariants as head
use Rattle.flt_tree.specs.declared.filter.Lock.{Lock}
use Rattle.flt_tree.specs.declared.filter.PlainCall.{PlainCall}
use Rattle.flt_tree.specs.declared.filter.PlainCall.TheVariants as plain
use Rattle.flt_tree.specs.declared.filter.Position.{Position as Place}
use Rattle.flt_tree.specs.declared.filter.Routine.{Routine}
use Rattle.flt_tree.specs.declared.filter.Span.{Span}
use Rattle.flt_tree.specs.declared.filter.Statement.{Statement, out-Statement}
use Rattle.flt_tree.specs.declared.filter.Statement.TheVariants as tree
use Rattle.flt_tree.specs.declared.filter.Status.{Status}
use Rattle.flt_tree.specs.declared.filter.Status.TheVariants as status
use Rattle.flt_tree.specs.declared.filter.Test.{Test}
use Rattle.flt_tree.specs.declared.filter.Test.TheVariants as test
use Rattle.flt_tree.specs.declared.variable.ContextVariable.{ContextVariable}
use Rattle.flt_tree.specs.declared.variable.ContextVariable.TheVariants.{Arg}
use Rattle.flt_model.specs.declared.moves.JournalEntry.{JournalEntry}
use Rattle.flt_model.specs.declared.moves.JournalEntry.TheVariants.{Move, Go}
use Rattle.flt_model.specs.declared.moves.Move.TheVariants as move
use Rattle.flt_model.specs.declared.verdict.Verdict.{Verdict}
use Rattle.flt_model.specs.Expansion.{expand, verdict}
use Rattle.flt_model.specs.Program.{by_altitude}
use Rattle.flt_model.specs.Runs.{Break, Moment, run, breaks}
use Rattle.flt_model.specs.Trace.{one_if, of_actor, gains, loses, frees, settles, is_held}
use Rattle.flt_model.specs.World.{Activation, Context, Outcome, Position, Route}
use Rattle.flt_model.specs.Violations.{is_live, holding, in_queue, owners}

-- ---- places

abbrev pub corner : Place
corner = record { line = 1; column = 1 }

abbrev pub here : Span
here = record { line = 1; start = 0; end = 0 }

-- ---- statements

abbrev pub call : PlainCall → Statement
call c = tree.Call here c

abbrev pub return : Status → Statement
return st = tree.Return here (Some st)

abbrev pub if_call : FallibleCall Routine → List Statement → List Statement → Statement
if_call c granted refused = tree.If here (condition.Succeeds c) granted refused

abbrev pub if_test : Test → List Statement → List Statement → Statement
if_test t holds fails = tree.If here (condition.Test t) holds fails

-- a context is released, where the variable isn't NULL
abbrev pub release_if : ContextVariable → Statement
release_if c = if_test (test.ContextIsSome c) (call (plain.ReleaseContext c) ∷ []) []

-- ---- filters

abbrev pub on : Head → List Statement → Callback
on head body = record { head = head; position = corner; span = here; body = body; end = here }

-- a pre callback that asks for its post callback, and a post callback that cleans up its completion context
abbrev pub passes : Operation → Callback
passes kind = on (head.Pre kind) (return (status.WithCallback None) ∷ [])

abbrev pub cleans_up : Operation → Callback
cleans_up kind = on (head.Post kind) (release_if Arg ∷ return status.FinishedProcessing ∷ [])

abbrev pub routine : ℕ → Routine
routine name = record { name = name ∷ []; position = corner }

abbrev pub lock : LockKind → Lock
lock kind = record { kind = kind; name = [] }

abbrev pub locking : List Lock → List Callback → Filter
locking locks callbacks = record { name = []; altitude = 100; locks = locks; queue = None; callbacks = callbacks }

abbrev pub filter : ℕ → List Callback → Filter
filter altitude callbacks = record { name = []; altitude = altitude; locks = []; queue = Some corner; callbacks = callbacks }

-- ---- entries of a journal; operations come as I/O request packets on file 0

abbrev pub arrive : Operation → JournalEntry
arrive kind = Move (move.Arrive kind Irp 0)

abbrev pub pre : ℕ → JournalEntry
pre o = Move (move.Pre o)

abbrev pub lower : ℕ → JournalEntry
lower o = Move (move.Lower o)

abbrev pub post : ℕ → JournalEntry
post o = Move (move.Post o)

abbrev pub cancel : ℕ → JournalEntry
cancel o = Move (move.Cancel o)

abbrev pub canceled : ℕ → JournalEntry
canceled o = Move (move.Canceled 100 o)

abbrev pub go : ℕ → ℕ → JournalEntry
go a n = Go a n true

-- ---- what a journal leads to

-- the run of a journal
abbrev pub played : List Filter → List JournalEntry → Option Moment
played filters entries = option_and_then (run (by_altitude filters)) (expand entries)

-- the references of its contexts at its end, and the outcomes of its operations
abbrev pub references_after : List Filter → List JournalEntry → Option (List ℕ)
references_after filters entries =
    option_map (λ m. map (λ (c : Context). c.references) m.world.store.contexts) (played filters entries)

abbrev pub outcomes_after : List Filter → List JournalEntry → Option (List (Option Outcome))
outcomes_after filters entries = option_map (λ m. map (λ (r : Route). r.outcome) m.world.store.routes) (played filters entries)

-- where its operations stand then, and the locks of its activations
abbrev pub positions_after : List Filter → List JournalEntry → Option (List Position)
positions_after filters entries = option_map (λ m. map (λ (r : Route). r.position) m.world.store.routes) (played filters entries)

abbrev pub locks_after : List Filter → List JournalEntry → Option (List (List HeldLock))
locks_after filters entries = option_map (λ m. map (λ (act : Activation). act.locks) m.world.activations) (played filters entries)

-- its first break
abbrev pub broken_by : List Filter → List JournalEntry → Option Break
broken_by filters entries = option_and_then (breaks (by_altitude filters)) (expand entries)

-- the definitions that a worked run computes with
unfoldable pub computed : List Filter → List JournalEntry → Verdict
unfolding out-Statement one_if of_actor gains loses frees settles is_held is_live holding in_queue owners denote.Hole.Carrier.out
    Rattle.flt_tree.specs.declared.filter.Statement.TheBlock.shown-the_row-Statement-0 denote.Hole.Carrier.shown denote.Hole.Carrier.hidden
computed filters entries = verdict filters entries
