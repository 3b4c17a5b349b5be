-- What is never used (W06): locks, callbacks, statements and tests. This project's own program.
use Rattle.std.specs.Prelude.{ℕ, [], ◌∷◌, ◌++◌, codes, Option, Some, None}
use Rattle.std.specs.Fmt.{decimal}
use Rattle.std.specs.List.{concat}
use Rattle.flt_rules.specs.declared.call.LockNumber.{LockNumber}
use Rattle.flt_rules.specs.declared.place.Operation.{Operation}
use Rattle.flt_rules.specs.declared.place.Operation.TheVariants.{Create}
use Rattle.flt_rules.specs.declared.place.Place.{Place}
use Rattle.flt_rules.specs.declared.place.Place.TheVariants.{Post, Canceled, Generic}
use Rattle.flt_tree.specs.Names.{Text}
use Rattle.flt_tree.specs.Variable.{number_place}
use Rattle.flt_tree.specs.declared.filter.Test.TheVariants.{Equal, Less}
use Rattle.flt_tree.specs.declared.variable.NumberVariable.{NumberVariable}
use Rattle.flt_graph.specs.Graph.{place_at}
use Rattle.flt_graph.specs.declared.instruction.Instruction.{Instruction}
use Rattle.flt_graph.specs.declared.instruction.Instruction.TheVariants.{Test}
use Rattle.flt_explain_texts.specs.Page.{marked, quoted}
use Rattle.flt_explain_warnings.specs.declared.warning.Site.{Site}
use Rattle.flt_explain_warning_details.specs.Parsed.{Parsed, head, instruction, lock}

-- ---- locks

unfoldable pub lock_title : Parsed → LockNumber → Text
lock_title x l = quoted (lock x l) ++ codes " is declared and never taken"

abbrev pub lock_help : Text
lock_help = codes "remove the declaration, or take the lock where callbacks share a value"

-- ---- callbacks

-- that a callback at a place never runs, and why
abbrev pub never_runs : Place → Text
never_runs (Post kind) = codes " never runs: no status asks for it"
never_runs Canceled = codes " never runs: no operation is queued"
never_runs _ = codes " never runs: no call queues it"

unfoldable pub callback_title : Parsed → ℕ → Text
callback_title x callback = quoted (head x callback) ++ never_runs (place_at x.graph callback)

-- what to do with a post callback; a create can't be synchronized
abbrev pub post_help : Operation → Text
post_help Create = codes "return `WITH_CALLBACK` in its `pre` callback, or remove it"
post_help _ = codes "return `WITH_CALLBACK` or `SYNCHRONIZE` in its `pre` callback, or remove it"

abbrev pub canceled_help : Text
canceled_help = codes "queue operations by `FltCbdqInsertIo`, or remove it and the queue"

-- the call that queues a routine of a place
abbrev pub queueing : Place → Text
queueing Generic = codes "FltQueueGenericWorkItem"
queueing _ = codes "FltQueueDeferredIoWorkItem"

unfoldable pub routine_help : Place → Text
routine_help place = concat (codes "queue it by " ∷ marked (queueing place) ∷ codes ", or remove it" ∷ [])

-- what to do with a callback at a place
abbrev pub help_at : Place → Text
help_at (Post kind) = post_help kind
help_at Canceled = canceled_help
help_at place = routine_help place

abbrev pub callback_help : Parsed → ℕ → Text
callback_help x callback = help_at (place_at x.graph callback)

-- ---- statements

abbrev pub unreached_title : Text
unreached_title = codes "no path reaches this statement"

abbrev pub unreached_help : Text
unreached_help = codes "remove it, or change what ends each path before it"

-- ---- tests

-- the variable of numbers that an instruction tests
abbrev pub tested : Instruction → Option NumberVariable
tested (Test (Equal n a) granted refused) = Some n
tested (Test (Less n a) granted refused) = Some n
tested _ = None

-- a variable of numbers
abbrev pub number_told : Option NumberVariable → Text
number_told (Some n) = concat (codes "`n" ∷ decimal (number_place n) ∷ codes "`" ∷ [])
number_told None = codes "its variable"

-- the variable that a point tests
abbrev pub told_at : Parsed → Site → Text
told_at x s = number_told (tested (instruction x s))

unfoldable pub never_title : Parsed → Site → Text
never_title x s =
    concat (codes "nothing in the callback writes " ∷ told_at x s ∷ codes ", so this test never holds" ∷ [])

unfoldable pub never_help : Parsed → Site → Text
never_help x s = concat (codes "set " ∷ told_at x s ∷ codes " before the test, or remove the test" ∷ [])

abbrev pub never_note : Text
never_note = codes "a variable of numbers is 0 where its callback begins"
