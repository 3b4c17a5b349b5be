-- How statements take contexts on: through variables, references, the queue, work items and completion contexts.
-- Source: the driver kit's pages on the calls; that failing calls leave NULL is what the emitted source does.
use Rattle.std.specs.Prelude.{ℕ, ◌+◌, ◌==◌, Bool, true, false, not, ◌&&◌, ◌||◌, if◌then◌else◌}
use Rattle.std.specs.Prelude.{List, [], ◌∷◌, ◌++◌, map, flat_map, Option, Some, None}
use Rattle.flt_rules.specs.Place.{same_operation}
use Rattle.flt_rules.specs.declared.call.Call.{Call}
use Rattle.flt_rules.specs.declared.call.Call.TheVariants as call
use Rattle.flt_rules.specs.declared.place.Operation.{Operation}
use Rattle.flt_rules.specs.declared.place.Place.{Place}
use Rattle.flt_rules.specs.declared.place.Place.TheVariants as place
use Rattle.flt_tree.specs.Filter.{named_context}
use Rattle.flt_tree.specs.Variable.{context_place}
use Rattle.flt_tree.specs.declared.filter.Action.{Action}
use Rattle.flt_tree.specs.declared.filter.Action.TheVariants as action
use Rattle.flt_tree.specs.declared.filter.Test.{Test}
use Rattle.flt_tree.specs.declared.filter.Test.TheVariants as test
use Rattle.flt_tree.specs.declared.variable.ContextVariable.{ContextVariable}
use Rattle.flt_tree.specs.declared.variable.ContextVariable.TheVariants.{C0, C1, C2, C3, C4, C5, C6, C7, Arg}
use Rattle.flt_graph.specs.Graph.{place_at, instruction_at}
use Rattle.flt_graph.specs.Instruction.{roles}
use Rattle.flt_graph.specs.Points.{successor}
use Rattle.flt_graph.specs.declared.graph.CallbackGraph.{CallbackGraph}
use Rattle.flt_graph.specs.declared.graph.Graph.{Graph}
use Rattle.flt_graph.specs.declared.instruction.Instruction.{Instruction}
use Rattle.flt_graph.specs.declared.instruction.Instruction.TheVariants as instruction
use Rattle.flt_graph.specs.declared.instruction.Invocation.{Invocation}
use Rattle.flt_kinds.specs.declared.slot.Flow.{Flow}
use Rattle.flt_kinds.specs.declared.slot.Slot.{Slot}
use Rattle.flt_kinds.specs.declared.slot.Slot.TheVariants.{Queue, Variable}
use Rattle.flt_kinds.specs.declared.slot.Spot.{Spot}

-- ---- slots

abbrev pub spot : ℕ → ℕ → Spot
spot callback point = record { callback = callback; point = point }

-- what a callback is given
abbrev pub argument : ℕ → Slot
argument callback = Variable (spot callback 0) Arg

abbrev pub flow : Option ContextVariable → Slot → Flow
flow from to = record { from = from; to = to }

-- where the context of a flow is before the statement at a point
abbrev pub source : ℕ → ℕ → Option ContextVariable → Slot
source callback point None = Queue
source callback point (Some v) = Variable (spot callback point) v

-- ---- variables that keep their contexts

abbrev pub variables : List ContextVariable
variables = C0 ∷ C1 ∷ C2 ∷ C3 ∷ C4 ∷ C5 ∷ C6 ∷ C7 ∷ Arg ∷ []

abbrev pub same_context : ContextVariable → ContextVariable → Bool
same_context v d = context_place v == context_place d

abbrev pub is_context : ContextVariable → Option ContextVariable → Bool
is_context v None = false
is_context v (Some d) = same_context v d

abbrev pub keeps_in_action : Action → ContextVariable → Bool
keeps_in_action (action.ClearContext d) v = not (same_context v d)
keeps_in_action _ v = true

abbrev pub keeps_in_test : Test → Bool → ContextVariable → Bool
keeps_in_test (test.ContextIsSome d) outcome v = outcome || not (same_context v d)
keeps_in_test _ outcome v = true

-- whether a variable has after a statement, as it comes out, the context that it had before: it is set neither by the statement nor by its
-- call, be that granted or not, and isn't found to be NULL
abbrev pub keeps : Instruction → Bool → ContextVariable → Bool
keeps (instruction.Act a next) outcome v = keeps_in_action a v
keeps (instruction.Call i granted failed) outcome v = not (is_context v (roles i).output)
keeps (instruction.Test t granted refused) outcome v = keeps_in_test t outcome v
keeps _ outcome v = true

abbrev pub stay_flow : ℕ → Instruction → Bool → ℕ → ContextVariable → List Flow
stay_flow callback i outcome next v = if keeps i outcome v then flow (Some v) (Variable (spot callback next) v) ∷ [] else []

abbrev pub stays_at : ℕ → Instruction → Bool → Option ℕ → List Flow
stays_at callback i outcome (Some next) = flat_map (stay_flow callback i outcome next) variables
stays_at callback i outcome None = []

-- contexts stay in variables, as a statement comes out
unfoldable pub stays : ℕ → Instruction → Bool → List Flow
stays callback i outcome = stays_at callback i outcome (successor i outcome)

-- ---- contexts that are handed over

-- whether a post callback goes on with an operation of a kind, or of any
abbrev pub is_followed : Option Operation → Place → Bool
is_followed None (place.Post op) = true
is_followed (Some kind) (place.Post op) = same_operation kind op
is_followed _ _ = false

abbrev pub followed_by : Option Operation → ℕ → Place → List Slot
followed_by kind callback at = if is_followed kind at then argument callback ∷ [] else []

-- what the post callbacks are given, from a number on
abbrev pub followed : Option Operation → ℕ → List CallbackGraph → List Slot
followed kind number [] = []
followed kind number (c ∷ cs) = followed_by kind number c.place ++ followed kind (number + 1) cs

-- the variable that receives a context where a call is granted
abbrev pub received : ℕ → ℕ → Option ContextVariable → List Slot
received callback granted None = []
received callback granted (Some d) = Variable (spot callback granted) d ∷ []

-- what a routine is given
abbrev pub started : Option ℕ → List Slot
started None = []
started (Some routine) = argument routine ∷ []

-- where a call takes the context that it names
abbrev pub destinations : Graph → ℕ → Invocation → ℕ → Call → List Slot
destinations g callback i granted call.ReferenceContext = received callback granted i.output
destinations g callback i granted call.InsertIo = Queue ∷ []
destinations g callback i granted call.QueueDeferredIoWorkItem = started i.routine
destinations g callback i granted call.QueueGenericWorkItem = started i.routine
destinations g callback i granted (call.CompletePendedPreOperation whose) = followed None 0 g.callbacks
destinations g callback i granted _ = []

abbrev pub from_named : Option ContextVariable → List Slot → List Flow
from_named None to = []
from_named (Some v) to = map (flow (Some v)) to

-- what a call takes out of the queue
abbrev pub removed : Call → ℕ → ℕ → Option ContextVariable → List Flow
removed call.RemoveNextIo callback granted output = map (flow None) (received callback granted output)
removed _ callback granted output = []

-- the kind of the operations that a place passes on; those of a routine may be of any
abbrev pub passed_on : Place → Option Operation
passed_on (place.Pre kind) = Some kind
passed_on _ = None

-- contexts that a statement hands over
unfoldable pub handed : Graph → ℕ → Instruction → List Flow
handed g callback (instruction.Call i granted failed) =
    from_named (roles i).context (destinations g callback (roles i) granted (roles i).call)
    ++ removed (roles i).call callback granted (roles i).output
handed g callback (instruction.Return status) =
    from_named (named_context status) (followed (passed_on (place_at g callback)) 0 g.callbacks)
handed g callback _ = []

abbrev pub is_canceled : Place → Bool
is_canceled place.Canceled = true
is_canceled _ = false

-- an operation that is canceled leaves the queue with its context
unfoldable pub entered : Graph → ℕ → ℕ → List Flow
entered g callback point =
    if (point == 0) && is_canceled (place_at g callback) then flow None (argument callback) ∷ [] else []

-- ---- all of them

-- how the statement at a point takes contexts on
unfoldable pub flows : Graph → ℕ → ℕ → List Flow
flows g callback point =
    stays callback (instruction_at g callback point) true ++ (stays callback (instruction_at g callback point) false
    ++ (handed g callback (instruction_at g callback point) ++ entered g callback point))
