-- The faults that are reported once a text is read to its end. They are looked for in the order of the text: the queue stands
-- before the callbacks, and a head before its body; so the first one has the least position.
use Rattle.std.specs.Prelude.{Bool, if◌then◌else◌, List, [], ◌∷◌, map, Option, Some, None, option_map}
use Rattle.flt_syntax.specs.Cursor.{fault}
use Rattle.flt_syntax.specs.declared.fault.FaultKind.TheVariants.{E04, E07}
use Rattle.flt_syntax.specs.declared.fault.SyntaxFault.{SyntaxFault}
use Rattle.flt_tree.specs.Declarations.{has_event, has_deferred, has_generic, lacks_pre}
use Rattle.flt_tree.specs.declared.filter.Callback.{Callback}
use Rattle.flt_tree.specs.declared.filter.Condition.{Condition}
use Rattle.flt_tree.specs.declared.filter.Condition.TheVariants.{Succeeds}
use Rattle.flt_tree.specs.declared.filter.FallibleCall.{FallibleCall}
use Rattle.flt_tree.specs.declared.filter.FallibleCall.TheVariants.{QueueDeferredIoWorkItem, QueueGenericWorkItem}
use Rattle.flt_tree.specs.declared.filter.Filter.{Filter}
use Rattle.flt_tree.specs.declared.filter.Head.{Head}
use Rattle.flt_tree.specs.declared.filter.Head.TheVariants.{Canceled}
use Rattle.flt_tree.specs.declared.filter.Position.{Position}
use Rattle.flt_tree.specs.declared.filter.Routine.{Routine}
use Rattle.flt_tree.specs.declared.filter.Statement.{Statement}
use Rattle.flt_tree.specs.declared.filter.Statement.TheOpen.{Statement-F}
use Rattle.flt_tree.specs.declared.filter.Statement.TheFolds.{fold-Statement}

-- ---- the first of several

-- the first that is there of two
abbrev pub first_of : {A : Type 0} → Option A → Option A → Option A
first_of None b = b
first_of (Some a) b = Some a

-- the first that is there
abbrev pub first_some : {A : Type 0} → List (Option A) → Option A
first_some [] = None
first_some (a ∷ rest) = first_of a (first_some rest)

-- the place, unless something is found
abbrev pub unless : Bool → Position → Option Position
unless found at = if found then None else Some at

-- where a call names a routine that is not among the callbacks, or not of the kind asked
abbrev pub missing_in : List Callback → Head → FallibleCall Routine → Option Position
missing_in cs from (QueueDeferredIoWorkItem r context) = unless (has_deferred from r.name cs) r.position
missing_in cs from (QueueGenericWorkItem r context) = unless (has_generic r.name cs) r.position
missing_in cs from _ = None

-- the same of a test
abbrev pub missing_by : List Callback → Head → Condition → Option Position
missing_by cs from (Succeeds call) = missing_in cs from call
missing_by cs from _ = None

-- the same of a statement, whose blocks come after its test
abbrev pub missing_step : List Callback → Head → Statement-F (Option Position) → Option Position
missing_step cs from (Statement-F.Act span action) = None
missing_step cs from (Statement-F.Call span call) = None
missing_step cs from (Statement-F.Return span status) = None
missing_step cs from (Statement-F.If span condition granted refused) =
    first_of (missing_by cs from condition) (first_of (first_some granted) (first_some refused))
missing_step cs from (Statement-F.Repeat span turns body) = first_some body

-- where a statement first names a routine that is missing
abbrev pub missing_of : List Callback → Head → Statement → Option Position
missing_of cs from = fold-Statement (Option Position) (missing_step cs from)

-- where a body first names a routine that is missing
abbrev pub missing : List Callback → Head → List Statement → Option Position
missing cs from body = first_some (map (missing_of cs from) body)

-- ---- callbacks that others need

-- the first fault of a callback among the others
unfoldable pub callback_fault : List Callback → Callback → Option SyntaxFault
callback_fault cs c =
    if lacks_pre cs c.head then Some (fault E07 c.position) else option_map (fault E04) (missing cs c.head c.body)

-- the first fault of some of the callbacks
abbrev pub first_fault : List Callback → List Callback → Option SyntaxFault
first_fault cs some = first_some (map (callback_fault cs) some)

-- a queue wants a `canceled` callback
abbrev pub queue_fault : Option Position → List Callback → Option SyntaxFault
queue_fault None cs = None
queue_fault (Some at) cs = if has_event Canceled cs then None else Some (fault E07 at)

-- the first fault of a filter that was read
abbrev pub whole_fault : Filter → Option SyntaxFault
whole_fault f = first_of (queue_fault f.queue f.callbacks) (first_fault f.callbacks f.callbacks)
