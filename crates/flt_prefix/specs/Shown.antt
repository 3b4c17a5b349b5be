-- All that only the whole text shows, in the order of the text. The first of it is the fault, and it stands before the others.
use Rattle.std.specs.Prelude.{◌≡◌, ◌<◌, ◌⊎◌, Bool, if◌then◌else◌, List, [], ◌∷◌, ◌++◌, map, Option, Some, None}
use Rattle.flt_syntax.specs.Cursor.{fault}
use Rattle.flt_syntax.specs.Lex.{tokens}
use Rattle.flt_syntax.specs.TextFails.{Reads, WholeFails}
use Rattle.flt_syntax.specs.declared.fault.FaultKind.TheVariants.{E04, E07}
use Rattle.flt_syntax.specs.declared.fault.SyntaxFault.{SyntaxFault}
use Rattle.flt_tree.specs.Declarations.{has_event, has_deferred, has_generic, lacks_pre}
use Rattle.flt_tree.specs.Names.{Text}
use Rattle.flt_tree.specs.declared.filter.Callback.{Callback}
use Rattle.flt_tree.specs.declared.filter.Condition.{Condition}
use Rattle.flt_tree.specs.declared.filter.Condition.TheVariants.{Succeeds}
use Rattle.flt_tree.specs.declared.filter.FallibleCall.{FallibleCall}
use Rattle.flt_tree.specs.declared.filter.FallibleCall.TheVariants.{QueueDeferredIoWorkItem, QueueGenericWorkItem}
use Rattle.flt_tree.specs.declared.filter.Filter.{Filter}
use Rattle.flt_tree.specs.declared.filter.Head.{Head}
use Rattle.flt_tree.specs.declared.filter.Head.TheVariants.{Canceled}
use Rattle.flt_tree.specs.declared.filter.Position.{Position}
use Rattle.flt_tree.specs.declared.filter.Routine.{Routine}
use Rattle.flt_tree.specs.declared.filter.Statement.{Statement}
use Rattle.flt_tree.specs.declared.filter.Statement.TheOpen.{Statement-F}
use Rattle.flt_tree.specs.declared.filter.Statement.TheFolds.{fold-Statement}

-- several lists, one behind the other
abbrev pub all_of : {A : Type 0} → List (List A) → List A
all_of [] = []
all_of (xs ∷ rest) = xs ++ all_of rest

-- one, unless something is found
abbrev pub unless_found : {A : Type 0} → Bool → A → List A
unless_found found a = if found then [] else a ∷ []

-- the routine that a call names, where it isn't among the callbacks, or isn't of the kind that may be called from there
abbrev pub lacking_in : List Callback → Head → FallibleCall Routine → List Position
lacking_in cs from (QueueDeferredIoWorkItem r context) = unless_found (has_deferred from r.name cs) r.position
lacking_in cs from (QueueGenericWorkItem r context) = unless_found (has_generic r.name cs) r.position
lacking_in cs from _ = []

-- the same of a test
abbrev pub lacking_by : List Callback → Head → Condition → List Position
lacking_by cs from (Succeeds call) = lacking_in cs from call
lacking_by cs from _ = []

-- the same of a statement, given those of its blocks
abbrev pub lacking_step : List Callback → Head → Statement-F (List Position) → List Position
lacking_step cs from (Statement-F.Act span action) = []
lacking_step cs from (Statement-F.Call span call) = []
lacking_step cs from (Statement-F.Return span status) = []
lacking_step cs from (Statement-F.If span condition granted refused) =
    lacking_by cs from condition ++ (all_of granted ++ all_of refused)
lacking_step cs from (Statement-F.Repeat span turns body) = all_of body

-- all that a statement names so
abbrev pub lacking_of : List Callback → Head → Statement → List Position
lacking_of cs from = fold-Statement (List Position) (lacking_step cs from)

-- all that a body names so
abbrev pub lacking : List Callback → Head → List Statement → List Position
lacking cs from body = all_of (map (lacking_of cs from) body)

-- the faults of a callback among the others: a `post` without its `pre`, at its first word, and each routine that is missing
abbrev pub callback_shows : List Callback → Callback → List SyntaxFault
callback_shows cs c =
    (if lacks_pre cs c.head then fault E07 c.position ∷ [] else []) ++ map (fault E04) (lacking cs c.head c.body)

-- `queue` without `canceled`
abbrev pub queue_shows : Option Position → List Callback → List SyntaxFault
queue_shows None cs = []
queue_shows (Some at) cs = unless_found (has_event Canceled cs) (fault E07 at)

-- all that only the whole text shows
abbrev pub shown : Filter → List SyntaxFault
shown f = queue_shows f.queue f.callbacks ++ all_of (map (callback_shows f.callbacks) f.callbacks)

-- ---- places

-- the place of a fault
abbrev pub place : SyntaxFault → Position
place f = record { line = f.line; column = f.column }

-- a place before another one, in reading order
abbrev pub IsBefore : Position → Position → Type 0
IsBefore a b = (a.line < b.line) ⊎ ((a.line ≡ b.line) × (a.column < b.column))

-- a place before those of some faults
abbrev pub AreBehind : Position → List SyntaxFault → Type 0
AreBehind at [] = Unit {0}
AreBehind at (f ∷ fs) = IsBefore at (place f) × AreBehind at fs

-- the fault is the first of some, and stands before all others
pub record IsFirst (f : SyntaxFault) (fs : List SyntaxFault) : Type 0 where
  pub others : List SyntaxFault
  pub first : fs ≡ f ∷ others
  pub before : AreBehind (place f) others

-- of what only the whole text shows the fault is the first in the text
abbrev pub FirstInTheText : Type 0
FirstInTheText =
    (text : Text) (filter : Filter) (f : SyntaxFault) → Reads text (tokens text) filter → WholeFails filter f → IsFirst f (shown filter)
