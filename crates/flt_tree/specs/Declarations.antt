-- What a filter declares, and how its calls look it up: locks by kind and name, events by their heads, routines by name. This
-- project's own rules.
use Rattle.std.specs.Prelude.{◌≡◌, ℕ, Bool, true, false, not, ◌&&◌, List, [], ◌∷◌, ◌++◌, map, slice_get, Option, Some, None, position}
use Rattle.std.specs.List.{list_all, list_any}
use Rattle.std.specs.Str.{bytes_eq}
use denote.Enum.Bare.{sameb}
use Rattle.flt_rules.specs.contracts.call.LockKind.{the_type}
use Rattle.flt_rules.specs.Call.{lock_at, place_of}
use Rattle.flt_rules.specs.Place.{same_operation}
use Rattle.flt_rules.specs.declared.call.LockKind.{LockKind}
use Rattle.flt_rules.specs.declared.call.LockNumber.{LockNumber}
use Rattle.flt_tree.specs.Filter.{is_named}
use Rattle.flt_tree.specs.Names.{Text}
use Rattle.flt_tree.specs.declared.filter.Callback.{Callback}
use Rattle.flt_tree.specs.declared.filter.Condition.{Condition}
use Rattle.flt_tree.specs.declared.filter.Condition.TheVariants.{Succeeds}
use Rattle.flt_tree.specs.declared.filter.FallibleCall.{FallibleCall}
use Rattle.flt_tree.specs.declared.filter.FallibleCall.TheVariants.{QueueDeferredIoWorkItem, QueueGenericWorkItem}
use Rattle.flt_tree.specs.declared.filter.Head.{Head}
use Rattle.flt_tree.specs.declared.filter.Head.TheVariants.{Pre, Post, Canceled, DeferredPre, DeferredPost, Generic}
use Rattle.flt_tree.specs.declared.filter.Lock.{Lock}
use Rattle.flt_tree.specs.declared.filter.Position.{Position}
use Rattle.flt_tree.specs.declared.filter.Routine.{Routine}
use Rattle.flt_tree.specs.declared.filter.Statement.{Statement}
use Rattle.flt_tree.specs.declared.filter.Statement.TheOpen.{Statement-F}
use Rattle.flt_tree.specs.declared.filter.Statement.TheFolds.{fold-Statement}

-- ---- locks

-- whether one of the locks has the name
abbrev pub has_lock : Text → List Lock → Bool
has_lock name = list_any (λ l. bytes_eq l.name name)

-- none of the locks has the name of one before it
abbrev pub AreNewLocks : List Lock → List Lock → Type 0
AreNewLocks before [] = Unit {0}
AreNewLocks before (l ∷ ls) = (has_lock l.name before ≡ false) × AreNewLocks (before ++ l ∷ []) ls

-- `==` on kinds of lock
unfoldable pub same_lock_kind : LockKind → LockKind → Bool
same_lock_kind = sameb the_type

-- the place, from 0, of the lock of a kind and a name
abbrev pub lock_place : LockKind → Text → List Lock → Option ℕ
lock_place kind name = position (λ l. same_lock_kind l.kind kind && bytes_eq l.name name)

abbrev pub lock_at_place : Option ℕ → Option LockNumber
lock_at_place (Some place) = lock_at place
lock_at_place None = None

-- the lock of a kind and a name
abbrev pub lock_number : LockKind → Text → List Lock → Option LockNumber
lock_number kind name locks = lock_at_place (lock_place kind name locks)

-- the name of a lock, if it is there
abbrev pub name_of : Option Lock → Text
name_of None = []
name_of (Some l) = l.name

-- the name of the lock of a number
abbrev pub lock_name : List Lock → LockNumber → Text
lock_name locks l = name_of (slice_get locks (place_of l))

-- ---- callbacks

-- whether two heads are for the same event; routines are for none
abbrev pub same_event : Head → Head → Bool
same_event (Pre a) (Pre b) = same_operation a b
same_event (Post a) (Post b) = same_operation a b
same_event Canceled Canceled = true
same_event _ _ = false

-- whether one of the callbacks is for the event
abbrev pub has_event : Head → List Callback → Bool
has_event head = list_any (λ c. same_event c.head head)

-- whether one of the callbacks is a routine of the name
abbrev pub has_routine : Text → List Callback → Bool
has_routine name = list_any (λ c. is_named name c.head)

-- whether a head is declared among the callbacks: a routine by its name, whatever its kind, and an event as such
abbrev pub is_declared : Head → List Callback → Bool
is_declared (DeferredPre name) = has_routine name
is_declared (DeferredPost name) = has_routine name
is_declared (Generic name) = has_routine name
is_declared event = has_event event

-- none of the callbacks is declared among those before it
abbrev pub AreNewCallbacks : List Callback → List Callback → Type 0
AreNewCallbacks before [] = Unit {0}
AreNewCallbacks before (c ∷ cs) = (is_declared c.head before ≡ false) × AreNewCallbacks (before ++ c ∷ []) cs

-- whether it is a post callback without a pre callback of its operation
abbrev pub lacks_pre : List Callback → Head → Bool
lacks_pre cs (Post operation) = not (has_event (Pre operation) cs)
lacks_pre cs _ = false

-- where there is a queue, there is a `canceled`
abbrev pub IsServed : Option Position → List Callback → Type 0
IsServed None cs = Unit {0}
IsServed (Some at) cs = has_event Canceled cs ≡ true

-- ---- routines

-- an operation before its filters are passed is deferred to `deferred_pre`: from everywhere but a post callback
abbrev pub may_be_pre : Head → Bool
may_be_pre (Post operation) = false
may_be_pre _ = true

-- and one after to `deferred_post`: from everywhere but a pre callback
abbrev pub may_be_post : Head → Bool
may_be_post (Pre operation) = false
may_be_post _ = true

-- whether a deferred work item that is queued in a callback of the first head may run one of the other, by its name
abbrev pub runs_deferred : Head → Text → Head → Bool
runs_deferred from name (DeferredPre routine) = may_be_pre from && bytes_eq routine name
runs_deferred from name (DeferredPost routine) = may_be_post from && bytes_eq routine name
runs_deferred from name _ = false

-- whether a generic work item may run a callback of the head, by its name
abbrev pub runs_generic : Text → Head → Bool
runs_generic name (Generic routine) = bytes_eq routine name
runs_generic name _ = false

-- whether one of the callbacks is a routine that a deferred work item may run
abbrev pub has_deferred : Head → Text → List Callback → Bool
has_deferred from name = list_any (λ c. runs_deferred from name c.head)

-- whether one of the callbacks is a routine that a generic work item may run
abbrev pub has_generic : Text → List Callback → Bool
has_generic name = list_any (λ c. runs_generic name c.head)

-- whether the routine that a call in a callback of the head names, if it names one, is there and of the kind asked
abbrev pub finds_routine : List Callback → Head → FallibleCall Routine → Bool
finds_routine cs from (QueueDeferredIoWorkItem r context) = has_deferred from r.name cs
finds_routine cs from (QueueGenericWorkItem r context) = has_generic r.name cs
finds_routine cs from _ = true

-- the same of a test
abbrev pub test_finds : List Callback → Head → Condition → Bool
test_finds cs from (Succeeds call) = finds_routine cs from call
test_finds cs from _ = true

-- the same of a statement, given those inside
abbrev pub finds_step : List Callback → Head → Statement-F Bool → Bool
finds_step cs from (Statement-F.If line condition granted refused) =
    test_finds cs from condition && (list_all (λ b. b) granted && list_all (λ b. b) refused)
finds_step cs from (Statement-F.Repeat line turns body) = list_all (λ b. b) body
finds_step cs from _ = true

-- the same of a statement
abbrev pub statement_finds : List Callback → Head → Statement → Bool
statement_finds cs from = fold-Statement Bool (finds_step cs from)

-- the same of a body
abbrev pub finds_routines : List Callback → Head → List Statement → Bool
finds_routines cs from body = list_all (λ b. b) (map (statement_finds cs from) body)

-- each `post` has its `pre` among all callbacks, and each call the routine that it names
abbrev pub AreWhole : List Callback → List Callback → Type 0
AreWhole all [] = Unit {0}
AreWhole all (c ∷ cs) = (lacks_pre all c.head ≡ false) × (finds_routines all c.head c.body ≡ true) × AreWhole all cs
