-- The world at one moment: what the filters, operations, visits, contexts, queues, work items and activations are. All are
-- numbered from 0 in the order in which they came, and no number is used again; so what never changes stands in lists that
-- only grow. What isn't there has ended, is settled and counts nothing. The parts that programs keep as they are here are those of
-- `src/parts.rt`.
use Rattle.std.specs.Prelude.{ℕ, ◌+◌, ◌-◌, Bool, true, false, ◌&&◌, ◌==◌, if◌then◌else◌, List, [], Option, Some, None, get_or, set}
use Rattle.std.specs.Prelude.{replicate, position, map}
use Rattle.flt_rules.specs.declared.held.HeldLock.{HeldLock}
use Rattle.flt_rules.specs.declared.place.Mode.TheVariants.{Irp}
use Rattle.flt_rules.specs.declared.place.Operation.TheVariants.{Read}
use Rattle.flt_rules.specs.declared.place.Place.{Place}
use Rattle.flt_rules.specs.declared.place.Place.TheVariants.{Generic}
use Rattle.flt_rules.specs.declared.place.Stage.{Stage}
use Rattle.flt_rules.specs.declared.place.Stage.TheVariants.{Post}
use Rattle.flt_tree.specs.declared.filter.Filter.{Filter}
use Rattle.flt_tree.specs.declared.filter.Statement.{Statement}
use Rattle.flt_model.specs.declared.moves.Key.{Key}
use Rattle.flt_model.specs.declared.moves.Key.TheVariants.{Stream, Instance}
-- whether a filter's instance is there: teardown begins by detaching. Source: "Managing contexts", instance teardown callbacks
pub use Rattle.flt_model.specs.declared.parts.Presence.{Presence}
pub use Rattle.flt_model.specs.declared.parts.Presence.TheVariants.{Attached, Detaching, Detached}
-- what stands in a cancel-safe queue: `visit`, a pended operation's, and `context`, or none. Source: FltCbdqInsertIo
pub use Rattle.flt_model.specs.declared.parts.Entry.{Entry}
-- what an operation is: its `kind`, `mode` and `file`; it never changes
pub use Rattle.flt_model.specs.declared.parts.Arrival.{Arrival}
-- where an operation stands: at a filter on its way down, or below the last one; in a visit; or on its way up
pub use Rattle.flt_model.specs.declared.parts.Position.{Position}
pub use Rattle.flt_model.specs.declared.parts.Position.TheVariants.{Down, Visiting, Up}
-- how an operation ended at its lowest point: with a final status, or as a fast I/O that was disallowed
pub use Rattle.flt_model.specs.declared.parts.Outcome.{Outcome}
pub use Rattle.flt_model.specs.declared.parts.Outcome.TheVariants.{Completed, Disallowed}
-- what a context is linked to: the stream or the instance, `key`, of a `filter`. Source: FltSetStreamContext, FltSetInstanceContext
pub use Rattle.flt_model.specs.declared.parts.Link.{Link}
-- a queued work item: a `routine` of a `filter` by the number of its callback, and the `visit` and the `context` that it hands over.
-- Source: FltQueueDeferredIoWorkItem, FltQueueGenericWorkItem
pub use Rattle.flt_model.specs.declared.parts.Item.{Item}
-- an `activation` that holds a lock, and its `access`. Source: FltAcquirePushLockExclusive, FltAcquirePushLockShared
pub use Rattle.flt_model.specs.declared.parts.Holder.{Holder}

-- ---- filters

-- the filter sees operations
abbrev pub is_attached : Presence → Bool
is_attached Attached = true
is_attached _ = false

-- its teardown has begun
abbrev pub is_detaching : Presence → Bool
is_detaching Detaching = true
is_detaching _ = false

-- ---- operations and visits

-- a post callback that will be called, with its completion context. Source: FLT_PREOP_SUCCESS_WITH_CALLBACK
pub record Frame : Type 0 where
  pub filter : ℕ
  pub context : Option ℕ

-- how far an operation has come; its frames in the order of the filters
pub record Route : Type 0 where
  pub position : Position
  pub frames : List Frame
  pub cancelled : Bool
  pub outcome : Option Outcome

-- one passing of an operation through a filter, before or after those below it; draining is FLTFL_POST_OPERATION_DRAINING
pub record Visit : Type 0 where
  pub operation : ℕ
  pub filter : ℕ
  pub stage : Stage
  pub draining : Bool

-- ---- contexts and work items

-- a context with the filter that allocated it; it is freed when its references are gone. Source: FltAllocateContext
pub record Context : Type 0 where
  pub owner : ℕ
  pub references : ℕ
  pub value : ℕ
  pub link : Option Link

-- ---- activations

-- one run of a callback; it never changes
pub record Actor : Type 0 where
  pub filter : ℕ
  pub place : Place
  pub draining : Bool

-- how far it has come: the statements that remain, what its variables name, and the locks it holds, the oldest first.
-- A variable keeps its number when what it names is released or handed over
pub record Activation : Type 0 where
  pub rest : List Statement
  pub numbers : List ℕ
  pub contexts : List (Option ℕ)
  pub operations : List (Option ℕ)
  pub locks : List HeldLock
  pub ended : Bool

-- ---- the world

-- what activations share. By filter: presences, queues, and who holds each lock, in the order in which they took it. Items that
-- have started are gone
pub record Store : Type 0 where
  pub presences : List Presence
  pub queues : List (List Entry)
  pub holders : List (List (List Holder))
  pub arrivals : List Arrival
  pub routes : List Route
  pub visits : List Visit
  pub settled : List Bool
  pub contexts : List Context
  pub items : List (Option Item)

-- all that there is at a moment
pub record World : Type 0 where
  pub actors : List Actor
  pub activations : List Activation
  pub store : Store

-- before the first move there are only filters
abbrev pub opening : List Filter → World
opening p = record {
  actors = [];
  activations = [];
  store = record {
    presences = map (λ _. Attached) p;
    queues = map (λ _. []) p;
    holders = map (λ _. replicate 8 []) p;
    arrivals = [];
    routes = [];
    visits = [];
    settled = [];
    contexts = [];
    items = [];
  };
}

-- ---- what is there at a number

-- whether the filter of a number is there
abbrev pub presence_at : Store → ℕ → Presence
presence_at s f = get_or s.presences f Detached

-- the queue of a filter, the front entry first
abbrev pub queue_at : Store → ℕ → List Entry
queue_at s f = get_or s.queues f []

-- who holds each lock of a filter
abbrev pub holders_at : Store → ℕ → List (List Holder)
holders_at s f = get_or s.holders f []

-- an operation that isn't there
abbrev pub no_arrival : Arrival
no_arrival = record { kind = Read; mode = Irp; file = 0 }

-- what the operation of a number is
abbrev pub arrival_at : Store → ℕ → Arrival
arrival_at s o = get_or s.arrivals o no_arrival

-- how far one has come that isn't there
abbrev pub no_route : Route
no_route = record { position = Up; frames = []; cancelled = true; outcome = None }

-- how far the operation of a number has come
abbrev pub route_at : Store → ℕ → Route
route_at s o = get_or s.routes o no_route

-- a visit that isn't there
abbrev pub no_visit : Visit
no_visit = record { operation = 0; filter = 0; stage = Post; draining = true }

-- the visit of a number
abbrev pub visit_at : Store → ℕ → Visit
visit_at s v = get_or s.visits v no_visit

-- whether the filter's part in the operation is over
abbrev pub is_settled : Store → ℕ → Bool
is_settled s v = get_or s.settled v true

-- the operation that a visit is of
abbrev pub arrival_of : Store → ℕ → Arrival
arrival_of s v = arrival_at s (visit_at s v).operation

-- a context that isn't there
abbrev pub no_context : Context
no_context = record { owner = 0; references = 0; value = 0; link = None }

-- the context of a number
abbrev pub context_at : Store → ℕ → Context
context_at s x = get_or s.contexts x no_context

-- no reference is left
abbrev pub is_freed : Context → Bool
is_freed c = c.references == 0

-- the work item of a number, until it starts
abbrev pub item_at : Store → ℕ → Option Item
item_at s i = get_or s.items i None

-- an activation that isn't there
abbrev pub no_actor : Actor
no_actor = record { filter = 0; place = Generic; draining = false }

-- what the activation of a number is
abbrev pub actor_at : World → ℕ → Actor
actor_at w a = get_or w.actors a no_actor

-- how far one has come that isn't there
abbrev pub nobody : Activation
nobody = record { rest = []; numbers = []; contexts = []; operations = []; locks = []; ended = true }

-- how far the activation of a number has come
abbrev pub activation_at : World → ℕ → Activation
activation_at w a = get_or w.activations a nobody

-- ---- links

-- whether two keys are one
abbrev pub same_key : Key → Key → Bool
same_key (Stream f) (Stream g) = f == g
same_key Instance Instance = true
same_key _ _ = false

-- whether a context's link is this one
abbrev pub is_linked_to : Link → Option Link → Bool
is_linked_to l None = false
is_linked_to l (Some m) = (l.filter == m.filter) && same_key l.key m.key

-- the context that is linked there; a link has one at most
abbrev pub linked_at : Store → Link → Option ℕ
linked_at s l = position (λ (c : Context). is_linked_to l c.link) s.contexts

-- ---- changes

-- the operation has come so far
abbrev pub with_route : Store → ℕ → Route → Store
with_route s o r = record s { routes = set s.routes o r }

-- the filter's queue is this
abbrev pub with_queue : Store → ℕ → List Entry → Store
with_queue s f queue = record s { queues = set s.queues f queue }

-- the filter is so from now on
abbrev pub with_presence : Store → ℕ → Presence → Store
with_presence s f presence = record s { presences = set s.presences f presence }

-- the context is this from now on
abbrev pub with_context : Store → ℕ → Context → Store
with_context s x c = record s { contexts = set s.contexts x c }

-- one reference more; a freed context stays as it is
abbrev pub add_reference : Store → ℕ → Store
add_reference s x =
    let c = context_at s x in
    with_context s x (record c { references = if is_freed c then 0 else c.references + 1 })

-- one reference less; a freed context stays as it is
abbrev pub drop_reference : Store → ℕ → Store
drop_reference s x = let c = context_at s x in with_context s x (record c { references = c.references - 1 })

-- the context has this link from now on, or none
abbrev pub with_link : Store → ℕ → Option Link → Store
with_link s x l = with_context s x (record (context_at s x) { link = l })
