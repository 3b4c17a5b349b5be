-- The C source of a filter. This project's own form, after the samples of the driver kit.
use Rattle.std.specs.Prelude.{Bool, true, false, List, [], ◌∷◌, flat_map, codes, decimal, is_some}
use Rattle.flt_rules.specs.declared.call.LockKind.{LockKind}
use Rattle.flt_rules.specs.declared.call.LockKind.TheVariants.{Spin, Fast, Push}
use Rattle.flt_rules.specs.declared.place.Operation.{Operation}
use Rattle.flt_tree.specs.Names.{Text}
use Rattle.flt_tree.specs.Registered.{has_post}
use Rattle.flt_tree.specs.declared.filter.Callback.{Callback}
use Rattle.flt_tree.specs.declared.filter.Filter.{Filter}
use Rattle.flt_tree.specs.declared.filter.Head.{Head}
use Rattle.flt_tree.specs.declared.filter.Head.TheVariants.{Pre}
use Rattle.flt_tree.specs.declared.filter.Lock.{Lock}
use Rattle.flt_emit.specs.Callbacks.{callbacks_text, prototypes_text}
use Rattle.flt_emit.specs.Fixed as fixed
use Rattle.flt_emit.specs.Line.{joined}
use Rattle.flt_emit.specs.Names.{major_name, operation_word}
use Rattle.flt_emit.specs.declared.scope.Allocation.{Allocation}

-- ---- locks

-- the type of a lock
abbrev pub lock_type : LockKind → Text
lock_type Spin = codes "    KSPIN_LOCK lock_"
lock_type Fast = codes "    FAST_MUTEX lock_"
lock_type Push = codes "    EX_PUSH_LOCK lock_"

-- a lock is declared
abbrev pub lock_field : Lock → Text
lock_field l = joined (lock_type l.kind ∷ l.name ∷ codes ";\n" ∷ [])

-- how the initialisation of a lock begins
abbrev pub initializer : LockKind → Text
initializer Spin = codes "    KeInitializeSpinLock( &Globals.lock_"
initializer Fast = codes "    ExInitializeFastMutex( &Globals.lock_"
initializer Push = codes "    FltInitializePushLock( &Globals.lock_"

-- a lock is initialised
abbrev pub lock_begun : Lock → Text
lock_begun l = joined (initializer l.kind ∷ l.name ∷ codes " );\n" ∷ [])

-- a push lock is deleted when the filter is unloaded; no other lock is
abbrev pub deleted : LockKind → Text → Text
deleted Push name = joined (codes "    FltDeletePushLock( &Globals.lock_" ∷ name ∷ codes " );\n" ∷ [])
deleted _ name = []

abbrev pub lock_deleted : Lock → Text
lock_deleted l = deleted l.kind l.name

-- and where the driver doesn't begin
abbrev pub discarded : LockKind → Text → Text
discarded Push name =
    joined (codes "    if (!NT_SUCCESS( status )) {\n        FltDeletePushLock( &Globals.lock_" ∷ name ∷ codes " );\n    }\n\n" ∷ [])
discarded _ name = []

abbrev pub lock_discarded : Lock → Text
lock_discarded l = discarded l.kind l.name

-- ---- registered operations

-- the post callback of an operation, if there is one
abbrev pub post_prefix : Bool → Text
post_prefix true = codes ", Post"
post_prefix false = codes ", NULL"

abbrev pub post_word : Bool → Operation → Text
post_word true op = operation_word op
post_word false op = []

-- the row of an operation
abbrev pub operation_row : Bool → Operation → Text
operation_row post op =
    joined (codes "    { IRP_MJ_" ∷ major_name op ∷ codes ", 0, Pre" ∷ operation_word op ∷ post_prefix post ∷ post_word post op
    ∷ codes ", NULL },\n" ∷ [])

-- a pre callback has a row
abbrev pub row_of : List Callback → Head → Text
row_of all (Pre op) = operation_row (has_post all op) op
row_of all _ = []

abbrev pub rows_of : List Callback → List Callback → Text
rows_of all = flat_map (λ c. row_of all c.head)

-- ---- the parts of a source

-- a part that only a filter with a queue has
abbrev pub where_queue : Bool → Text → Text
where_queue true part = part
where_queue false part = []

-- the first lines of the comment
unfoldable pub title : Filter → Text
title f =
    joined (fixed.comment_begin ∷ f.name ∷ fixed.source_title ∷ f.name ∷ fixed.altitude_title ∷ decimal f.altitude ∷ codes ".\n" ∷ [])

-- the writer's header is included
unfoldable pub included : Filter → Text
included f = joined (codes "#include \"" ∷ f.name ∷ codes "_user.h\"\n" ∷ [])

-- the comment and the headers
unfoldable pub front : Filter → Text
front f = joined (title f ∷ fixed.written ∷ included f ∷ [])

-- contexts, and what all callbacks have in common
unfoldable pub globals : List Lock → Bool → Text
globals locks queue =
    joined (fixed.contexts ∷ flat_map lock_field locks ∷ where_queue queue fixed.queue_fields ∷ fixed.globals_end ∷ [])

-- functions that callbacks call
unfoldable pub helpers : Bool → Text
helpers queue =
    joined (fixed.allocating ∷ fixed.stream_contexts ∷ fixed.instance_contexts ∷ fixed.work_items
    ∷ where_queue queue fixed.queueing ∷ [])

-- the callbacks of the queue
unfoldable pub queue_part : Bool → Text
queue_part queue = joined (where_queue queue fixed.queue_callbacks ∷ where_queue queue fixed.queue_locking ∷ [])

-- how the filter attaches and detaches
unfoldable pub attachment : List Lock → Bool → Text
attachment locks queue =
    joined (fixed.attaching ∷ where_queue queue fixed.queue_setup ∷ fixed.detaching ∷ flat_map lock_deleted locks ∷ [])

-- what the filter registers
unfoldable pub registered : List Callback → Bool → Text
registered callbacks queue =
    joined (fixed.operations ∷ rows_of callbacks callbacks ∷ fixed.registration ∷ where_queue queue fixed.queue_registration ∷ [])

-- how the driver's locks and its queue begin
unfoldable pub beginning : List Lock → Bool → Text
beginning locks queue = joined (fixed.entry ∷ flat_map lock_begun locks ∷ where_queue queue fixed.queue_entry ∷ [])

-- how the driver registers
unfoldable pub registering : List Lock → Text
registering locks = joined (fixed.registering ∷ flat_map lock_discarded locks ∷ fixed.ending ∷ [])

-- what stands before the callbacks
unfoldable pub declared : Filter → Text
declared f =
    joined (front f ∷ globals f.locks (is_some f.queue) ∷ prototypes_text f.callbacks ∷ helpers (is_some f.queue) ∷ [])

-- what stands behind them
unfoldable pub framed : Filter → Text
framed f =
    joined (queue_part (is_some f.queue) ∷ attachment f.locks (is_some f.queue) ∷ registered f.callbacks (is_some f.queue)
    ∷ beginning f.locks (is_some f.queue) ∷ registering f.locks ∷ [])

-- the source: `instances` has the points at which contexts of the instance are allocated
unfoldable pub source : List Allocation → Filter → Text
source instances f = joined (declared f ∷ callbacks_text f.locks instances 0 f.callbacks ∷ framed f ∷ [])
