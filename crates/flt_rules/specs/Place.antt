-- Where a callback runs, and interrupt request levels: PASSIVE_LEVEL < APC_LEVEL < DISPATCH_LEVEL.
-- Source: the driver kit's pages on pre- and postoperation callback routines, taken at their worst level.
use Rattle.std.specs.Prelude.{ℕ, Bool, true, false, not, ◌==◌, nat_lt, List, [], ◌∷◌, ◌++◌, codes, filter, map, Option, Some, None}
use Rattle.flt_rules.specs.declared.call.LockKind.{LockKind}
use Rattle.flt_rules.specs.declared.call.LockKind.TheVariants.{Spin, Fast, Push}
use Rattle.flt_rules.specs.declared.place.Level.{Level}
use Rattle.flt_rules.specs.declared.place.Level.TheVariants as level
use Rattle.flt_rules.specs.declared.place.Mode.{Mode}
use Rattle.flt_rules.specs.declared.place.Mode.TheVariants as mode
use Rattle.flt_rules.specs.declared.place.Operation.{Operation}
use Rattle.flt_rules.specs.declared.place.Operation.TheVariants as op
use Rattle.flt_rules.specs.declared.place.Place.{Place}
use Rattle.flt_rules.specs.declared.place.Place.TheVariants.{Pre, Post, Canceled, DeferredPre, DeferredPost, Generic}
use Rattle.flt_rules.specs.declared.place.Stage.{Stage}
use Rattle.flt_rules.specs.declared.place.Stage.TheVariants as stage

-- ---- operations

-- all operations, in the order of their values
abbrev pub all_operations : List Operation
all_operations = op.Create ∷ op.Read ∷ op.Write ∷ op.Cleanup ∷ []

-- an operation as texts, journals and reports have it
abbrev pub operation_name : Operation → List ℕ
operation_name op.Create = codes "create"
operation_name op.Read = codes "read"
operation_name op.Write = codes "write"
operation_name op.Cleanup = codes "cleanup"

-- an operation as the driver kit has it
abbrev pub major_name : Operation → List ℕ
major_name op.Create = codes "IRP_MJ_CREATE"
major_name op.Read = codes "IRP_MJ_READ"
major_name op.Write = codes "IRP_MJ_WRITE"
major_name op.Cleanup = codes "IRP_MJ_CLEANUP"

-- an operation as the names of a driver's routines have it
abbrev pub operation_title : Operation → List ℕ
operation_title op.Create = codes "Create"
operation_title op.Read = codes "Read"
operation_title op.Write = codes "Write"
operation_title op.Cleanup = codes "Cleanup"

-- an operation that comes as an I/O request packet alone; the others come as fast I/O, too
abbrev pub is_always_irp : Operation → Bool
is_always_irp op.Create = true
is_always_irp op.Read = false
is_always_irp op.Write = false
is_always_irp op.Cleanup = true

-- an operation's number in the list of all, from 0
abbrev pub operation_number : Operation → ℕ
operation_number op.Create = 0
operation_number op.Read = 1
operation_number op.Write = 2
operation_number op.Cleanup = 3

-- whether two operations are of one kind: those of one number
abbrev pub same_operation : Operation → Operation → Bool
same_operation a b = operation_number a == operation_number b

-- whether an operation can come in by a mode
abbrev pub fits_mode : Operation → Mode → Bool
fits_mode kind mode.Irp = true
fits_mode kind mode.Fast = not (is_always_irp kind)

-- ---- operations in a sentence

-- a word of a text
abbrev pub quoted : List ℕ → List ℕ
quoted word = codes "`" ++ word ++ codes "`"

-- words of a text, with this before the last one and commas between the others
abbrev pub listed : List ℕ → List (List ℕ) → List ℕ
listed last [] = []
listed last (word ∷ []) = quoted word
listed last (word ∷ next ∷ []) = quoted word ++ last ++ quoted next
listed last (word ∷ words) = quoted word ++ codes ", " ++ listed last words

-- all operations, and one of them
abbrev pub all_named : List ℕ
all_named = listed (codes " and ") (map operation_name all_operations)

abbrev pub any_named : List ℕ
any_named = listed (codes " or ") (map operation_name all_operations)

-- the operations that come as I/O request packets alone
abbrev pub always_irp_named : List ℕ
always_irp_named = listed (codes " and ") (map operation_name (filter is_always_irp all_operations))

-- ---- places

-- whether two modes are one
abbrev pub same_mode : Mode → Mode → Bool
same_mode mode.Irp mode.Irp = true
same_mode mode.Fast mode.Fast = true
same_mode _ _ = false

-- an I/O request packet
abbrev pub is_irp : Mode → Bool
is_irp mode.Irp = true
is_irp mode.Fast = false

-- whether two stages are one
abbrev pub same_stage : Stage → Stage → Bool
same_stage stage.Pre stage.Pre = true
same_stage stage.Post stage.Post = true
same_stage _ _ = false

-- a pre or a post callback answers for its operation, with a status
abbrev pub answers : Place → Bool
answers (Pre o) = true
answers (Post o) = true
answers _ = false

-- each returns statuses of its own stage
abbrev pub fits_stage : Place → Stage → Bool
fits_stage (Pre o) stage.Pre = true
fits_stage (Post o) stage.Post = true
fits_stage _ _ = false

-- the pre callback of a create
abbrev pub is_pre_create : Place → Bool
is_pre_create (Pre op.Create) = true
is_pre_create _ = false

-- ---- levels

-- the level at which a callback is entered
abbrev pub entry_level : Place → Level
entry_level (Pre o) = level.Apc
entry_level (Post op.Create) = level.Passive
entry_level (Post o) = level.Dispatch
entry_level Canceled = level.Apc
entry_level DeferredPre = level.Passive
entry_level DeferredPost = level.Passive
entry_level Generic = level.Passive

-- the level to which a held lock raises its holder; a push lock raises nothing
abbrev pub raised_level : LockKind → Level
raised_level Spin = level.Dispatch
raised_level Fast = level.Apc
raised_level Push = level.Passive

-- a lock that isn't declared raises nothing
abbrev pub raised_by : Option LockKind → Level
raised_by (Some kind) = raised_level kind
raised_by None = level.Passive

-- levels in their order
abbrev pub rank : Level → ℕ
rank level.Passive = 0
rank level.Apc = 1
rank level.Dispatch = 2

abbrev pub is_above : Level → Level → Bool
is_above a b = nat_lt (rank b) (rank a)

abbrev pub greater_level : Level → Level → Level
greater_level level.Dispatch b = level.Dispatch
greater_level level.Apc level.Dispatch = level.Dispatch
greater_level level.Apc b = level.Apc
greater_level level.Passive b = b
