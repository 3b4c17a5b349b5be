-- Statements in C. Each begins at the level of its block, and its point and its line stand behind it.
use Rattle.std.specs.Prelude.{ℕ, ◌+◌, Bool, true, false, List, [], ◌∷◌, ◌++◌, map, codes, decimal, Option, Some, None}
use Rattle.flt_rules.specs.declared.call.LockKind.{LockKind}
use Rattle.flt_rules.specs.declared.call.LockKind.TheVariants.{Spin, Fast, Push}
use Rattle.flt_rules.specs.declared.place.Place.{Place}
use Rattle.flt_rules.specs.declared.place.Place.TheVariants as place
use Rattle.flt_rules.specs.declared.status.FinalStatus.{FinalStatus}
use Rattle.flt_tree.specs.Declarations.{lock_name}
use Rattle.flt_tree.specs.Filter.{context_of}
use Rattle.flt_tree.specs.Measures.{points_of, points}
use Rattle.flt_tree.specs.Names.{Text}
use Rattle.flt_tree.specs.declared.filter.Action.{Action}
use Rattle.flt_tree.specs.declared.filter.Action.TheVariants.{SetNumber, ReadValue, ReadFile, WriteValue, ClearContext, ClearOperation}
use Rattle.flt_tree.specs.declared.filter.Condition.{Condition}
use Rattle.flt_tree.specs.declared.filter.Lock.{Lock}
use Rattle.flt_tree.specs.declared.filter.PlainCall.{PlainCall}
use Rattle.flt_tree.specs.declared.filter.PlainCall.TheVariants as plain
use Rattle.flt_tree.specs.declared.filter.Statement.{Statement}
use Rattle.flt_tree.specs.declared.filter.Statement.TheFolds.{para-Statement}
use Rattle.flt_tree.specs.declared.filter.Statement.TheOpen.{Statement-F}
use Rattle.flt_tree.specs.declared.filter.Status.{Status}
use Rattle.flt_tree.specs.declared.filter.Status.TheVariants as statuses
use Rattle.flt_tree.specs.declared.variable.ContextVariable.{ContextVariable}
use Rattle.flt_emit.specs.Expressions.{expression_text, file_text, condition_text}
use Rattle.flt_emit.specs.Line.{joined, indentation, label, atom_text}
use Rattle.flt_emit.specs.Names.{number_name, context_name, context_or_null, removed_name, operation_name, final_status_name, status_name}
use Rattle.flt_emit.specs.Scope.{Scope}

-- ---- statements that neither call nor branch

abbrev pub action_text : Place → Action → Text
action_text place (SetNumber n e) = joined (number_name n ∷ codes " = " ∷ expression_text e ∷ codes ";" ∷ [])
action_text place (ReadValue n c) =
    joined (number_name n ∷ codes " = ReadULong64NoFence( &" ∷ context_name c ∷ codes "->Value );" ∷ [])
action_text place (ReadFile n d) = joined (number_name n ∷ codes " = USER_FILE_NUMBER( " ∷ file_text place d ∷ codes " );" ∷ [])
action_text place (WriteValue c x) =
    joined (codes "WriteULong64NoFence( &" ∷ context_name c ∷ codes "->Value, " ∷ atom_text x ∷ codes " );" ∷ [])
action_text place (ClearContext c) = joined (context_name c ∷ codes " = NULL;" ∷ [])
action_text place (ClearOperation o) = joined (removed_name o ∷ codes " = NULL;" ∷ [])

-- ---- calls that always succeed

-- a lock is acquired: of a spin lock the call leaves the level before
abbrev pub acquire_text : LockKind → Text → Text
acquire_text Spin name = joined (codes "KeAcquireSpinLock( &Globals.lock_" ∷ name ∷ codes ", &irql_" ∷ name ∷ codes " );" ∷ [])
acquire_text Fast name = joined (codes "ExAcquireFastMutex( &Globals.lock_" ∷ name ∷ codes " );" ∷ [])
acquire_text Push name = joined (codes "FltAcquirePushLockExclusive( &Globals.lock_" ∷ name ∷ codes " );" ∷ [])

-- a push lock is acquired shared
abbrev pub shared_text : Text → Text
shared_text name = joined (codes "FltAcquirePushLockShared( &Globals.lock_" ∷ name ∷ codes " );" ∷ [])

-- a lock is released: of a spin lock the call is given the level before
abbrev pub release_text : LockKind → Text → Text
release_text Spin name = joined (codes "KeReleaseSpinLock( &Globals.lock_" ∷ name ∷ codes ", irql_" ∷ name ∷ codes " );" ∷ [])
release_text Fast name = joined (codes "ExReleaseFastMutex( &Globals.lock_" ∷ name ∷ codes " );" ∷ [])
release_text Push name = joined (codes "FltReleasePushLock( &Globals.lock_" ∷ name ∷ codes " );" ∷ [])

abbrev pub plain_text : List Lock → PlainCall → Text
plain_text locks (plain.DeleteContext c) = joined (codes "FltDeleteContext( " ∷ context_name c ∷ codes " );" ∷ [])
plain_text locks (plain.ReferenceContext c d) =
    joined (context_name d ∷ codes " = ReferenceContext( " ∷ context_name c ∷ codes " );" ∷ [])
plain_text locks (plain.ReleaseContext c) = joined (codes "FltReleaseContext( " ∷ context_name c ∷ codes " );" ∷ [])
plain_text locks (plain.AcquireLock kind l) = acquire_text kind (lock_name locks l)
plain_text locks (plain.AcquirePushLockShared l) = shared_text (lock_name locks l)
plain_text locks (plain.ReleaseLock kind l) = release_text kind (lock_name locks l)
plain_text locks (plain.CompletePendedPreOperation d s) =
    joined (codes "FltCompletePendedPreOperation( " ∷ operation_name d ∷ codes ", " ∷ status_name s ∷ codes ", "
    ∷ context_or_null (context_of s) ∷ codes " );" ∷ [])
plain_text locks plain.CompletePendedPostOperation = codes "FltCompletePendedPostOperation( Data );"

-- ---- final statuses and completion contexts, which are set before

-- the final status of an operation
abbrev pub final_text : ℕ → Text → FinalStatus → Text
final_text level operation status =
    joined (indentation level ∷ operation ∷ codes "->IoStatus.Status = " ∷ final_status_name status ∷ codes ";\n"
    ∷ indentation level ∷ operation ∷ codes "->IoStatus.Information = 0;\n" ∷ [])

-- what a status says of an operation that is completed by it
abbrev pub completed_text : ℕ → Text → Status → Text
completed_text level operation (statuses.Complete status) = final_text level operation status
completed_text level operation _ = []

-- the context that a post callback will be given
abbrev pub handed_text : ℕ → Option ContextVariable → Text
handed_text level None = []
handed_text level (Some c) = joined (indentation level ∷ codes "*CompletionContext = " ∷ context_name c ∷ codes ";\n" ∷ [])

-- what stands before a call
abbrev pub before_call : ℕ → PlainCall → Text
before_call level (plain.CompletePendedPreOperation d s) = completed_text level (operation_name d) s
before_call level _ = []

-- what stands before a returned status
abbrev pub before_return : ℕ → Status → Text
before_return level s = joined (completed_text level (codes "Data") s ∷ handed_text level (context_of s) ∷ [])

-- ---- returns

-- a routine frees its work item at its end
abbrev pub leaving : Place → Text
leaving place.Canceled = codes "return;"
leaving _ = codes "goto Done;"

-- a pre and a post callback that return nothing pass the operation on
abbrev pub passing : Bool → Text
passing true = codes "return FLT_PREOP_SUCCESS_NO_CALLBACK;"
passing false = codes "return FLT_POSTOP_FINISHED_PROCESSING;"

-- a pre or a post callback's return
abbrev pub answer_text : Bool → ℕ → Option Status → Text
answer_text is_pre level None = joined (indentation level ∷ passing is_pre ∷ [])
answer_text is_pre level (Some s) =
    joined (before_return level s ∷ indentation level ∷ codes "return " ∷ status_name s ∷ codes ";" ∷ [])

abbrev pub return_text : Place → ℕ → Option Status → Text
return_text (place.Pre op) level s = answer_text true level s
return_text (place.Post op) level s = answer_text false level s
return_text place level s = joined (indentation level ∷ leaving place ∷ [])

-- ---- blocks

-- lines of C, by their level and by the point at which they begin
abbrev pub Lines : Type 0
Lines = ℕ → ℕ → Text

-- statements one behind the other, each with its own lines
abbrev pub in_turn : List (Statement × Lines) → Lines
in_turn [] level point = []
in_turn (x ∷ rest) level point = x.1 level point ++ in_turn rest level (point + points_of x.0)

-- the statements themselves
abbrev pub statements_of : List (Statement × Lines) → List Statement
statements_of = map (λ (x : Statement × Lines). x.0)

-- the brace that ends a block
abbrev pub closing : ℕ → Text
closing level = joined (indentation level ∷ codes "}\n" ∷ [])

-- what stands between two blocks
abbrev pub else_text : ℕ → Text
else_text level = joined (indentation level ∷ codes "} else {\n" ∷ [])

-- what an `if` begins with
abbrev pub if_text : Scope → ℕ → ℕ → ℕ → Bool → Condition → Text
if_text scope level point line turned asked =
    joined (indentation level ∷ codes "if (" ∷ condition_text scope point turned asked ∷ codes ") {" ∷ label point line ∷ [])

-- an `if` without statements asks all the same
abbrev pub bare_text : Scope → ℕ → ℕ → ℕ → Condition → Text
bare_text scope level point line asked =
    joined (indentation level ∷ codes "(VOID) (" ∷ condition_text scope point false asked ∷ codes ");" ∷ label point line ∷ [])

-- an `if` whose first block is empty asks for the opposite
abbrev pub turned_text : Scope → ℕ → Condition → List (Statement × Lines) → Lines
turned_text scope line asked [] level point = bare_text scope level point line asked
turned_text scope line asked (r ∷ rs) level point =
    if_text scope level point line true asked ++ (in_turn (r ∷ rs) (level + 1) (point + 1) ++ closing level)

-- the end of an `if` behind its first block
abbrev pub otherwise_text : List (Statement × Lines) → Lines
otherwise_text [] level point = closing level
otherwise_text (r ∷ rs) level point = else_text level ++ (in_turn (r ∷ rs) (level + 1) point ++ closing level)

-- an `if`
abbrev pub choice_text : Scope → ℕ → Condition → List (Statement × Lines) → List (Statement × Lines) → Lines
choice_text scope line asked [] refused level point = turned_text scope line asked refused level point
choice_text scope line asked (g ∷ gs) refused level point =
    if_text scope level point line false asked ++ (in_turn (g ∷ gs) (level + 1) (point + 1)
    ++ otherwise_text refused level (point + 1 + points (statements_of (g ∷ gs))))

-- what a `repeat` begins with: its turns that are left, in a variable of its level
abbrev pub repeat_text : ℕ → ℕ → ℕ → ℕ → Text
repeat_text level point line turns =
    joined (indentation level ∷ codes "for (ULONG turn" ∷ decimal level ∷ codes " = " ∷ decimal turns ∷ codes "; turn"
    ∷ decimal level ∷ codes " != 0; turn" ∷ decimal level ∷ codes "--) {" ∷ label point line ∷ [])

-- a statement, given those inside
abbrev pub statement_step : Scope → Statement-F (Statement × Lines) → Lines
statement_step scope (Statement-F.Act at action) level point =
    joined (indentation level ∷ action_text scope.place action ∷ label point at.line ∷ [])
statement_step scope (Statement-F.Call at call) level point =
    joined (before_call level call ∷ indentation level ∷ plain_text scope.locks call ∷ label point at.line ∷ [])
statement_step scope (Statement-F.Return at status) level point =
    joined (return_text scope.place level status ∷ label point at.line ∷ [])
statement_step scope (Statement-F.If at asked granted refused) level point = choice_text scope at.line asked granted refused level point
statement_step scope (Statement-F.Repeat at turns body) level point =
    repeat_text level point at.line turns ++ (in_turn body (level + 1) (point + 1) ++ closing level)

-- a statement
abbrev pub statement_text : Scope → Statement → Lines
statement_text scope = para-Statement Lines (statement_step scope)

-- each statement with its lines
abbrev pub with_lines : Scope → List Statement → List (Statement × Lines)
with_lines scope = map (λ (s : Statement). (s, statement_text scope s))

-- statements
abbrev pub body_text : Scope → List Statement → Lines
body_text scope body = in_turn (with_lines scope body)
