-- The lines of statements: what each says. This project's own form, the same as `specs/Statements.antt` of the emitter has.
use Rattle.std.specs.Prelude.{ℕ, ◌||◌, Bool, true, false, not, if◌then◌else◌, List, [], ◌∷◌, ◌++◌, map, codes, decimal, Option, Some, None}
use Rattle.std.specs.Char.{is_ascii_digit}
use Rattle.flt_rules.specs.declared.call.Anchor.{Anchor}
use Rattle.flt_rules.specs.declared.call.Anchor.TheVariants.{Stream, Instance}
use Rattle.flt_rules.specs.declared.call.Existing.{Existing}
use Rattle.flt_rules.specs.declared.call.Existing.TheVariants.{Keep, Replace}
use Rattle.flt_rules.specs.declared.call.LockKind.{LockKind}
use Rattle.flt_rules.specs.declared.call.LockKind.TheVariants.{Spin, Fast, Push}
use Rattle.flt_rules.specs.declared.call.LockNumber.{LockNumber}
use Rattle.flt_rules.specs.declared.place.Place.{Place}
use Rattle.flt_rules.specs.declared.place.Place.TheVariants as place
use Rattle.flt_rules.specs.declared.status.FinalStatus.{FinalStatus}
use Rattle.flt_rules.specs.declared.status.FinalStatus.TheVariants as finals
use Rattle.flt_tree.specs.Declarations.{lock_number}
use Rattle.flt_tree.specs.Filter.{no_span}
use Rattle.flt_tree.specs.Names.{Text}
use Rattle.flt_tree.specs.declared.filter.Action.{Action}
use Rattle.flt_tree.specs.declared.filter.Action.TheVariants.{SetNumber, ReadValue, ReadFile, WriteValue, ClearContext, ClearOperation}
use Rattle.flt_tree.specs.declared.filter.Condition.{Condition}
use Rattle.flt_tree.specs.declared.filter.Condition.TheVariants as made
use Rattle.flt_tree.specs.declared.filter.FallibleCall.{FallibleCall}
use Rattle.flt_tree.specs.declared.filter.FallibleCall.TheVariants as fallible
use Rattle.flt_tree.specs.declared.filter.Lock.{Lock}
use Rattle.flt_tree.specs.declared.filter.PlainCall.{PlainCall}
use Rattle.flt_tree.specs.declared.filter.PlainCall.TheVariants as plain
use Rattle.flt_tree.specs.declared.filter.Routine.{Routine}
use Rattle.flt_tree.specs.declared.filter.Statement.{Statement}
use Rattle.flt_tree.specs.declared.filter.Statement.TheVariants.{Act, Call, Return, If}
use Rattle.flt_tree.specs.declared.filter.Status.{Status}
use Rattle.flt_tree.specs.declared.filter.Status.TheVariants as statuses
use Rattle.flt_tree.specs.declared.filter.Test.{Test}
use Rattle.flt_tree.specs.declared.filter.Test.TheVariants.{ContextIsSome, OperationIsSome, Equal, Less, IsIrp, IsDraining}
use Rattle.flt_tree.specs.declared.variable.Atom.{Atom}
use Rattle.flt_tree.specs.declared.variable.Atom.TheVariants as atoms
use Rattle.flt_tree.specs.declared.variable.ContextVariable.{ContextVariable}
use Rattle.flt_tree.specs.declared.variable.ContextVariable.TheVariants as contexts
use Rattle.flt_tree.specs.declared.variable.Expression.TheVariants as expressions
use Rattle.flt_tree.specs.declared.variable.NumberVariable.{NumberVariable}
use Rattle.flt_tree.specs.declared.variable.NumberVariable.TheVariants as numbers
use Rattle.flt_tree.specs.declared.variable.OperationVariable.{OperationVariable}
use Rattle.flt_tree.specs.declared.variable.OperationVariable.TheVariants as operations
use Rattle.flt_tree.specs.declared.variable.RemovedVariable.{RemovedVariable}
use Rattle.flt_tree.specs.declared.variable.RemovedVariable.TheVariants as removed
use Rattle.flt_emit.specs.Expressions.{is_variable, is_zero}
use Rattle.flt_emit.specs.Names.{number_name, context_name, removed_name, operation_name}
use Rattle.flt_emit.specs.Names.{instance, own_file, existing_name, final_status_name}
use Rattle.flt_print.specs.Reprinting.{nowhere}
use Rattle.flt_emit_read.specs.Front.{Front, ◌>>=◌, or_else, after, one_of, Forms, by_form, past_while, past_blanks, number_at, name_at}

-- what a line of a callback says
pub data Line : Type 0 where
  -- a whole statement
  Whole : Statement → Line
  -- the beginning of an `if`, and whether it asks for the opposite
  Asks : Bool → Condition → Line
  -- the beginning of a `repeat`, and its turns
  Turns : ℕ → Line
  -- the first block of an `if` ends, and the second one begins
  Otherwise : Line
  -- a block ends
  Closes : Line

-- ---- names

-- each of some values with its text
abbrev pub table : {A : Type 0} → (A → Text) → List A → List (Text × A)
table name = map (λ x. (name x, x))

abbrev pub all_numbers : List NumberVariable
all_numbers = numbers.N0 ∷ numbers.N1 ∷ numbers.N2 ∷ numbers.N3 ∷ numbers.N4 ∷ numbers.N5 ∷ numbers.N6 ∷ numbers.N7 ∷ []

abbrev pub all_contexts : List ContextVariable
all_contexts =
    contexts.C0 ∷ contexts.C1 ∷ contexts.C2 ∷ contexts.C3 ∷ contexts.C4 ∷ contexts.C5 ∷ contexts.C6 ∷ contexts.C7 ∷ contexts.Arg ∷ []

abbrev pub all_removed : List RemovedVariable
all_removed = removed.O0 ∷ removed.O1 ∷ removed.O2 ∷ removed.O3 ∷ []

abbrev pub all_finals : List FinalStatus
all_finals =
    finals.Success ∷ finals.AccessDenied ∷ finals.Cancelled ∷ finals.InsufficientResources ∷ finals.InvalidParameter ∷ finals.Pending ∷ []

unfoldable pub number_name_at : Text → Front NumberVariable
number_name_at = one_of (table number_name all_numbers)

unfoldable pub context_at : Text → Front ContextVariable
context_at = one_of (table context_name all_contexts)

unfoldable pub removed_at : Text → Front RemovedVariable
removed_at = one_of (table removed_name all_removed)

unfoldable pub operation_at : Text → Front OperationVariable
operation_at = one_of ((codes "Data", operations.Data) ∷ map (λ o. (removed_name o, operations.Removed o)) all_removed)

unfoldable pub final_at : Text → Front FinalStatus
final_at = one_of (table final_status_name all_finals)

unfoldable pub existing_at : Text → Front Existing
existing_at = one_of (table existing_name (Keep ∷ Replace ∷ []))

-- a context, or NULL for none
unfoldable pub optional_at : Text → Front (Option ContextVariable)
optional_at z = or_else (after (codes "NULL") z) (λ rest. Some (None, rest)) (context_at z >>= λ c. Some (Some c.0, c.1))

-- the address of a context, or NULL for none
unfoldable pub address_at : Text → Front (Option ContextVariable)
address_at z =
    or_else (after (codes "NULL") z) (λ rest. Some (None, rest))
    (after (codes "&") z >>= λ z. context_at z >>= λ c. Some (Some c.0, c.1))

-- a number with its suffix, or a variable of numbers
unfoldable pub atom_at : Text → Front Atom
atom_at z =
    or_else (number_at z) (λ n. after (codes "ull") n.1 >>= λ rest. Some (atoms.Number n.0, rest))
    (number_name_at z >>= λ n. Some (atoms.Variable n.0, n.1))

-- ---- what follows a statement

-- the point of the statement, which is as asked, and its line, whatever that is
unfoldable pub labelled : ℕ → Text → Option Text
labelled point z = do
  z ← after (codes "    // ") z
  z ← after (decimal point) z
  z ← after (codes ", line ") z
  after (10 ∷ []) (past_while is_ascii_digit z)

-- what follows this end of a line and its label
abbrev pub ended : Text → ℕ → Text → Option Text
ended end point z = after end z >>= λ z. labelled point z

-- a line ends so, with its label
abbrev pub ends : {A : Type 0} → Text → ℕ → A → Text → Front A
ends end point x z = after end z >>= λ z. labelled point z >>= λ z. Some (x, z)

-- a statement that neither calls nor branches
abbrev pub act : ℕ → Text → Action → Text → Front Line
act point end a = ends end point (Whole (Act no_span a))

-- a call
abbrev pub calls : ℕ → Text → PlainCall → Text → Front Line
calls point end c = ends end point (Whole (Call no_span c))

-- a return
abbrev pub leaves : ℕ → Option Status → Text → Front Line
leaves point s = ends [] point (Whole (Return no_span s))

-- ---- statements that neither call nor branch

-- what follows the first atom of an expression
unfoldable pub expression_after : ℕ → NumberVariable → Atom → Text → Front Line
expression_after point n x =
    by_form ((codes ";", act point [] (SetNumber n (expressions.Atom x)))
    ∷ (codes " + ", λ z. atom_at z >>= λ y. act point (codes ";") (SetNumber n (expressions.Sum x y.0)) y.1)
    ∷ (codes " - ", λ z. atom_at z >>= λ y. act point (codes ";") (SetNumber n (expressions.Difference x y.0)) y.1) ∷ [])

-- the operation of which a file is asked
unfoldable pub file_at : Place → Text → Front OperationVariable
file_at place z =
    or_else (after (own_file place) z) (λ rest. Some (operations.Data, rest))
    (removed_at z >>= λ o. after (codes "->Iopb->TargetFileObject") o.1 >>= λ rest. Some (operations.Removed o.0, rest))

-- a variable of numbers is set
unfoldable pub number_line : Place → ℕ → NumberVariable → Text → Front Line
number_line place point n z =
    after (codes " = ") z >>= λ z. or_else (atom_at z) (λ x. expression_after point n x.0 x.1)
    (by_form ((codes "ReadULong64NoFence( &", λ z. context_at z >>= λ c. act point (codes "->Value );") (ReadValue n c.0) c.1)
    ∷ (codes "USER_FILE_NUMBER( ", λ z. file_at place z >>= λ d. act point (codes " );") (ReadFile n d.0) d.1) ∷ []) z)

-- a variable of contexts is set
unfoldable pub context_line : ℕ → ContextVariable → Text → Front Line
context_line point c =
    by_form ((codes " = NULL;", act point [] (ClearContext c))
    ∷ (codes " = ReferenceContext( ", λ z. context_at z >>= λ d. calls point (codes " );") (plain.ReferenceContext d.0 c) d.1) ∷ [])

-- `value` is written
unfoldable pub write_line : ℕ → Text → Front Line
write_line point z = do
  c ← context_at z
  z ← after (codes "->Value, ") c.1
  x ← atom_at z
  act point (codes " );") (WriteValue c.0 x.0) x.1

-- ---- calls that always succeed

-- a context is released or deleted
unfoldable pub ended_context : ℕ → (ContextVariable → PlainCall) → Text → Front Line
ended_context point made z = context_at z >>= λ c. calls point (codes " );") (made c.0) c.1

-- what follows the name of a lock: for a spin lock the level before is named too
abbrev pub lock_end : Option Text → Text → Text
lock_end None name = codes " );"
lock_end (Some level) name = level ++ (name ++ codes " );")

-- the lock of a kind and a name, and what follows the call on it
unfoldable pub locked : List Lock → ℕ → LockKind → Option Text → Text → Front LockNumber
locked locks point kind level z = do
  name ← name_at z
  l ← lock_number kind name.0 locks
  rest ← ended (lock_end level name.0) point name.1
  Some (l, rest)

-- a call on the lock of a kind
unfoldable pub lock_call : List Lock → ℕ → LockKind → Option Text → (LockNumber → PlainCall) → Text → Front Line
lock_call locks point kind level made z =
    locked locks point kind level z >>= λ l. Some (Whole (Call no_span (made l.0)), l.1)

-- a status for a pended operation that doesn't complete it
unfoldable pub pended_at : Text → Front Status
pended_at =
    by_form ((codes "FLT_PREOP_SUCCESS_WITH_CALLBACK, ", λ z. optional_at z >>= λ c. Some (statuses.WithCallback c.0, c.1))
    ∷ (codes "FLT_PREOP_SYNCHRONIZE, ", λ z. optional_at z >>= λ c. Some (statuses.Synchronize c.0, c.1))
    ∷ (codes "FLT_PREOP_SUCCESS_NO_CALLBACK, NULL", λ z. Some (statuses.NoCallback, z))
    ∷ (codes "FLT_PREOP_PENDING, NULL", λ z. Some (statuses.Pending, z))
    ∷ (codes "FLT_PREOP_DISALLOW_FASTIO, NULL", λ z. Some (statuses.DisallowFastIo, z))
    ∷ (codes "FLT_POSTOP_FINISHED_PROCESSING, NULL", λ z. Some (statuses.FinishedProcessing, z))
    ∷ (codes "FLT_POSTOP_MORE_PROCESSING_REQUIRED, NULL", λ z. Some (statuses.MoreProcessingRequired, z)) ∷ [])

-- a pended operation is settled by a status that doesn't complete it
unfoldable pub pended_line : ℕ → Text → Front Line
pended_line point z = do
  d ← operation_at z
  z ← after (codes ", ") d.1
  s ← pended_at z
  calls point (codes " );") (plain.CompletePendedPreOperation d.0 s.0) s.1

-- ---- completions: a final status is set before

-- a pended operation is completed
abbrev pub completed_call : ℕ → OperationVariable → FinalStatus → Text × (Text → Front Line)
completed_call point d f = (
  codes "FltCompletePendedPreOperation( ",
  λ z. after (operation_name d) z >>= λ z. calls point (codes ", FLT_PREOP_COMPLETE, NULL );")
      (plain.CompletePendedPreOperation d (statuses.Complete f)) z,
)

-- whether a callback of the place answers for its operation
abbrev pub answers : Place → Bool
answers (place.Pre op) = true
answers (place.Post op) = true
answers _ = false

abbrev pub completing_return : Bool → ℕ → FinalStatus → Forms Line
completing_return true point f = (codes "return FLT_PREOP_COMPLETE;", leaves point (Some (statuses.Complete f))) ∷ []
completing_return false point f = []

-- the callback's own operation is completed by what it returns
abbrev pub completed_return : Place → ℕ → OperationVariable → FinalStatus → Forms Line
completed_return at point operations.Data f = completing_return (answers at) point f
completed_return at point (operations.Removed o) f = []

-- the lines that complete an operation, after the words that set its final status
unfoldable pub completing : Place → ℕ → OperationVariable → Text → Front Line
completing at point d z = do
  f ← final_at z
  z ← after (codes ";\n") f.1
  z ← after (operation_name d) (past_blanks z)
  z ← after (codes "->IoStatus.Information = 0;\n") z
  by_form (completed_call point d f.0 ∷ completed_return at point d f.0) (past_blanks z)

-- an operation that was removed from the queue: its variable is cleared, or it is completed
unfoldable pub removed_line : Place → ℕ → RemovedVariable → Text → Front Line
removed_line at point o =
    by_form ((codes " = NULL;", act point [] (ClearOperation o))
    ∷ (codes "->IoStatus.Status = ", completing at point (operations.Removed o)) ∷ [])

-- ---- returns

-- the returns that hand a context over
abbrev pub handing : ℕ → ContextVariable → Forms Line
handing point c =
    (codes "return FLT_PREOP_SUCCESS_WITH_CALLBACK;", leaves point (Some (statuses.WithCallback (Some c))))
    ∷ (codes "return FLT_PREOP_SYNCHRONIZE;", leaves point (Some (statuses.Synchronize (Some c)))) ∷ []

-- a context is handed to a post callback
unfoldable pub handed_line : ℕ → Text → Front Line
handed_line point z = do
  c ← context_at z
  z ← after (codes ";\n") c.1
  by_form (handing point c.0) (past_blanks z)

-- statuses that nothing is set for
abbrev pub bare_statuses : ℕ → Forms Line
bare_statuses point =
    (codes "*CompletionContext = ", handed_line point)
    ∷ (codes "return FLT_PREOP_SUCCESS_WITH_CALLBACK;", leaves point (Some (statuses.WithCallback None)))
    ∷ (codes "return FLT_PREOP_SYNCHRONIZE;", leaves point (Some (statuses.Synchronize None)))
    ∷ (codes "return FLT_PREOP_SUCCESS_NO_CALLBACK;", leaves point (Some statuses.NoCallback))
    ∷ (codes "return FLT_PREOP_PENDING;", leaves point (Some statuses.Pending))
    ∷ (codes "return FLT_PREOP_DISALLOW_FASTIO;", leaves point (Some statuses.DisallowFastIo))
    ∷ (codes "return FLT_POSTOP_FINISHED_PROCESSING;", leaves point (Some statuses.FinishedProcessing))
    ∷ (codes "return FLT_POSTOP_MORE_PROCESSING_REQUIRED;", leaves point (Some statuses.MoreProcessingRequired)) ∷ []

-- the returns of a place
abbrev pub returns : Place → ℕ → Forms Line
returns (place.Pre op) point = bare_statuses point
returns (place.Post op) point = bare_statuses point
returns place.Canceled point = (codes "return;", leaves point None) ∷ []
returns _ point = (codes "goto Done;", leaves point None) ∷ []

-- ---- tests

-- a test, and whether its opposite is asked
abbrev pub Asked : Type 0
Asked = Bool × Condition

-- of a comparison whose value is known, that of the text that asks it, or its opposite
abbrev pub known_value : Bool → Test → Option Bool
known_value turned (Equal n x) = if is_variable n x then Some (not turned) else None
known_value turned (Less n x) = if is_variable n x || is_zero x then Some turned else None
known_value turned _ = None

-- the signs of comparisons, each with whether it asks for the opposite
abbrev pub signs : NumberVariable → List (Text × (Bool × (Atom → Test)))
signs n =
    (codes " == ", (false, Equal n)) ∷ (codes " != ", (true, Equal n)) ∷ (codes " < ", (false, Less n)) ∷
    (codes " >= ", (true, Less n)) ∷ []

-- a comparison
unfoldable pub comparison_at : NumberVariable → Text → Front (Bool × Test)
comparison_at n z = do
  sign ← one_of (signs n) z
  x ← atom_at sign.1
  Some ((sign.0.0, sign.0.1 x.0), x.1)

abbrev pub if_same : Bool → Option Bool → Front Asked → Front Asked
if_same true (Some true) r = r
if_same false (Some false) r = r
if_same _ _ r = None

-- a comparison in a comment, after its value
unfoldable pub known_at : Bool → Text → Front Asked
known_at value z = do
  n ← number_name_at z
  t ← comparison_at n.0 n.1
  z ← after (codes " */") t.1
  if_same value (known_value t.0.0 t.0.1) (Some ((t.0.0, made.Test t.0.1), z))

abbrev pub if_none : Option Bool → Front Asked → Front Asked
if_none None r = r
if_none (Some known) r = None

-- a comparison whose value isn't known
unfoldable pub unknown_at : NumberVariable → Text → Front Asked
unknown_at n z = comparison_at n z >>= λ t. if_none (known_value t.0.0 t.0.1) (Some ((t.0.0, made.Test t.0.1), t.1))

-- a test for NULL
unfoldable pub null_at : Test → Text → Front Asked
null_at t = one_of ((codes " != NULL", (false, made.Test t)) ∷ (codes " == NULL", (true, made.Test t)) ∷ [])

-- ---- calls that can fail

-- what a call about the context of a stream is given first
abbrev pub stream_given : Place → Text
stream_given at = instance at ++ (codes ", " ++ own_file at)

-- what a call about the context of a stream or of an instance is given first
abbrev pub anchor_given : Place → Anchor → Text
anchor_given at Stream = stream_given at
anchor_given at Instance = instance at

unfoldable pub get_at : Place → Anchor → Text → Front (FallibleCall Routine)
get_at at anchor z = do
  z ← after (anchor_given at anchor) z
  z ← after (codes ", &") z
  c ← context_at z
  Some (fallible.GetContext anchor c.0, c.1)

unfoldable pub set_at : Place → Anchor → Text → Front (FallibleCall Routine)
set_at at anchor z = do
  z ← after (anchor_given at anchor) z
  z ← after (codes ", ") z
  existing ← existing_at z
  z ← after (codes ", ") existing.1
  c ← context_at z
  z ← after (codes ", ") c.1
  old ← address_at z
  Some (fallible.SetContext anchor existing.0 c.0 old.0, old.1)

unfoldable pub delete_at : Place → Anchor → Text → Front (FallibleCall Routine)
delete_at at anchor z = do
  z ← after (anchor_given at anchor) z
  z ← after (codes ", ") z
  old ← address_at z
  Some (fallible.DeleteContextOf anchor old.0, old.1)

abbrev pub named : Text → Routine
named name = record { name = name; position = nowhere }

-- a routine, and a context that goes with it
unfoldable pub queued_at : (Routine → Option ContextVariable → FallibleCall Routine) → Text → Front (FallibleCall Routine)
queued_at made z = do
  name ← name_at z
  z ← after (codes ", ") name.1
  c ← optional_at z
  Some (made (named name.0) c.0, c.1)

unfoldable pub remove_at : Text → Front (FallibleCall Routine)
remove_at z = do
  o ← removed_at z
  z ← after (codes ", &") o.1
  c ← context_at z
  Some (fallible.RemoveNextIo o.0 c.0, c.1)

-- what follows the instance of a work item without an operation
abbrev pub past_instance : Place → Text → Option Text
past_instance at z = after (instance at) z >>= λ z. after (codes ", Generic_") z

unfoldable pub generic_at : Place → Text → Front (FallibleCall Routine)
generic_at at z = past_instance at z >>= λ z. queued_at fallible.QueueGenericWorkItem z

-- the kind of a context that is allocated isn't in the tree
abbrev pub past_kind : Text → Option Text
past_kind z = or_else (after (codes "FLT_STREAM_CONTEXT, &") z) (λ rest. Some rest) (after (codes "FLT_INSTANCE_CONTEXT, &") z)

unfoldable pub allocate_at : Text → Front (FallibleCall Routine)
allocate_at z = do
  z ← past_kind z
  c ← context_at z
  Some (fallible.AllocateContext c.0, c.1)

abbrev pub insert_at : Text → Front (FallibleCall Routine)
insert_at z = optional_at z >>= λ c. Some (fallible.InsertIo c.0, c.1)

unfoldable pub fallible_at : Place → Text → Front (FallibleCall Routine)
fallible_at at =
    by_form ((codes "AllocateContext( ", allocate_at)
    ∷ (codes "GetStreamContext( ", get_at at Stream) ∷ (codes "GetInstanceContext( ", get_at at Instance)
    ∷ (codes "SetStreamContext( ", set_at at Stream) ∷ (codes "SetInstanceContext( ", set_at at Instance)
    ∷ (codes "DeleteStreamContext( ", delete_at at Stream) ∷ (codes "DeleteInstanceContext( ", delete_at at Instance)
    ∷ (codes "InsertIo( Data, ", insert_at)
    ∷ (codes "RemoveNextIo( &", remove_at)
    ∷ (codes "QueueDeferredIo( Data, Deferred_", queued_at fallible.QueueDeferredIoWorkItem)
    ∷ (codes "QueueGeneric( ", generic_at at) ∷ [])

unfoldable pub succeeds_at : Place → Bool → Text → Front Asked
succeeds_at at turned z = do
  c ← fallible_at at z
  z ← after (codes " ) )") c.1
  Some ((turned, made.Succeeds c.0), z)

-- a test that begins with a variable
unfoldable pub named_test_at : Text → Front Asked
named_test_at z =
    or_else (number_name_at z) (λ n. unknown_at n.0 n.1)
    (or_else (context_at z) (λ c. null_at (ContextIsSome c.0) c.1) (removed_at z >>= λ o. null_at (OperationIsSome o.0) o.1))

-- tests, by how they begin
unfoldable pub test_forms : Forms Asked
test_forms =
    (codes "TRUE /* ", known_at true) ∷ (codes "FALSE /* ", known_at false)
    ∷ (codes "FLT_IS_IRP_OPERATION( Data )", λ z. Some ((false, made.Test IsIrp), z))
    ∷ (codes "!FLT_IS_IRP_OPERATION( Data )", λ z. Some ((true, made.Test IsIrp), z))
    ∷ (codes "FlagOn( Flags, FLTFL_POST_OPERATION_DRAINING )", λ z. Some ((false, made.Test IsDraining), z))
    ∷ (codes "!FlagOn( Flags, FLTFL_POST_OPERATION_DRAINING )", λ z. Some ((true, made.Test IsDraining), z)) ∷ []

-- a test
unfoldable pub test_at : Text → Front Asked
test_at z = or_else (one_of test_forms z) (λ q. q.0 q.1) (named_test_at z)

-- what an `if` asks
unfoldable pub condition_at : Place → Text → Front Asked
condition_at at z =
    or_else (one_of ((codes "NT_SUCCESS( ", succeeds_at at false) ∷ (codes "!NT_SUCCESS( ", succeeds_at at true) ∷ []) z) (λ q. q.0 q.1)
    (test_at z)

-- ---- blocks

unfoldable pub if_line : Place → ℕ → Text → Front Line
if_line at point z = condition_at at z >>= λ c. ends (codes ") {") point (Asks c.0.0 c.0.1) c.1

-- an `if` without statements, which never asks for the opposite
abbrev pub bare : ℕ → Bool → Condition → Text → Front Line
bare point false c = ends (codes ");") point (Whole (If no_span c [] []))
bare point true c = λ z. None

unfoldable pub bare_line : Place → ℕ → Text → Front Line
bare_line at point z = condition_at at z >>= λ c. bare point c.0.0 c.0.1 c.1

unfoldable pub repeat_line : ℕ → ℕ → Text → Front Line
repeat_line level point z = do
  z ← after (decimal level) z
  z ← after (codes " = ") z
  n ← number_at z
  z ← after (codes "; turn") n.1
  z ← after (decimal level) z
  z ← after (codes " != 0; turn") z
  z ← after (decimal level) z
  ends (codes "--) {") point (Turns n.0) z

-- ---- all lines

-- a line that begins with a variable, or a return
unfoldable pub named_line : Place → ℕ → Text → Front Line
named_line at point z =
    or_else (number_name_at z) (λ n. number_line at point n.0 n.1)
    (or_else (context_at z) (λ c. context_line point c.0 c.1)
    (or_else (removed_at z) (λ o. removed_line at point o.0 o.1) (by_form (returns at point) z)))

-- lines that settle operations, by how they begin
unfoldable pub settle_forms : Place → ℕ → Forms Line
settle_forms at point =
    (codes "FltCompletePendedPreOperation( ", pended_line point)
    ∷ (codes "FltCompletePendedPostOperation( Data );", calls point [] plain.CompletePendedPostOperation)
    ∷ (codes "Data->IoStatus.Status = ", completing at point operations.Data) ∷ []

-- such a line, or one that begins with a variable, or a return
unfoldable pub settle_line : Place → ℕ → Text → Front Line
settle_line at point z = or_else (one_of (settle_forms at point) z) (λ q. q.0 q.1) (named_line at point z)

-- calls on locks, by how they begin
unfoldable pub lock_forms : List Lock → ℕ → Forms Line
lock_forms locks point =
    (codes "KeAcquireSpinLock( &Globals.lock_", lock_call locks point Spin (Some (codes ", &irql_")) (plain.AcquireLock Spin))
    ∷ (codes "ExAcquireFastMutex( &Globals.lock_", lock_call locks point Fast None (plain.AcquireLock Fast))
    ∷ (codes "FltAcquirePushLockExclusive( &Globals.lock_", lock_call locks point Push None (plain.AcquireLock Push))
    ∷ (codes "FltAcquirePushLockShared( &Globals.lock_", lock_call locks point Push None plain.AcquirePushLockShared)
    ∷ (codes "KeReleaseSpinLock( &Globals.lock_", lock_call locks point Spin (Some (codes ", irql_")) (plain.ReleaseLock Spin))
    ∷ (codes "ExReleaseFastMutex( &Globals.lock_", lock_call locks point Fast None (plain.ReleaseLock Fast))
    ∷ (codes "FltReleasePushLock( &Globals.lock_", lock_call locks point Push None (plain.ReleaseLock Push)) ∷ []

-- such a call, or a line of those above
unfoldable pub lock_line : Place → List Lock → ℕ → Text → Front Line
lock_line at locks point z = or_else (one_of (lock_forms locks point) z) (λ q. q.0 q.1) (settle_line at point z)

-- lines that begin and end blocks and that end contexts, by how they begin
unfoldable pub plain_forms : ℕ → ℕ → Forms Line
plain_forms level point =
    (codes "for (ULONG turn", repeat_line level point) ∷ (codes "}\n", λ z. Some (Closes, z))
    ∷ (codes "} else {\n", λ z. Some (Otherwise, z)) ∷ (codes "WriteULong64NoFence( &", write_line point)
    ∷ (codes "FltDeleteContext( ", ended_context point plain.DeleteContext)
    ∷ (codes "FltReleaseContext( ", ended_context point plain.ReleaseContext) ∷ []

-- such a line, or one of those above
unfoldable pub plain_line : Place → List Lock → ℕ → ℕ → Text → Front Line
plain_line at locks level point z = or_else (one_of (plain_forms level point) z) (λ q. q.0 q.1) (lock_line at locks point z)

-- the lines of `if`, by how they begin
unfoldable pub ask_forms : Place → ℕ → Forms Line
ask_forms at point = (codes "if (", if_line at point) ∷ (codes "(VOID) (", bare_line at point) ∷ []

-- a line without its blanks, of a callback of a place, in a block of a level
unfoldable pub line_start : Place → List Lock → ℕ → ℕ → Text → Front Line
line_start at locks level point z = or_else (one_of (ask_forms at point) z) (λ q. q.0 q.1) (plain_line at locks level point z)

-- the line at the front
unfoldable pub line_at : Place → List Lock → ℕ → ℕ → Text → Front Line
line_at at locks level point z = line_start at locks level point (past_blanks z)
