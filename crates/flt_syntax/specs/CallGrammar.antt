-- The grammar of statuses and of calls. Each constructor is a production. A call is its word, the slots of the shape that the word says,
-- one token each, and what ends it: the tables are in Shape.antt.
use Rattle.std.specs.Prelude.{◌≡◌, ◌≢◌, true, List, [], ◌∷◌, Option, Some, None}
use Rattle.flt_rules.specs.declared.call.Existing.{Existing}
use Rattle.flt_rules.specs.declared.call.LockKind.{LockKind}
use Rattle.flt_rules.specs.declared.call.LockNumber.{LockNumber}
use Rattle.flt_rules.specs.declared.status.FinalStatus.{FinalStatus}
use Rattle.flt_syntax.specs.Cursor.{Input, position}
use Rattle.flt_tree.specs.Names.{Text}
use Rattle.flt_syntax.specs.Scope.{Scope}
use Rattle.flt_tree.specs.Declarations.{lock_number}
use Rattle.flt_syntax.specs.Tables.{fallible_shape_of, plain_shape_of, existing_of, final_status_of, bare_status_of, removed_variable_of}
use Rattle.flt_syntax.specs.Tables.{operation_variable_of}
use Rattle.flt_syntax.specs.Shape.{unfilled, fallible_slots, fallible_tail, fallible_of, is_known, plain_slots, plain_tail, plain_of}
use Rattle.flt_syntax.specs.Words.{Next, Meant, NameAt, ContextAt, OptionalAt}
use Rattle.flt_tree.specs.declared.filter.FallibleCall.{FallibleCall}
use Rattle.flt_tree.specs.declared.filter.PlainCall.{PlainCall}
use Rattle.flt_tree.specs.declared.filter.Routine.{Routine}
use Rattle.flt_tree.specs.declared.filter.Status.{Status}
use Rattle.flt_tree.specs.declared.filter.Status.TheVariants as statuses
use Rattle.flt_syntax.specs.declared.shape.FallibleShape.{FallibleShape}
use Rattle.flt_syntax.specs.declared.shape.Operands.{Operands}
use Rattle.flt_syntax.specs.declared.shape.PlainShape.{PlainShape}
use Rattle.flt_syntax.specs.declared.shape.Slot.{Slot}
use Rattle.flt_syntax.specs.declared.shape.Slot.TheVariants as part
use Rattle.flt_syntax.specs.declared.shape.Tail.{Tail}
use Rattle.flt_syntax.specs.declared.shape.Tail.TheVariants as last
use Rattle.flt_syntax.specs.declared.token.Kind.TheVariants as k
use Rattle.flt_tree.specs.declared.variable.ContextVariable.{ContextVariable}
use Rattle.flt_tree.specs.declared.variable.OperationVariable.{OperationVariable}
use Rattle.flt_tree.specs.declared.variable.RemovedVariable.{RemovedVariable}

-- status
pub data StatusAt : Input → Status → Input → Type 0 where
  -- "WITH_CALLBACK" [ "context" C ]
  with_callback : {i a o : Input} {c : Option ContextVariable} → Next k.WithCallback i a → OptionalAt k.Context a c o →
      StatusAt i (statuses.WithCallback c) o
  -- "SYNCHRONIZE" [ "context" C ]
  synchronize : {i a o : Input} {c : Option ContextVariable} → Next k.Synchronize i a → OptionalAt k.Context a c o →
      StatusAt i (statuses.Synchronize c) o
  -- "COMPLETE" S
  complete : {i a o : Input} {s : FinalStatus} → Next k.Complete i a → Meant final_status_of a s o →
      StatusAt i (statuses.Complete s) o
  -- "NO_CALLBACK" | "PENDING" | "DISALLOW_FASTIO" | "FINISHED_PROCESSING" | "MORE_PROCESSING_REQUIRED"
  bare : {i o : Input} {s : Status} → Meant bare_status_of i s o → StatusAt i s o

-- [ status ]
pub data OptionalStatusAt : Input → Option Status → Input → Type 0 where
  no_status : {i : Input} → OptionalStatusAt i None i
  some_status : {i o : Input} {s : Status} → StatusAt i s o → OptionalStatusAt i (Some s) o

-- NAME of a routine, which stands at its place
pub data RoutineAt (text : Text) : Input → Routine → Input → Type 0 where
  routine : {i o : Input} {name : Text} → NameAt text i name o → RoutineAt text i (record { name = name; position = position i }) o

-- NAME of a declared lock of the kind
pub data LockAt (scope : Scope) (kind : LockKind) : Input → LockNumber → Input → Type 0 where
  lock : {i o : Input} {name : Text} {l : LockNumber} → NameAt scope.text i name o → lock_number kind name scope.locks ≡ Some l →
      LockAt scope kind i l o

-- ---- slots

-- a slot: the operands before it are x, and with it the others; a variable stands once in a call
pub data SlotAt (scope : Scope) : Slot → Operands → Input → Operands → Input → Type 0 where
  -- "data"
  data_word : {x : Operands} {i o : Input} → Next k.Data i o → SlotAt scope part.Data x i x o
  -- "as"
  as_word : {x : Operands} {i o : Input} → Next k.As i o → SlotAt scope part.As x i x o
  -- "context"
  context_word : {x : Operands} {i o : Input} → Next k.Context i o → SlotAt scope part.With x i x o
  -- D
  operation : {x : Operands} {i o : Input} {d : OperationVariable} → Meant operation_variable_of i d o →
      SlotAt scope part.Operation x i (record x { operation = d }) o
  -- O
  removed : {x : Operands} {i o : Input} {v : RemovedVariable} → Meant removed_variable_of i v o →
      SlotAt scope part.Removed x i (record x { removed = v }) o
  -- "KEEP_IF_EXISTS" | "REPLACE_IF_EXISTS"
  existing : {x : Operands} {i o : Input} {e : Existing} → Meant existing_of i e o →
      SlotAt scope part.Existing x i (record x { existing = e }) o
  -- C
  context : {x : Operands} {i o : Input} {c : ContextVariable} → ContextAt i c o →
      SlotAt scope part.Context x i (record x { context = c }) o
  -- C, another one
  other : {x : Operands} {i o : Input} {d : ContextVariable} → ContextAt i d o → d ≢ x.context →
      SlotAt scope part.Other x i (record x { other = d }) o
  -- NAME of a routine
  routine_name : {x : Operands} {i o : Input} {r : Routine} → RoutineAt scope.text i r o →
      SlotAt scope part.Routine x i (record x { routine = r }) o
  -- NAME of a declared lock of the kind
  lock_name : {x : Operands} {i o : Input} {kind : LockKind} {l : LockNumber} → LockAt scope kind i l o →
      SlotAt scope (part.Lock kind) x i (record x { lock = l }) o

-- { slot }
pub data SlotsAt (scope : Scope) : List Slot → Operands → Input → Operands → Input → Type 0 where
  no_slots : {x : Operands} {i : Input} → SlotsAt scope [] x i x i
  slot : {x y z : Operands} {i a o : Input} {s : Slot} {ss : List Slot} → SlotAt scope s x i y a → SlotsAt scope ss y a z o →
      SlotsAt scope (s ∷ ss) x i z o

-- what ends a call
pub data TailAt : Tail → Operands → Input → Operands → Input → Type 0 where
  nothing : {x : Operands} {i : Input} → TailAt last.Nothing x i x i
  -- [ "context" C ]
  with_context : {x : Operands} {i o : Input} {c : Option ContextVariable} → OptionalAt k.Context i c o →
      TailAt last.With x i (record x { optional = c }) o
  -- [ "old" C ]
  old : {x : Operands} {i o : Input} {c : Option ContextVariable} → OptionalAt k.Old i c o →
      TailAt last.Old x i (record x { optional = c }) o
  -- [ "old" C ], another C
  other_old : {x : Operands} {i o : Input} {c : Option ContextVariable} → OptionalAt k.Old i c o → c ≢ Some x.context →
      TailAt last.OtherOld x i (record x { optional = c }) o
  -- status
  status : {x : Operands} {i o : Input} {s : Status} → StatusAt i s o → TailAt last.Status x i (record x { status = s }) o

-- ---- calls

-- fallible; the calls of the queue want one
pub data FallibleAt (scope : Scope) : Input → FallibleCall Routine → Input → Type 0 where
  -- word { slot } tail
  fallible : {i a b o : Input} {s : FallibleShape} {x y : Operands} → Meant fallible_shape_of i s a → is_known scope.queue s ≡ true →
      SlotsAt scope (fallible_slots s) unfilled a x b → TailAt (fallible_tail s) x b y o → FallibleAt scope i (fallible_of s y) o

-- plain
pub data PlainAt (scope : Scope) : Input → PlainCall → Input → Type 0 where
  -- word { slot } tail
  plain : {i a b o : Input} {s : PlainShape} {x y : Operands} → Meant plain_shape_of i s a →
      SlotsAt scope (plain_slots s) unfilled a x b → TailAt (plain_tail s) x b y o → PlainAt scope i (plain_of s y) o
