-- The faults of statuses and calls: beside each production a constructor for each place where it can fail. What stands before that
-- place is spelled by the grammar.
use Rattle.std.specs.Prelude.{◌≡◌, true, false, List, ◌∷◌, None}
use Rattle.flt_rules.specs.declared.call.LockKind.{LockKind}
use Rattle.flt_syntax.specs.FirstWords.{begins_fallible, begins_plain}
use Rattle.flt_syntax.specs.WordFails.{Refused, NextFails, MeantFails, KnownFails, NameFails, ContextFails, OtherFails, OptionalFails}
use Rattle.flt_syntax.specs.WordFails.{OtherOldFails}
use Rattle.flt_syntax.specs.CallGrammar.{SlotAt, SlotsAt}
use Rattle.flt_syntax.specs.Cursor.{Input, kind, fault_at}
use Rattle.flt_syntax.specs.Scope.{Scope}
use Rattle.flt_syntax.specs.FirstWords.{begins_status}
use Rattle.flt_syntax.specs.Tables.{fallible_shape_of, plain_shape_of, existing_of, final_status_of, removed_variable_of}
use Rattle.flt_syntax.specs.Tables.{operation_variable_of}
use Rattle.flt_syntax.specs.Words.{Next, Meant, NameAt}
use Rattle.flt_syntax.specs.Shape.{unfilled, fallible_slots, fallible_tail, is_known, plain_slots, plain_tail}
use Rattle.flt_syntax.specs.declared.fault.FaultKind.TheVariants.{E04}
use Rattle.flt_syntax.specs.declared.fault.SyntaxFault.{SyntaxFault}
use Rattle.flt_syntax.specs.declared.shape.FallibleShape.{FallibleShape}
use Rattle.flt_syntax.specs.declared.shape.Operands.{Operands}
use Rattle.flt_syntax.specs.declared.shape.PlainShape.{PlainShape}
use Rattle.flt_syntax.specs.declared.shape.Slot.{Slot}
use Rattle.flt_syntax.specs.declared.shape.Slot.TheVariants as part
use Rattle.flt_syntax.specs.declared.shape.Tail.{Tail}
use Rattle.flt_syntax.specs.declared.shape.Tail.TheVariants as last
use Rattle.flt_syntax.specs.declared.token.Kind.TheVariants as k
use Rattle.flt_tree.specs.Declarations.{lock_number}
use Rattle.flt_tree.specs.Names.{Text}

-- status
pub data StatusFails : Input → SyntaxFault → Type 0 where
  no_status : {i : Input} {f : SyntaxFault} → begins_status (kind i) ≡ false → Refused i f → StatusFails i f
  -- "WITH_CALLBACK" [ "context" C ]
  with_callback : {i a : Input} {f : SyntaxFault} → Next k.WithCallback i a → OptionalFails k.Context a f → StatusFails i f
  -- "SYNCHRONIZE" [ "context" C ]
  synchronize : {i a : Input} {f : SyntaxFault} → Next k.Synchronize i a → OptionalFails k.Context a f → StatusFails i f
  -- "COMPLETE" S
  complete : {i a : Input} {f : SyntaxFault} → Next k.Complete i a → MeantFails final_status_of a f → StatusFails i f

-- [ status ]
pub data OptionalStatusFails : Input → SyntaxFault → Type 0 where
  some : {i : Input} {f : SyntaxFault} → begins_status (kind i) ≡ true → StatusFails i f → OptionalStatusFails i f

-- NAME of a declared lock of the kind
pub data LockFails (scope : Scope) (lock_kind : LockKind) : Input → SyntaxFault → Type 0 where
  no_name : {i : Input} {f : SyntaxFault} → NameFails i f → LockFails scope lock_kind i f
  unknown_lock : {i o : Input} {name : Text} → NameAt scope.text i name o → lock_number lock_kind name scope.locks ≡ None →
      LockFails scope lock_kind i (fault_at E04 i)

-- ---- slots

-- a slot, before which the operands are x
pub data SlotFails (scope : Scope) : Slot → Operands → Input → SyntaxFault → Type 0 where
  -- "data"
  data_word : {x : Operands} {i : Input} {f : SyntaxFault} → NextFails k.Data i f → SlotFails scope part.Data x i f
  -- "as"
  as_word : {x : Operands} {i : Input} {f : SyntaxFault} → NextFails k.As i f → SlotFails scope part.As x i f
  -- "context"
  context_word : {x : Operands} {i : Input} {f : SyntaxFault} → NextFails k.Context i f → SlotFails scope part.With x i f
  -- D
  operation : {x : Operands} {i : Input} {f : SyntaxFault} → KnownFails operation_variable_of i f → SlotFails scope part.Operation x i f
  -- O
  removed : {x : Operands} {i : Input} {f : SyntaxFault} → KnownFails removed_variable_of i f → SlotFails scope part.Removed x i f
  -- "KEEP_IF_EXISTS" | "REPLACE_IF_EXISTS"
  existing : {x : Operands} {i : Input} {f : SyntaxFault} → MeantFails existing_of i f → SlotFails scope part.Existing x i f
  -- C
  context : {x : Operands} {i : Input} {f : SyntaxFault} → ContextFails i f → SlotFails scope part.Context x i f
  -- C, another one
  other : {x : Operands} {i : Input} {f : SyntaxFault} → OtherFails x.context i f → SlotFails scope part.Other x i f
  -- NAME of a routine
  routine_name : {x : Operands} {i : Input} {f : SyntaxFault} → NameFails i f → SlotFails scope part.Routine x i f
  -- NAME of a declared lock of the kind
  lock_name : {x : Operands} {i : Input} {kind : LockKind} {f : SyntaxFault} → LockFails scope kind i f →
      SlotFails scope (part.Lock kind) x i f

-- { slot }
pub data SlotsFail (scope : Scope) : List Slot → Operands → Input → SyntaxFault → Type 0 where
  here : {x : Operands} {i : Input} {s : Slot} {ss : List Slot} {f : SyntaxFault} → SlotFails scope s x i f →
      SlotsFail scope (s ∷ ss) x i f
  later : {x y : Operands} {i a : Input} {s : Slot} {ss : List Slot} {f : SyntaxFault} → SlotAt scope s x i y a →
      SlotsFail scope ss y a f → SlotsFail scope (s ∷ ss) x i f

-- what ends a call
pub data TailFails : Tail → Operands → Input → SyntaxFault → Type 0 where
  -- [ "context" C ]
  with_context : {x : Operands} {i : Input} {f : SyntaxFault} → OptionalFails k.Context i f → TailFails last.With x i f
  -- [ "old" C ]
  old : {x : Operands} {i : Input} {f : SyntaxFault} → OptionalFails k.Old i f → TailFails last.Old x i f
  -- [ "old" C ], another C
  other_old : {x : Operands} {i : Input} {f : SyntaxFault} → OtherOldFails x.context i f → TailFails last.OtherOld x i f
  -- status
  status : {x : Operands} {i : Input} {f : SyntaxFault} → StatusFails i f → TailFails last.Status x i f

-- ---- calls

-- fallible: its word, that of a call of the queue without one, a slot, or what ends it
pub data FallibleFails (scope : Scope) : Input → SyntaxFault → Type 0 where
  no_fallible : {i : Input} {f : SyntaxFault} → begins_fallible (kind i) ≡ false → Refused i f → FallibleFails scope i f
  unknown_call : {i a : Input} {s : FallibleShape} → Meant fallible_shape_of i s a → is_known scope.queue s ≡ false →
      FallibleFails scope i (fault_at E04 i)
  fallible_slot : {i a : Input} {s : FallibleShape} {f : SyntaxFault} → Meant fallible_shape_of i s a → is_known scope.queue s ≡ true →
      SlotsFail scope (fallible_slots s) unfilled a f → FallibleFails scope i f
  fallible_end : {i a b : Input} {s : FallibleShape} {x : Operands} {f : SyntaxFault} → Meant fallible_shape_of i s a →
      is_known scope.queue s ≡ true → SlotsAt scope (fallible_slots s) unfilled a x b → TailFails (fallible_tail s) x b f →
      FallibleFails scope i f

-- plain: its word, a slot, or what ends it
pub data PlainFails (scope : Scope) : Input → SyntaxFault → Type 0 where
  no_plain : {i : Input} {f : SyntaxFault} → begins_plain (kind i) ≡ false → Refused i f → PlainFails scope i f
  plain_slot : {i a : Input} {s : PlainShape} {f : SyntaxFault} → Meant plain_shape_of i s a →
      SlotsFail scope (plain_slots s) unfilled a f → PlainFails scope i f
  plain_end : {i a b : Input} {s : PlainShape} {x : Operands} {f : SyntaxFault} → Meant plain_shape_of i s a →
      SlotsAt scope (plain_slots s) unfilled a x b → TailFails (plain_tail s) x b f → PlainFails scope i f
