-- The words of the tables are read as what they stand for.
use Rattle.std.proofs.Common.{◌≡◌, Bool, true, false, [], ◌∷◌, refl, ap}
use Rattle.std.specs.Prelude.{Option, Some, None}
use Rattle.flt_rules.proofs.Operations.{of_each, same_is}
use Rattle.flt_rules.specs.Place.{same_operation}
use Rattle.flt_rules.specs.declared.call.Anchor.TheVariants.{Stream, Instance}
use Rattle.flt_rules.specs.declared.call.Existing.{Existing}
use Rattle.flt_rules.specs.declared.call.Existing.TheVariants.{Keep, Replace}
use Rattle.flt_rules.specs.declared.call.LockKind.{LockKind}
use Rattle.flt_rules.specs.declared.call.LockKind.TheVariants.{Spin, Fast, Push}
use Rattle.flt_rules.specs.declared.place.Operation.{Operation}
use Rattle.flt_rules.specs.declared.status.FinalStatus.{FinalStatus}
use Rattle.flt_rules.specs.declared.status.FinalStatus.TheVariants as finals
use Rattle.flt_tree.specs.Names.{Text}
use Rattle.flt_syntax.specs.Lex.{keyword, same_kind}
use Rattle.flt_syntax.specs.Tables.{number_variable_of, context_variable_of, removed_variable_of, operation_variable_of}
use Rattle.flt_syntax.specs.Operations.{operation_of}
use Rattle.flt_syntax.specs.Tables.{final_status_of, lock_kind_of, existing_of, fallible_shape_of, plain_shape_of}
use Rattle.flt_print.specs.Vocabulary.{spelling, number_kind, context_kind, removed_kind, operation_variable_kind}
use Rattle.flt_print.specs.Vocabulary.{final_status_kind, operation_kind, lock_kind_kind, existing_kind, fallible_kind, plain_kind}
use Rattle.flt_syntax.specs.Words.{Meant}
use Rattle.flt_syntax.specs.declared.shape.ContextEnd.TheVariants as ends
use Rattle.flt_syntax.specs.declared.shape.ContextSource.TheVariants as sources
use Rattle.flt_syntax.specs.declared.shape.FallibleShape.{FallibleShape}
use Rattle.flt_syntax.specs.declared.shape.FallibleShape.TheVariants as fallible
use Rattle.flt_syntax.specs.declared.shape.LockCall.TheVariants as does
use Rattle.flt_syntax.specs.declared.shape.PlainShape.{PlainShape}
use Rattle.flt_syntax.specs.declared.shape.PlainShape.TheVariants as plain
use Rattle.flt_syntax.specs.declared.shape.QueueCall.TheVariants as queued
use Rattle.flt_tree.specs.declared.variable.ContextVariable.{ContextVariable}
use Rattle.flt_tree.specs.declared.variable.ContextVariable.TheVariants as contexts
use Rattle.flt_tree.specs.declared.variable.NumberVariable.{NumberVariable}
use Rattle.flt_tree.specs.declared.variable.NumberVariable.TheVariants as numbers
use Rattle.flt_tree.specs.declared.variable.OperationVariable.{OperationVariable}
use Rattle.flt_tree.specs.declared.variable.OperationVariable.TheVariants as operations
use Rattle.flt_tree.specs.declared.variable.RemovedVariable.{RemovedVariable}
use Rattle.flt_tree.specs.declared.variable.RemovedVariable.TheVariants as removed
use Rattle.flt_print.proofs.Pieces.{reads_back}
use Rattle.flt_print.proofs.Said.{Says, says_meant}

number_variable_reads : (x : NumberVariable) → reads_back (number_kind x) ≡ true
unfolding spelling keyword same_kind
number_variable_reads numbers.N0 = refl
number_variable_reads numbers.N1 = refl
number_variable_reads numbers.N2 = refl
number_variable_reads numbers.N3 = refl
number_variable_reads numbers.N4 = refl
number_variable_reads numbers.N5 = refl
number_variable_reads numbers.N6 = refl
number_variable_reads numbers.N7 = refl

number_variable_known : (x : NumberVariable) → number_variable_of (number_kind x) ≡ Some x
number_variable_known numbers.N0 = refl
number_variable_known numbers.N1 = refl
number_variable_known numbers.N2 = refl
number_variable_known numbers.N3 = refl
number_variable_known numbers.N4 = refl
number_variable_known numbers.N5 = refl
number_variable_known numbers.N6 = refl
number_variable_known numbers.N7 = refl

context_reads : (x : ContextVariable) → reads_back (context_kind x) ≡ true
unfolding spelling keyword same_kind
context_reads contexts.C0 = refl
context_reads contexts.C1 = refl
context_reads contexts.C2 = refl
context_reads contexts.C3 = refl
context_reads contexts.C4 = refl
context_reads contexts.C5 = refl
context_reads contexts.C6 = refl
context_reads contexts.C7 = refl
context_reads contexts.Arg = refl

context_known : (x : ContextVariable) → context_variable_of (context_kind x) ≡ Some x
context_known contexts.C0 = refl
context_known contexts.C1 = refl
context_known contexts.C2 = refl
context_known contexts.C3 = refl
context_known contexts.C4 = refl
context_known contexts.C5 = refl
context_known contexts.C6 = refl
context_known contexts.C7 = refl
context_known contexts.Arg = refl

removed_reads : (x : RemovedVariable) → reads_back (removed_kind x) ≡ true
unfolding spelling keyword same_kind
removed_reads removed.O0 = refl
removed_reads removed.O1 = refl
removed_reads removed.O2 = refl
removed_reads removed.O3 = refl

removed_known : (x : RemovedVariable) → removed_variable_of (removed_kind x) ≡ Some x
removed_known removed.O0 = refl
removed_known removed.O1 = refl
removed_known removed.O2 = refl
removed_known removed.O3 = refl

operation_variable_reads : (x : OperationVariable) → reads_back (operation_variable_kind x) ≡ true
unfolding spelling keyword same_kind
operation_variable_reads (operations.Removed removed.O0) = refl
operation_variable_reads (operations.Removed removed.O1) = refl
operation_variable_reads (operations.Removed removed.O2) = refl
operation_variable_reads (operations.Removed removed.O3) = refl
operation_variable_reads operations.Data = refl

operation_variable_known : (x : OperationVariable) → operation_variable_of (operation_variable_kind x) ≡ Some x
operation_variable_known (operations.Removed removed.O0) = refl
operation_variable_known (operations.Removed removed.O1) = refl
operation_variable_known (operations.Removed removed.O2) = refl
operation_variable_known (operations.Removed removed.O3) = refl
operation_variable_known operations.Data = refl

final_status_reads : (x : FinalStatus) → reads_back (final_status_kind x) ≡ true
unfolding spelling keyword same_kind
final_status_reads finals.Success = refl
final_status_reads finals.AccessDenied = refl
final_status_reads finals.Cancelled = refl
final_status_reads finals.InsufficientResources = refl
final_status_reads finals.InvalidParameter = refl
final_status_reads finals.Pending = refl

final_status_known : (x : FinalStatus) → final_status_of (final_status_kind x) ≡ Some x
final_status_known finals.Success = refl
final_status_known finals.AccessDenied = refl
final_status_known finals.Cancelled = refl
final_status_known finals.InsufficientResources = refl
final_status_known finals.InvalidParameter = refl
final_status_known finals.Pending = refl

operation_reads : (x : Operation) → reads_back (operation_kind x) ≡ true
unfolding spelling keyword same_kind
operation_reads = of_each (λ x. reads_back (operation_kind x)) refl

operation_known : (x : Operation) → operation_of (operation_kind x) ≡ Some x
operation_known x = known x (operation_of (operation_kind x)) (of_each (λ o. is_known o (operation_of (operation_kind o))) refl x)
  where
    is_known : Operation → Option Operation → Bool
    is_known x None = false
    is_known x (Some o) = same_operation o x

    known : (x : Operation) (found : Option Operation) → is_known x found ≡ true → found ≡ Some x
    known x None h = absurd (cc)
    known x (Some o) h = ap Some (same_is o x h)

lock_kind_reads : (x : LockKind) → reads_back (lock_kind_kind x) ≡ true
unfolding spelling keyword same_kind
lock_kind_reads Spin = refl
lock_kind_reads Fast = refl
lock_kind_reads Push = refl

lock_kind_known : (x : LockKind) → lock_kind_of (lock_kind_kind x) ≡ Some x
lock_kind_known Spin = refl
lock_kind_known Fast = refl
lock_kind_known Push = refl

existing_reads : (x : Existing) → reads_back (existing_kind x) ≡ true
unfolding spelling keyword same_kind
existing_reads Keep = refl
existing_reads Replace = refl

existing_known : (x : Existing) → existing_of (existing_kind x) ≡ Some x
existing_known Keep = refl
existing_known Replace = refl

fallible_reads : (x : FallibleShape) → reads_back (fallible_kind x) ≡ true
unfolding spelling keyword same_kind
fallible_reads (fallible.Obtain sources.Allocate) = refl
fallible_reads (fallible.Obtain (sources.Get Stream)) = refl
fallible_reads (fallible.Obtain (sources.Get Instance)) = refl
fallible_reads (fallible.Set Stream) = refl
fallible_reads (fallible.Set Instance) = refl
fallible_reads (fallible.Delete Stream) = refl
fallible_reads (fallible.Delete Instance) = refl
fallible_reads (fallible.Queue queued.Insert) = refl
fallible_reads (fallible.Queue queued.RemoveNext) = refl
fallible_reads fallible.QueueDeferred = refl
fallible_reads fallible.QueueGeneric = refl

fallible_known : (x : FallibleShape) → fallible_shape_of (fallible_kind x) ≡ Some x
fallible_known (fallible.Obtain sources.Allocate) = refl
fallible_known (fallible.Obtain (sources.Get Stream)) = refl
fallible_known (fallible.Obtain (sources.Get Instance)) = refl
fallible_known (fallible.Set Stream) = refl
fallible_known (fallible.Set Instance) = refl
fallible_known (fallible.Delete Stream) = refl
fallible_known (fallible.Delete Instance) = refl
fallible_known (fallible.Queue queued.Insert) = refl
fallible_known (fallible.Queue queued.RemoveNext) = refl
fallible_known fallible.QueueDeferred = refl
fallible_known fallible.QueueGeneric = refl

plain_reads : (x : PlainShape) → reads_back (plain_kind x) ≡ true
unfolding spelling keyword same_kind
plain_reads (plain.End ends.Delete) = refl
plain_reads (plain.End ends.Release) = refl
plain_reads plain.Reference = refl
plain_reads (plain.Lock (does.Acquire Spin)) = refl
plain_reads (plain.Lock (does.Acquire Fast)) = refl
plain_reads (plain.Lock (does.Acquire Push)) = refl
plain_reads (plain.Lock does.AcquireShared) = refl
plain_reads (plain.Lock (does.Release Spin)) = refl
plain_reads (plain.Lock (does.Release Fast)) = refl
plain_reads (plain.Lock (does.Release Push)) = refl
plain_reads plain.CompletePre = refl
plain_reads plain.CompletePost = refl

plain_known : (x : PlainShape) → plain_shape_of (plain_kind x) ≡ Some x
plain_known (plain.End ends.Delete) = refl
plain_known (plain.End ends.Release) = refl
plain_known plain.Reference = refl
plain_known (plain.Lock (does.Acquire Spin)) = refl
plain_known (plain.Lock (does.Acquire Fast)) = refl
plain_known (plain.Lock (does.Acquire Push)) = refl
plain_known (plain.Lock does.AcquireShared) = refl
plain_known (plain.Lock (does.Release Spin)) = refl
plain_known (plain.Lock (does.Release Fast)) = refl
plain_known (plain.Lock (does.Release Push)) = refl
plain_known plain.CompletePre = refl
plain_known plain.CompletePost = refl

module _ {text : Text} where
  -- the spelling of a number variable says it
  pub says_number_variable : (x : NumberVariable) → Says text (spelling (number_kind x) ∷ []) (λ i o. Meant number_variable_of i x o)
  says_number_variable x = says_meant number_variable_of (number_kind x) x (number_variable_reads x) (number_variable_known x)

  -- the spelling of a context variable says it
  pub says_context : (x : ContextVariable) → Says text (spelling (context_kind x) ∷ []) (λ i o. Meant context_variable_of i x o)
  says_context x = says_meant context_variable_of (context_kind x) x (context_reads x) (context_known x)

  -- the spelling of a variable for a removed operation says it
  pub says_removed : (x : RemovedVariable) → Says text (spelling (removed_kind x) ∷ []) (λ i o. Meant removed_variable_of i x o)
  says_removed x = says_meant removed_variable_of (removed_kind x) x (removed_reads x) (removed_known x)

  -- the spelling of an operation variable says it
  pub says_operation_variable : (x : OperationVariable) →
      Says text (spelling (operation_variable_kind x) ∷ []) (λ i o. Meant operation_variable_of i x o)
  says_operation_variable x = says_meant operation_variable_of (operation_variable_kind x) x (operation_variable_reads x)
      (operation_variable_known x)

  -- the spelling of a final status says it
  pub says_final_status : (x : FinalStatus) → Says text (spelling (final_status_kind x) ∷ []) (λ i o. Meant final_status_of i x o)
  says_final_status x = says_meant final_status_of (final_status_kind x) x (final_status_reads x) (final_status_known x)

  -- the spelling of an operation says it
  pub says_operation : (x : Operation) → Says text (spelling (operation_kind x) ∷ []) (λ i o. Meant operation_of i x o)
  says_operation x = says_meant operation_of (operation_kind x) x (operation_reads x) (operation_known x)

  -- the spelling of a kind of lock says it
  pub says_lock_kind : (x : LockKind) → Says text (spelling (lock_kind_kind x) ∷ []) (λ i o. Meant lock_kind_of i x o)
  says_lock_kind x = says_meant lock_kind_of (lock_kind_kind x) x (lock_kind_reads x) (lock_kind_known x)

  -- the spelling of what becomes of an existing context says it
  pub says_existing : (x : Existing) → Says text (spelling (existing_kind x) ∷ []) (λ i o. Meant existing_of i x o)
  says_existing x = says_meant existing_of (existing_kind x) x (existing_reads x) (existing_known x)

  -- the word of a call that can fail says its shape
  pub says_fallible_shape : (x : FallibleShape) → Says text (spelling (fallible_kind x) ∷ []) (λ i o. Meant fallible_shape_of i x o)
  says_fallible_shape x = says_meant fallible_shape_of (fallible_kind x) x (fallible_reads x) (fallible_known x)

  -- the word of a call that always succeeds says its shape
  pub says_plain_shape : (x : PlainShape) → Says text (spelling (plain_kind x) ∷ []) (λ i o. Meant plain_shape_of i x o)
  says_plain_shape x = says_meant plain_shape_of (plain_kind x) x (plain_reads x) (plain_known x)
