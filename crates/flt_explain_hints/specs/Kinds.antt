-- The kinds of words that stand in like places. The language of texts.
use Rattle.std.specs.Prelude.{Bool, true, false, ◌||◌, List, ◌∷◌, Option, Some, None, is_some}
use Rattle.flt_rules.specs.declared.call.LockKind.{LockKind}
use Rattle.flt_syntax.specs.Shape.{fallible_shape_of, plain_shape_of, slots_of}
use Rattle.flt_syntax.specs.declared.shape.Slot.{Slot}
use Rattle.flt_syntax.specs.declared.shape.Slot.TheVariants as part
use Rattle.flt_syntax.specs.declared.token.Kind.{Kind}
use Rattle.flt_syntax.specs.declared.token.Kind.TheVariants as k

-- calls that can fail
abbrev pub is_fallible : Kind → Bool
is_fallible kind = is_some (fallible_shape_of kind)

-- calls that always succeed
abbrev pub is_plain : Kind → Bool
is_plain kind = is_some (plain_shape_of kind)

-- calls
abbrev pub is_call : Kind → Bool
is_call kind = is_fallible kind || is_plain kind

-- words that stand among the operands of calls and aren't variables or statuses
abbrev pub is_operand_word : Kind → Bool
is_operand_word k.Name = true
is_operand_word k.Data = true
is_operand_word k.As = true
is_operand_word k.Old = true
is_operand_word k.Context = true
is_operand_word k.KeepIfExists = true
is_operand_word k.ReplaceIfExists = true
is_operand_word _ = false

-- what an operation is completed with
abbrev pub is_final_status : Kind → Bool
is_final_status k.StatusSuccess = true
is_final_status k.StatusAccessDenied = true
is_final_status k.StatusCancelled = true
is_final_status k.StatusInsufficientResources = true
is_final_status k.StatusInvalidParameter = true
is_final_status k.StatusPending = true
is_final_status _ = false

-- the kind of the lock whose name is in the first slot
abbrev pub lock_among : List Slot → Option LockKind
lock_among (part.Lock lock ∷ slots) = Some lock
lock_among _ = None

-- the kind of the lock whose name follows the word of a call
abbrev pub lock_of : Kind → Option LockKind
lock_of kind = lock_among (slots_of kind)

-- words that begin a callback
abbrev pub begins_callback : Kind → Bool
begins_callback k.Pre = true
begins_callback k.Post = true
begins_callback k.Canceled = true
begins_callback k.DeferredPre = true
begins_callback k.DeferredPost = true
begins_callback k.Generic = true
begins_callback _ = false

-- the variables of numbers
abbrev pub is_number_variable : Kind → Bool
is_number_variable k.N0 = true
is_number_variable k.N1 = true
is_number_variable k.N2 = true
is_number_variable k.N3 = true
is_number_variable k.N4 = true
is_number_variable k.N5 = true
is_number_variable k.N6 = true
is_number_variable k.N7 = true
is_number_variable _ = false

-- the variables of contexts
abbrev pub is_context_variable : Kind → Bool
is_context_variable k.C0 = true
is_context_variable k.C1 = true
is_context_variable k.C2 = true
is_context_variable k.C3 = true
is_context_variable k.C4 = true
is_context_variable k.C5 = true
is_context_variable k.C6 = true
is_context_variable k.C7 = true
is_context_variable k.Arg = true
is_context_variable _ = false

-- the variables of operations
abbrev pub is_operation_variable : Kind → Bool
is_operation_variable k.O0 = true
is_operation_variable k.O1 = true
is_operation_variable k.O2 = true
is_operation_variable k.O3 = true
is_operation_variable _ = false

-- all variables
abbrev pub is_variable : Kind → Bool
is_variable kind = is_number_variable kind || (is_context_variable kind || is_operation_variable kind)

-- what a callback returns
abbrev pub is_status : Kind → Bool
is_status k.WithCallback = true
is_status k.Synchronize = true
is_status k.NoCallback = true
is_status k.Pending = true
is_status k.DisallowFastIo = true
is_status k.Complete = true
is_status k.FinishedProcessing = true
is_status k.MoreProcessingRequired = true
is_status _ = false
