-- Calls with their operands by what they are to the call. This project's own form of the call pages.
use Rattle.std.specs.Prelude.{ℕ, Some, None}
use Rattle.flt_rules.specs.declared.call.Call.{Call}
use Rattle.flt_rules.specs.declared.call.Call.TheVariants as call
use Rattle.flt_tree.specs.Filter.{context_of}
use Rattle.flt_tree.specs.Variable.{whose}
use Rattle.flt_tree.specs.declared.filter.FallibleCall.{FallibleCall}
use Rattle.flt_tree.specs.declared.filter.FallibleCall.TheVariants as fallible_call
use Rattle.flt_tree.specs.declared.filter.PlainCall.{PlainCall}
use Rattle.flt_tree.specs.declared.filter.PlainCall.TheVariants as plain_call
use Rattle.flt_tree.specs.declared.variable.OperationVariable.TheVariants as operation
use Rattle.flt_graph.specs.declared.instruction.Invocation.{Invocation}
use Rattle.flt_graph.specs.declared.instruction.ResolvedCall.{ResolvedCall}
use Rattle.flt_graph.specs.declared.instruction.ResolvedCall.TheVariants as resolved

-- an invocation that names no operand
abbrev pub bare : Call → Invocation
bare c = record { call = c; context = None; output = None; operation = None; status = None; lock = None; routine = None }

abbrev pub plain : PlainCall → Invocation
plain (plain_call.DeleteContext c) = record (bare call.DeleteContext) { context = Some c }
plain (plain_call.ReferenceContext c d) = record (bare call.ReferenceContext) { context = Some c; output = Some d }
plain (plain_call.ReleaseContext c) = record (bare call.ReleaseContext) { context = Some c }
plain (plain_call.AcquireLock k l) = record (bare (call.AcquireLock k)) { lock = Some l }
plain (plain_call.AcquirePushLockShared l) = record (bare call.AcquirePushLockShared) { lock = Some l }
plain (plain_call.ReleaseLock k l) = record (bare (call.ReleaseLock k)) { lock = Some l }
plain (plain_call.CompletePendedPreOperation d st) =
    record (bare (call.CompletePendedPreOperation (whose d))) { operation = Some d; context = context_of st; status = Some st }
plain plain_call.CompletePendedPostOperation = record (bare call.CompletePendedPostOperation) { operation = Some operation.Data }

abbrev pub fallible : FallibleCall ℕ → Invocation
fallible (fallible_call.AllocateContext d) = record (bare call.AllocateContext) { output = Some d }
fallible (fallible_call.GetContext a d) = record (bare (call.GetContext a)) { output = Some d; operation = Some operation.Data }
fallible (fallible_call.SetContext a e c d) =
    record (bare (call.SetContext a e)) { context = Some c; output = d; operation = Some operation.Data }
fallible (fallible_call.DeleteContextOf a d) = record (bare (call.DeleteContextOf a)) { output = d; operation = Some operation.Data }
fallible (fallible_call.InsertIo c) = record (bare call.InsertIo) { context = c; operation = Some operation.Data }
fallible (fallible_call.RemoveNextIo o d) =
    record (bare call.RemoveNextIo) { operation = Some (operation.Removed o); output = Some d }
fallible (fallible_call.QueueDeferredIoWorkItem n c) =
    record (bare call.QueueDeferredIoWorkItem) { context = c; operation = Some operation.Data; routine = Some n }
fallible (fallible_call.QueueGenericWorkItem n c) = record (bare call.QueueGenericWorkItem) { context = c; routine = Some n }

-- a call of either kind
abbrev pub roles : ResolvedCall → Invocation
roles (resolved.Plain c) = plain c
roles (resolved.Fallible c) = fallible c
