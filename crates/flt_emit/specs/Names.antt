-- How variables, operations and statuses are called in C. Source: fltKernel.h and wdm.h of the driver kit.
use Rattle.std.specs.Prelude.{codes, drop, Option, Some, None}
use Rattle.flt_rules.specs.Place as rules
use Rattle.flt_rules.specs.declared.call.Anchor.{Anchor}
use Rattle.flt_rules.specs.declared.call.Anchor.TheVariants.{Stream, Instance}
use Rattle.flt_rules.specs.declared.call.Existing.{Existing}
use Rattle.flt_rules.specs.declared.call.Existing.TheVariants.{Keep, Replace}
use Rattle.flt_rules.specs.declared.place.Operation.{Operation}
use Rattle.flt_rules.specs.declared.place.Place.{Place}
use Rattle.flt_rules.specs.declared.place.Place.TheVariants as place
use Rattle.flt_rules.specs.declared.status.FinalStatus.{FinalStatus}
use Rattle.flt_rules.specs.declared.status.FinalStatus.TheVariants as finals
use Rattle.flt_tree.specs.Names.{Text}
use Rattle.flt_tree.specs.declared.filter.Status.{Status}
use Rattle.flt_tree.specs.declared.filter.Status.TheVariants as statuses
use Rattle.flt_tree.specs.declared.variable.ContextVariable.{ContextVariable}
use Rattle.flt_tree.specs.declared.variable.ContextVariable.TheVariants as contexts
use Rattle.flt_tree.specs.declared.variable.NumberVariable.{NumberVariable}
use Rattle.flt_tree.specs.declared.variable.NumberVariable.TheVariants as numbers
use Rattle.flt_tree.specs.declared.variable.OperationVariable.{OperationVariable}
use Rattle.flt_tree.specs.declared.variable.OperationVariable.TheVariants as operations
use Rattle.flt_tree.specs.declared.variable.RemovedVariable.{RemovedVariable}
use Rattle.flt_tree.specs.declared.variable.RemovedVariable.TheVariants as removed

-- ---- variables

-- a variable of numbers
abbrev pub number_name : NumberVariable → Text
number_name numbers.N0 = codes "n0"
number_name numbers.N1 = codes "n1"
number_name numbers.N2 = codes "n2"
number_name numbers.N3 = codes "n3"
number_name numbers.N4 = codes "n4"
number_name numbers.N5 = codes "n5"
number_name numbers.N6 = codes "n6"
number_name numbers.N7 = codes "n7"

-- a variable of contexts
abbrev pub context_name : ContextVariable → Text
context_name contexts.C0 = codes "c0"
context_name contexts.C1 = codes "c1"
context_name contexts.C2 = codes "c2"
context_name contexts.C3 = codes "c3"
context_name contexts.C4 = codes "c4"
context_name contexts.C5 = codes "c5"
context_name contexts.C6 = codes "c6"
context_name contexts.C7 = codes "c7"
context_name contexts.Arg = codes "arg"

-- a context, or NULL where there is none
abbrev pub context_or_null : Option ContextVariable → Text
context_or_null None = codes "NULL"
context_or_null (Some c) = context_name c

-- a variable of operations that were removed from the queue
abbrev pub removed_name : RemovedVariable → Text
removed_name removed.O0 = codes "o0"
removed_name removed.O1 = codes "o1"
removed_name removed.O2 = codes "o2"
removed_name removed.O3 = codes "o3"

-- a variable of operations
abbrev pub operation_name : OperationVariable → Text
operation_name (operations.Removed o) = removed_name o
operation_name operations.Data = codes "Data"

-- ---- what a callback is given

-- its instance: the filter manager names it to a pre and a post callback, the others look for it first
abbrev pub instance : Place → Text
instance (place.Pre op) = codes "FltObjects->Instance"
instance (place.Post op) = codes "FltObjects->Instance"
instance _ = codes "Instance"

-- the file object of its own operation
abbrev pub own_file : Place → Text
own_file (place.Pre op) = codes "FltObjects->FileObject"
own_file (place.Post op) = codes "FltObjects->FileObject"
own_file _ = codes "Data->Iopb->TargetFileObject"

-- ---- words of calls and statuses

-- how the functions end that get, set and delete the context of a stream or of an instance
abbrev pub anchor_name : Anchor → Text
anchor_name Stream = codes "StreamContext( "
anchor_name Instance = codes "InstanceContext( "

-- what a set does where a context is there already
abbrev pub existing_name : Existing → Text
existing_name Keep = codes "FLT_SET_CONTEXT_KEEP_IF_EXISTS"
existing_name Replace = codes "FLT_SET_CONTEXT_REPLACE_IF_EXISTS"

-- the final status of an operation
abbrev pub final_status_name : FinalStatus → Text
final_status_name finals.Success = codes "STATUS_SUCCESS"
final_status_name finals.AccessDenied = codes "STATUS_ACCESS_DENIED"
final_status_name finals.Cancelled = codes "STATUS_CANCELLED"
final_status_name finals.InsufficientResources = codes "STATUS_INSUFFICIENT_RESOURCES"
final_status_name finals.InvalidParameter = codes "STATUS_INVALID_PARAMETER"
final_status_name finals.Pending = codes "STATUS_PENDING"

-- what a callback returns
abbrev pub status_name : Status → Text
status_name (statuses.WithCallback c) = codes "FLT_PREOP_SUCCESS_WITH_CALLBACK"
status_name (statuses.Synchronize c) = codes "FLT_PREOP_SYNCHRONIZE"
status_name statuses.NoCallback = codes "FLT_PREOP_SUCCESS_NO_CALLBACK"
status_name (statuses.Complete s) = codes "FLT_PREOP_COMPLETE"
status_name statuses.Pending = codes "FLT_PREOP_PENDING"
status_name statuses.DisallowFastIo = codes "FLT_PREOP_DISALLOW_FASTIO"
status_name statuses.FinishedProcessing = codes "FLT_POSTOP_FINISHED_PROCESSING"
status_name statuses.MoreProcessingRequired = codes "FLT_POSTOP_MORE_PROCESSING_REQUIRED"

-- ---- operations

-- the major function of an operation
abbrev pub major_name : Operation → Text
major_name operation = drop 7 (rules.major_name operation)

-- how the names of an operation's callbacks end
abbrev pub operation_word : Operation → Text
operation_word = rules.operation_title
