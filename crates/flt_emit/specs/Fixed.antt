-- The parts of a source that are the same for all filters. Source: the samples of the driver kit.
use Rattle.std.specs.Prelude.{◌++◌, codes}
use Rattle.flt_tree.specs.Names.{Text}

-- how a file begins, up to the filter's name
unfoldable pub comment_begin : Text
comment_begin =
    codes "/*\n *  "

-- what the source is, up to the filter's name
unfoldable pub source_title : Text
source_title =
    codes ".c - minifilter `"

-- up to the altitude
unfoldable pub altitude_title : Text
altitude_title =
    codes "`, altitude "

-- what stands at the head of the source, behind the filter's name
unfoldable pub written : Text
written =
    codes " *\n"
    ++ codes " *  Written by fltstack from the filter's text. Each statement of the text is one statement here, in the text's order; its\n"
    ++ codes " *  point and its line in the text follow it. Your own code goes to the header that is named below. Don't change this\n"
    ++ codes " *  file: change the text and write it anew.\n */\n\n#include <fltKernel.h>\n"

-- the contexts, which post callbacks look at where nothing may be paged
unfoldable pub contexts : Text
contexts =
    codes "\n//\n//  A context of the text. Post callbacks look at it at DISPATCH_LEVEL, so it is never paged.\n//\n\n"
    ++ codes "typedef struct _FILTER_CONTEXT {\n\n    volatile ULONG64 Value;    // the text's `value`\n    USER_CONTEXT_FIELDS\n\n"
    ++ codes "} FILTER_CONTEXT, *PFILTER_CONTEXT;\n\nstatic struct {\n\n    PFLT_FILTER Filter;\n"
    ++ codes "    volatile LONG Attached;    // 1 once there is an instance: the text is of one volume\n"

-- the fields of the queue
unfoldable pub queue_fields : Text
queue_fields =
    codes "    FLT_CALLBACK_DATA_QUEUE Queue;\n    KSPIN_LOCK QueueLock;      // guards QueueHead\n    LIST_ENTRY QueueHead;\n"

-- the end of what all callbacks have in common
unfoldable pub globals_end : Text
globals_end =
    codes "\n} Globals;\n\nDRIVER_INITIALIZE DriverEntry;\n"

-- how contexts are allocated and referenced
unfoldable pub allocating : Text
allocating =
    codes "\n//\n//  Calls that take more than one step, or that leave their results in variables.\n//\n\nNTSTATUS\n"
    ++ codes "AllocateContext(\n    FLT_CONTEXT_TYPE Type,\n    PFILTER_CONTEXT *Context\n    )\n{\n"
    ++ codes "    PFLT_CONTEXT context = NULL;\n    NTSTATUS status;\n\n    *Context = NULL;\n"
    ++ codes "    status = FltAllocateContext( Globals.Filter, Type, sizeof( FILTER_CONTEXT ), NonPagedPoolNx, &context );\n\n"
    ++ codes "    if (NT_SUCCESS( status )) {\n        RtlZeroMemory( context, sizeof( FILTER_CONTEXT ) );\n"
    ++ codes "        *Context = context;\n    }\n\n    return status;\n}\n\nPFILTER_CONTEXT\nReferenceContext(\n"
    ++ codes "    PFILTER_CONTEXT Context\n    )\n{\n    FltReferenceContext( Context );\n    return Context;\n}\n"

-- how the context of a stream is got, set and deleted
unfoldable pub stream_contexts : Text
stream_contexts =
    codes "\nNTSTATUS\nGetStreamContext(\n    PFLT_INSTANCE Instance,\n    PFILE_OBJECT FileObject,\n"
    ++ codes "    PFILTER_CONTEXT *Context\n    )\n{\n    PFLT_CONTEXT context = NULL;\n"
    ++ codes "    NTSTATUS status = FltGetStreamContext( Instance, FileObject, &context );\n\n"
    ++ codes "    *Context = NT_SUCCESS( status ) ? context : NULL;\n    return status;\n}\n\nNTSTATUS\nSetStreamContext(\n"
    ++ codes "    PFLT_INSTANCE Instance,\n    PFILE_OBJECT FileObject,\n    FLT_SET_CONTEXT_OPERATION Operation,\n"
    ++ codes "    PFILTER_CONTEXT NewContext,\n    PFILTER_CONTEXT *OldContext\n    )\n{\n    PFLT_CONTEXT old = NULL;\n"
    ++ codes "    NTSTATUS status = FltSetStreamContext( Instance, FileObject, Operation, NewContext, OldContext == NULL ? NULL : &old );\n"
    ++ codes "\n    if (OldContext != NULL) {\n        *OldContext = old;\n    }\n\n    return status;\n}\n\nNTSTATUS\n"
    ++ codes "DeleteStreamContext(\n    PFLT_INSTANCE Instance,\n    PFILE_OBJECT FileObject,\n    PFILTER_CONTEXT *OldContext\n"
    ++ codes "    )\n{\n    PFLT_CONTEXT old = NULL;\n"
    ++ codes "    NTSTATUS status = FltDeleteStreamContext( Instance, FileObject, OldContext == NULL ? NULL : &old );\n\n"
    ++ codes "    if (OldContext != NULL) {\n        *OldContext = NT_SUCCESS( status ) ? old : NULL;\n    }\n\n    return status;\n"
    ++ codes "}\n"

-- the same of the instance
unfoldable pub instance_contexts : Text
instance_contexts =
    codes "\nNTSTATUS\nGetInstanceContext(\n    PFLT_INSTANCE Instance,\n    PFILTER_CONTEXT *Context\n    )\n{\n"
    ++ codes "    PFLT_CONTEXT context = NULL;\n    NTSTATUS status = FltGetInstanceContext( Instance, &context );\n\n"
    ++ codes "    *Context = NT_SUCCESS( status ) ? context : NULL;\n    return status;\n}\n\nNTSTATUS\nSetInstanceContext(\n"
    ++ codes "    PFLT_INSTANCE Instance,\n    FLT_SET_CONTEXT_OPERATION Operation,\n    PFILTER_CONTEXT NewContext,\n"
    ++ codes "    PFILTER_CONTEXT *OldContext\n    )\n{\n    PFLT_CONTEXT old = NULL;\n"
    ++ codes "    NTSTATUS status = FltSetInstanceContext( Instance, Operation, NewContext, OldContext == NULL ? NULL : &old );\n\n"
    ++ codes "    if (OldContext != NULL) {\n        *OldContext = old;\n    }\n\n    return status;\n}\n\nNTSTATUS\n"
    ++ codes "DeleteInstanceContext(\n    PFLT_INSTANCE Instance,\n    PFILTER_CONTEXT *OldContext\n    )\n{\n"
    ++ codes "    PFLT_CONTEXT old = NULL;\n"
    ++ codes "    NTSTATUS status = FltDeleteInstanceContext( Instance, OldContext == NULL ? NULL : &old );\n\n"
    ++ codes "    if (OldContext != NULL) {\n        *OldContext = NT_SUCCESS( status ) ? old : NULL;\n    }\n\n    return status;\n"
    ++ codes "}\n"

-- how work items are queued
unfoldable pub work_items : Text
work_items =
    codes "\nNTSTATUS\nQueueDeferredIo(\n    PFLT_CALLBACK_DATA Data,\n    PFLT_DEFERRED_IO_WORKITEM_ROUTINE Routine,\n"
    ++ codes "    PVOID Context\n    )\n{\n    PFLT_DEFERRED_IO_WORKITEM item = FltAllocateDeferredIoWorkItem();\n"
    ++ codes "    NTSTATUS status;\n\n    if (item == NULL) {\n        return STATUS_INSUFFICIENT_RESOURCES;\n    }\n\n"
    ++ codes "    status = FltQueueDeferredIoWorkItem( item, Data, Routine, DelayedWorkQueue, Context );\n\n"
    ++ codes "    if (!NT_SUCCESS( status )) {\n        FltFreeDeferredIoWorkItem( item );\n    }\n\n    return status;\n}\n\n"
    ++ codes "NTSTATUS\nQueueGeneric(\n    PFLT_INSTANCE Instance,\n    PFLT_GENERIC_WORKITEM_ROUTINE Routine,\n    PVOID Context\n"
    ++ codes "    )\n{\n    PFLT_GENERIC_WORKITEM item = FltAllocateGenericWorkItem();\n    NTSTATUS status;\n\n"
    ++ codes "    if (item == NULL) {\n        return STATUS_INSUFFICIENT_RESOURCES;\n    }\n\n"
    ++ codes "    status = FltQueueGenericWorkItem( item, Instance, Routine, DelayedWorkQueue, Context );\n\n"
    ++ codes "    if (!NT_SUCCESS( status )) {\n        FltFreeGenericWorkItem( item );\n    }\n\n    return status;\n}\n"

-- how operations are put into the queue and removed from it
unfoldable pub queueing : Text
queueing =
    codes "\nNTSTATUS\nInsertIo(\n    PFLT_CALLBACK_DATA Data,\n    PVOID Context\n    )\n{\n"
    ++ codes "    Data->QueueContext[0] = Context;\n    Data->QueueContext[1] = NULL;\n"
    ++ codes "    return FltCbdqInsertIo( &Globals.Queue, Data, NULL, NULL );\n}\n\nNTSTATUS\nRemoveNextIo(\n"
    ++ codes "    PFLT_CALLBACK_DATA *Data,\n    PFILTER_CONTEXT *Context\n    )\n{\n"
    ++ codes "    *Data = FltCbdqRemoveNextIo( &Globals.Queue, NULL );\n"
    ++ codes "    *Context = (*Data == NULL) ? NULL : (*Data)->QueueContext[0];\n"
    ++ codes "    return (*Data == NULL) ? STATUS_NOT_FOUND : STATUS_SUCCESS;\n}\n"

-- the callbacks of the queue that keep its entries in order
unfoldable pub queue_callbacks : Text
queue_callbacks =
    codes "\n//\n//  The cancel-safe queue: first in, first out, under its own spin lock.\n//\n\nNTSTATUS FLTAPI\nCsqInsertIo(\n"
    ++ codes "    _Inout_ PFLT_CALLBACK_DATA_QUEUE Cbdq,\n    _In_ PFLT_CALLBACK_DATA Data,\n    _In_opt_ PVOID InsertContext\n"
    ++ codes "    )\n{\n    UNREFERENCED_PARAMETER( Cbdq );\n    UNREFERENCED_PARAMETER( InsertContext );\n\n"
    ++ codes "    InsertTailList( &Globals.QueueHead, &Data->QueueLinks );\n    return STATUS_SUCCESS;\n}\n\nVOID FLTAPI\n"
    ++ codes "CsqRemoveIo(\n    _Inout_ PFLT_CALLBACK_DATA_QUEUE Cbdq,\n    _In_ PFLT_CALLBACK_DATA Data\n    )\n{\n"
    ++ codes "    UNREFERENCED_PARAMETER( Cbdq );\n\n    RemoveEntryList( &Data->QueueLinks );\n}\n\nPFLT_CALLBACK_DATA FLTAPI\n"
    ++ codes "CsqPeekNextIo(\n    _In_ PFLT_CALLBACK_DATA_QUEUE Cbdq,\n    _In_opt_ PFLT_CALLBACK_DATA Data,\n"
    ++ codes "    _In_opt_ PVOID PeekContext\n    )\n{\n"
    ++ codes "    PLIST_ENTRY next = (Data == NULL) ? Globals.QueueHead.Flink : Data->QueueLinks.Flink;\n\n"
    ++ codes "    UNREFERENCED_PARAMETER( Cbdq );\n    UNREFERENCED_PARAMETER( PeekContext );\n\n"
    ++ codes "    return (next == &Globals.QueueHead) ? NULL : CONTAINING_RECORD( next, FLT_CALLBACK_DATA, QueueLinks );\n}\n"

-- the callbacks of the queue that take and release its lock
unfoldable pub queue_locking : Text
queue_locking =
    codes "\nVOID FLTAPI\nCsqAcquire(\n    _In_ PFLT_CALLBACK_DATA_QUEUE Cbdq,\n    _Out_opt_ PKIRQL Irql\n    )\n{\n"
    ++ codes "    UNREFERENCED_PARAMETER( Cbdq );\n\n    KeAcquireSpinLock( &Globals.QueueLock, Irql );\n}\n\nVOID FLTAPI\n"
    ++ codes "CsqRelease(\n    _In_ PFLT_CALLBACK_DATA_QUEUE Cbdq,\n    _In_opt_ KIRQL Irql\n    )\n{\n"
    ++ codes "    UNREFERENCED_PARAMETER( Cbdq );\n\n    KeReleaseSpinLock( &Globals.QueueLock, Irql );\n}\n\n//\n"
    ++ codes "//  From here on an insert fails, and the operations in the queue are treated as cancelled ones.\n//\n\nVOID FLTAPI\n"
    ++ codes "InstanceTeardownStart(\n    _In_ PCFLT_RELATED_OBJECTS FltObjects,\n    _In_ FLT_INSTANCE_TEARDOWN_FLAGS Reason\n"
    ++ codes "    )\n{\n    PFLT_CALLBACK_DATA data;\n\n    UNREFERENCED_PARAMETER( FltObjects );\n"
    ++ codes "    UNREFERENCED_PARAMETER( Reason );\n\n    FltCbdqDisable( &Globals.Queue );\n\n"
    ++ codes "    while ((data = FltCbdqRemoveNextIo( &Globals.Queue, NULL )) != NULL) {\n"
    ++ codes "        CompleteCanceledIo( &Globals.Queue, data );\n    }\n}\n"

-- how the filter attaches to one volume
unfoldable pub attaching : Text
attaching =
    codes "\n//\n//  Registration.\n//\n\nNTSTATUS FLTAPI\nInstanceSetup(\n    _In_ PCFLT_RELATED_OBJECTS FltObjects,\n"
    ++ codes "    _In_ FLT_INSTANCE_SETUP_FLAGS Flags,\n    _In_ DEVICE_TYPE VolumeDeviceType,\n"
    ++ codes "    _In_ FLT_FILESYSTEM_TYPE VolumeFilesystemType\n    )\n{\n    UNREFERENCED_PARAMETER( Flags );\n\n"
    ++ codes "    if (!USER_WANTS_VOLUME( FltObjects, VolumeDeviceType, VolumeFilesystemType )) {\n"
    ++ codes "        return STATUS_FLT_DO_NOT_ATTACH;\n    }\n\n"
    ++ codes "    if (InterlockedCompareExchange( &Globals.Attached, 1, 0 ) != 0) {\n        return STATUS_FLT_DO_NOT_ATTACH;\n"
    ++ codes "    }\n\n"

-- how the queue begins
unfoldable pub queue_setup : Text
queue_setup =
    codes "    if (!NT_SUCCESS( FltCbdqInitialize( FltObjects->Instance,\n"
    ++ codes "                                        &Globals.Queue,\n                                        CsqInsertIo,\n"
    ++ codes "                                        CsqRemoveIo,\n                                        CsqPeekNextIo,\n"
    ++ codes "                                        CsqAcquire,\n                                        CsqRelease,\n"
    ++ codes "                                        CompleteCanceledIo ) )) {\n"
    ++ codes "        InterlockedExchange( &Globals.Attached, 0 );\n        return STATUS_FLT_DO_NOT_ATTACH;\n    }\n\n"

-- how the filter detaches, up to the locks that are deleted then
unfoldable pub detaching : Text
detaching =
    codes "    return STATUS_SUCCESS;\n}\n\nNTSTATUS FLTAPI\nInstanceQueryTeardown(\n    _In_ PCFLT_RELATED_OBJECTS FltObjects,\n"
    ++ codes "    _In_ FLT_INSTANCE_QUERY_TEARDOWN_FLAGS Flags\n    )\n{\n    UNREFERENCED_PARAMETER( FltObjects );\n"
    ++ codes "    UNREFERENCED_PARAMETER( Flags );\n\n    return STATUS_SUCCESS;\n}\n\nVOID FLTAPI\nInstanceTeardownComplete(\n"
    ++ codes "    _In_ PCFLT_RELATED_OBJECTS FltObjects,\n    _In_ FLT_INSTANCE_TEARDOWN_FLAGS Reason\n    )\n{\n"
    ++ codes "    UNREFERENCED_PARAMETER( FltObjects );\n    UNREFERENCED_PARAMETER( Reason );\n\n"
    ++ codes "    InterlockedExchange( &Globals.Attached, 0 );\n}\n\nNTSTATUS FLTAPI\nFilterUnload(\n"
    ++ codes "    _In_ FLT_FILTER_UNLOAD_FLAGS Flags\n    )\n{\n    UNREFERENCED_PARAMETER( Flags );\n\n"
    ++ codes "    FltUnregisterFilter( Globals.Filter );\n"

-- what stands before the registered operations
unfoldable pub operations : Text
operations =
    codes "    return STATUS_SUCCESS;\n}\n\nconst FLT_OPERATION_REGISTRATION Callbacks[] = {\n"

-- the contexts that are registered, and the callbacks but one
unfoldable pub registration : Text
registration =
    codes "    { IRP_MJ_OPERATION_END, 0, NULL, NULL, NULL }\n};\n\nconst FLT_CONTEXT_REGISTRATION Contexts[] = {\n"
    ++ codes "    { FLT_STREAM_CONTEXT, 0, NULL, sizeof( FILTER_CONTEXT ), USER_CONTEXT_TAG, NULL, NULL, NULL },\n"
    ++ codes "    { FLT_INSTANCE_CONTEXT, 0, NULL, sizeof( FILTER_CONTEXT ), USER_CONTEXT_TAG, NULL, NULL, NULL },\n"
    ++ codes "    { FLT_CONTEXT_END, 0, NULL, 0, 0, NULL, NULL, NULL }\n};\n\nconst FLT_REGISTRATION Registration = {\n"
    ++ codes "    .Size = sizeof( FLT_REGISTRATION ),\n    .Version = FLT_REGISTRATION_VERSION,\n"
    ++ codes "    .ContextRegistration = Contexts,\n    .OperationRegistration = Callbacks,\n"
    ++ codes "    .FilterUnloadCallback = FilterUnload,\n    .InstanceSetupCallback = InstanceSetup,\n"
    ++ codes "    .InstanceQueryTeardownCallback = InstanceQueryTeardown,\n"

-- the callback that a filter with a queue registers
unfoldable pub queue_registration : Text
queue_registration =
    codes "    .InstanceTeardownStartCallback = InstanceTeardownStart,\n"

-- how the driver begins, up to its locks
unfoldable pub entry : Text
entry =
    codes "    .InstanceTeardownCompleteCallback = InstanceTeardownComplete,\n};\n\nNTSTATUS NTAPI\nDriverEntry(\n"
    ++ codes "    _In_ PDRIVER_OBJECT DriverObject,\n    _In_ PUNICODE_STRING RegistryPath\n    )\n{\n    NTSTATUS status;\n\n"
    ++ codes "    UNREFERENCED_PARAMETER( RegistryPath );\n"

-- how the lock of the queue and its list begin
unfoldable pub queue_entry : Text
queue_entry =
    codes "    KeInitializeSpinLock( &Globals.QueueLock );\n    InitializeListHead( &Globals.QueueHead );\n"

-- how the driver registers
unfoldable pub registering : Text
registering =
    codes "\n    status = FltRegisterFilter( DriverObject, &Registration, &Globals.Filter );\n\n    if (NT_SUCCESS( status )) {\n"
    ++ codes "        status = FltStartFiltering( Globals.Filter );\n\n        if (!NT_SUCCESS( status )) {\n"
    ++ codes "            FltUnregisterFilter( Globals.Filter );\n        }\n    }\n\n"

-- the end of the source
unfoldable pub ending : Text
ending =
    codes "    return status;\n}\n"

-- how the prototype of a pre callback begins
unfoldable pub pre_head : Text
pre_head =
    codes "FLT_PREOP_CALLBACK_STATUS FLTAPI\nPre"

-- how the prototype of a post callback begins
unfoldable pub post_head : Text
post_head =
    codes "FLT_POSTOP_CALLBACK_STATUS FLTAPI\nPost"

-- how the prototype of a routine begins that has an operation
unfoldable pub deferred_head : Text
deferred_head =
    codes "VOID FLTAPI\nDeferred_"

-- how the prototype of a routine begins that has none
unfoldable pub generic_head : Text
generic_head =
    codes "VOID FLTAPI\nGeneric_"

-- the parameters of a pre callback
unfoldable pub pre_parameters : Text
pre_parameters =
    codes "(\n    _Inout_ PFLT_CALLBACK_DATA Data,\n    _In_ PCFLT_RELATED_OBJECTS FltObjects,\n"
    ++ codes "    _Flt_CompletionContext_Outptr_ PVOID *CompletionContext\n    )"

-- the parameters of a post callback
unfoldable pub post_parameters : Text
post_parameters =
    codes "(\n    _Inout_ PFLT_CALLBACK_DATA Data,\n    _In_ PCFLT_RELATED_OBJECTS FltObjects,\n"
    ++ codes "    _In_opt_ PVOID CompletionContext,\n    _In_ FLT_POST_OPERATION_FLAGS Flags\n    )"

-- the prototype of the callback for cancelled operations
unfoldable pub canceled_prototype : Text
canceled_prototype =
    codes "VOID FLTAPI\nCompleteCanceledIo(\n    _Inout_ PFLT_CALLBACK_DATA_QUEUE Cbdq,\n    _Inout_ PFLT_CALLBACK_DATA Data\n"
    ++ codes "    )"

-- the parameters of a routine that has an operation
unfoldable pub deferred_parameters : Text
deferred_parameters =
    codes "(\n    _In_ PFLT_DEFERRED_IO_WORKITEM WorkItem,\n    _In_ PFLT_CALLBACK_DATA Data,\n    _In_opt_ PVOID Context\n    )"

-- the parameters of a routine that has none
unfoldable pub generic_parameters : Text
generic_parameters =
    codes "(\n    _In_ PFLT_GENERIC_WORKITEM WorkItem,\n    _In_ PVOID FltObject,\n    _In_opt_ PVOID Context\n    )"

-- the writer's hook for cancelled operations
unfoldable pub canceled_hook : Text
canceled_hook =
    codes "    UNREFERENCED_PARAMETER( Cbdq );\n\n    USER_CANCELED( Data, Instance, arg );\n"

-- what stands at the end of a pre or a post callback that isn't left by a return on each of its ways
unfoldable pub unreached : Text
unreached =
    codes "\n    FLT_ASSERT( FALSE );    // no run of the text comes here\n    "

-- the end of a routine that has an operation
unfoldable pub free_deferred : Text
free_deferred =
    codes "    FltFreeDeferredIoWorkItem( WorkItem );\n"

-- the end of a routine that has none
unfoldable pub free_generic : Text
free_generic =
    codes "    FltFreeGenericWorkItem( WorkItem );\n"
