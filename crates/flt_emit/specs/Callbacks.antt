-- Callbacks in C: their prototypes, what they declare, their bodies and their ends.
use Rattle.std.specs.Prelude.{ℕ, ◌+◌, Bool, true, false, ◌&&◌, List, [], ◌∷◌, ◌++◌, flat_map, codes, decimal}
use Rattle.flt_rules.specs.declared.call.LockKind.{LockKind}
use Rattle.flt_rules.specs.declared.call.LockKind.TheVariants.{Spin}
use Rattle.flt_tree.specs.Filter.{head_place}
use Rattle.flt_tree.specs.Names.{Text}
use Rattle.flt_tree.specs.declared.filter.Callback.{Callback}
use Rattle.flt_tree.specs.declared.filter.Head.{Head}
use Rattle.flt_tree.specs.declared.filter.Head.TheVariants.{Pre, Post, Canceled, DeferredPre, DeferredPost, Generic}
use Rattle.flt_tree.specs.declared.filter.Lock.{Lock}
use Rattle.flt_tree.specs.declared.filter.Statement.{Statement}
use Rattle.flt_tree.specs.declared.variable.ContextVariable.{ContextVariable}
use Rattle.flt_tree.specs.declared.variable.ContextVariable.TheVariants as contexts
use Rattle.flt_tree.specs.declared.variable.NumberVariable.{NumberVariable}
use Rattle.flt_tree.specs.declared.variable.NumberVariable.TheVariants as numbers
use Rattle.flt_tree.specs.declared.variable.OperationVariable.TheVariants as operations
use Rattle.flt_tree.specs.declared.variable.RemovedVariable.{RemovedVariable}
use Rattle.flt_tree.specs.declared.variable.RemovedVariable.TheVariants as removed
use Rattle.flt_emit.specs.Fixed as fixed
use Rattle.flt_emit.specs.Line.{joined}
use Rattle.flt_emit.specs.Names.{number_name, context_name, removed_name, major_name, operation_word}
use Rattle.flt_emit.specs.Scope.{Scope}
use Rattle.flt_emit.specs.Statements.{body_text, passing}
use Rattle.flt_emit.specs.Uses.{is_used, always_returns}
use Rattle.flt_emit.specs.declared.scope.Allocation.{Allocation}
use Rattle.flt_emit.specs.declared.uses.Use.TheVariants as use_of

-- ---- prototypes

unfoldable pub deferred_prototype : Text → Text
deferred_prototype name = joined (fixed.deferred_head ∷ name ∷ fixed.deferred_parameters ∷ [])

-- how a callback is declared
unfoldable pub prototype : Head → Text
prototype (Pre op) = joined (fixed.pre_head ∷ operation_word op ∷ fixed.pre_parameters ∷ [])
prototype (Post op) = joined (fixed.post_head ∷ operation_word op ∷ fixed.post_parameters ∷ [])
prototype Canceled = fixed.canceled_prototype
prototype (DeferredPre name) = deferred_prototype name
prototype (DeferredPost name) = deferred_prototype name
prototype (Generic name) = joined (fixed.generic_head ∷ name ∷ fixed.generic_parameters ∷ [])

-- ---- variables, those alone that stand in the body

abbrev pub where_used : Bool → Text → Text
where_used true text = text
where_used false text = []

-- a variable of contexts, which is NULL at entry
unfoldable pub context_declaration : List Statement → ContextVariable → Text
context_declaration body c =
    where_used (is_used (use_of.Context c) body) (joined (codes "    PFILTER_CONTEXT " ∷ context_name c ∷ codes " = NULL;\n" ∷ []))

-- a variable of operations, which is NULL at entry
unfoldable pub operation_declaration : List Statement → RemovedVariable → Text
operation_declaration body o =
    where_used (is_used (use_of.Operation (operations.Removed o)) body)
    (joined (codes "    PFLT_CALLBACK_DATA " ∷ removed_name o ∷ codes " = NULL;\n" ∷ []))

-- compilers warn of a variable that is set and never read
unfoldable pub unread : Bool → NumberVariable → Text
unread true n = []
unread false n = joined (codes "    UNREFERENCED_PARAMETER( " ∷ number_name n ∷ codes " );\n" ∷ [])

unfoldable pub declared_number : Bool → NumberVariable → Text
declared_number read n = joined (codes "    ULONG64 " ∷ number_name n ∷ codes " = 0;\n" ∷ unread read n ∷ [])

-- a variable of numbers, which is 0 at entry
unfoldable pub number_declaration : List Statement → NumberVariable → Text
number_declaration body n = where_used (is_used (use_of.Number n) body) (declared_number (is_used (use_of.Read n) body) n)

abbrev pub context_variables : List ContextVariable
context_variables =
    contexts.C0 ∷ contexts.C1 ∷ contexts.C2 ∷ contexts.C3 ∷ contexts.C4 ∷ contexts.C5 ∷ contexts.C6 ∷ contexts.C7 ∷ []

abbrev pub removed_variables : List RemovedVariable
removed_variables = removed.O0 ∷ removed.O1 ∷ removed.O2 ∷ removed.O3 ∷ []

abbrev pub number_variables : List NumberVariable
number_variables =
    numbers.N0 ∷ numbers.N1 ∷ numbers.N2 ∷ numbers.N3 ∷ numbers.N4 ∷ numbers.N5 ∷ numbers.N6 ∷ numbers.N7 ∷ []

-- the context that a callback was given; a pre callback is given none
unfoldable pub argument_declaration : List Statement → Head → Text
argument_declaration body (Pre op) = context_declaration body contexts.Arg
argument_declaration body (Post op) = codes "    PFILTER_CONTEXT arg = CompletionContext;\n"
argument_declaration body Canceled = codes "    PFILTER_CONTEXT arg = Data->QueueContext[0];\n"
argument_declaration body _ = codes "    PFILTER_CONTEXT arg = Context;\n"

-- the instance, which an operation that was completed can't be asked for
unfoldable pub instance_declaration : Head → Text
instance_declaration (Pre op) = []
instance_declaration (Post op) = []
instance_declaration (Generic name) = codes "    PFLT_INSTANCE Instance = FltObject;\n"
instance_declaration _ = codes "    PFLT_INSTANCE Instance = Data->Iopb->TargetInstance;\n"

abbrev pub is_spin : LockKind → Bool
is_spin Spin = true
is_spin _ = false

-- whether a body takes or releases the spin lock of a place
abbrev pub needs_level : List Statement → ℕ → LockKind → Bool
needs_level body place kind = is_spin kind && is_used (use_of.Lock place) body

-- where a spin lock leaves the level before
unfoldable pub declared_level : Text → Text
declared_level name = joined (codes "    KIRQL irql_" ∷ name ∷ codes ";\n" ∷ [])

-- the same where it is needed
unfoldable pub level_declaration : List Statement → ℕ → Lock → Text
level_declaration body place l = where_used (needs_level body place l.kind) (declared_level l.name)

-- the same of locks from a place on
abbrev pub level_declarations : List Statement → ℕ → List Lock → Text
level_declarations body place [] = []
level_declarations body place (l ∷ ls) = level_declaration body place l ++ level_declarations body (place + 1) ls

-- all that a callback declares
unfoldable pub declarations : List Lock → Head → List Statement → Text
declarations locks head body =
    joined (argument_declaration body head ∷ flat_map (context_declaration body) context_variables
    ∷ flat_map (operation_declaration body) removed_variables ∷ level_declarations body 0 locks ∷ instance_declaration head
    ∷ flat_map (number_declaration body) number_variables ∷ [])

-- ---- what a callback begins with

-- the writer's hook for a routine that has an operation of a stage
abbrev pub deferred_hook : Text → Text → Text
deferred_hook stage name = joined (codes "    USER_DEFERRED_" ∷ stage ∷ name ∷ codes "( Data, Instance, arg );\n" ∷ [])

-- the writer's hook
unfoldable pub hook : Head → Text
hook (Pre op) =
    joined (codes "    *CompletionContext = NULL;\n\n    USER_PRE_" ∷ major_name op ∷ codes "( Data, FltObjects );\n" ∷ [])
hook (Post op) = joined (codes "    USER_POST_" ∷ major_name op ∷ codes "( Data, FltObjects, Flags, arg );\n" ∷ [])
hook Canceled = fixed.canceled_hook
hook (DeferredPre name) = deferred_hook (codes "PRE_") name
hook (DeferredPost name) = deferred_hook (codes "POST_") name
hook (Generic name) = joined (codes "    USER_GENERIC_" ∷ name ∷ codes "( Instance, arg );\n" ∷ [])

-- ---- what a callback ends with

-- a pre or a post callback that isn't left by a return
unfoldable pub unreturned : Bool → Bool → Text
unreturned true is_pre = []
unreturned false is_pre = joined (fixed.unreached ∷ passing is_pre ∷ codes "\n" ∷ [])

-- a routine's work item is freed, also where it returns before its end
abbrev pub done : Bool → Text
done true = codes "\nDone:\n\n"
done false = codes "\n"

unfoldable pub ending : List Statement → Head → Text
ending body (Pre op) = unreturned (always_returns body) true
ending body (Post op) = unreturned (always_returns body) false
ending body Canceled = []
ending body (DeferredPre name) = joined (done (is_used use_of.Return body) ∷ fixed.free_deferred ∷ [])
ending body (DeferredPost name) = joined (done (is_used use_of.Return body) ∷ fixed.free_deferred ∷ [])
ending body (Generic name) = joined (done (is_used use_of.Return body) ∷ fixed.free_generic ∷ [])

-- ---- callbacks

-- a comment with a callback's number and its line
unfoldable pub heading : ℕ → ℕ → Text
heading number line =
    joined (codes "\n//\n//  Callback " ∷ decimal number ∷ codes ", line " ∷ decimal line ∷ codes ".\n//\n\n" ∷ [])

-- the scope of a callback of a number
abbrev pub scope_in : List Lock → List Allocation → ℕ → Callback → Scope
scope_in locks instances number c =
    record { callback = number; place = head_place c.head; locks = locks; instances = instances }

-- a callback up to its hook
unfoldable pub opening : Scope → Callback → Text
opening scope c =
    joined (heading scope.callback c.span.line ∷ prototype c.head ∷ codes "\n{\n" ∷
    declarations scope.locks c.head c.body ∷ codes "\n" ∷ [])

-- and from there on
unfoldable pub contents : Scope → Callback → Text
contents scope c =
    joined (hook c.head ∷ codes "\n" ∷ body_text scope c.body 1 0 ∷ ending c.body c.head ∷ codes "}\n" ∷ [])

-- a callback
unfoldable pub callback_text : Scope → Callback → Text
callback_text scope c = opening scope c ++ contents scope c

-- callbacks from a number on
abbrev pub callbacks_text : List Lock → List Allocation → ℕ → List Callback → Text
callbacks_text locks instances number [] = []
callbacks_text locks instances number (c ∷ cs) =
    callback_text (scope_in locks instances number c) c ++ callbacks_text locks instances (number + 1) cs

-- the prototypes of callbacks
abbrev pub prototypes_text : List Callback → Text
prototypes_text = flat_map (λ c. codes "\n" ++ (prototype c.head ++ codes ";\n"))
