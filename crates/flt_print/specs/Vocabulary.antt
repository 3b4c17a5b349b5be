-- How the words of the grammar are spelled, and which of them stand for variables, statuses and the like.
use Rattle.std.specs.Prelude.{◌≡◌, List, [], ◌∷◌, codes, decimal, if◌then◌else◌, Option, Some, None, unwrap_or}
use Rattle.std.specs.List.{All}
use Rattle.flt_rules.specs.declared.call.Anchor.TheVariants.{Stream, Instance}
use Rattle.flt_rules.specs.declared.call.Existing.{Existing}
use Rattle.flt_rules.specs.declared.call.Existing.TheVariants.{Keep, Replace}
use Rattle.flt_rules.specs.declared.call.LockKind.{LockKind}
use Rattle.flt_rules.specs.declared.call.LockKind.TheVariants as locked
use Rattle.flt_rules.specs.declared.status.FinalStatus.{FinalStatus}
use Rattle.flt_rules.specs.declared.status.FinalStatus.TheVariants as finals
use Rattle.flt_tree.specs.Names.{Text}
use Rattle.flt_syntax.specs.Lex.{word, keyword, same_kind}
pub use Rattle.flt_syntax.specs.Operations.{operation_kind}
use Rattle.flt_syntax.specs.Vocabulary.{vocabulary}
use Rattle.flt_syntax.specs.declared.shape.ContextEnd.TheVariants as ends
use Rattle.flt_syntax.specs.declared.shape.ContextSource.TheVariants as sources
use Rattle.flt_syntax.specs.declared.shape.FallibleShape.{FallibleShape}
use Rattle.flt_syntax.specs.declared.shape.FallibleShape.TheVariants as fallible
use Rattle.flt_syntax.specs.declared.shape.LockCall.TheVariants as does
use Rattle.flt_syntax.specs.declared.shape.PlainShape.{PlainShape}
use Rattle.flt_syntax.specs.declared.shape.PlainShape.TheVariants as plain
use Rattle.flt_syntax.specs.declared.shape.QueueCall.TheVariants as queued
use Rattle.flt_syntax.specs.declared.token.Kind.{Kind}
use Rattle.flt_syntax.specs.declared.token.Kind.TheVariants as k
use Rattle.flt_tree.specs.declared.variable.Atom.{Atom}
use Rattle.flt_tree.specs.declared.variable.Atom.TheVariants as atoms
use Rattle.flt_tree.specs.declared.variable.ContextVariable.{ContextVariable}
use Rattle.flt_tree.specs.declared.variable.ContextVariable.TheVariants as contexts
use Rattle.flt_tree.specs.declared.variable.NumberVariable.{NumberVariable}
use Rattle.flt_tree.specs.declared.variable.NumberVariable.TheVariants as numbers
use Rattle.flt_tree.specs.declared.variable.OperationVariable.{OperationVariable}
use Rattle.flt_tree.specs.declared.variable.OperationVariable.TheVariants as operations
use Rattle.flt_tree.specs.declared.variable.RemovedVariable.{RemovedVariable}
use Rattle.flt_tree.specs.declared.variable.RemovedVariable.TheVariants as removed

-- the word that a table has for a kind
abbrev pub word_for : Kind → List (Text × Kind) → Text
word_for kind [] = []
word_for kind (entry ∷ entries) = if same_kind entry.1 kind then entry.0 else word_for kind entries

-- the symbol of a kind
abbrev pub symbol : Kind → Option Text
symbol k.OpenBrace = Some (codes "{")
symbol k.CloseBrace = Some (codes "}")
symbol k.Assign = Some (codes "=")
symbol k.Equal = Some (codes "==")
symbol k.NotEqual = Some (codes "!=")
symbol k.Less = Some (codes "<")
symbol k.Plus = Some (codes "+")
symbol k.Minus = Some (codes "-")
symbol _ = None

-- the symbol or word of a kind
unfoldable pub spelling : Kind → Text
spelling kind = unwrap_or (symbol kind) (word_for kind vocabulary)

-- the word is read as the kind and nothing else, and the kind is spelled as the word and nothing else
abbrev pub IsSpelled : Text × Kind → Type 0
IsSpelled e = (keyword e.0 ≡ word e.1) × (spelling e.1 ≡ e.0)

-- no word of the language stands for two kinds, and no kind has two words
abbrev pub EachWordIsOneKind : Type 0
EachWordIsOneKind = All IsSpelled vocabulary

-- a variable of numbers
abbrev pub number_kind : NumberVariable → Kind
number_kind numbers.N0 = k.N0
number_kind numbers.N1 = k.N1
number_kind numbers.N2 = k.N2
number_kind numbers.N3 = k.N3
number_kind numbers.N4 = k.N4
number_kind numbers.N5 = k.N5
number_kind numbers.N6 = k.N6
number_kind numbers.N7 = k.N7

-- a number in decimal, or a variable of numbers
abbrev pub atom_word : Atom → Text
atom_word (atoms.Number n) = decimal n
atom_word (atoms.Variable n) = spelling (number_kind n)

-- a variable of contexts
abbrev pub context_kind : ContextVariable → Kind
context_kind contexts.C0 = k.C0
context_kind contexts.C1 = k.C1
context_kind contexts.C2 = k.C2
context_kind contexts.C3 = k.C3
context_kind contexts.C4 = k.C4
context_kind contexts.C5 = k.C5
context_kind contexts.C6 = k.C6
context_kind contexts.C7 = k.C7
context_kind contexts.Arg = k.Arg

-- a variable of operations that were removed from the queue
abbrev pub removed_kind : RemovedVariable → Kind
removed_kind removed.O0 = k.O0
removed_kind removed.O1 = k.O1
removed_kind removed.O2 = k.O2
removed_kind removed.O3 = k.O3

-- a variable of operations
abbrev pub operation_variable_kind : OperationVariable → Kind
operation_variable_kind (operations.Removed o) = removed_kind o
operation_variable_kind operations.Data = k.Data

-- the final status of an operation
abbrev pub final_status_kind : FinalStatus → Kind
final_status_kind finals.Success = k.StatusSuccess
final_status_kind finals.AccessDenied = k.StatusAccessDenied
final_status_kind finals.Cancelled = k.StatusCancelled
final_status_kind finals.InsufficientResources = k.StatusInsufficientResources
final_status_kind finals.InvalidParameter = k.StatusInvalidParameter
final_status_kind finals.Pending = k.StatusPending

-- a kind of lock, where it is declared
abbrev pub lock_kind_kind : LockKind → Kind
lock_kind_kind locked.Spin = k.Spin
lock_kind_kind locked.Fast = k.Fast
lock_kind_kind locked.Push = k.Push

-- the word of a call that can fail, by its shape
abbrev pub fallible_kind : FallibleShape → Kind
fallible_kind (fallible.Obtain sources.Allocate) = k.AllocateContext
fallible_kind (fallible.Obtain (sources.Get Stream)) = k.GetStreamContext
fallible_kind (fallible.Obtain (sources.Get Instance)) = k.GetInstanceContext
fallible_kind (fallible.Set Stream) = k.SetStreamContext
fallible_kind (fallible.Set Instance) = k.SetInstanceContext
fallible_kind (fallible.Delete Stream) = k.DeleteStreamContext
fallible_kind (fallible.Delete Instance) = k.DeleteInstanceContext
fallible_kind (fallible.Queue queued.Insert) = k.InsertIo
fallible_kind (fallible.Queue queued.RemoveNext) = k.RemoveNextIo
fallible_kind fallible.QueueDeferred = k.QueueDeferredIoWorkItem
fallible_kind fallible.QueueGeneric = k.QueueGenericWorkItem

-- the word of a call that always succeeds, by its shape
abbrev pub plain_kind : PlainShape → Kind
plain_kind (plain.End ends.Delete) = k.DeleteContext
plain_kind plain.Reference = k.ReferenceContext
plain_kind (plain.End ends.Release) = k.ReleaseContext
plain_kind (plain.Lock (does.Acquire locked.Spin)) = k.AcquireSpinLock
plain_kind (plain.Lock (does.Release locked.Spin)) = k.ReleaseSpinLock
plain_kind (plain.Lock (does.Acquire locked.Fast)) = k.AcquireFastMutex
plain_kind (plain.Lock (does.Release locked.Fast)) = k.ReleaseFastMutex
plain_kind (plain.Lock (does.Acquire locked.Push)) = k.AcquirePushLock
plain_kind (plain.Lock does.AcquireShared) = k.AcquirePushLockShared
plain_kind (plain.Lock (does.Release locked.Push)) = k.ReleasePushLock
plain_kind plain.CompletePre = k.CompletePendedPreOperation
plain_kind plain.CompletePost = k.CompletePendedPostOperation

-- what a set does where a context is there already
abbrev pub existing_kind : Existing → Kind
existing_kind Keep = k.KeepIfExists
existing_kind Replace = k.ReplaceIfExists
