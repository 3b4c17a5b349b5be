-- C's expressions for atoms, tests and calls that can fail.
use Rattle.std.specs.Prelude.{ℕ, Bool, true, false, ◌==◌, ◌||◌, not, [], ◌∷◌, codes, Option, Some, None}
use Rattle.flt_rules.specs.declared.call.Anchor.{Anchor}
use Rattle.flt_rules.specs.declared.call.Anchor.TheVariants.{Stream, Instance}
use Rattle.flt_rules.specs.declared.place.Place.{Place}
use Rattle.flt_tree.specs.Names.{Text}
use Rattle.flt_tree.specs.Variable.{number_place}
use Rattle.flt_tree.specs.declared.filter.Condition.{Condition}
use Rattle.flt_tree.specs.declared.filter.Condition.TheVariants as made
use Rattle.flt_tree.specs.declared.filter.FallibleCall.{FallibleCall}
use Rattle.flt_tree.specs.declared.filter.FallibleCall.TheVariants as fallible
use Rattle.flt_tree.specs.declared.filter.Routine.{Routine}
use Rattle.flt_tree.specs.declared.filter.Test.{Test}
use Rattle.flt_tree.specs.declared.filter.Test.TheVariants.{ContextIsSome, OperationIsSome, Equal, Less, IsIrp, IsDraining}
use Rattle.flt_tree.specs.declared.variable.Atom.{Atom}
use Rattle.flt_tree.specs.declared.variable.Atom.TheVariants as atoms
use Rattle.flt_tree.specs.declared.variable.ContextVariable.{ContextVariable}
use Rattle.flt_tree.specs.declared.variable.Expression.{Expression}
use Rattle.flt_tree.specs.declared.variable.Expression.TheVariants as expressions
use Rattle.flt_tree.specs.declared.variable.NumberVariable.{NumberVariable}
use Rattle.flt_tree.specs.declared.variable.OperationVariable.{OperationVariable}
use Rattle.flt_tree.specs.declared.variable.OperationVariable.TheVariants as operations
use Rattle.flt_emit.specs.Line.{joined, atom_text}
use Rattle.flt_emit.specs.Names.{number_name, context_name, context_or_null, removed_name, instance, own_file, anchor_name, existing_name}
use Rattle.flt_emit.specs.Scope.{Scope, allocates_for_instance}

-- ---- numbers

-- what a variable of numbers is set to
abbrev pub expression_text : Expression → Text
expression_text (expressions.Atom x) = atom_text x
expression_text (expressions.Sum x y) = joined (atom_text x ∷ codes " + " ∷ atom_text y ∷ [])
expression_text (expressions.Difference x y) = joined (atom_text x ∷ codes " - " ∷ atom_text y ∷ [])

-- the file object of an operation
abbrev pub file_text : Place → OperationVariable → Text
file_text place operations.Data = own_file place
file_text place (operations.Removed o) = joined (removed_name o ∷ codes "->Iopb->TargetFileObject" ∷ [])

-- ---- tests, as they stand or turned to their opposites

-- whether an atom is the variable
abbrev pub is_variable : NumberVariable → Atom → Bool
is_variable n (atoms.Number m) = false
is_variable n (atoms.Variable m) = number_place n == number_place m

-- whether no number is below an atom
abbrev pub is_zero : Atom → Bool
is_zero (atoms.Number m) = m == 0
is_zero (atoms.Variable m) = false

abbrev pub constant : Bool → Text
constant true = codes "TRUE"
constant false = codes "FALSE"

-- a comparison; compilers warn of one whose value is known, so that it stands beside its value in a comment
abbrev pub compared : Bool → Bool → NumberVariable → Text → Atom → Text
compared true value n sign x = joined (constant value ∷ codes " /* " ∷ number_name n ∷ sign ∷ atom_text x ∷ codes " */" ∷ [])
compared false value n sign x = joined (number_name n ∷ sign ∷ atom_text x ∷ [])

-- NULL stands for no context and for no operation
abbrev pub null_sign : Bool → Text
null_sign false = codes " != NULL"
null_sign true = codes " == NULL"

abbrev pub equal_sign : Bool → Text
equal_sign false = codes " == "
equal_sign true = codes " != "

abbrev pub less_sign : Bool → Text
less_sign false = codes " < "
less_sign true = codes " >= "

abbrev pub negation : Bool → Text
negation false = []
negation true = codes "!"

-- a test that calls nothing
abbrev pub test_text : Bool → Test → Text
test_text turned (ContextIsSome c) = joined (context_name c ∷ null_sign turned ∷ [])
test_text turned (OperationIsSome o) = joined (removed_name o ∷ null_sign turned ∷ [])
test_text turned (Equal n x) = compared (is_variable n x) (not turned) n (equal_sign turned) x
test_text turned (Less n x) = compared (is_variable n x || is_zero x) turned n (less_sign turned) x
test_text turned IsIrp = joined (negation turned ∷ codes "FLT_IS_IRP_OPERATION( Data )" ∷ [])
test_text turned IsDraining = joined (negation turned ∷ codes "FlagOn( Flags, FLTFL_POST_OPERATION_DRAINING )" ∷ [])

-- ---- calls that can fail

-- what a call about the context of a stream or of an instance is given first
abbrev pub anchored : Place → Anchor → Text
anchored place Stream = joined (instance place ∷ codes ", " ∷ own_file place ∷ [])
anchored place Instance = instance place

-- before a variable in which a call leaves a context; NULL stands for none
abbrev pub address : Option ContextVariable → Text
address None = []
address (Some c) = codes "&"

-- for whom a context is allocated
abbrev pub context_type : Bool → Text
context_type false = codes "FLT_STREAM_CONTEXT"
context_type true = codes "FLT_INSTANCE_CONTEXT"

-- a work item with the callback's operation
abbrev pub deferred : Text → Option ContextVariable → Text
deferred routine c = joined (codes "QueueDeferredIo( Data, Deferred_" ∷ routine ∷ codes ", " ∷ context_or_null c ∷ [])

-- a work item without one
abbrev pub generic : Place → Text → Option ContextVariable → Text
generic place routine c =
    joined (codes "QueueGeneric( " ∷ instance place ∷ codes ", Generic_" ∷ routine ∷ codes ", " ∷ context_or_null c ∷ [])

-- the call, which answers an NTSTATUS
abbrev pub fallible_text : Scope → ℕ → FallibleCall Routine → Text
fallible_text scope point (fallible.AllocateContext c) =
    joined (codes "AllocateContext( " ∷ context_type (allocates_for_instance scope point) ∷ codes ", &" ∷ context_name c ∷ [])
fallible_text scope point (fallible.GetContext anchor c) =
    joined (codes "Get" ∷ anchor_name anchor ∷ anchored scope.place anchor ∷ codes ", &" ∷ context_name c ∷ [])
fallible_text scope point (fallible.SetContext anchor existing c old) =
    joined (codes "Set" ∷ anchor_name anchor ∷ anchored scope.place anchor ∷ codes ", " ∷ existing_name existing
    ∷ codes ", " ∷ context_name c ∷ codes ", " ∷ address old ∷ context_or_null old ∷ [])
fallible_text scope point (fallible.DeleteContextOf anchor old) =
    joined (codes "Delete" ∷ anchor_name anchor ∷ anchored scope.place anchor ∷ codes ", " ∷ address old ∷ context_or_null old ∷ [])
fallible_text scope point (fallible.InsertIo c) = joined (codes "InsertIo( Data, " ∷ context_or_null c ∷ [])
fallible_text scope point (fallible.RemoveNextIo o c) =
    joined (codes "RemoveNextIo( &" ∷ removed_name o ∷ codes ", &" ∷ context_name c ∷ [])
fallible_text scope point (fallible.QueueDeferredIoWorkItem r c) = deferred r.name c
fallible_text scope point (fallible.QueueGenericWorkItem r c) = generic scope.place r.name c

-- what an `if` asks, or its opposite
abbrev pub condition_text : Scope → ℕ → Bool → Condition → Text
condition_text scope point turned (made.Test t) = test_text turned t
condition_text scope point turned (made.Succeeds c) =
    joined (negation turned ∷ codes "NT_SUCCESS( " ∷ fallible_text scope point c ∷ codes " ) )" ∷ [])
