-- Names, atoms and labels are read back.
use Rattle.std.proofs.Common.{◌≡◌, ℕ, [], ◌∷◌, ◌++◌, refl, ap, ◌∙◌}
use Rattle.std.specs.Prelude.{Option, Some, None, codes, decimal}
use Rattle.std.specs.Char.{is_ascii_digit}
use Rattle.flt_rules.specs.declared.call.Existing.{Existing}
use Rattle.flt_rules.specs.declared.call.Existing.TheVariants.{Keep, Replace}
use Rattle.flt_rules.specs.declared.status.FinalStatus.{FinalStatus}
use Rattle.flt_rules.specs.declared.status.FinalStatus.TheVariants as finals
use Rattle.flt_tree.specs.Names.{Text}
use Rattle.flt_tree.specs.WellFormed.{IsAtom}
use Rattle.flt_tree.specs.declared.variable.Atom.{Atom}
use Rattle.flt_tree.specs.declared.variable.Atom.TheVariants as atoms
use Rattle.flt_tree.specs.declared.variable.ContextVariable.{ContextVariable}
use Rattle.flt_tree.specs.declared.variable.ContextVariable.TheVariants as contexts
use Rattle.flt_tree.specs.declared.variable.NumberVariable.{NumberVariable}
use Rattle.flt_tree.specs.declared.variable.NumberVariable.TheVariants as numbers
use Rattle.flt_tree.specs.declared.variable.OperationVariable.{OperationVariable}
use Rattle.flt_tree.specs.declared.variable.OperationVariable.TheVariants as operations
use Rattle.flt_tree.specs.declared.variable.RemovedVariable.{RemovedVariable}
use Rattle.flt_tree.specs.declared.variable.RemovedVariable.TheVariants as removed
use Rattle.flt_emit.specs.Expressions.{address}
use Rattle.flt_emit.specs.Line.{label, atom_text}
use Rattle.flt_emit.specs.Names.{number_name, context_name, context_or_null, removed_name, operation_name, existing_name, final_status_name}
use Rattle.flt_emit_read.specs.Front.{after, past_blanks, number_at}
use Rattle.flt_emit_read.specs.Lines.{number_name_at, context_at, removed_at, operation_at, final_at, existing_at}
use Rattle.flt_emit_read.specs.Lines.{optional_at, address_at, atom_at, labelled, ended, ends}
use Rattle.flt_emit_read.proofs.Fronts.{then_reads, first_reads, other_reads, after_again}
use Rattle.flt_emit_read.proofs.Fronts.{all_digits, past_all, number_reads, joined_pieces}

-- a number variable is read back from its name
pub number_name_reads : (n : NumberVariable) (r : Text) → number_name_at (number_name n ++ r) ≡ Some (n, r)
unfolding number_name_at
number_name_reads numbers.N0 r = refl
number_name_reads numbers.N1 r = refl
number_name_reads numbers.N2 r = refl
number_name_reads numbers.N3 r = refl
number_name_reads numbers.N4 r = refl
number_name_reads numbers.N5 r = refl
number_name_reads numbers.N6 r = refl
number_name_reads numbers.N7 r = refl

-- a context variable is read back from its name
pub context_reads : (c : ContextVariable) (r : Text) → context_at (context_name c ++ r) ≡ Some (c, r)
unfolding context_at
context_reads contexts.C0 r = refl
context_reads contexts.C1 r = refl
context_reads contexts.C2 r = refl
context_reads contexts.C3 r = refl
context_reads contexts.C4 r = refl
context_reads contexts.C5 r = refl
context_reads contexts.C6 r = refl
context_reads contexts.C7 r = refl
context_reads contexts.Arg r = refl

-- a variable for a removed operation is read back from its name
pub removed_reads : (o : RemovedVariable) (r : Text) → removed_at (removed_name o ++ r) ≡ Some (o, r)
unfolding removed_at
removed_reads removed.O0 r = refl
removed_reads removed.O1 r = refl
removed_reads removed.O2 r = refl
removed_reads removed.O3 r = refl

-- an operation variable is read back from its name
pub operation_reads : (d : OperationVariable) (r : Text) → operation_at (operation_name d ++ r) ≡ Some (d, r)
unfolding operation_at
operation_reads operations.Data r = refl
operation_reads (operations.Removed removed.O0) r = refl
operation_reads (operations.Removed removed.O1) r = refl
operation_reads (operations.Removed removed.O2) r = refl
operation_reads (operations.Removed removed.O3) r = refl

-- an operation's name begins with no blank
pub operation_solid : (d : OperationVariable) (r : Text) → past_blanks (operation_name d ++ r) ≡ operation_name d ++ r
operation_solid operations.Data r = refl
operation_solid (operations.Removed removed.O0) r = refl
operation_solid (operations.Removed removed.O1) r = refl
operation_solid (operations.Removed removed.O2) r = refl
operation_solid (operations.Removed removed.O3) r = refl

-- a final status is read back from its name
pub final_reads : (f : FinalStatus) (r : Text) → final_at (final_status_name f ++ r) ≡ Some (f, r)
unfolding final_at
final_reads finals.Success r = refl
final_reads finals.AccessDenied r = refl
final_reads finals.Cancelled r = refl
final_reads finals.InsufficientResources r = refl
final_reads finals.InvalidParameter r = refl
final_reads finals.Pending r = refl

-- what becomes of an existing context is read back from its name
pub existing_reads : (e : Existing) (r : Text) → existing_at (existing_name e ++ r) ≡ Some (e, r)
unfolding existing_at
existing_reads Keep r = refl
existing_reads Replace r = refl

-- a context variable that may be left out is read back from its name or `NULL`
pub optional_reads : (c : Option ContextVariable) (r : Text) → optional_at (context_or_null c ++ r) ≡ Some (c, r)
unfolding optional_at context_at
optional_reads None r = refl
optional_reads (Some contexts.C0) r = refl
optional_reads (Some contexts.C1) r = refl
optional_reads (Some contexts.C2) r = refl
optional_reads (Some contexts.C3) r = refl
optional_reads (Some contexts.C4) r = refl
optional_reads (Some contexts.C5) r = refl
optional_reads (Some contexts.C6) r = refl
optional_reads (Some contexts.C7) r = refl
optional_reads (Some contexts.Arg) r = refl

-- a context variable that may be left out is read back with the address that is taken of it
pub address_reads : (c : Option ContextVariable) (r : Text) → address_at (address c ++ (context_or_null c ++ r)) ≡ Some (c, r)
unfolding address_at
address_reads None r = refl
address_reads (Some c) r = then_reads _ (context_reads c r)

no_number : (n : NumberVariable) (r : Text) → number_at (number_name n ++ r) ≡ None
unfolding number_at
no_number numbers.N0 r = refl
no_number numbers.N1 r = refl
no_number numbers.N2 r = refl
no_number numbers.N3 r = refl
no_number numbers.N4 r = refl
no_number numbers.N5 r = refl
no_number numbers.N6 r = refl
no_number numbers.N7 r = refl

-- an atom is read back from its text
pub atom_reads : (x : Atom) (r : Text) → IsAtom x → atom_at (atom_text x ++ r) ≡ Some (x, r)
unfolding atom_at
atom_reads (atoms.Number n) r small =
    ap atom_at (joined_pieces (decimal n ∷ codes "ull" ∷ []) r) ∙ first_reads _ _ (number_reads n (codes "ull" ++ r) small refl)
atom_reads (atoms.Variable n) r small = other_reads _ _ (no_number n r) ∙ then_reads _ (number_name_reads n r)

-- ---- labels

pub label_reads : (point line : ℕ) (r : Text) → labelled point (label point line ++ r) ≡ Some r
unfolding labelled
label_reads point line r =
    ap (labelled point) (joined_pieces (codes "    // " ∷ decimal point ∷ codes ", line " ∷ decimal line ∷ codes "\n" ∷ []) r)
    ∙ then_reads _ (after_again (decimal point) (codes ", line " ++ (decimal line ++ (codes "\n" ++ r))))
    ∙ ap (after (10 ∷ [])) (past_all is_ascii_digit (decimal line) (codes "\n" ++ r) (all_digits line) refl)

pub ended_reads : (end : Text) (point line : ℕ) (r : Text) → ended end point (end ++ (label point line ++ r)) ≡ Some r
ended_reads end point line r = then_reads _ (after_again end (label point line ++ r)) ∙ label_reads point line r

-- the end of a line, with its label, is read up to the next line
pub ends_reads : {A : Type 0} (end : Text) (point line : ℕ) (x : A) (r : Text) →
    ends end point x (end ++ (label point line ++ r)) ≡ Some (x, r)
ends_reads end point line x r =
    then_reads _ (after_again end (label point line ++ r)) ∙ then_reads _ (label_reads point line r)
