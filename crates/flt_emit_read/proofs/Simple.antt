-- Statements that neither call nor branch, and calls that always succeed, are read back.
use Rattle.std.proofs.Common.{◌≡◌, ℕ, List, [], ◌∷◌, ◌++◌, refl, ap, ◌∙◌}
use Rattle.std.specs.Prelude.{Some, None, codes}
use Rattle.flt_rules.specs.declared.place.Place.{Place}
use Rattle.flt_rules.specs.declared.place.Place.TheVariants as place
use Rattle.flt_tree.specs.Filter.{no_span}
use Rattle.flt_tree.specs.Names.{Text}
use Rattle.flt_tree.specs.WellFormed.{IsExpression, IsAction}
use Rattle.flt_tree.specs.declared.filter.Action.{Action}
use Rattle.flt_tree.specs.declared.filter.Action.TheVariants.{SetNumber, ReadValue, ReadFile, WriteValue, ClearContext, ClearOperation}
use Rattle.flt_tree.specs.declared.filter.Lock.{Lock}
use Rattle.flt_tree.specs.declared.filter.Statement.TheVariants.{Act}
use Rattle.flt_tree.specs.declared.variable.ContextVariable.{ContextVariable}
use Rattle.flt_tree.specs.declared.variable.ContextVariable.TheVariants as contexts
use Rattle.flt_tree.specs.declared.variable.Expression.{Expression}
use Rattle.flt_tree.specs.declared.variable.Expression.TheVariants as expressions
use Rattle.flt_tree.specs.declared.variable.NumberVariable.{NumberVariable}
use Rattle.flt_tree.specs.declared.variable.NumberVariable.TheVariants as numbers
use Rattle.flt_tree.specs.declared.variable.OperationVariable.{OperationVariable}
use Rattle.flt_tree.specs.declared.variable.OperationVariable.TheVariants as operations
use Rattle.flt_tree.specs.declared.variable.RemovedVariable.{RemovedVariable}
use Rattle.flt_tree.specs.declared.variable.RemovedVariable.TheVariants as removed
use Rattle.flt_emit.specs.Expressions.{expression_text, file_text}
use Rattle.flt_emit.specs.Line.{label, atom_text, indentation}
use Rattle.flt_emit.specs.Names.{number_name, context_name, removed_name, operation_name, own_file}
use Rattle.flt_emit.specs.Statements.{action_text}
use Rattle.flt_emit_read.specs.Front.{Front, after, past_blanks, number_at}
use Rattle.flt_emit_read.specs.Lines.{Line, Whole}
use Rattle.flt_emit_read.specs.Lines.{line_at, number_line, context_line, removed_line, expression_after, file_at, write_line}
use Rattle.flt_emit_read.specs.Lines.{atom_at, number_name_at, completing, line_start, named_line, context_at, removed_at, ask_forms}
use Rattle.flt_emit_read.specs.Lines.{plain_line, plain_forms, lock_line, lock_forms, settle_line, settle_forms}
use Rattle.flt_emit_read.proofs.Fronts.{then_reads, first_reads, other_reads, after_again, joined_pieces, past_indentation}
use Rattle.flt_emit_read.proofs.Names.{context_reads, removed_reads, atom_reads, ends_reads}

-- ---- files

own_not_o : (at : Place) (z : Text) → after (own_file at) (111 ∷ z) ≡ None
own_not_o (place.Pre op) z = refl
own_not_o (place.Post op) z = refl
own_not_o place.Canceled z = refl
own_not_o place.DeferredPre z = refl
own_not_o place.DeferredPost z = refl
own_not_o place.Generic z = refl

own_not_removed : (at : Place) (o : RemovedVariable) (z : Text) → after (own_file at) (removed_name o ++ z) ≡ None
own_not_removed at removed.O0 z = own_not_o at (48 ∷ z)
own_not_removed at removed.O1 z = own_not_o at (49 ∷ z)
own_not_removed at removed.O2 z = own_not_o at (50 ∷ z)
own_not_removed at removed.O3 z = own_not_o at (51 ∷ z)

file_reads : (at : Place) (d : OperationVariable) (r : Text) → file_at at (file_text at d ++ r) ≡ Some (d, r)
unfolding file_at
file_reads at operations.Data r = first_reads _ _ (after_again (own_file at) r)
file_reads at (operations.Removed o) r =
    ap (file_at at) (joined_pieces (removed_name o ∷ codes "->Iopb->TargetFileObject" ∷ []) r)
    ∙ other_reads _ _ (own_not_removed at o (codes "->Iopb->TargetFileObject" ++ r))
    ∙ then_reads _ (removed_reads o (codes "->Iopb->TargetFileObject" ++ r))

module _ (at : Place) (locks : List Lock) (lv point : ℕ) where
  -- a line without its blanks
  abbrev pub started : Text → Front Line
  started z = line_start at locks lv point (past_blanks z)

  -- a line begins after its indentation
  pub starts : (level : ℕ) (z : Text) → line_at at locks lv point (indentation level ++ z) ≡ started z
  unfolding line_at
  starts level z = ap (line_start at locks lv point) (past_indentation level z)

  number_starts : (n : NumberVariable) (z : Text) → started (number_name n ++ z) ≡ number_line at point n z
  unfolding line_start named_line number_name_at context_at removed_at ask_forms plain_line plain_forms lock_line lock_forms settle_line
      settle_forms
  number_starts numbers.N0 z = refl
  number_starts numbers.N1 z = refl
  number_starts numbers.N2 z = refl
  number_starts numbers.N3 z = refl
  number_starts numbers.N4 z = refl
  number_starts numbers.N5 z = refl
  number_starts numbers.N6 z = refl
  number_starts numbers.N7 z = refl

  -- a line that begins with a context variable is one of this context
  pub context_starts : (c : ContextVariable) (z : Text) → started (context_name c ++ z) ≡ context_line point c z
  unfolding line_start named_line number_name_at context_at removed_at ask_forms plain_line plain_forms lock_line lock_forms settle_line
      settle_forms
  context_starts contexts.C0 z = refl
  context_starts contexts.C1 z = refl
  context_starts contexts.C2 z = refl
  context_starts contexts.C3 z = refl
  context_starts contexts.C4 z = refl
  context_starts contexts.C5 z = refl
  context_starts contexts.C6 z = refl
  context_starts contexts.C7 z = refl
  context_starts contexts.Arg z = refl

  removed_starts : (o : RemovedVariable) (z : Text) → started (removed_name o ++ z) ≡ removed_line at point o z
  unfolding line_start named_line number_name_at context_at removed_at ask_forms plain_line plain_forms lock_line lock_forms settle_line
      settle_forms
  removed_starts removed.O0 z = refl
  removed_starts removed.O1 z = refl
  removed_starts removed.O2 z = refl
  removed_starts removed.O3 z = refl

  -- a line that begins with an operation's status completes the operation
  pub completing_starts : (d : OperationVariable) (z : Text) →
      started (operation_name d ++ (codes "->IoStatus.Status = " ++ z)) ≡ completing at point d z
  unfolding removed_line line_start named_line number_name_at context_at removed_at ask_forms plain_line plain_forms lock_line lock_forms
      settle_line settle_forms
  completing_starts operations.Data z = refl
  completing_starts (operations.Removed o) z = removed_starts o (codes "->IoStatus.Status = " ++ z)

  module _ (line : ℕ) (r : Text) where
    -- ---- numbers

    expression_reads : (n : NumberVariable) (e : Expression) → IsExpression e →
        number_line at point n (codes " = " ++ (expression_text e ++ (codes ";" ++ (label point line ++ r)))) ≡
        Some (Whole (Act no_span (SetNumber n e)), r)
    unfolding number_line expression_after
    expression_reads n (expressions.Atom x) ok =
        first_reads _ _ (atom_reads x (codes ";" ++ (label point line ++ r)) ok) ∙ ends_reads [] point line _ r
    expression_reads n (expressions.Sum x y) ok =
        ap (λ z. number_line at point n (codes " = " ++ z))
        (joined_pieces (atom_text x ∷ codes " + " ∷ atom_text y ∷ []) (codes ";" ++ (label point line ++ r)))
        ∙ first_reads _ _ (atom_reads x (codes " + " ++ (atom_text y ++ (codes ";" ++ (label point line ++ r)))) ok.0)
        ∙ then_reads _ (atom_reads y (codes ";" ++ (label point line ++ r)) ok.1) ∙ ends_reads (codes ";") point line _ r
    expression_reads n (expressions.Difference x y) ok =
        ap (λ z. number_line at point n (codes " = " ++ z))
        (joined_pieces (atom_text x ∷ codes " - " ∷ atom_text y ∷ []) (codes ";" ++ (label point line ++ r)))
        ∙ first_reads _ _ (atom_reads x (codes " - " ++ (atom_text y ++ (codes ";" ++ (label point line ++ r)))) ok.0)
        ∙ then_reads _ (atom_reads y (codes ";" ++ (label point line ++ r)) ok.1) ∙ ends_reads (codes ";") point line _ r

    -- ---- actions

    action_starts : (a : Action) → IsAction a → started (action_text at a ++ (label point line ++ r)) ≡ Some (Whole (Act no_span a), r)
    unfolding number_line context_line removed_line write_line atom_at number_name_at number_at line_start named_line context_at
        removed_at ask_forms plain_line plain_forms lock_line lock_forms settle_line settle_forms
    action_starts (SetNumber n e) ok =
        ap started (joined_pieces (number_name n ∷ codes " = " ∷ expression_text e ∷ codes ";" ∷ []) (label point line ++ r))
        ∙ number_starts n _ ∙ expression_reads n e ok
    action_starts (ReadValue n c) ok =
        ap started (joined_pieces (number_name n ∷ codes " = ReadULong64NoFence( &" ∷ context_name c ∷ codes "->Value );" ∷ [])
        (label point line ++ r))
        ∙ number_starts n _ ∙ then_reads _ (context_reads c _) ∙ ends_reads (codes "->Value );") point line _ r
    action_starts (ReadFile n d) ok =
        ap started (joined_pieces (number_name n ∷ codes " = USER_FILE_NUMBER( " ∷ file_text at d ∷ codes " );" ∷ [])
        (label point line ++ r))
        ∙ number_starts n _ ∙ then_reads _ (file_reads at d _) ∙ ends_reads (codes " );") point line _ r
    action_starts (WriteValue c x) ok =
        ap started (joined_pieces (codes "WriteULong64NoFence( &" ∷ context_name c ∷ codes "->Value, " ∷ atom_text x ∷ codes " );" ∷ [])
        (label point line ++ r))
        ∙ then_reads _ (context_reads c _) ∙ then_reads _ (atom_reads x (codes " );" ++ (label point line ++ r)) ok)
        ∙ ends_reads (codes " );") point line _ r
    action_starts (ClearContext c) ok =
        ap started (joined_pieces (context_name c ∷ codes " = NULL;" ∷ []) (label point line ++ r))
        ∙ context_starts c _ ∙ ends_reads [] point line _ r
    action_starts (ClearOperation o) ok =
        ap started (joined_pieces (removed_name o ∷ codes " = NULL;" ∷ []) (label point line ++ r))
        ∙ removed_starts o _ ∙ ends_reads [] point line _ r

    -- an action is read back from its line, but for where it stands
    pub action_reads : (level : ℕ) (a : Action) → IsAction a →
        line_at at locks lv point (indentation level ++ (action_text at a ++ (label point line ++ r))) ≡ Some (Whole (Act no_span a), r)
    action_reads level a ok = starts level (action_text at a ++ (label point line ++ r)) ∙ action_starts a ok
