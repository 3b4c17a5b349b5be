-- Returns are read back.
use Rattle.std.proofs.Common.{◌≡◌, ℕ, Bool, true, false, List, [], ◌∷◌, ◌++◌, refl, ap, ◌∙◌, append_assoc}
use Rattle.std.proofs.lemmas.Bool.{false≢true}
use Rattle.std.specs.Prelude.{Option, Some, None, codes}
use Rattle.flt_rules.specs.declared.place.Place.{Place}
use Rattle.flt_rules.specs.declared.place.Place.TheVariants as place
use Rattle.flt_rules.specs.declared.status.FinalStatus.{FinalStatus}
use Rattle.flt_tree.specs.Filter.{no_span}
use Rattle.flt_tree.specs.Names.{Text}
use Rattle.flt_tree.specs.declared.filter.Lock.{Lock}
use Rattle.flt_tree.specs.declared.filter.Statement.TheVariants.{Return}
use Rattle.flt_tree.specs.declared.filter.Status.{Status}
use Rattle.flt_tree.specs.declared.filter.Status.TheVariants as statuses
use Rattle.flt_tree.specs.declared.variable.ContextVariable.{ContextVariable}
use Rattle.flt_tree.specs.declared.variable.OperationVariable.TheVariants as operations
use Rattle.flt_emit.specs.Line.{joined, label, indentation}
use Rattle.flt_emit.specs.Names.{context_name, status_name}
use Rattle.flt_emit.specs.Statements.{handed_text, before_return, final_text, passing, answer_text, return_text}
use Rattle.flt_emit_read.specs.AsRead.{returned}
use Rattle.flt_emit_read.specs.Front.{by_form}
use Rattle.flt_emit_read.specs.Lines.{Line, Whole}
use Rattle.flt_emit_read.specs.Lines.{line_at, completed_call, completing_return, answers, bare_statuses, handed_line}
use Rattle.flt_emit_read.specs.Lines.{handing, line_start, named_line, number_name_at, context_at, removed_at, ask_forms}
use Rattle.flt_emit_read.specs.Lines.{plain_line, plain_forms, lock_line, lock_forms, settle_line, settle_forms}
use Rattle.flt_emit_read.proofs.Plain.{completion_starts}
use Rattle.flt_emit_read.proofs.Fronts.{then_reads, joined_pieces, past_indentation}
use Rattle.flt_emit_read.proofs.Simple.{started, starts}
use Rattle.flt_emit_read.proofs.Names.{context_reads, ends_reads}

module _ (locks : List Lock) (lv point : ℕ) where
  -- a pre or a post callback's return
  bare_starts : (at : Place) → answers at ≡ true → (z : Text) →
      started at locks lv point (114 ∷ z) ≡ by_form (bare_statuses point) (114 ∷ z)
  unfolding line_start named_line number_name_at context_at removed_at ask_forms plain_line plain_forms lock_line lock_forms settle_line
      settle_forms
  bare_starts (place.Pre op) h z = refl
  bare_starts (place.Post op) h z = refl
  bare_starts place.Canceled h z = absurd (false≢true h)
  bare_starts place.DeferredPre h z = absurd (false≢true h)
  bare_starts place.DeferredPost h z = absurd (false≢true h)
  bare_starts place.Generic h z = absurd (false≢true h)

  -- a completion context
  star_starts : (at : Place) → answers at ≡ true → (z : Text) →
      started at locks lv point (42 ∷ z) ≡ by_form (bare_statuses point) (42 ∷ z)
  unfolding line_start named_line number_name_at context_at removed_at ask_forms plain_line plain_forms lock_line lock_forms settle_line
      settle_forms
  star_starts (place.Pre op) h z = refl
  star_starts (place.Post op) h z = refl
  star_starts place.Canceled h z = absurd (false≢true h)
  star_starts place.DeferredPre h z = absurd (false≢true h)
  star_starts place.DeferredPost h z = absurd (false≢true h)
  star_starts place.Generic h z = absurd (false≢true h)

  module _ (line : ℕ) (r : Text) (level : ℕ) where
    -- what returns a status, behind what is set before
    abbrev pub answer : Text → Text
    answer name = indentation level ++ (codes "return " ++ (name ++ (codes ";" ++ (label point line ++ r))))

    handed : (at : Place) → answers at ≡ true → (c : ContextVariable) (name : Text) (s : Status) →
        by_form (handing point c) (codes "return " ++ (name ++ (codes ";" ++ (label point line ++ r)))) ≡
        Some (Whole (Return no_span (Some s)), r) →
        line_at at locks lv point ((handed_text level (Some c) ++ []) ++ answer name) ≡ Some (Whole (Return no_span (Some s)), r)
    unfolding handed_line
    handed at h c name s e =
        ap (line_at at locks lv point)
        (append_assoc (handed_text level (Some c)) [] (answer name)
        ∙ joined_pieces (indentation level ∷ codes "*CompletionContext = " ∷ context_name c ∷ codes ";\n" ∷ []) (answer name))
        ∙ starts at locks lv point level _ ∙ star_starts at h _ ∙ then_reads _ (context_reads c _)
        ∙ ap (by_form (handing point c)) (past_indentation level _) ∙ e

    completes : (at : Place) → answers at ≡ true → (f : FinalStatus) →
        line_at at locks lv point ((final_text level (codes "Data") f ++ []) ++ answer (codes "FLT_PREOP_COMPLETE")) ≡
        Some (Whole (Return no_span (Some (statuses.Complete f))), r)
    completes at h f =
        ap (line_at at locks lv point) (append_assoc (final_text level (codes "Data") f) [] (answer (codes "FLT_PREOP_COMPLETE")))
        ∙ completion_starts at locks lv point line r level operations.Data f _
        ∙ ap (λ b. by_form (completed_call point operations.Data f ∷ completing_return b point f)
        (codes "return FLT_PREOP_COMPLETE;" ++ (label point line ++ r))) h
        ∙ ends_reads [] point line _ r

    bare : (at : Place) → answers at ≡ true → (name : Text) (s : Status) →
        by_form (bare_statuses point) (codes "return " ++ (name ++ (codes ";" ++ (label point line ++ r)))) ≡
        Some (Whole (Return no_span (Some s)), r) →
        line_at at locks lv point (answer name) ≡ Some (Whole (Return no_span (Some s)), r)
    bare at h name s e = starts at locks lv point level _ ∙ bare_starts at h _ ∙ e

    answer_reads : (at : Place) → answers at ≡ true → (s : Status) →
        line_at at locks lv point (before_return level s ++ answer (status_name s)) ≡ Some (Whole (Return no_span (Some s)), r)
    answer_reads at h (statuses.WithCallback None) =
        bare at h (status_name (statuses.WithCallback None)) (statuses.WithCallback None) (ends_reads [] point line _ r)
    answer_reads at h (statuses.WithCallback (Some c)) =
        handed at h c (status_name (statuses.WithCallback (Some c))) (statuses.WithCallback (Some c)) (ends_reads [] point line _ r)
    answer_reads at h (statuses.Synchronize None) =
        bare at h (status_name (statuses.Synchronize None)) (statuses.Synchronize None) (ends_reads [] point line _ r)
    answer_reads at h (statuses.Synchronize (Some c)) =
        handed at h c (status_name (statuses.Synchronize (Some c))) (statuses.Synchronize (Some c)) (ends_reads [] point line _ r)
    answer_reads at h statuses.NoCallback = bare at h (status_name statuses.NoCallback) statuses.NoCallback (ends_reads [] point line _ r)
    answer_reads at h (statuses.Complete f) = completes at h f
    answer_reads at h statuses.Pending = bare at h (status_name statuses.Pending) statuses.Pending (ends_reads [] point line _ r)
    answer_reads at h statuses.DisallowFastIo =
        bare at h (status_name statuses.DisallowFastIo) statuses.DisallowFastIo (ends_reads [] point line _ r)
    answer_reads at h statuses.FinishedProcessing =
        bare at h (status_name statuses.FinishedProcessing) statuses.FinishedProcessing (ends_reads [] point line _ r)
    answer_reads at h statuses.MoreProcessingRequired =
        bare at h (status_name statuses.MoreProcessingRequired) statuses.MoreProcessingRequired (ends_reads [] point line _ r)

    status_reads : (at : Place) (is_pre : Bool) → answers at ≡ true → (s : Status) →
        line_at at locks lv point (answer_text is_pre level (Some s) ++ (label point line ++ r)) ≡ Some (Whole (Return no_span (Some s)), r)
    status_reads at is_pre h s =
        ap (line_at at locks lv point)
        (joined_pieces (before_return level s ∷ indentation level ∷ codes "return " ∷ status_name s ∷ codes ";" ∷ [])
        (label point line ++ r))
        ∙ answer_reads at h s

    -- a line of its own
    alone : (at : Place) (words : Text) (x : Line) →
        started at locks lv point (words ++ (label point line ++ r)) ≡ Some (x, r) →
        line_at at locks lv point (joined (indentation level ∷ words ∷ []) ++ (label point line ++ r)) ≡ Some (x, r)
    alone at words x e =
        ap (line_at at locks lv point) (joined_pieces (indentation level ∷ words ∷ []) (label point line ++ r))
        ∙ starts at locks lv point level _ ∙ e

    -- a return is read back from its line, as its place writes it
    pub return_reads : (at : Place) (s : Option Status) →
        line_at at locks lv point (return_text at level s ++ (label point line ++ r)) ≡ Some (Whole (Return no_span (returned at s)), r)
    unfolding line_start named_line number_name_at context_at removed_at ask_forms plain_line plain_forms lock_line lock_forms settle_line
        settle_forms
    return_reads (place.Pre op) None = alone (place.Pre op) (passing true) _ (ends_reads [] point line _ r)
    return_reads (place.Pre op) (Some s) = status_reads (place.Pre op) true refl s
    return_reads (place.Post op) None = alone (place.Post op) (passing false) _ (ends_reads [] point line _ r)
    return_reads (place.Post op) (Some s) = status_reads (place.Post op) false refl s
    return_reads place.Canceled s = alone place.Canceled (codes "return;") _ (ends_reads [] point line _ r)
    return_reads place.DeferredPre s = alone place.DeferredPre (codes "goto Done;") _ (ends_reads [] point line _ r)
    return_reads place.DeferredPost s = alone place.DeferredPost (codes "goto Done;") _ (ends_reads [] point line _ r)
    return_reads place.Generic s = alone place.Generic (codes "goto Done;") _ (ends_reads [] point line _ r)
