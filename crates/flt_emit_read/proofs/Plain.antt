-- Calls that always succeed are read back.
use Rattle.std.proofs.Common.{◌≡◌, ℕ, Bool, true, false, List, [], ◌∷◌, ◌++◌, refl, sym, ap, ◌∙◌, append_assoc}
use Rattle.std.proofs.lemmas.Bool.{false≢true}
use Rattle.std.specs.Prelude.{Option, Some, None, codes}
use Rattle.flt_rules.specs.declared.call.LockKind.{LockKind}
use Rattle.flt_rules.specs.declared.call.LockKind.TheVariants.{Spin, Fast, Push}
use Rattle.flt_rules.specs.declared.call.LockNumber.{LockNumber}
use Rattle.flt_rules.specs.declared.place.Place.{Place}
use Rattle.flt_rules.specs.declared.status.FinalStatus.{FinalStatus}
use Rattle.flt_tree.specs.Declarations.{lock_name, lock_number}
use Rattle.flt_tree.specs.Filter.{no_span, context_of}
use Rattle.flt_tree.specs.Names.{Text, is_word, is_name}
use Rattle.flt_tree.specs.WellFormed.{IsPlain}
use Rattle.flt_tree.specs.declared.filter.Lock.{Lock}
use Rattle.flt_tree.specs.declared.filter.PlainCall.{PlainCall}
use Rattle.flt_tree.specs.declared.filter.PlainCall.TheVariants as plain
use Rattle.flt_tree.specs.declared.filter.Statement.TheVariants.{Call}
use Rattle.flt_tree.specs.declared.filter.Status.{Status}
use Rattle.flt_tree.specs.declared.filter.Status.TheVariants as statuses
use Rattle.flt_tree.specs.declared.variable.OperationVariable.{OperationVariable}
use Rattle.flt_emit.specs.Line.{label, indentation}
use Rattle.flt_emit.specs.Names.{context_name, context_or_null, operation_name, final_status_name, status_name}
use Rattle.flt_emit.specs.Statements.{plain_text, before_call, final_text}
use Rattle.flt_emit_read.specs.Front.{◌>>=◌, after, by_form, past_blanks}
use Rattle.flt_emit_read.specs.Lines.{Whole}
use Rattle.flt_emit_read.specs.Lines.{line_at, context_line, ended_context, lock_end, lock_call, pended_at, pended_line, completing}
use Rattle.flt_emit_read.specs.Lines.{completed_call, completed_return, line_start, named_line, number_name_at, context_at, removed_at}
use Rattle.flt_emit_read.specs.Lines.{ask_forms, plain_line, plain_forms, lock_line, lock_forms, settle_line, settle_forms, locked}
use Rattle.flt_emit_read.proofs.Fronts.{then_reads, after_again, Stops, name_reads, pieces, joined_pieces, past_indentation}
use Rattle.flt_emit_read.proofs.Simple.{started, starts, context_starts, completing_starts}
use Rattle.flt_emit_read.proofs.Names.{context_reads, operation_reads, operation_solid, final_reads}
use Rattle.flt_emit_read.proofs.Names.{optional_reads, ended_reads, ends_reads}

-- a status that doesn't complete
abbrev pub is_bare : Status → Bool
is_bare (statuses.Complete f) = false
is_bare s = true

pended_reads : (s : Status) (r : Text) → is_bare s ≡ true →
    pended_at (status_name s ++ (codes ", " ++ (context_or_null (context_of s) ++ r))) ≡ Some (s, r)
unfolding pended_at
pended_reads (statuses.WithCallback c) r h = then_reads _ (optional_reads c r)
pended_reads (statuses.Synchronize c) r h = then_reads _ (optional_reads c r)
pended_reads statuses.NoCallback r h = refl
pended_reads (statuses.Complete f) r h = absurd (false≢true h)
pended_reads statuses.Pending r h = refl
pended_reads statuses.DisallowFastIo r h = refl
pended_reads statuses.FinishedProcessing r h = refl
pended_reads statuses.MoreProcessingRequired r h = refl

module _ (at : Place) (locks : List Lock) (lv point line : ℕ) (r : Text) where
  abbrev pub rest : Text
  rest = label point line ++ r

  -- ---- locks

  lock_reads : (kind : LockKind) (level : Option Text) (made : LockNumber → PlainCall) (name : Text) (l : LockNumber) →
      is_name name ≡ true → lock_number kind name locks ≡ Some l → Stops is_word (lock_end level name ++ rest) →
      lock_call locks point kind level made (name ++ (lock_end level name ++ rest)) ≡ Some (Whole (Call no_span (made l)), r)
  unfolding lock_call locked
  lock_reads kind level made name l h e s =
      then_reads _ (then_reads _ (name_reads name (lock_end level name ++ rest) h s) ∙ then_reads _ e
      ∙ then_reads _ (ended_reads (lock_end level name) point line r))

  spin_end : (before level name : Text) →
      pieces (before ∷ name ∷ level ∷ name ∷ codes " );" ∷ []) rest ≡ before ++ (name ++ (lock_end (Some level) name ++ rest))
  spin_end before level name =
      ap (λ z. before ++ (name ++ z))
      (ap (λ z. level ++ z) (sym (append_assoc name (codes " );") rest)) ∙ sym (append_assoc level (name ++ codes " );") rest))

  -- ---- completions

  completes : (level : ℕ) (d : OperationVariable) (f : FinalStatus) (z : Text) →
      completing at point d (final_status_name f ++ (codes ";\n" ++ (indentation level ++ (operation_name d
      ++ (codes "->IoStatus.Information = 0;\n" ++ (indentation level ++ z)))))) ≡
      by_form (completed_call point d f ∷ completed_return at point d f) (past_blanks z)
  unfolding completing
  completes level d f z =
      then_reads _ (final_reads f _)
      ∙ ap (λ y. after (operation_name d) y >>= λ y. after (codes "->IoStatus.Information = 0;\n") y
      >>= λ y. by_form (completed_call point d f ∷ completed_return at point d f) (past_blanks y))
      (past_indentation level _ ∙ operation_solid d _)
      ∙ then_reads _ (after_again (operation_name d) _)
      ∙ ap (by_form (completed_call point d f ∷ completed_return at point d f)) (past_indentation level z)

  -- the line of a completed operation's final status begins the statements that complete it
  pub completion_starts : (level : ℕ) (d : OperationVariable) (f : FinalStatus) (z : Text) →
      line_at at locks lv point (final_text level (operation_name d) f ++ (indentation level ++ z)) ≡
      by_form (completed_call point d f ∷ completed_return at point d f) (past_blanks z)
  completion_starts level d f z =
      ap (line_at at locks lv point)
      (joined_pieces (indentation level ∷ operation_name d ∷ codes "->IoStatus.Status = " ∷ final_status_name f ∷ codes ";\n"
      ∷ indentation level ∷ operation_name d ∷ codes "->IoStatus.Information = 0;\n" ∷ []) (indentation level ++ z))
      ∙ starts at locks lv point level _ ∙ completing_starts at locks lv point d _ ∙ completes level d f z

  -- ---- calls

  pended_call : (d : OperationVariable) (s : Status) → is_bare s ≡ true →
      started at locks lv point (plain_text locks (plain.CompletePendedPreOperation d s) ++ rest) ≡
      Some (Whole (Call no_span (plain.CompletePendedPreOperation d s)), r)
  unfolding pended_line line_start named_line number_name_at context_at removed_at ask_forms plain_line plain_forms lock_line lock_forms
      settle_line settle_forms
  pended_call d s h =
      ap (started at locks lv point)
      (joined_pieces (codes "FltCompletePendedPreOperation( " ∷ operation_name d ∷ codes ", " ∷ status_name s ∷ codes ", "
      ∷ context_or_null (context_of s) ∷ codes " );" ∷ []) rest)
      ∙ then_reads _ (operation_reads d _) ∙ then_reads _ (pended_reads s _ h) ∙ ends_reads (codes " );") point line _ r

  -- a call before which nothing stands
  abbrev pub is_alone : PlainCall → Bool
  is_alone (plain.CompletePendedPreOperation d s) = is_bare s
  is_alone c = true

  plain_starts : (c : PlainCall) → IsPlain locks c → is_alone c ≡ true →
      started at locks lv point (plain_text locks c ++ rest) ≡ Some (Whole (Call no_span c), r)
  unfolding ended_context context_line line_start named_line number_name_at context_at removed_at ask_forms plain_line plain_forms
      lock_line lock_forms settle_line settle_forms
  plain_starts (plain.DeleteContext c) ok h =
      ap (started at locks lv point) (joined_pieces (codes "FltDeleteContext( " ∷ context_name c ∷ codes " );" ∷ []) rest)
      ∙ then_reads _ (context_reads c _) ∙ ends_reads (codes " );") point line _ r
  plain_starts (plain.ReferenceContext c d) ok h =
      ap (started at locks lv point)
      (joined_pieces (context_name d ∷ codes " = ReferenceContext( " ∷ context_name c ∷ codes " );" ∷ []) rest)
      ∙ context_starts at locks lv point d _ ∙ then_reads _ (context_reads c _) ∙ ends_reads (codes " );") point line _ r
  plain_starts (plain.ReleaseContext c) ok h =
      ap (started at locks lv point) (joined_pieces (codes "FltReleaseContext( " ∷ context_name c ∷ codes " );" ∷ []) rest)
      ∙ then_reads _ (context_reads c _) ∙ ends_reads (codes " );") point line _ r
  plain_starts (plain.AcquireLock Spin l) ok h =
      ap (started at locks lv point)
      (joined_pieces
      (codes "KeAcquireSpinLock( &Globals.lock_" ∷ lock_name locks l ∷ codes ", &irql_" ∷ lock_name locks l ∷ codes " );" ∷ []) rest
      ∙ spin_end (codes "KeAcquireSpinLock( &Globals.lock_") (codes ", &irql_") (lock_name locks l))
      ∙ lock_reads Spin (Some (codes ", &irql_")) (plain.AcquireLock Spin) (lock_name locks l) l ok.0 ok.1 refl
  plain_starts (plain.AcquireLock Fast l) ok h =
      ap (started at locks lv point)
      (joined_pieces (codes "ExAcquireFastMutex( &Globals.lock_" ∷ lock_name locks l ∷ codes " );" ∷ []) rest)
      ∙ lock_reads Fast None (plain.AcquireLock Fast) (lock_name locks l) l ok.0 ok.1 refl
  plain_starts (plain.AcquireLock Push l) ok h =
      ap (started at locks lv point)
      (joined_pieces (codes "FltAcquirePushLockExclusive( &Globals.lock_" ∷ lock_name locks l ∷ codes " );" ∷ []) rest)
      ∙ lock_reads Push None (plain.AcquireLock Push) (lock_name locks l) l ok.0 ok.1 refl
  plain_starts (plain.AcquirePushLockShared l) ok h =
      ap (started at locks lv point)
      (joined_pieces (codes "FltAcquirePushLockShared( &Globals.lock_" ∷ lock_name locks l ∷ codes " );" ∷ []) rest)
      ∙ lock_reads Push None plain.AcquirePushLockShared (lock_name locks l) l ok.0 ok.1 refl
  plain_starts (plain.ReleaseLock Spin l) ok h =
      ap (started at locks lv point)
      (joined_pieces
      (codes "KeReleaseSpinLock( &Globals.lock_" ∷ lock_name locks l ∷ codes ", irql_" ∷ lock_name locks l ∷ codes " );" ∷ []) rest
      ∙ spin_end (codes "KeReleaseSpinLock( &Globals.lock_") (codes ", irql_") (lock_name locks l))
      ∙ lock_reads Spin (Some (codes ", irql_")) (plain.ReleaseLock Spin) (lock_name locks l) l ok.0 ok.1 refl
  plain_starts (plain.ReleaseLock Fast l) ok h =
      ap (started at locks lv point)
      (joined_pieces (codes "ExReleaseFastMutex( &Globals.lock_" ∷ lock_name locks l ∷ codes " );" ∷ []) rest)
      ∙ lock_reads Fast None (plain.ReleaseLock Fast) (lock_name locks l) l ok.0 ok.1 refl
  plain_starts (plain.ReleaseLock Push l) ok h =
      ap (started at locks lv point)
      (joined_pieces (codes "FltReleasePushLock( &Globals.lock_" ∷ lock_name locks l ∷ codes " );" ∷ []) rest)
      ∙ lock_reads Push None (plain.ReleaseLock Push) (lock_name locks l) l ok.0 ok.1 refl
  plain_starts (plain.CompletePendedPreOperation d s) ok h = pended_call d s h
  plain_starts plain.CompletePendedPostOperation ok h = ends_reads [] point line _ r

  completed_reads : (level : ℕ) (d : OperationVariable) (f : FinalStatus) →
      line_at at locks lv point (final_text level (operation_name d) f ++ (indentation level
      ++ (plain_text locks (plain.CompletePendedPreOperation d (statuses.Complete f)) ++ rest))) ≡
      Some (Whole (Call no_span (plain.CompletePendedPreOperation d (statuses.Complete f))), r)
  completed_reads level d f =
      completion_starts level d f _
      ∙ ap (λ z. by_form (completed_call point d f ∷ completed_return at point d f) (past_blanks z))
      (joined_pieces (codes "FltCompletePendedPreOperation( " ∷ operation_name d ∷ codes ", " ∷ codes "FLT_PREOP_COMPLETE" ∷ codes ", "
      ∷ codes "NULL" ∷ codes " );" ∷ []) rest)
      ∙ then_reads _ (after_again (operation_name d) _) ∙ ends_reads (codes ", FLT_PREOP_COMPLETE, NULL );") point line _ r

  alone_reads : (level : ℕ) (c : PlainCall) → IsPlain locks c → is_alone c ≡ true →
      line_at at locks lv point (indentation level ++ (plain_text locks c ++ rest)) ≡ Some (Whole (Call no_span c), r)
  alone_reads level c ok h = starts at locks lv point level (plain_text locks c ++ rest) ∙ plain_starts c ok h

  -- a plain call is read back from its lines, but for where it stands
  pub call_reads : (level : ℕ) (c : PlainCall) → IsPlain locks c →
      line_at at locks lv point (before_call level c ++ (indentation level ++ (plain_text locks c ++ (label point line ++ r)))) ≡
      Some (Whole (Call no_span c), r)
  call_reads level (plain.CompletePendedPreOperation d (statuses.Complete f)) ok = completed_reads level d f
  call_reads level (plain.CompletePendedPreOperation d (statuses.WithCallback c)) ok = alone_reads level _ ok refl
  call_reads level (plain.CompletePendedPreOperation d (statuses.Synchronize c)) ok = alone_reads level _ ok refl
  call_reads level (plain.CompletePendedPreOperation d statuses.NoCallback) ok = alone_reads level _ ok refl
  call_reads level (plain.CompletePendedPreOperation d statuses.Pending) ok = alone_reads level _ ok refl
  call_reads level (plain.CompletePendedPreOperation d statuses.DisallowFastIo) ok = alone_reads level _ ok refl
  call_reads level (plain.CompletePendedPreOperation d statuses.FinishedProcessing) ok = alone_reads level _ ok refl
  call_reads level (plain.CompletePendedPreOperation d statuses.MoreProcessingRequired) ok = alone_reads level _ ok refl
  call_reads level (plain.DeleteContext c) ok = alone_reads level _ ok refl
  call_reads level (plain.ReferenceContext c d) ok = alone_reads level _ ok refl
  call_reads level (plain.ReleaseContext c) ok = alone_reads level _ ok refl
  call_reads level (plain.AcquireLock kind l) ok = alone_reads level _ ok refl
  call_reads level (plain.AcquirePushLockShared l) ok = alone_reads level _ ok refl
  call_reads level (plain.ReleaseLock kind l) ok = alone_reads level _ ok refl
  call_reads level plain.CompletePendedPostOperation ok = alone_reads level _ ok refl
