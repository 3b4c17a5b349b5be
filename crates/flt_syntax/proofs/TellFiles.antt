-- What fails by the relation beside the grammar, of that the reader says so: heads, callbacks, locks and files.
use Rattle.std.proofs.Common.{◌≡◌, ℕ, zero, suc, ◌≤◌, ◌<◌, Bool, true, false, nat_lt, List}
use Rattle.std.proofs.Common.{[], ◌∷◌, length, Ok, Err, refl, sym, ap, ◌∙◌, arith}
use Rattle.std.specs.Prelude.{if◌then◌else◌}
use Rattle.std.proofs.lemmas.Bool.{lt-ltb, le-ltb}
use Rattle.flt_syntax.specs.declared.token.Kind.{Kind}
use Rattle.flt_syntax.specs.declared.token.Kind.TheVariants as k
use Rattle.flt_syntax.specs.declared.fault.FaultKind.TheVariants.{E05}
use Rattle.flt_syntax.specs.declared.fault.SyntaxFault.{SyntaxFault}
use Rattle.flt_tree.specs.declared.filter.Callback.{Callback}
use Rattle.flt_tree.specs.declared.filter.Head.{Head}
use Rattle.flt_tree.specs.declared.filter.Head.TheVariants.{Canceled, DeferredPre, DeferredPost, Generic}
use Rattle.flt_tree.specs.declared.filter.Lock.{Lock}
use Rattle.flt_tree.specs.Names.{Text}
use Rattle.flt_syntax.specs.Grammar as g
use Rattle.flt_syntax.specs.Grammar.{HeadAt}
use Rattle.flt_tree.specs.Declarations.{has_event}
use Rattle.flt_syntax.specs.Words.{Next}
use Rattle.flt_syntax.specs.Scope.{Scope}
use Rattle.flt_rules.specs.Limits.{max_callbacks, max_altitude}
use Rattle.flt_syntax.specs.Head.{operation_of, operation, event_by, event, new_event, new_name, new_routine}
use Rattle.flt_syntax.specs.Head.{new_head_by, new_head, is_taken, begins_head, crowded, head}
use Rattle.flt_syntax.specs.File.{lock_kind_of, lock_kind, lock, locks_from, locks, callback, callbacks_from, callbacks, file}
use Rattle.flt_syntax.specs.Cursor.{Input, Outcome, and_then, kind, next, refusal, fault_at}
use Rattle.flt_syntax.specs.WordFails.{MeantFails}
use Rattle.flt_syntax.specs.FileFails as bad
use Rattle.flt_syntax.specs.FileFails.{NewNameFails, HeadFails, CallbackFails, CallbacksFails, LocksFails, FileFails}
use Rattle.flt_syntax.proofs.TokenKinds.{differ, not_seen}
use Rattle.flt_syntax.proofs.Complete.{then_again, rest_is, expect_again, eat_again, spelled_again}
use Rattle.flt_syntax.proofs.Complete.{within_again, next_less, meant_less, name_less}
use Rattle.flt_syntax.proofs.CompleteStatements.{statements_again}
use Rattle.flt_syntax.proofs.CompleteFiles.{operation_again, head_at, event_at, head_again, head_begins, callback_again, callback_less}
use Rattle.flt_syntax.proofs.CompleteFiles.{lock_kind_again, lock_again, locks_again, locks_less, queue_again, queue_less}
use Rattle.flt_syntax.proofs.Ends.{refused}
use Rattle.flt_syntax.proofs.EndFiles.{never, no_deferred_pre, no_deferred_post, no_generic, event_twice, taken_is}
use Rattle.flt_syntax.proofs.Tells.{then_fails, same_error, refuses, expect_tells, meant_tells, spelled_tells, within_tells}
use Rattle.flt_syntax.proofs.TellStatements.{statements_tell}

-- ---- heads

operation_tells : {i : Input} {f : SyntaxFault} → MeantFails operation_of i f → operation i ≡ Err f
unfolding operation
operation_tells h = meant_tells h

new_routine_tells : {text : Text} {kd : Kind} {i j : Input} {f : SyntaxFault} (found : List Callback) → Next kd i j →
    NewNameFails text found j f → new_routine text found i ≡ Err f
unfolding new_routine
new_routine_tells {text = text} found n (bad.no_name h) = ap (new_name text found) (rest_is n) ∙ then_fails _ (spelled_tells _ h)
new_routine_tells {text = text} found n (bad.name_twice p e) =
    ap (new_name text found) (rest_is n) ∙ then_again _ (spelled_again p) (rw e refl)

-- what begins no head
no_head : (text : Text) (found : List Callback) (i : Input) (a : Kind) → begins_head a ≡ false →
    new_head_by text found a i ≡ new_event found i
no_head text found i k.DeferredPre e = elim (differ (sym e)) [ ]
no_head text found i k.DeferredPost e = elim (differ (sym e)) [ ]
no_head text found i k.Generic e = elim (differ (sym e)) [ ]
no_head text found i _ e = refl

no_event : (i : Input) (a : Kind) → begins_head a ≡ false → event_by a i ≡ Err (refusal i)
no_event i k.Pre e = elim (differ (sym e)) [ ]
no_event i k.Post e = elim (differ (sym e)) [ ]
no_event i k.Canceled e = elim (differ (sym e)) [ ]
no_event i _ e = refl

no_head_tells : (text : Text) (found : List Callback) (i : Input) (f : SyntaxFault) (b : Bool) → begins_head (kind i) ≡ false →
    refusal i ≡ f →
    (if b then new_head text found i else Err (crowded found i)) ≡ Err f
unfolding new_head new_event event crowded
no_head_tells text found i f true e h =
    no_head text found i (kind i) e ∙ then_fails _ (no_event i (kind i) e ∙ ap (λ x. Err x) h)
no_head_tells text found i f false e h = rw e (ap (λ x. Err x) h)

module _ (text : Text) (found : List Callback) where
  -- an event that is there is read, and told at its first word
  event_told : {o : Input} {h : Head} (i : Input) → event i ≡ Ok (h, o) → has_event h found ≡ true →
      new_event found i ≡ Err (fault_at E05 i)
  unfolding new_event
  event_told i e t = then_again _ e (rw t refl)

  not_new : {i o : Input} {h : Head} → HeadAt text i h o → has_event h found ≡ true → new_head text found i ≡ Err (fault_at E05 i)
  not_new (g.pre n p) t =
      head_at text found n ∙ event_told _ (event_at n ∙ then_again _ (ap operation (rest_is n) ∙ operation_again p) refl) t
  not_new (g.post n p) t =
      head_at text found n ∙ event_told _ (event_at n ∙ then_again _ (ap operation (rest_is n) ∙ operation_again p) refl) t
  not_new (g.canceled n) t = head_at text found n ∙ event_told _ (event_at n ∙ ap (λ x. Ok (Canceled, x)) (rest_is n)) t
  not_new (g.deferred_pre {name = name} n p) t = elim (differ (sym (never (DeferredPre name) (no_deferred_pre name) found) ∙ t)) [ ]
  not_new (g.deferred_post {name = name} n p) t = elim (differ (sym (never (DeferredPost name) (no_deferred_post name) found) ∙ t)) [ ]
  not_new (g.generic {name = name} n p) t = elim (differ (sym (never (Generic name) (no_generic name) found) ∙ t)) [ ]

  twice_tells : {i o : Input} {h : Head} (b : Bool) → HeadAt text i h o → has_event h found ≡ true →
      (if b then new_head text found i else Err (crowded found i)) ≡ Err (fault_at E05 i)
  unfolding crowded
  twice_tells true p t = not_new p t
  twice_tells false p t = rw (head_begins p, taken_is text found p ∙ t) refl

  no_twice : (i : Input) (b : Bool) → is_taken (kind i) (kind (next i)) found ≡ b →
      ((h : Head) (o : Input) → HeadAt text i h o → has_event h found ≡ false) → b ≡ false
  no_twice i true e none =
      let x = event_twice text found i (kind i) refl e in elim (differ (sym (none x.0 x.1 x.2) ∙ x.3)) [ ]
  no_twice i false e none = refl

  head_tells : {i : Input} {f : SyntaxFault} → HeadFails text found i f → head text found i ≡ Err f
  unfolding head new_event crowded
  head_tells {f = f} (bad.no_head {i = i} e h) = no_head_tells text found i f (nat_lt (length found) max_callbacks) e (refuses h)
  head_tells (bad.pre few n h) =
      rw (lt-ltb _ _ few) (head_at text found n ∙ then_fails _ (event_at n ∙ then_fails _ (ap operation (rest_is n) ∙ operation_tells h)))
  head_tells (bad.post few n h) =
      rw (lt-ltb _ _ few) (head_at text found n ∙ then_fails _ (event_at n ∙ then_fails _ (ap operation (rest_is n) ∙ operation_tells h)))
  head_tells (bad.event_twice p t) = twice_tells (nat_lt (length found) max_callbacks) p t
  head_tells (bad.deferred_pre few n h) =
      rw (lt-ltb _ _ few) (head_at text found n ∙ then_fails _ (new_routine_tells found n h))
  head_tells (bad.deferred_post few n h) =
      rw (lt-ltb _ _ few) (head_at text found n ∙ then_fails _ (new_routine_tells found n h))
  head_tells (bad.generic few n h) =
      rw (lt-ltb _ _ few) (head_at text found n ∙ then_fails _ (new_routine_tells found n h))
  head_tells (bad.callback_too_many {i = i} many e none) =
      rw (le-ltb _ _ many, e, no_twice i (is_taken (kind i) (kind (next i)) found) refl none) refl

-- ---- callbacks

callback_tells : {scope : Scope} {found : List Callback} {i : Input} {f : SyntaxFault} → CallbackFails scope found i f →
    callback scope found i ≡ Err f
unfolding callback
callback_tells {scope = scope} {found = found} (bad.head h) = then_fails _ (head_tells scope.text found h)
callback_tells {found = found} (bad.brace p fresh few h) = then_again _ (head_again found p fresh few) (then_fails _ (expect_tells h))
callback_tells {found = found} (bad.body p fresh few n h) =
    then_again _ (head_again found p fresh few) (then_again _ (expect_again n) (then_fails _ (statements_tell h)))
callback_tells {found = found} (bad.too_great (g.callback p n q m) fresh few big) =
    then_again _ (head_again found p fresh few)
    (then_again _ (expect_again n) (then_again _ (statements_again q m) (then_again _ (expect_again m) (rw big refl))))

-- at no token there is no callback
none_there : (scope : Scope) (found : List Callback) → callback scope found [] ≡ Err (refusal [])
none_there scope found = callback_tells (bad.head (bad.no_head refl (refused [])))

here_tells : (scope : Scope) (i : Input) (f : SyntaxFault) (n : ℕ) (found : List Callback) → length i ≤ n →
    callback scope found i ≡ Err f → callbacks_from scope n found i ≡ Err f
unfolding callbacks_from
here_tells scope [] f zero found fits h = ap (λ x. Err x) (same_error (refusal []) f _ (none_there scope found) h)
here_tells scope (t ∷ i) f zero found fits h = absurd (omega (arith, fits))
here_tells scope i f (suc n) found fits h = then_fails _ h

callbacks_from_tell : {scope : Scope} {found : List Callback} {i : Input} {f : SyntaxFault} → CallbacksFails scope found i f →
    (n : ℕ) → length i ≤ n → callbacks_from scope n found i ≡ Err f
unfolding callbacks_from
callbacks_from_tell {scope = scope} {f = f} (bad.here {found = found} {i = i} h) n fits =
    here_tells scope i f n found fits (callback_tells h)
callbacks_from_tell (bad.later_callback p fresh few small e h) zero fits = absurd (omega (arith, callback_less p, fits))
callbacks_from_tell (bad.later_callback {found = found} {j = j} p fresh few small e h) (suc n) fits =
    then_again _ (callback_again found p fresh few small)
    (rw (not_seen k.End j e) (callbacks_from_tell h n (omega (arith, callback_less p, fits))))

callbacks_tell : {scope : Scope} {i : Input} {f : SyntaxFault} → CallbacksFails scope [] i f → callbacks scope i ≡ Err f
unfolding callbacks
callbacks_tell {i = i} h = callbacks_from_tell h (length i) (omega arith)

-- ---- locks

lock_kind_tells : {i : Input} {f : SyntaxFault} → MeantFails lock_kind_of i f → lock_kind i ≡ Err f
unfolding lock_kind
lock_kind_tells h = meant_tells h

locks_from_tell : {text : Text} {found : List Lock} {i : Input} {f : SyntaxFault} → LocksFails text found i f →
    (n : ℕ) → length i ≤ n → locks_from text n found i ≡ Err f
unfolding locks_from lock
locks_from_tell (bad.sort n h) zero fits = absurd (omega (arith, next_less n, fits))
locks_from_tell (bad.sort n h) (suc m) fits = then_again _ (eat_again n) (then_fails _ (then_fails _ (lock_kind_tells h)))
locks_from_tell (bad.no_lock_name n p h) zero fits = absurd (omega (arith, next_less n, fits))
locks_from_tell (bad.no_lock_name n p h) (suc m) fits =
    then_again _ (eat_again n) (then_fails _ (then_again _ (lock_kind_again p) (then_fails _ (spelled_tells _ h))))
locks_from_tell (bad.lock_twice n p q t) zero fits = absurd (omega (arith, next_less n, fits))
locks_from_tell (bad.lock_twice n p q t) (suc m) fits =
    then_again _ (eat_again n) (then_fails _ (then_again _ (lock_kind_again p) (then_again _ (spelled_again q) (rw t refl))))
locks_from_tell (bad.lock_too_many n p q t many) zero fits = absurd (omega (arith, next_less n, fits))
locks_from_tell (bad.lock_too_many n p q t many) (suc m) fits =
    then_again _ (eat_again n)
    (then_fails _ (then_again _ (lock_kind_again p) (then_again _ (spelled_again q) (rw (t, le-ltb _ _ many) refl))))
locks_from_tell (bad.later_lock n p q t few h) zero fits = absurd (omega (arith, next_less n, fits))
locks_from_tell (bad.later_lock {found = found} n p q t few h) (suc m) fits =
    then_again _ (eat_again n) (then_again _ (lock_again found p q t few)
    (locks_from_tell h m (omega (arith, next_less n, meant_less p, name_less q, fits))))

locks_tell : {text : Text} {i : Input} {f : SyntaxFault} → LocksFails text [] i f → locks text i ≡ Err f
unfolding locks
locks_tell {i = i} h = locks_from_tell h (length i) (omega arith)

no_locks : (text : Text) → locks text [] ≡ Err (refusal [])
unfolding locks locks_from
no_locks text = refl

-- ---- the file

no_callbacks : (scope : Scope) → callbacks scope [] ≡ Err (refusal [])
unfolding callbacks callbacks_from
no_callbacks scope = refl

-- where there is no token, the fault is that of no token
at_nothing : (scope : Scope) (l : Input) (f : SyntaxFault) → length l ≤ 0 → callbacks scope l ≡ Err f → f ≡ refusal []
at_nothing scope [] f fits h = same_error f (refusal []) (callbacks scope []) h (no_callbacks scope)
at_nothing scope (t ∷ l) f fits h = absurd (omega (arith, fits))

locks_stage : {A : Type 0} (text : Text) (d e : Input) (ls : List Lock) (f : SyntaxFault) (more : List Lock × Input → Outcome A) →
    (0 < length d → locks text d ≡ Ok (ls, e)) → (length d ≤ 0 → f ≡ refusal []) → more (ls, e) ≡ Err f →
    and_then (locks text d) more ≡ Err f
locks_stage text [] e ls f more some none h = then_fails _ (no_locks text ∙ ap (λ x. Err x) (sym (none (omega arith))))
locks_stage text (t ∷ d) e ls f more some none h = then_again _ (some (omega arith)) h

-- a file: where it fails, that is reported
pub file_tells : {text : Text} {i : Input} {f : SyntaxFault} → FileFails text i f → file text i ≡ Err f
unfolding file
file_tells (bad.filter h) = then_fails _ (expect_tells h)
file_tells (bad.no_filter_name n h) = then_again _ (expect_again n) (then_fails _ (spelled_tells _ h))
file_tells (bad.altitude n m h) = then_again _ (expect_again n) (then_again _ (spelled_again m) (then_fails _ (expect_tells h)))
file_tells (bad.number n m x h) =
    then_again _ (expect_again n) (then_again _ (spelled_again m) (then_again _ (expect_again x) (then_fails _ (within_tells h))))
file_tells (bad.locks n m x p low high h) =
    then_again _ (expect_again n) (then_again _ (spelled_again m) (then_again _ (expect_again x)
    (then_again _ (within_again 1 max_altitude p low high) (then_fails _ (locks_tell h)))))
file_tells {text = text} {f = f} (bad.callbacks {d = d} {e = e} {l = l} {ls = ls} {q = q} n m x p low high y over new few z v h) =
    let told = callbacks_tell h in
    then_again _ (expect_again n) (then_again _ (spelled_again m) (then_again _ (expect_again x)
    (then_again _ (within_again 1 max_altitude p low high)
    (locks_stage text d e ls f _ (locks_again y over new few)
    (λ none. at_nothing _ l f (omega (arith, locks_less y, queue_less z, none)) told)
    (then_again _ (queue_again z v) (then_fails _ told))))))
