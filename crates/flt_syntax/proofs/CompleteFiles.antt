-- What is spelled is read: heads, callbacks and whole texts.
use Rattle.std.proofs.Common.{◌≡◌, ◌≢◌, ℕ, zero, suc, ◌+◌, ◌≤◌, ◌<◌, Bool, true, false, not, List, []}
use Rattle.std.proofs.Common.{◌∷◌, ◌++◌, length, length-append, Ok, refl, ap, ◌∙◌, append_assoc, arith}
use Rattle.std.specs.Prelude.{Option, Some, None, IsTrue, ◌&&◌}
use Rattle.std.specs.List.{list_all}
use Rattle.std.proofs.lemmas.Bool.{lt-ltb, le-ltb}
use Rattle.std.proofs.lemmas.List.{append-nil}
use Rattle.flt_rules.specs.declared.call.LockKind.{LockKind}
use Rattle.flt_rules.specs.declared.place.Operation.{Operation}
use Rattle.flt_syntax.specs.declared.token.Kind.{Kind}
use Rattle.flt_syntax.specs.declared.token.Kind.TheVariants as k
use Rattle.flt_tree.specs.declared.filter.Callback.{Callback}
use Rattle.flt_tree.specs.declared.filter.Filter.{Filter}
use Rattle.flt_tree.specs.declared.filter.Head.{Head}
use Rattle.flt_tree.specs.declared.filter.Head.TheVariants.{Canceled}
use Rattle.flt_tree.specs.declared.filter.Lock.{Lock}
use Rattle.flt_tree.specs.declared.filter.Position.{Position}
use Rattle.flt_tree.specs.Names.{Text}
use Rattle.flt_syntax.specs.Lex.{same_kind, tokens}
use Rattle.flt_syntax.specs.Grammar as g
use Rattle.flt_syntax.specs.Grammar.{HeadAt, CallbackAt, CallbacksAt, LocksAt, QueueAt, FileAt}
use Rattle.flt_tree.specs.Declarations.{AreNewLocks, is_declared, AreNewCallbacks, AreWhole}
use Rattle.flt_tree.specs.Declarations.{IsServed, has_event, has_routine, lacks_pre, has_lock}
use Rattle.flt_syntax.specs.Spelling.{Spells}
use Rattle.flt_syntax.specs.Words.{Next, Meant, NameAt}
use Rattle.flt_syntax.specs.Scope.{Scope}
use Rattle.flt_tree.specs.Measures.{is_small, are_small}
use Rattle.flt_rules.specs.Limits.{max_callbacks, max_altitude, max_locks}
use Rattle.flt_syntax.specs.Head.{operation_of, operation, event_by, event, new_event, new_name}
use Rattle.flt_syntax.specs.Head.{new_routine, new_head_by, new_head, begins_head, head}
use Rattle.flt_syntax.specs.Whole.{missing, callback_fault, first_fault, queue_fault, whole_fault}
use Rattle.flt_syntax.specs.File.{lock_kind_of, lock_kind, lock, locks_from, locks, queue, callback}
use Rattle.flt_syntax.specs.File.{callbacks_from, callbacks, file, unless_fault, whole, filter_of}
use Rattle.flt_syntax.specs.Cursor.{Input, Outcome, kind, refusal, sees}
use Rattle.flt_syntax.proofs.Routines.{none_missing}
use Rattle.flt_syntax.specs.Over.{QueueOver}
use Rattle.flt_syntax.proofs.TokenKinds.{differ, apart_kinds, unseen, not_seen}
use Rattle.flt_syntax.proofs.Complete.{then_again, kind_is, rest_is, expect_again, eat_again, eat_none, known_again}
use Rattle.flt_syntax.proofs.Complete.{spelled_again, within_again, apart, next_less, meant_less, name_less}
use Rattle.flt_syntax.proofs.CompleteStatements.{statements_again, statements_less}

-- ---- heads

-- OP: what is spelled and over is read
pub operation_again : {i o : Input} {op : Operation} → Meant operation_of i op o → operation i ≡ Ok (op, o)
unfolding operation
operation_again {i = i} p = known_again (refusal i) p

-- the rule for a word, at that word
pub head_at : {kd : Kind} {i j : Input} (text : Text) (found : List Callback) → Next kd i j →
    new_head text found i ≡ new_head_by text found kd i
unfolding new_head
head_at {i = i} text found n = ap (λ x. new_head_by text found x i) (kind_is n)

-- the rule for a word, at that word
pub event_at : {kd : Kind} {i j : Input} → Next kd i j → event i ≡ event_by kd i
unfolding event
event_at {i = i} n = ap (λ x. event_by x i) (kind_is n)

event_again : {o : Input} {h : Head} (found : List Callback) (i : Input) → event i ≡ Ok (h, o) → has_event h found ≡ false →
    new_event found i ≡ Ok (h, o)
unfolding new_event
event_again found i e fresh = then_again _ e (rw fresh refl)

routine_again : {text name : Text} {kd : Kind} {i j o : Input} (found : List Callback) → Next kd i j → NameAt text j name o →
    has_routine name found ≡ false →
    new_routine text found i ≡ Ok (name, o)
unfolding new_routine
routine_again {text = text} found n p fresh = ap (new_name text found) (rest_is n) ∙ then_again _ (spelled_again p) (rw fresh refl)

new_head_again : {text : Text} {i o : Input} {h : Head} (found : List Callback) → HeadAt text i h o →
    is_declared h found ≡ false → new_head text found i ≡ Ok (h, o)
new_head_again {text = text} found (g.pre n p) fresh =
    head_at text found n ∙ event_again found _ (event_at n ∙ then_again _ (ap operation (rest_is n) ∙ operation_again p) refl) fresh
new_head_again {text = text} found (g.post n p) fresh =
    head_at text found n ∙ event_again found _ (event_at n ∙ then_again _ (ap operation (rest_is n) ∙ operation_again p) refl) fresh
new_head_again {text = text} found (g.canceled n) fresh =
    head_at text found n ∙ event_again found _ (event_at n ∙ ap (λ x. Ok (Canceled, x)) (rest_is n)) fresh
new_head_again {text = text} found (g.deferred_pre n p) fresh = head_at text found n ∙ then_again _ (routine_again found n p fresh) refl
new_head_again {text = text} found (g.deferred_post n p) fresh = head_at text found n ∙ then_again _ (routine_again found n p fresh) refl
new_head_again {text = text} found (g.generic n p) fresh = head_at text found n ∙ then_again _ (routine_again found n p fresh) refl

-- a head: what is spelled and over is read
pub head_again : {text : Text} {i o : Input} {h : Head} (found : List Callback) → HeadAt text i h o → is_declared h found ≡ false →
    length found < max_callbacks →
    head text found i ≡ Ok (h, o)
unfolding head
head_again found p fresh few = rw (lt-ltb _ _ few) (new_head_again found p fresh)

-- with what words heads begin
pub head_begins : {text : Text} {i o : Input} {h : Head} → HeadAt text i h o → begins_head (kind i) ≡ true
head_begins (g.pre n _) = ap begins_head (kind_is n)
head_begins (g.post n _) = ap begins_head (kind_is n)
head_begins (g.canceled n) = ap begins_head (kind_is n)
head_begins (g.deferred_pre n _) = ap begins_head (kind_is n)
head_begins (g.deferred_post n _) = ap begins_head (kind_is n)
head_begins (g.generic n _) = ap begins_head (kind_is n)

head_less : {text : Text} {i o : Input} {h : Head} → HeadAt text i h o → length o < length i
head_less (g.pre n p) = omega (arith, next_less n, meant_less p)
head_less (g.post n p) = omega (arith, next_less n, meant_less p)
head_less (g.canceled n) = next_less n
head_less (g.deferred_pre n p) = omega (arith, next_less n, name_less p)
head_less (g.deferred_post n p) = omega (arith, next_less n, name_less p)
head_less (g.generic n p) = omega (arith, next_less n, name_less p)

-- ---- callbacks

-- a callback: what is spelled and over is read
pub callback_again : {scope : Scope} {i o : Input} {c : Callback} (found : List Callback) → CallbackAt scope i c o →
    is_declared c.head found ≡ false →
    length found < max_callbacks → is_small c ≡ true → callback scope found i ≡ Ok (c, o)
unfolding callback
callback_again found (g.callback p n q m) fresh few small =
    then_again _ (head_again found p fresh few)
    (then_again _ (expect_again n) (then_again _ (statements_again q m) (then_again _ (expect_again m) (rw small refl))))

-- a callback: fewer tokens are left behind it
pub callback_less : {scope : Scope} {i o : Input} {c : Callback} → CallbackAt scope i c o → length o < length i
callback_less (g.callback p n q m) = omega (arith, head_less p, next_less n, statements_less q, next_less m)

callbacks_begin : {scope : Scope} {i o : Input} {cs : List Callback} → CallbacksAt scope i cs o → begins_head (kind i) ≡ true
callbacks_begin (g.last (g.callback p _ _ _)) = head_begins p
callbacks_begin (g.more (g.callback p _ _ _) _) = head_begins p

callbacks_less : {scope : Scope} {i o : Input} {cs : List Callback} → CallbacksAt scope i cs o → length o < length i
callbacks_less (g.last p) = callback_less p
callbacks_less (g.more p q) = omega (arith, callback_less p, callbacks_less q)

not_head : Kind → Bool
not_head kind = not (begins_head kind)

-- a token that begins no head
no_head : (i : Input) (kd : Kind) → begins_head (kind i) ≡ true → not_head kd ≡ true → sees kd i ≡ false
unfolding not_head
no_head i kd e h = apart not_head (kind i) kd (ap not e) h

no_end : (i : Input) → begins_head (kind i) ≡ true → sees k.End i ≡ false
unfolding not_head
no_end i e = no_head i k.End e refl

no_lock : (i : Input) → begins_head (kind i) ≡ true → sees k.Lock i ≡ false
unfolding not_head
no_lock i e = no_head i k.Lock e refl

no_queue : (i : Input) → begins_head (kind i) ≡ true → sees k.Queue i ≡ false
unfolding not_head
no_queue i e = no_head i k.Queue e refl

at_end : (o : Input) → kind o ≡ k.End → sees k.End o ≡ true
unfolding same_kind
at_end o e = rw e refl

-- one more is found, one less is left
pub one_less : {A : Type 0} (found cs : List A) (c : A) (n : ℕ) → length found + length (c ∷ cs) ≤ n →
    length (found ++ c ∷ []) + length cs ≤ n
one_less found cs c n h = omega (arith, length-append found (c ∷ []))

both_true : (a b : Bool) → (a && b) ≡ true → (a ≡ true) × (b ≡ true)
both_true true b e = (refl, e)
both_true false b e = elim (differ e) [ ]

callbacks_from_again : {scope : Scope} {i o : Input} {cs : List Callback} → CallbacksAt scope i cs o → kind o ≡ k.End →
    (n : ℕ) (found : List Callback) → length i ≤ n →
    AreNewCallbacks found cs → length found + length cs ≤ max_callbacks → list_all is_small cs ≡ true →
    callbacks_from scope n found i ≡ Ok (found ++ cs, o)
unfolding callbacks_from
callbacks_from_again (g.last p) end zero found h fresh few small = absurd (omega (arith, callback_less p))
callbacks_from_again {o = o} (g.last {c = c} p) end (suc n) found h fresh few small =
    let s = both_true (is_small c) true small in
    then_again _ (callback_again found p fresh.0 (omega arith) s.0) (rw (at_end o end) refl)
callbacks_from_again (g.more p q) end zero found h fresh few small = absurd (omega (arith, callback_less p))
callbacks_from_again {o = o} (g.more {j = j} {c = c} {cs = cs} p q) end (suc n) found h fresh few small =
    let s = both_true (is_small c) (list_all is_small cs) small in
    then_again _ (callback_again found p fresh.0 (omega arith) s.0)
    (rw (no_end j (callbacks_begin q))
    (callbacks_from_again q end n (found ++ c ∷ []) (omega (arith, callback_less p)) fresh.1 (one_less found cs c max_callbacks few) s.1
    ∙ ap (λ x. Ok (x, o)) (append_assoc found (c ∷ []) cs)))

callbacks_again : {scope : Scope} {i o : Input} {cs : List Callback} → CallbacksAt scope i cs o → kind o ≡ k.End →
    AreNewCallbacks [] cs → length cs ≤ max_callbacks →
    list_all is_small cs ≡ true → callbacks scope i ≡ Ok (cs, o)
unfolding callbacks
callbacks_again {i = i} p end fresh few small = callbacks_from_again p end (length i) [] (omega arith) fresh (omega arith) small

-- ---- locks

-- the kind of a lock: what is spelled and over is read
pub lock_kind_again : {i o : Input} {x : LockKind} → Meant lock_kind_of i x o → lock_kind i ≡ Ok (x, o)
unfolding lock_kind
lock_kind_again {i = i} p = known_again (refusal i) p

-- a lock: what is spelled and over is read
pub lock_again : {text name : Text} {i b o : Input} {lk : LockKind} (found : List Lock) → Meant lock_kind_of i lk b →
    NameAt text b name o → has_lock name found ≡ false →
    length found < max_locks → lock text found i ≡ Ok (record { kind = lk; name = name }, o)
unfolding lock
lock_again found p q fresh few = then_again _ (lock_kind_again p) (then_again _ (spelled_again q) (rw (fresh, lt-ltb _ _ few) refl))

locks_from_again : {text : Text} {i o : Input} {ls : List Lock} → LocksAt text i ls o → kind o ≢ k.Lock →
    (n : ℕ) (found : List Lock) → 0 < n → length i ≤ n → AreNewLocks found ls → length found + length ls ≤ max_locks →
    locks_from text n found i ≡ Ok (found ++ ls, o)
unfolding locks_from
locks_from_again g.no_lock e zero found some fits fresh few = absurd (omega (arith, some))
locks_from_again (g.no_lock {i = i}) e (suc n) found some fits fresh few =
    then_again _ (eat_none k.Lock i (not_seen k.Lock i e)) (rw append-nil refl)
locks_from_again (g.one_lock m p q x) e zero found some fits fresh few = absurd (omega (arith, some))
locks_from_again {o = o} (g.one_lock {kind = lk} {name = name} {ls = ls} m p q x) e (suc n) found some fits fresh few =
    let l : Lock = record { kind = lk; name = name } in
    let shorter = next_less m in let shorter2 = meant_less p in let shorter3 = name_less q in
    then_again _ (eat_again m)
    (then_again _ (lock_again found p q fresh.0 (omega (arith, few)))
    (locks_from_again x e n (found ++ l ∷ []) (omega (arith, shorter, shorter2, shorter3, fits))
    (omega (arith, shorter, shorter2, shorter3, fits)) fresh.1 (one_less found ls l max_locks few)
    ∙ ap (λ y. Ok (y, o)) (append_assoc found (l ∷ []) ls)))

-- locks: what is spelled and over is read
pub locks_again : {text : Text} {i o : Input} {ls : List Lock} → LocksAt text i ls o → kind o ≢ k.Lock → AreNewLocks [] ls →
    length ls ≤ max_locks → 0 < length i → locks text i ≡ Ok (ls, o)
unfolding locks
locks_again {i = i} p e fresh few some = locks_from_again p e (length i) [] some (omega arith) fresh (omega (arith, few))

-- locks: fewer tokens are left behind it
pub locks_less : {text : Text} {i o : Input} {ls : List Lock} → LocksAt text i ls o → length o ≤ length i
locks_less g.no_lock = omega arith
locks_less (g.one_lock n p q x) = omega (arith, next_less n, meant_less p, name_less q, locks_less x)

-- [ "queue" ]: what is spelled and over is read
pub queue_again : {i o : Input} {q : Option Position} (p : QueueAt i q o) → QueueOver p → queue i ≡ Ok (q, o)
unfolding queue
queue_again (g.no_queue {i = i}) e = then_again _ (eat_none k.Queue i (not_seen k.Queue i e)) refl
queue_again (g.some_queue n) e = then_again _ (eat_again n) refl

-- before a callback it is over, and no lock stands there
queue_over : {i o : Input} {q : Option Position} (p : QueueAt i q o) → begins_head (kind o) ≡ true → QueueOver p
queue_over (g.no_queue {i = i}) e = unseen k.Queue i (no_queue i e)
queue_over (g.some_queue n) e = tt

queue_no_lock : {i o : Input} {q : Option Position} → QueueAt i q o → begins_head (kind o) ≡ true → kind i ≢ k.Lock
unfolding same_kind
queue_no_lock (g.no_queue {i = i}) e = unseen k.Lock i (no_lock i e)
queue_no_lock (g.some_queue {i = i} n) e = apart_kinds (kind i) k.Queue k.Lock (kind_is n) refl

-- [ "queue" ]: fewer tokens are left behind it
pub queue_less : {i o : Input} {q : Option Position} → QueueAt i q o → length o ≤ length i
queue_less g.no_queue = omega arith
queue_less (g.some_queue n) = omega (arith, next_less n)

-- ---- the file

-- the tokens of a file are read to its end
pub file_at : {text : Text} {i : Input} {f : Filter} → FileAt text i f → 1 ≤ f.altitude → f.altitude ≤ max_altitude →
    AreNewLocks [] f.locks → length f.locks ≤ max_locks →
    AreNewCallbacks [] f.callbacks → length f.callbacks ≤ max_callbacks → IsTrue (are_small f) → (o : Input) × (file text i ≡ Ok (f, o))
unfolding file
file_at (g.file {e = e} {l = l} {o = o} n m x p y q w end) low high new_locks few_locks new_callbacks few_callbacks small =
    let begins = callbacks_begin w in (
      o,
      then_again _ (expect_again n) (then_again _ (spelled_again m)
          (then_again _ (expect_again x) (then_again _ (within_again 1 max_altitude p low high)
          (then_again _ (locks_again y (queue_no_lock q begins) new_locks few_locks
          (omega (arith, locks_less y, queue_less q, callbacks_less w)))
          (then_again _ (queue_again q (queue_over q begins))
          (then_again _ (callbacks_again w end new_callbacks few_callbacks small) refl)))))),
    )

-- ---- the text

-- a queue that is served is no fault
pub no_queue_fault : (q : Option Position) (cs : List Callback) → IsServed q cs → queue_fault q cs ≡ None
no_queue_fault None cs e = refl
no_queue_fault (Some at) cs e = rw e refl

no_callback_fault : (cs : List Callback) (c : Callback) → lacks_pre cs c.head ≡ false → missing cs c.head c.body ≡ None →
    callback_fault cs c ≡ None
unfolding callback_fault
no_callback_fault cs c e h = rw (e, h) refl

no_first_fault : (all cs : List Callback) → AreWhole all cs → first_fault all cs ≡ None
no_first_fault all [] h = refl
no_first_fault all (c ∷ cs) h = rw (no_callback_fault all c h.0 (none_missing all c.head c.body h.1)) (no_first_fault all cs h.2)

no_whole_fault : (f : Filter) → IsServed f.queue f.callbacks → AreWhole f.callbacks f.callbacks → whole_fault f ≡ None
no_whole_fault f e h = rw (no_queue_fault f.queue f.callbacks e) (no_first_fault f.callbacks f.callbacks h)

whole_is : (f : Filter) (o : Outcome Filter) (l : Input) → o ≡ Ok (f, l) → whole_fault f ≡ None → whole o ≡ Ok f
whole_is f o l e h = ap whole e ∙ ap (unless_fault f) h

-- the filter that the text spells is read
pub is_found : (text : Text) (f : Filter) → Spells text f → filter_of text ≡ Ok f
unfolding filter_of
is_found text f h =
    let a = file_at h.grammar h.low h.high h.new_locks h.few_locks h.new_callbacks h.few_callbacks h.small in
    rw (le-ltb _ _ h.short) (whole_is f (file text (tokens text)) a.0 a.1 (no_whole_fault f h.served h.whole))
