-- What is so of a variable behind an instruction.
use Rattle.std.proofs.Common.{◌≡◌, ◌<◌, ◌==◌, ℕ, Bool, true, false, List, Option, Some, None}
use Rattle.std.proofs.Common.{length, slice_index_or, ap, sym, subst, refl, lit<, ◌∙◌}
use Rattle.std.specs.Prelude.{slice_set, if◌then◌else◌}
use Rattle.std.proofs.lemmas.Bool.{eqb-true, eqb-false}
use Rattle.std.proofs.lemmas.List.{get_or-set_other, length-set}
use Rattle.std.proofs.lemmas.Grind.{get_or-set_at}
use Rattle.flt_rules.specs.declared.call.LockNumber.{LockNumber}
use Rattle.flt_rules.specs.declared.columns.Change.{Change}
use Rattle.flt_rules.specs.declared.columns.Change.TheVariants as becomes
use Rattle.flt_rules.specs.declared.columns.Effects.{Effects}
use Rattle.flt_rules.specs.declared.columns.LockChange.{LockChange}
use Rattle.flt_rules.specs.declared.held.HeldLock.{HeldLock}
use Rattle.flt_rules.specs.declared.place.Mode.{Mode}
use Rattle.flt_tree.specs.Variable.{context_place, operation_place}
use Rattle.flt_tree.specs.declared.variable.ContextVariable.{ContextVariable}
use Rattle.flt_tree.specs.declared.variable.ContextVariable.TheVariants.{C0, C1, C2, C3, C4, C5, C6, C7, Arg}
use Rattle.flt_tree.specs.declared.variable.OperationVariable.{OperationVariable}
use Rattle.flt_tree.specs.declared.variable.OperationVariable.TheVariants.{Removed, Data}
use Rattle.flt_tree.specs.declared.variable.RemovedVariable.TheVariants.{O0, O1, O2, O3}
use Rattle.flt_graph.specs.declared.instruction.Invocation.{Invocation}
use Rattle.flt_abs.specs.Outcome.{put_context, put_operation, put_locks, left, called}
use Rattle.flt_abs.specs.State.{Status, Null, Held, Stale, Situation}
use Rattle.flt_explain.specs.About.{is_context, is_operation}
use Rattle.flt_explain_origins.specs.Facts.{change_of, latest}
use Rattle.flt_explain_origins.proofs.HeldLocks.{locks_named}

-- ---- places

pub context_low : (c : ContextVariable) → context_place c < 9
context_low C0 = lit< tt
context_low C1 = lit< tt
context_low C2 = lit< tt
context_low C3 = lit< tt
context_low C4 = lit< tt
context_low C5 = lit< tt
context_low C6 = lit< tt
context_low C7 = lit< tt
context_low Arg = lit< tt

pub operation_low : (d : OperationVariable) → operation_place d < 5
operation_low (Removed O0) = lit< tt
operation_low (Removed O1) = lit< tt
operation_low (Removed O2) = lit< tt
operation_low (Removed O3) = lit< tt
operation_low Data = lit< tt

-- ---- one list

-- what a status is where another may have been put in its place
abbrev pub status_from : Option Status → Status → Status
status_from (Some s) u = s
status_from None u = u

-- the statuses where one is put at the place that is named
abbrev pub set_named : Option ℕ → Option Status → List Status → List Status
set_named (Some i) (Some s) xs = slice_set xs i s
set_named _ _ xs = xs

abbrev pub is_place : Option ℕ → ℕ → Bool
is_place (Some i) j = i == j
is_place None j = false

put_at : (xs : List Status) (i j : ℕ) (s : Status) → i < length xs → (b : Bool) → (i == j) ≡ b →
    slice_index_or (slice_set xs i s) j Null ≡ (if b then s else slice_index_or xs j Null)
put_at xs i j s h true e = get_or-set_at xs i j s Null (sym (eqb-true i j e)) h
put_at xs i j s h false e = get_or-set_other xs i j s Null (λ q. eqb-false i j e (sym q))

-- a status that a change leaves is one, and otherwise nothing changed
chosen : (b : Bool) (change : Change) (gives : Bool) (s u : Status) → left change gives ≡ Some s →
    (if b then s else u) ≡ status_from (left (change_of b change) gives) u
chosen true change gives s u e = sym (ap (λ o. status_from o u) e)
chosen false change gives s u e = refl

unchanged : (b : Bool) (gives : Bool) (u : Status) → u ≡ status_from (left (change_of b becomes.Stays) gives) u
unchanged true gives u = refl
unchanged false gives u = refl

put_by : (xs : List Status) (i j : ℕ) (change : Change) (gives : Bool) (s : Status) → i < length xs → left change gives ≡ Some s →
    slice_index_or (slice_set xs i s) j Null ≡ status_from (left (change_of (i == j) change) gives) (slice_index_or xs j Null)
put_by xs i j change gives s h e =
    put_at xs i j s h (i == j) refl ∙ chosen (i == j) change gives s (slice_index_or xs j Null) e

-- what is at a place behind a change at the one that is named
now_at : (n : Option ℕ) (change : Change) (gives : Bool) (xs : List Status) (j : ℕ) → ((i : ℕ) → n ≡ Some i → i < length xs) →
    slice_index_or (set_named n (left change gives) xs) j Null
    ≡ status_from (left (change_of (is_place n j) change) gives) (slice_index_or xs j Null)
now_at None change gives xs j h = refl
now_at (Some i) becomes.Stays gives xs j h = unchanged (i == j) gives (slice_index_or xs j Null)
now_at (Some i) becomes.Null gives xs j h = put_by xs i j becomes.Null gives Null (h i refl) refl
now_at (Some i) becomes.Held gives xs j h = put_by xs i j becomes.Held gives Held (h i refl) refl
now_at (Some i) becomes.Stale gives xs j h = put_by xs i j becomes.Stale gives Stale (h i refl) refl
now_at (Some i) becomes.NullOrHeld true xs j h = put_by xs i j becomes.NullOrHeld true Held (h i refl) refl
now_at (Some i) becomes.NullOrHeld false xs j h = put_by xs i j becomes.NullOrHeld false Null (h i refl) refl

-- as many statuses as before
pub length_named : (n : Option ℕ) (s : Option Status) (xs : List Status) → length (set_named n s xs) ≡ length xs
length_named (Some i) (Some s) xs = length-set xs i s
length_named (Some i) None xs = refl
length_named None s xs = refl

-- ---- variables

abbrev pub context_named : Option ContextVariable → Option ℕ
context_named (Some c) = Some (context_place c)
context_named None = None

abbrev pub operation_named : Option OperationVariable → Option ℕ
operation_named (Some d) = Some (operation_place d)
operation_named None = None

context_within : (n : Option ContextVariable) (xs : List Status) → length xs ≡ 9 → (i : ℕ) → context_named n ≡ Some i → i < length xs
context_within None xs h i e = cc
context_within (Some c) xs h i e = subst (λ k. i < k) (sym h) (subst (λ k. k < 9) (inside e) (context_low c))
  where
    inside : {a b : ℕ} → Some a ≡ Some b → a ≡ b
    inside q = cc

operation_within : (n : Option OperationVariable) (xs : List Status) → length xs ≡ 5 → (i : ℕ) → operation_named n ≡ Some i → i < length xs
operation_within None xs h i e = cc
operation_within (Some d) xs h i e = subst (λ k. i < k) (sym h) (subst (λ k. k < 5) (inside e) (operation_low d))
  where
    inside : {a b : ℕ} → Some a ≡ Some b → a ≡ b
    inside q = cc

is_context_place : (n : Option ContextVariable) (v : ContextVariable) → is_place (context_named n) (context_place v) ≡ is_context n v
is_context_place (Some c) v = refl
is_context_place None v = refl

is_operation_place : (n : Option OperationVariable) (v : OperationVariable) →
    is_place (operation_named n) (operation_place v) ≡ is_operation n v
is_operation_place (Some d) v = refl
is_operation_place None v = refl

-- a context variable's status after a call is what the call makes of it, or what it was
pub context_at : (n : Option ContextVariable) (change : Change) (gives : Bool) (xs : List Status) (v : ContextVariable) → length xs ≡ 9 →
    slice_index_or (set_named (context_named n) (left change gives) xs) (context_place v) Null
    ≡ status_from (left (change_of (is_context n v) change) gives) (slice_index_or xs (context_place v) Null)
context_at n change gives xs v h =
    now_at (context_named n) change gives xs (context_place v) (context_within n xs h)
    ∙ ap (λ b. status_from (left (change_of b change) gives) (slice_index_or xs (context_place v) Null)) (is_context_place n v)

-- an operation variable's status after a call is what the call makes of it, or what it was
pub operation_at : (n : Option OperationVariable) (change : Change) (gives : Bool) (xs : List Status) (v : OperationVariable) →
    length xs ≡ 5 →
    slice_index_or (set_named (operation_named n) (left change gives) xs) (operation_place v) Null
    ≡ status_from (left (change_of (is_operation n v) change) gives) (slice_index_or xs (operation_place v) Null)
operation_at n change gives xs v h =
    now_at (operation_named n) change gives xs (operation_place v) (operation_within n xs h)
    ∙ ap (λ b. status_from (left (change_of b change) gives) (slice_index_or xs (operation_place v) Null)) (is_operation_place n v)

-- two changes, one after the other
later : (b a : Change) (gives : Bool) (u : Status) →
    status_from (left b gives) (status_from (left a gives) u) ≡ status_from (left (latest b a) gives) u
later becomes.Stays a gives u = refl
later becomes.Null a gives u = refl
later becomes.Held a gives u = refl
later becomes.Stale a gives u = refl
later becomes.NullOrHeld a true u = refl
later becomes.NullOrHeld a false u = refl

-- what is so of a variable behind a change of one context and then of another
pub contexts_at : (n m : Option ContextVariable) (first second : Change) (gives : Bool) (xs : List Status) (v : ContextVariable) →
    length xs ≡ 9 →
    slice_index_or (set_named (context_named m) (left second gives) (set_named (context_named n) (left first gives) xs))
    (context_place v) Null ≡ status_from (left (latest (change_of (is_context m v) second) (change_of (is_context n v) first)) gives)
    (slice_index_or xs (context_place v) Null)
contexts_at n m first second gives xs v h =
    context_at m second gives (set_named (context_named n) (left first gives) xs) v
    (length_named (context_named n) (left first gives) xs ∙ h)
    ∙ ap (status_from (left (change_of (is_context m v) second) gives)) (context_at n first gives xs v h)
    ∙ later (change_of (is_context m v) second) (change_of (is_context n v) first) gives (slice_index_or xs (context_place v) Null)

-- ---- situations

abbrev pub situation : List Status → List Status → Mode → Bool → List HeldLock → Situation
situation cs ds m b hs = record { contexts = cs; operations = ds; mode = m; draining = b; locks = hs }

context_put : (n : Option ContextVariable) (s : Option Status) (t : Situation) →
    put_context n s t ≡ situation (set_named (context_named n) s t.contexts) t.operations t.mode t.draining t.locks
context_put (Some c) (Some s) t = refl
context_put (Some c) None t = refl
context_put None s t = refl

operation_put : (n : Option OperationVariable) (s : Option Status) (t : Situation) →
    put_operation n s t ≡ situation t.contexts (set_named (operation_named n) s t.operations) t.mode t.draining t.locks
operation_put (Some c) (Some s) t = refl
operation_put (Some c) None t = refl
operation_put None s t = refl

locks_put : (n : Option LockNumber) (change : LockChange) (t : Situation) →
    put_locks n change t ≡ situation t.contexts t.operations t.mode t.draining (locks_named n change t.locks)
locks_put (Some l) change t = refl
locks_put None change t = refl

-- what a call leaves, part by part
abbrev pub after_call : Invocation → Effects → Bool → Situation → Situation
after_call c e gives t = situation
    (set_named (context_named c.output) (left e.output gives) (set_named (context_named c.context) (left e.context gives) t.contexts))
    (set_named (operation_named c.operation) (left e.operation gives) t.operations) t.mode t.draining (locks_named c.lock e.lock t.locks)

-- what a call leaves of a situation is what its effects say
pub call_leaves : (c : Invocation) (e : Effects) (gives : Bool) (t : Situation) → called c e gives t ≡ after_call c e gives t
call_leaves c e gives t =
    let one = context_put c.context (left e.context gives) t in
    let two = context_put c.output (left e.output gives) (situation
    (set_named (context_named c.context) (left e.context gives) t.contexts) t.operations t.mode t.draining t.locks) in
    let three = operation_put c.operation (left e.operation gives) (situation (set_named (context_named c.output) (left e.output gives)
    (set_named (context_named c.context) (left e.context gives) t.contexts)) t.operations t.mode t.draining t.locks) in
    let four = locks_put c.lock e.lock (situation (set_named (context_named c.output) (left e.output gives)
    (set_named (context_named c.context) (left e.context gives) t.contexts))
    (set_named (operation_named c.operation) (left e.operation gives) t.operations) t.mode t.draining t.locks) in
    ap (λ x. put_locks c.lock e.lock
    (put_operation c.operation (left e.operation gives) (put_context c.output (left e.output gives) x))) one
    ∙ ap (λ x. put_locks c.lock e.lock (put_operation c.operation (left e.operation gives) x)) two
    ∙ ap (put_locks c.lock e.lock) three
    ∙ four
