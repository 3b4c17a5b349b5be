-- Calls on locks. The checker and the machine have one list of held locks, so the rules say of the machine that what is acquired isn't
-- held and that what is released is the latest. Nothing but locks changes.
-- p is the program, m the moment, a the activation, s its shadow; l is a lock, k its kind, h and j are locks that are held.
use Rattle.std.proofs.Common.{◌≡◌, ℕ, true, false, List, [], ◌∷◌, ◌++◌, ap, refl, ◌∙◌, arith}
use Rattle.std.specs.Prelude.{not}
use Rattle.std.proofs.lemmas.Bool.{not-false}
use Rattle.std.proofs.Math.Bool.{or-true}
use Rattle.flt_rules.specs.Held.{same_lock, held, holds_lock, is_latest, without_last}
use Rattle.flt_rules.specs.declared.call.Call.{Call}
use Rattle.flt_rules.specs.declared.call.Call.TheVariants as call
use Rattle.flt_rules.specs.declared.call.LockKind.{LockKind}
use Rattle.flt_rules.specs.declared.call.LockNumber.{LockNumber}
use Rattle.flt_rules.specs.declared.held.Access.{Access}
use Rattle.flt_rules.specs.declared.held.Access.TheVariants.{Exclusive, Shared}
use Rattle.flt_rules.specs.declared.held.HeldLock.{HeldLock}
use Rattle.flt_tree.specs.declared.filter.Filter.{Filter}
use Rattle.flt_tree.specs.declared.filter.PlainCall.TheVariants as plain_call
use Rattle.flt_tree.specs.declared.filter.Statement.{Statement}
use Rattle.flt_graph.specs.Instruction as graph
use Rattle.flt_model.specs.Calls.{taken, acquire, acquire_shared, release_lock}
use Rattle.flt_model.specs.declared.event.Event.TheVariants as event
use Rattle.flt_model.specs.Effects.{onward, goes_on, calling}
use Rattle.flt_model.specs.Locks.{with_holders}
use Rattle.flt_model.specs.Runs.{Moment}
use Rattle.flt_model.specs.Statuses.{may_pend}
use Rattle.flt_model.specs.declared.parts.Holder.{Holder}
use Rattle.flt_model.specs.World.{Activation, activation_at}
use Rattle.flt_model.specs.declared.event.Event.{Event}
use Rattle.flt_model.specs.declared.event.Object.{Object}
use Rattle.flt_model.specs.declared.event.Object.TheVariants.{Context, Visit}
use Rattle.flt_model.specs.Trace.{gains, loses, settles, frees}
use Rattle.flt_sound.proofs.sums.Counts.{counts}
use Rattle.flt_sound.proofs.sums.Shadows.{Shadow, with_rest, situation}
use Rattle.flt_sound.proofs.sums.Ledger.{still}
use Rattle.flt_sound.proofs.sums.Turns.{calm_turned}
use Rattle.flt_sound.proofs.points.Events.{none, called, locked, unlocked, Events}
use Rattle.flt_sound.proofs.points.Kept.{Good, IsAt, activation_is}
use Rattle.flt_sound.proofs.points.Legal.{Cleared, spot}
use Rattle.flt_sound.proofs.points.Rows.{AtCall, state_of, PlacedAt, draining_of}
use Rattle.flt_sound.proofs.calls.Effects.{own_filter}
use Rattle.flt_sound.proofs.points.Stepping.{row_good, same_parts, running, stood_contexts, Touched}
use Rattle.flt_sound.proofs.sums.Touching.{CleanBy}

-- the latest lock is in the list
latest_held : (l : LockNumber) (locks : List HeldLock) → is_latest l locks ≡ true → holds_lock l locks ≡ true
latest_held l [] e = absurd (cc)
latest_held l (h ∷ []) e = rw e refl
latest_held l (h ∷ j ∷ locks) e = rw (latest_held l (j ∷ locks) e, or-true (same_lock l h.lock)) refl

module _ {p : List Filter} {m : Moment} {a : ℕ} {s : Shadow} (at : IsAt p m a s) where
  -- the activation's locks are its shadow's
  locks_is : (activation_at m.world a).locks ≡ s.locks
  locks_is = ap (λ (act : Activation). act.locks) (activation_is at)

  -- and so are the state's
  state_locks : (state_of at).locks ≡ s.locks
  state_locks = (spot at).means.locks

  -- the shadow with other locks, before a list
  abbrev with_locks : List HeldLock → List Statement → Shadow
  with_locks locks list = record (with_rest s list) { locks = locks }

  -- a step that changes the activation's locks, and the holders of one of them, is good
  locks_good : (change : List HeldLock → List HeldLock) (l : LockNumber) (holders : List Holder) (list : List Statement) (es : List Event) →
      Events p m a m.trace es → ((o : Object) → gains es a o ≡ loses es a o) → ((v : ℕ) → settles es v ≡ 0) → ((x : ℕ) → frees es x ≡ 0) →
      ((P : ℕ → ℕ → Type 0) → CleanBy P es) → PlacedAt at list (situation (draining_of at) (with_locks (change s.locks) list)) →
      Good p m (goes_on m.world a (record (onward m.world a list) { locks = change (activation_at m.world a).locks })
      (with_holders m.world.store (own_filter at) l holders) es)
  locks_good change l holders list es events even settle free clean placed =
      let new = with_locks (change s.locks) list in
      let store = with_holders m.world.store (own_filter at) l holders in
      row_good at new store es (record (onward m.world a list) { locks = change (activation_at m.world a).locks })
      (ap (λ (act : Activation). record act { rest = list; locks = change act.locks }) (activation_is at))
      events (stood_contexts at new refl refl refl placed) (same_parts at store refl refl refl refl refl)
      (λ v. omega (arith, even (Visit v))) (λ x. omega (arith, even (Context x)))
      (calm_turned a m.world.store store es refl refl refl (λ v. even (Visit v)) settle) (running at new refl)
      (still a m.world.store store es at.kept.mine refl refl refl refl (λ x. even (Context x)) free) (clean (Touched at store))

  -- acquiring a lock that isn't held, in either way, is good
  taken_good : (c : Call) (l : LockNumber) (access : Access) (list : List Statement) → Cleared p m a c →
      may_pend p m.world m.trace a c ≡ true →
      holds_lock l s.locks ≡ false → PlacedAt at list (situation (draining_of at) (with_locks (s.locks ++ held l access ∷ []) list)) →
      Good p m (calling m.world a c (event.Lock a l ∷ []) [] (taken m.world a l access list))
  taken_good c l access list clear pends free placed =
      let free_there : holds_lock l (activation_at m.world a).locks ≡ false = ap (holds_lock l) locks_is ∙ free in
      rw free_there
      (locks_good (λ locks. locks ++ held l access ∷ []) l _ list (event.Call a c ∷ event.Lock a l ∷ [])
      (called c clear pends (locked l (ap not free_there) (none _)))
      (λ o. simp counts) (λ v. simp counts) (λ x. simp counts) (λ P. tt) placed)

  -- acquiring a lock is good: by R11 it isn't held
  pub acquire_good : (k : LockKind) (l : LockNumber) (list : List Statement) →
      AtCall at (graph.plain (plain_call.AcquireLock k l)) list list →
      Good p m (acquire m.world a k l list)
  acquire_good k l list c =
      let free : holds_lock l s.locks ≡ false = rw state_locks at c.fine.r11 in
      taken_good (call.AcquireLock k) l Exclusive list c.clear refl free (rw free at (c.ok true))

  -- so is acquiring a push lock beside others
  pub acquire_shared_good : (l : LockNumber) (list : List Statement) →
      AtCall at (graph.plain (plain_call.AcquirePushLockShared l)) list list →
      Good p m (acquire_shared m.world a l list)
  acquire_shared_good l list c =
      let free : holds_lock l s.locks ≡ false = rw state_locks at c.fine.r11 in
      taken_good call.AcquirePushLockShared l Shared list c.clear refl free (rw free at (c.ok true))

  -- releasing a lock is good: by R09 it is the latest
  pub release_lock_good : (k : LockKind) (l : LockNumber) (list : List Statement) →
      AtCall at (graph.plain (plain_call.ReleaseLock k l)) list list →
      Good p m (release_lock m.world a k l list)
  release_lock_good k l list c =
      let latest : is_latest l s.locks ≡ true = rw state_locks at (not-false _ c.fine.r09) in
      let latest_there : is_latest l (activation_at m.world a).locks ≡ true = ap (is_latest l) locks_is ∙ latest in
      let held_there : holds_lock l (activation_at m.world a).locks ≡ true = latest_held l (activation_at m.world a).locks latest_there in
      rw held_there
      (locks_good (without_last l) l _ list (event.Call a (call.ReleaseLock k) ∷ event.Unlock a l ∷ [])
      (called (call.ReleaseLock k) c.clear refl (unlocked l latest_there (none _)))
      (λ o. simp counts) (λ v. simp counts) (λ x. simp counts) (λ P. tt) (c.ok true))
