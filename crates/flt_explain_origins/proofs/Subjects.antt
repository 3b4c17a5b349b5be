-- What is so of a subject in a state that means one situation alone.
use Rattle.std.proofs.Common.{◌≡◌, ℕ, zero, suc, Bool, true, false, List, [], ◌∷◌, Some, map, slice_index_or, ap, refl}
use Rattle.flt_rules.specs.declared.place.Mode.{Mode}
use Rattle.flt_rules.specs.declared.place.Mode.TheVariants.{Irp, Fast}
use Rattle.flt_tree.specs.Variable.{context_place, operation_place}
use Rattle.std.specs.Prelude.{◌||◌, IsTrue, IfSome, Option, None}
use Rattle.std.proofs.lemmas.Bool.{eq-eqb}
use Rattle.flt_rules.specs.Call.{place_of}
use Rattle.flt_rules.specs.Held.{holds_lock, same_lock}
use Rattle.flt_rules.specs.Place.{same_mode}
use Rattle.flt_rules.specs.declared.call.LockNumber.{LockNumber}
use Rattle.flt_rules.specs.declared.held.HeldLock.{HeldLock}
use Rattle.flt_abs.specs.Outcome.{context_now, operation_now, agrees}
use Rattle.flt_abs.specs.State.{Status, Null, Held, Stale, Situation}
use Rattle.flt_explain.specs.declared.finding.Subject.{Subject}
use Rattle.flt_explain.specs.declared.finding.Subject.TheVariants as subject
use Rattle.flt_explain_origins.specs.Alone.{status_alone, mode_alone, draining_alone, alone}
use Rattle.flt_explain_origins.specs.Facts.{same_status, is_so}
use Rattle.flt_explain_origins.specs.Origins.{held_fact, latest_of, word_of, word_in, mode_in, draining_in, fact_in, fact_about}
use Rattle.flt_explain_origins.specs.declared.facts.Fact.TheVariants as fact

word_alone : (u : Status) → word_in (status_alone u) ≡ word_of u
word_alone Null = refl
word_alone Held = refl
word_alone Stale = refl

word_at : (us : List Status) (i : ℕ) →
    word_in (slice_index_or (map status_alone us) i (status_alone Null)) ≡ word_of (slice_index_or us i Null)
word_at [] i = refl
word_at (u ∷ us) zero = word_alone u
word_at (u ∷ us) (suc i) = word_at us i

mode_back : (m : Mode) → mode_in (mode_alone m) ≡ m
mode_back Irp = refl
mode_back Fast = refl

draining_back : (b : Bool) → draining_in (draining_alone b) ≡ b
draining_back true = refl
draining_back false = refl

-- the state says what the situation does
pub alone_in : (u : Subject) (t : Situation) → fact_in u (alone t) ≡ fact_about u t
alone_in (subject.Context c) t = ap (λ w. Some (fact.Context c w)) (word_at t.contexts (context_place c))
alone_in (subject.Operation d) t = ap (λ w. Some (fact.Operation d w)) (word_at t.operations (operation_place d))
alone_in subject.Mode t = ap (λ m. Some (fact.Mode m)) (mode_back t.mode)
alone_in subject.Draining t = ap (λ b. Some (fact.Draining b)) (draining_back t.draining)
alone_in (subject.Lock l) t = refl
alone_in subject.Call t = refl
alone_in subject.Status t = refl

-- ---- what is said is so

same_word : (u : Status) → same_status (word_of u) u ≡ true
same_word Null = refl
same_word Held = refl
same_word Stale = refl

same_modes : (m : Mode) → same_mode m m ≡ true
same_modes Irp = refl
same_modes Fast = refl

agree : (b : Bool) → agrees b b ≡ true
agree true = refl
agree false = refl

-- a lock is itself
itself : (l : LockNumber) → same_lock l l ≡ true
itself l = eq-eqb (place_of l) (place_of l) refl

-- whether this lock is held, if it is one
abbrev IsHeld : Option LockNumber → List HeldLock → Type 0
IsHeld (Some l) hs = holds_lock l hs ≡ true
IsHeld None hs = Unit {0}

held_later : (o : Option LockNumber) (h : HeldLock) (hs : List HeldLock) → IsHeld o hs → IsHeld o (h ∷ hs)
held_later (Some l) h hs e = or_right (same_lock l h.lock) (holds_lock l hs) e
  where
    or_right : (x y : Bool) → y ≡ true → (x || y) ≡ true
    or_right true y e = refl
    or_right false y e = e
held_later None h hs e = e

-- the lock that was taken last is held
latest_is_held : (hs : List HeldLock) → IsHeld (latest_of hs) hs
latest_is_held [] = tt
latest_is_held (h ∷ []) = ap (λ b. b || false) (itself h.lock)
latest_is_held (h ∷ k ∷ hs) = held_later (latest_of (k ∷ hs)) h (k ∷ hs) (latest_is_held (k ∷ hs))

held_is_so : (o : Option LockNumber) (t : Situation) → IsHeld o t.locks → IfSome (held_fact o) (λ f. IsTrue (is_so f t))
held_is_so (Some l) t e = e
held_is_so None t e = tt

-- what is so of a subject is so
pub about_is_so : (u : Subject) (t : Situation) → IfSome (fact_about u t) (λ f. IsTrue (is_so f t))
about_is_so (subject.Context c) t = same_word (context_now t c)
about_is_so (subject.Operation d) t = same_word (operation_now t d)
about_is_so subject.Mode t = same_modes t.mode
about_is_so subject.Draining t = agree t.draining
about_is_so (subject.Lock l) t = agree (holds_lock l t.locks)
about_is_so subject.Call t = held_is_so (latest_of t.locks) t (latest_is_held t.locks)
about_is_so subject.Status t = tt
