-- No run of accepted filters breaks anything. A good step keeps each of the eight violations' tests (V3 and V4 follow from the
-- invariant after
-- the step alone; that locks exclude is a law of all steps), so nothing is broken there, and the invariant goes on to the next step: by the
-- length of the run, the theorem.
-- Here p is the program, m a moment, s a step, t a trace, e, es events, xs the transitions of a run.
use Rattle.std.proofs.Common.{◌≡◌, ℕ, ◌+◌, ◌≤◌, true, List, [], ◌∷◌, ◌++◌, length, Option, Some, None, refl, arith}
use Rattle.std.specs.Prelude.{◌==◌, IsTrue}
use Rattle.std.proofs.lemmas.Bool.{and_from, and_parts}
use Rattle.flt_tree.specs.declared.filter.Filter.{Filter}
use Rattle.flt_model.specs.declared.event.Event.{Event}
use Rattle.flt_model.specs.declared.event.Event.TheVariants as event
use Rattle.flt_model.specs.declared.verdict.Violation.{Violation}
use Rattle.flt_model.specs.declared.verdict.Violation.TheVariants.{V1, V2, V3, V4, V5, V6, V7, V8}
use Rattle.flt_model.specs.Effects.{Step}
use Rattle.flt_model.specs.Locks.{locks_exclude}
use Rattle.flt_model.specs.Runs.{Moment, start, after, next, keeps, broken, breaks, breaks_from, on_step, first_or, Break}
use Rattle.flt_model.specs.Steps.{Transition, step}
use Rattle.flt_model.specs.Trace.{settles}
use Rattle.flt_model.specs.Violations.{along, is_fresh, no_stale_use, is_first_settling, settled_once, is_owned}
use Rattle.flt_model.specs.World.{World, opening}
use Rattle.flt_sound.specs.Soundness.{AreAccepted}
use Rattle.flt_sound.proofs.sums.Counts.{made_few, counts, one_if-same}
use Rattle.flt_sound.proofs.sums.Owners.{visit_owned, all_owned}
use Rattle.flt_sound.proofs.sums.Uses.{is_had, uses_held, is_clean}
use Rattle.flt_sound.proofs.points.Kept.{Kept, Good}
use Rattle.flt_sound.proofs.points.Local.{AfterStep}
use Rattle.flt_sound.proofs.points.Placed.{Laws}
use Rattle.flt_sound.proofs.run.Sound.{step_good, opens}

-- ---- V1, from its two halves

-- an event that uses what is held, and touches what is live and the filter's own, is fresh
fresh_one : (w : World) (t : List Event) (e : Event) → is_had t e ≡ true → is_clean w t e ≡ true → is_fresh w t e ≡ true
fresh_one w t (event.Use a o) h c = and_from _ _ h c
fresh_one w t (event.Lose a o) h c = and_from _ _ h c
fresh_one w t (event.Gain a o) h c = c
fresh_one w t (event.Empty a) h c = h
fresh_one w t (event.Call a k) h c = refl
fresh_one w t (event.Status a k) h c = refl
fresh_one w t (event.Lock a k) h c = refl
fresh_one w t (event.Unlock a k) h c = refl
fresh_one w t (event.Free x) h c = refl
fresh_one w t (event.Settle v) h c = refl
fresh_one w t (event.End a) h c = refl

-- events that pass both halves' tests pass V1's
both : (w : World) (t es : List Event) → uses_held t es ≡ true → along (is_clean w) t es ≡ true → no_stale_use w t es ≡ true
both w t [] h c = refl
both w t (e ∷ es) h c =
    let had = and_parts (is_had t e) (along is_had (t ++ e ∷ []) es) h in
    let clean = and_parts (is_clean w t e) (along (is_clean w) (t ++ e ∷ []) es) c in
    and_from _ _ (fresh_one w t e had.0 clean.0) (both w (t ++ e ∷ []) es had.1 clean.1)

-- ---- V3, from how often a visit is settled

-- a number that is 0 passes the test
none_equal : (n : ℕ) → n ≡ 0 → (n == 0) ≡ true
none_equal n e = rw e refl

-- an event that settles a visit is the first to do so, where the trace settles each once at most
first_one : (t es : List Event) (e : Event) → ((v : ℕ) → settles (t ++ e ∷ es) v ≤ 1) → is_first_settling t e ≡ true
first_one t es (event.Settle v) h = none_equal (settles t v) (let k = simp counts at (h v) in omega (arith, k, one_if-same v))
first_one t es (event.Use a o) h = refl
first_one t es (event.Lose a o) h = refl
first_one t es (event.Gain a o) h = refl
first_one t es (event.Empty a) h = refl
first_one t es (event.Call a k) h = refl
first_one t es (event.Status a k) h = refl
first_one t es (event.Lock a k) h = refl
first_one t es (event.Unlock a k) h = refl
first_one t es (event.Free x) h = refl
first_one t es (event.End a) h = refl

-- all events of a step settle first, where the trace after it settles each visit once at most
once_along : (t es : List Event) → ((v : ℕ) → settles (t ++ es) v ≤ 1) → settled_once t es ≡ true
once_along t [] h = refl
once_along t (e ∷ es) h = and_from _ _ (first_one t es e h)
    (once_along (t ++ e ∷ []) es (λ v. let k = simp counts at (h v) in simp counts (omega (arith, k))))

-- ---- all eight, of a step

module _ (p : List Filter) (m : Moment) (s : Step) (g : Good p m s) (exclude : IsTrue (locks_exclude s.world)) where
  -- a good step keeps each of the eight
  keeps_all : (v : Violation) → keeps p m s v ≡ true
  keeps_all V1 = both s.world m.trace s.events g.had.is g.clean
  keeps_all V2 = g.leak
  keeps_all V3 = once_along m.trace s.events (λ v. omega (arith, g.kept.once v, made_few v (length s.world.store.visits)))
  keeps_all V4 = all_owned (length s.world.store.visits) (is_owned s.world (m.trace ++ s.events))
      (λ v. visit_owned s.world (m.trace ++ s.events) v g.kept.shadows g.kept.same
      (λ b. record { balance = g.kept.visits b v; idle = λ e. (g.kept.idle b e).visits v }) (g.kept.owners v))
  keeps_all V5 = g.legal
  keeps_all V6 = g.low
  keeps_all V7 = and_from _ _ g.disciplined exclude
  keeps_all V8 = g.in_place

  -- a good step after which locks exclude breaks nothing
  unbroken : broken p m s ≡ None
  unbroken = rw (keeps_all V1, keeps_all V2, keeps_all V3, keeps_all V4, keeps_all V5, keeps_all V6, keeps_all V7, keeps_all V8) refl

-- ---- runs

-- what flt_model proves of locks: at the start they exclude, and each step keeps that
pub record Excluding : Type 0 where
  pub opened : (p : List Filter) → IsTrue (locks_exclude (opening p))
  pub kept : (p : List Filter) (w : World) (t : List Event) (x : Transition) (s : Step) → step p w t x ≡ Some s → IsTrue (locks_exclude w) →
      IsTrue (locks_exclude s.world)

module _ (laws : Laws) (locks : Excluding) (p : List Filter) (ok : AreAccepted p) where
  -- a step that there may be breaks nothing, and the run goes on
  on_one : (m : Moment) (x : Transition) (o : Option Step) → next p m x ≡ o → AfterStep o (Good p m) → IsTrue (locks_exclude m.world) →
      (n : ℕ) (f : Step → Option Break) → ((s : Step) → Kept p (after m s) → IsTrue (locks_exclude s.world) → f s ≡ None) →
      on_step o (λ s. first_or (broken p m s) n (f s)) ≡ None
  on_one m x None e g h n f ih = refl
  on_one m x (Some s) e g h n f ih =
      let exclude = locks.kept p m.world m.trace x s e h in
      rw (unbroken p m s g exclude) (ih s g.kept exclude)

  -- a run from a moment of the invariant, where locks exclude, breaks nothing
  none_from : (xs : List Transition) (m : Moment) (n : ℕ) → Kept p m → IsTrue (locks_exclude m.world) → breaks_from p m n xs ≡ None
  none_from [] m n k h = refl
  none_from (x ∷ xs) m n k h = on_one m x (next p m x) refl (step_good laws p ok m k x) h (n + 1)
      (λ s. breaks_from p (after m s) (n + 1) xs)
      (λ s k h. none_from xs (after m s) (n + 1) k h)

  -- a run from the start breaks nothing
  pub nothing_breaks : (xs : List Transition) → breaks p xs ≡ None
  nothing_breaks xs = none_from xs (start p) 0 (opens p) (locks.opened p)
