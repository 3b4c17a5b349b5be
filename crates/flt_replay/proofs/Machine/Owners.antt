-- The owners of a visit that a transition leaves alone.
use Rattle.std.proofs.Common.{◌≡◌, ◌<◌, ◌≤◌, ◌⊎◌, inl, inr, ℕ, zero, suc, ◌+◌, Bool, true, false}
use Rattle.std.proofs.Common.{List, [], ◌∷◌, ◌++◌, Some, length, ap, sym, subst, refl, ◌∙◌, arith}
use Rattle.std.proofs.Math.Bool.{and-false}
use Rattle.std.proofs.Math.ListN.{get_or}
use Rattle.std.proofs.lemmas.Bool.{and_from, and_parts, cases_Bool, cases_lt}
use Rattle.std.specs.List.{list_all}
use Rattle.std.specs.Prelude.{not, ◌&&◌, ◌||◌, ◌==◌, if◌then◌else◌}
use Rattle.flt_tree.specs.declared.filter.Filter.{Filter}
use Rattle.flt_model.specs.declared.event.Event.{Event}
use Rattle.flt_model.specs.declared.event.Object.TheVariants.{Visit}
use Rattle.flt_model.specs.Effects.{Step}
use Rattle.flt_model.specs.Runs.{Moment, start, after, next}
use Rattle.flt_model.specs.Steps.{Transition}
use Rattle.flt_model.specs.Trace.{gains, loses, is_held}
use Rattle.flt_model.specs.Violations.{holding, holders_from, owners, is_owned, all_below, one_owner}
use Rattle.flt_model.specs.World.{World, Activation, activation_at, nobody, is_settled}
use Rattle.flt_replay.proofs.Machine.Apart.{held_apart, held_others}
use Rattle.flt_replay.proofs.Machine.Locals.{AreQuiet}
use Rattle.flt_replay.proofs.Machine.Onward.{Onward, onward, Peopled, NobodyNew, OneNew}
use Rattle.flt_replay.proofs.Machine.Visits.{Counted, AsMany, OneMore}
use Rattle.flt_replay.specs.Apart.{is_apart, ends_in}

-- ---- what each moment of a run has

-- each visit has its own mark, and nobody who isn't there holds a visit
pub record Tidy (m : Moment) : Type 0 where
  pub paired : length m.world.store.settled ≡ length m.world.store.visits
  pub strangers : (a v : ℕ) → length m.world.activations ≤ a → is_held m.trace a (Visit v) ≡ false

-- at the beginning each visit has its own mark and nobody holds one
pub tidy_start : (p : List Filter) → Tidy (start p)
unfolding is_held gains loses
tidy_start p = record { paired = refl; strangers = λ a v h. refl }

no_fewer : (w u : World) → Peopled w u → length w.activations ≤ length u.activations
no_fewer w u (NobodyNew is) = omega (arith, is)
no_fewer w u (OneNew is goes) = omega (arith, is)

tidy_onward : (m : Moment) (s : Step) → Onward m.world s → Tidy m → Tidy (after m s)
tidy_onward m s h tidy = record {
  paired = h.paired tidy.paired;
  strangers =
      λ a v past.
      held_others m.trace s.events a (Visit v) (h.others a past)
      ∙ tidy.strangers a v (omega (arith, past, no_fewer m.world s.world h.peopled));
}

-- a transition keeps each visit's mark, and no activation that isn't there holds a visit
pub tidy_after : AreQuiet → (p : List Filter) (m : Moment) (x : Transition) (s : Step) → next p m x ≡ Some s → Tidy m → Tidy (after m s)
tidy_after quiet p m x s e tidy = tidy_onward m s (onward quiet p m x s e) tidy

-- ---- holders

pub holding_none : (t : List Event) (v a : ℕ) (act : Activation) → is_held t a (Visit v) ≡ false → holding t v a act ≡ 0
unfolding holding
holding_none t v a act h =
    ap (λ (b : Bool). if b then 1 else 0) (ap (λ b. not act.ended && b) h ∙ and-false (not act.ended))

pub holding_nobody : (t : List Event) (v a : ℕ) → holding t v a nobody ≡ 0
unfolding holding
holding_nobody t v a = refl

-- it reads of an activation only whether it has ended
pub holding_same : (t u : List Event) (v a : ℕ) (old new : Activation) → is_held u a (Visit v) ≡ is_held t a (Visit v) →
    new.ended ≡ old.ended → holding u v a new ≡ holding t v a old
unfolding holding
holding_same t u v a old new h e =
    ap (λ (b : Bool). if not new.ended && b then 1 else 0) h ∙ ap (λ (b : Bool). if not b && is_held t a (Visit v) then 1 else 0) e

pub holders_none : (t : List Event) (v i : ℕ) (acts : List Activation) →
    ((k j : ℕ) → j ≡ i + k → holding t v j (get_or acts k nobody) ≡ 0) → holders_from t v i acts ≡ 0
holders_none t v i [] h = refl
holders_none t v i (act ∷ acts) h =
    let first : holding t v i act ≡ 0 = h 0 i (omega arith) in
    let others : holders_from t v (i + 1) acts ≡ 0 = holders_none t v (i + 1) acts (λ k j e. h (suc k) j (omega (arith, e))) in
    omega (arith, first, others)

-- two lists of activations, where each number counts the same
pub holders_same : (t u : List Event) (v i : ℕ) (old new : List Activation) →
    ((k j : ℕ) → j ≡ i + k → holding u v j (get_or new k nobody) ≡ holding t v j (get_or old k nobody)) →
    holders_from u v i new ≡ holders_from t v i old
holders_same t u v i [] new h = holders_none u v i new (λ k j e. h k j e ∙ holding_nobody t v j)
holders_same t u v i (x ∷ old) [] h =
    sym (holders_none t v i (x ∷ old) (λ k j e. sym (h k j e) ∙ holding_nobody u v j))
holders_same t u v i (x ∷ old) (y ∷ new) h =
    let first : holding u v i y ≡ holding t v i x = h 0 i (omega arith) in
    let others : holders_from u v (i + 1) new ≡ holders_from t v (i + 1) old =
    holders_same t u v (i + 1) old new (λ k j e. h (suc k) j (omega (arith, e))) in
    omega (arith, first, others)

-- ---- a visit that is left alone

-- no event names it, and no activation that ends held it
pub record Spared (m : Moment) (s : Step) (v : ℕ) : Type 0 where
  pub apart : list_all (is_apart v) s.events ≡ true
  pub released : (b : ℕ) → ends_in b s.events ≡ true → is_held m.trace b (Visit v) ≡ false

module _ (m : Moment) (s : Step) (v : ℕ) (h : Onward m.world s) (tidy : Tidy m) (spared : Spared m s v) where
  held_same : (b : ℕ) → is_held (m.trace ++ s.events) b (Visit v) ≡ is_held m.trace b (Visit v)
  held_same b = held_apart m.trace s.events b v spared.apart

  both_none : (b : ℕ) → is_held m.trace b (Visit v) ≡ false →
      holding (m.trace ++ s.events) v b (activation_at s.world b) ≡ holding m.trace v b (activation_at m.world b)
  both_none b none =
      holding_none (m.trace ++ s.events) v b (activation_at s.world b) (held_same b ∙ none)
      ∙ sym (holding_none m.trace v b (activation_at m.world b) none)

  holding_there : (b : ℕ) → b < length m.world.activations → (ends_in b s.events ≡ true) ⊎ (ends_in b s.events ≡ false) →
      holding (m.trace ++ s.events) v b (activation_at s.world b) ≡ holding m.trace v b (activation_at m.world b)
  holding_there b within (inl end) = both_none b (spared.released b end)
  holding_there b within (inr none) =
      holding_same m.trace (m.trace ++ s.events) v b (activation_at m.world b) (activation_at s.world b) (held_same b)
      (h.flags b within ∙ ap (λ c. c || (activation_at m.world b).ended) none)

  holding_by : (b : ℕ) → (b < length m.world.activations) ⊎ (length m.world.activations ≤ b) →
      holding (m.trace ++ s.events) v b (activation_at s.world b) ≡ holding m.trace v b (activation_at m.world b)
  holding_by b (inl within) = holding_there b within (cases_Bool (ends_in b s.events))
  holding_by b (inr past) = both_none b (tidy.strangers b v past)

  holding_after : (k b : ℕ) → b ≡ 0 + k →
      holding (m.trace ++ s.events) v b (activation_at s.world k) ≡ holding m.trace v b (activation_at m.world k)
  holding_after k b e =
      let same : k ≡ b = omega (arith, e) in
      subst (λ i. holding (m.trace ++ s.events) v b (activation_at s.world i) ≡ holding m.trace v b (activation_at m.world i))
      (sym same) (holding_by b (cases_lt b (length m.world.activations)))

  owners_onward : owners s.world (m.trace ++ s.events) v ≡ owners m.world m.trace v
  unfolding owners
  owners_onward =
      let unmoved = h.unmoved v tidy.paired spared.apart in
      let holders : holders_from (m.trace ++ s.events) v 0 s.world.activations ≡ holders_from m.trace v 0 m.world.activations =
      holders_same m.trace (m.trace ++ s.events) v 0 m.world.activations s.world.activations holding_after in
      omega (arith, holders, unmoved.in_queues, unmoved.in_items)

  owned_onward : is_owned s.world (m.trace ++ s.events) v ≡ is_owned m.world m.trace v
  owned_onward =
      ap (λ n. n == (if is_settled s.world.store v then 0 else 1)) owners_onward
      ∙ ap (λ (b : Bool). owners m.world m.trace v == (if b then 0 else 1)) (h.unmoved v tidy.paired spared.apart).settled

  newest : (v < length m.world.store.visits) ⊎ (length m.world.store.visits ≤ v) →
      list_all (is_apart (length m.world.store.visits)) s.events ≡ false →
      length s.world.store.visits ≡ length m.world.store.visits + 1 → v < length s.world.store.visits → v < length m.world.store.visits
  newest (inl before) named is within = before
  newest (inr past) named is within =
      let this : v ≡ length m.world.store.visits = omega (arith, past, is, within) in
      let both : list_all (is_apart v) s.events ≡ false = ap (λ u. list_all (is_apart u) s.events) this ∙ named in
      let apart = spared.apart in absurd (cc)

  there_before : Counted (length m.world.store.visits) (length s.world.store.visits) s.events → v < length s.world.store.visits →
      v < length m.world.store.visits
  there_before (AsMany is) within = omega (arith, is, within)
  there_before (OneMore is named) within = newest (cases_lt v (length m.world.store.visits)) named is within

-- ---- each visit has its owner

below_by : (n : ℕ) (f : ℕ → Bool) (v : ℕ) → f n ≡ true → (v < n → f v ≡ true) → (v < n) ⊎ (n ≤ v) → v < suc n → f v ≡ true
below_by n f v last earlier (inl below) within = earlier below
below_by n f v last earlier (inr past) within =
    let same : v ≡ n = omega (arith, past, within) in ap f same ∙ last

below_at : (n : ℕ) (f : ℕ → Bool) → all_below n f ≡ true → (v : ℕ) → v < n → f v ≡ true
below_at zero f h v within = absurd (omega (arith, within))
below_at (suc n) f h v within =
    let parts = and_parts (f n) (all_below n f) h in
    below_by n f v parts.0 (below_at n f parts.1 v) (cases_lt v n) within

below_from : (n : ℕ) (f : ℕ → Bool) → ((v : ℕ) → v < n → f v ≡ true) → all_below n f ≡ true
below_from zero f h = refl
below_from (suc n) f h =
    and_from (f n) (all_below n f) (h n (omega arith)) (below_from n f (λ v within. h v (omega (arith, within))))

module _ (quiet : AreQuiet) (p : List Filter) (m : Moment) (x : Transition) (s : Step) (e : next p m x ≡ Some s) (tidy : Tidy m) where
  pub owners_same : (v : ℕ) → Spared m s v → owners s.world (m.trace ++ s.events) v ≡ owners m.world m.trace v
  owners_same v spared = owners_onward m s v (onward quiet p m x s e) tidy spared

  pub owned_same : (v : ℕ) → Spared m s v → is_owned s.world (m.trace ++ s.events) v ≡ is_owned m.world m.trace v
  owned_same v spared = owned_onward m s v (onward quiet p m x s e) tidy spared

  -- a visit that no event names was there before
  pub visit_before : (v : ℕ) → Spared m s v → v < length s.world.store.visits → v < length m.world.store.visits
  visit_before v spared within = there_before m s v (onward quiet p m x s e) tidy spared (onward quiet p m x s e).counted within

  owned_either : (v : ℕ) (b : Bool) → (b ≡ false → Spared m s v) → (b ≡ true → is_owned s.world (m.trace ++ s.events) v ≡ true) →
      (Spared m s v → is_owned m.world m.trace v ≡ true) → is_owned s.world (m.trace ++ s.events) v ≡ true
  owned_either v true left looked before = looked refl
  owned_either v false left looked before = owned_same v (left refl) ∙ before (left refl)

  -- it is enough to look at the visits that aren't spared
  pub one_owner_after : (touched : ℕ → Bool) → ((v : ℕ) → touched v ≡ false → Spared m s v) →
      ((v : ℕ) → v < length s.world.store.visits → touched v ≡ true → is_owned s.world (m.trace ++ s.events) v ≡ true) →
      one_owner m.world m.trace ≡ true → one_owner s.world (m.trace ++ s.events) ≡ true
  one_owner_after touched left looked before =
      below_from (length s.world.store.visits) (is_owned s.world (m.trace ++ s.events))
      (λ v within.
      owned_either v (touched v) (left v) (looked v within)
      (λ spared.
      below_at (length m.world.store.visits) (is_owned m.world m.trace) before v (visit_before v spared within)))

  -- where the test of one owner passes, each visit that is there is owned once
  pub one_owner_at : one_owner s.world (m.trace ++ s.events) ≡ true → (v : ℕ) → v < length s.world.store.visits →
      is_owned s.world (m.trace ++ s.events) v ≡ true
  one_owner_at h v within = below_at (length s.world.store.visits) (is_owned s.world (m.trace ++ s.events)) h v within
