-- The heart of the second invariant: an unsettled visit stands in one place. Each step keeps the sum of a visit's owners over all
-- activations, queues and items (`owners_after`), and by that sum the machine's own count of owners, by the trace, is right: V4.
-- Here v is a visit, a, b are activations, s is a shadow or a store, t the trace and es the events of a step.
use Rattle.std.proofs.Common.{◌≡◌, ℕ, zero, suc, ◌+◌, ◌<◌, ◌≤◌, Bool, true, false, List}
use Rattle.std.proofs.Common.{[], ◌∷◌, length, map, sym, subst, refl, arith, sum_by}
use Rattle.std.specs.Prelude.{not, ◌&&◌, ◌==◌, if◌then◌else◌}
use Rattle.std.proofs.Math.ListN.{set, get_or}
use Rattle.std.proofs.lemmas.List.Sums.{sum_by-set, sum_by-cons}
use Rattle.flt_model.specs.declared.event.Event.{Event}
use Rattle.flt_model.specs.declared.event.Object.TheVariants.{Visit}
use Rattle.flt_model.specs.Trace.{gains, loses, is_held}
use Rattle.flt_model.specs.Violations.{holding, holders_from, owners, is_owned, all_below}
use Rattle.flt_model.specs.World.{World, Store, is_settled}
use Rattle.flt_sound.proofs.sums.Counts.{held_where, not_held_where}
use Rattle.flt_sound.proofs.sums.Differences.{queued, working, unsettled}
use Rattle.flt_sound.proofs.sums.Shadows.{own_all, Shadow, no_one, plain}
use Rattle.flt_sound.proofs.sums.Turns.{Turns}

-- ---- the sum over all activations

-- how many variables of an activation own the visit
abbrev pub keeps_visit : ℕ → Shadow → ℕ
keeps_visit v s = own_all v s.operations

-- one activation changes: the sum of the owners is again what is unsettled
pub owners_after : (a : ℕ) (shadows : List Shadow) (new : Shadow) (s store : Store) (es : List Event) (v : ℕ) → a < length shadows →
    sum_by (keeps_visit v) shadows + (queued v s + working v s) ≡ unsettled v s →
    gains es a (Visit v) + own_all v (get_or shadows a no_one).operations ≡ loses es a (Visit v) + own_all v new.operations →
    Turns a s store es →
    sum_by (keeps_visit v) (set shadows a new) + (queued v store + working v store) ≡ unsettled v store
owners_after a shadows new s store es v there before change turn =
    omega (arith, sum_by-set (keeps_visit v) shadows a new no_one there, before, change, turn v)

-- ---- the machine's own count of owners, by the trace

-- a shadow holds a visit as often as the trace says, and nothing once it has ended
pub record IsCounted (t : List Event) (v a : ℕ) (s : Shadow) : Type 0 where
  -- it holds the visit as often as the trace says
  pub balance : gains t a (Visit v) ≡ loses t a (Visit v) + own_all v s.operations
  -- it holds it not once it has ended
  pub idle : s.ended ≡ true → own_all v s.operations ≡ 0

-- an activation that runs and has a visit once is counted as one holder, and no other is
holding_by : (t : List Event) (v a n : ℕ) (ended : Bool) → gains t a (Visit v) ≡ loses t a (Visit v) + n → n ≤ 1 → (ended ≡ true → n ≡ 0) →
    (if not ended && is_held t a (Visit v) then 1 else 0) ≡ n
holding_by t v a n true b few idle = sym (idle refl)
holding_by t v a zero false b few idle = rw (not_held_where t a (Visit v) (omega arith)) refl
holding_by t v a (suc zero) false b few idle = rw (held_where t a (Visit v) (omega arith)) refl
holding_by t v a (suc (suc n)) false b few idle = absurd (omega arith)

-- the machine counts an activation as what its variables own
holding_same : (t : List Event) (v a : ℕ) (s : Shadow) → IsCounted t v a s → own_all v s.operations ≤ 1 →
    holding t v a (plain s) ≡ own_all v s.operations
unfolding holding
holding_same t v a s c few = holding_by t v a (own_all v s.operations) s.ended c.balance few c.idle

-- the machine counts all holders as the sum over the shadows
holders_same : (t : List Event) (v i : ℕ) (shadows : List Shadow) → ((b : ℕ) → IsCounted t v (i + b) (get_or shadows b no_one)) →
    sum_by (keeps_visit v) shadows ≤ 1 → holders_from t v i (map plain shadows) ≡ sum_by (keeps_visit v) shadows
holders_same t v i [] c few = refl
holders_same t v i (s ∷ shadows) c few =
    let whole = sum_by-cons (keeps_visit v) s shadows in
    let first : IsCounted t v i s = let e : i + 0 ≡ i = omega arith in rw e at (c zero) in
    let later : (b : ℕ) → IsCounted t v (i + 1 + b) (get_or shadows b no_one) =
    λ b. let e : i + suc b ≡ i + 1 + b = omega arith in rw e at (c (suc b)) in
    let others = holders_same t v (i + 1) shadows later (omega (arith, whole)) in
    omega (arith, whole, holding_same t v i s first (omega (arith, whole)), others)

-- the test of V4, where the sum is right
owned_by : (n : ℕ) (b : Bool) → n ≡ (if b then 0 else 1) → (n == (if b then 0 else 1)) ≡ true
owned_by n true e = rw e refl
owned_by n false e = rw e refl

-- the machine finds that the visit has its owners
pub visit_owned : (w : World) (t : List Event) (v : ℕ) (shadows : List Shadow) → w.activations ≡ map plain shadows →
    ((b : ℕ) → IsCounted t v b (get_or shadows b no_one)) →
    sum_by (keeps_visit v) shadows + (queued v w.store + working v w.store) ≡ unsettled v w.store → is_owned w t v ≡ true
unfolding owners
visit_owned w t v shadows same c sum =
    let from_first : (b : ℕ) → IsCounted t v (0 + b) (get_or shadows b no_one) =
    λ b. let e : b ≡ 0 + b = omega arith in subst (λ k. IsCounted t v k (get_or shadows b no_one)) e (c b) in
    owned_by _ (is_settled w.store v) (rw same (omega (arith, sum, holders_same t v 0 shadows from_first (few (is_settled w.store v) sum))))
  where
    few : (b : Bool) → sum_by (keeps_visit v) shadows + (queued v w.store + working v w.store) ≡ (if b then 0 else 1) →
        sum_by (keeps_visit v) shadows ≤ 1
    few true e = omega arith
    few false e = omega arith

-- a test that holds of every number holds of those below n
pub all_owned : (n : ℕ) (f : ℕ → Bool) → ((v : ℕ) → f v ≡ true) → all_below n f ≡ true
all_owned zero f h = refl
all_owned (suc n) f h = rw (h n) (all_owned n f h)
