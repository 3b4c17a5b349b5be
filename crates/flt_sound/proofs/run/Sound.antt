-- The invariant holds at the start of a run, and each step keeps it: whatever transition the system or an activation makes at a moment
-- of which it is so, the step breaks nothing and it is so of the moment after. Here p is the program, m a moment.
use Rattle.std.proofs.Common.{◌≡◌, ℕ, zero, suc, List, [], ◌∷◌, map, refl, arith, sum_by}
use Rattle.std.proofs.Math.ListN.{get_or}
use Rattle.std.proofs.lemmas.List.{length-map}
use Rattle.std.proofs.lemmas.List.Sums.{sum_by-cons}
use Rattle.flt_tree.specs.declared.filter.Filter.{Filter}
use Rattle.flt_model.specs.declared.event.Object.TheVariants.{Context, Visit}
use Rattle.flt_model.specs.Runs.{Moment, start, next}
use Rattle.flt_model.specs.Steps.{Transition, Make, Local, Board}
use Rattle.flt_model.specs.declared.parts.Entry.{Entry}
use Rattle.flt_model.specs.Violations.{in_queue}
use Rattle.flt_sound.specs.Soundness.{AreAccepted}
use Rattle.flt_sound.proofs.sums.Belonging.{Belongs}
use Rattle.flt_sound.proofs.sums.Counts.{gains-nil, loses-nil, settles-nil, frees-nil, made_none}
use Rattle.flt_sound.proofs.sums.Differences.{in_line}
use Rattle.flt_sound.proofs.sums.Eaches.{Each}
use Rattle.flt_sound.proofs.sums.Shadows.{own_all-nil}
use Rattle.flt_sound.proofs.points.Kept.{Kept, Good}
use Rattle.flt_sound.proofs.points.Local.{AfterStep, local_good}
use Rattle.flt_sound.proofs.points.Placed.{Laws}
use Rattle.flt_sound.proofs.points.Stored.{FitsQueue}
use Rattle.flt_sound.proofs.ends.Board.{board_good}
use Rattle.flt_sound.proofs.moves.Moves.{move_good}

-- ---- the start

-- what is so of entries is so of queues that have none
empty_queues : (P : Entry → Type 0) (p : List Filter) (f : ℕ) → Each P (get_or (map (λ _. []) p) f [])
empty_queues P [] f = tt
empty_queues P (x ∷ p) zero = tt
empty_queues P (x ∷ p) (suc f) = empty_queues P p f

-- queues that have no entry have no context
no_lines : (x : ℕ) (p : List Filter) → sum_by (in_line x) (map (λ _. []) p) ≡ 0
no_lines x [] = refl
no_lines x (f ∷ p) = omega (arith, sum_by-cons (in_line x) [] (map (λ _. []) p), no_lines x p)

-- queues that have no entry have no visit
no_entries : (v : ℕ) (p : List Filter) → sum_by (in_queue v) (map (λ _. []) p) ≡ 0
unfolding in_queue
no_entries v [] = refl
no_entries v (f ∷ p) = omega (arith, sum_by-cons (in_queue v) [] (map (λ _. []) p), no_entries v p)

-- the invariant holds at the start
pub opens : (p : List Filter) → Kept p (start p)
opens p = record {
  shadows = [];
  same = refl;
  long = refl;
  each = λ a on. absurd (cc);
  visits = λ a v. omega (arith, gains-nil a (Visit v), loses-nil a (Visit v), own_all-nil v);
  contexts = λ a x. omega (arith, gains-nil a (Context x), loses-nil a (Context x), own_all-nil x);
  stored = record {
    entries = λ f. empty_queues (FitsQueue [] [] p f) p f;
    items = λ i. tt;
    frames = λ o. tt;
    modes = λ o. refl;
    paths = refl;
    before = λ v h e. absurd (omega arith);
  };
  owners = λ v. omega (arith, no_entries v p);
  once = λ v. omega (arith, settles-nil v, made_none v);
  idle = λ a on. record { visits = λ v. own_all-nil v; contexts = λ x. own_all-nil x; locks = refl };
  settled_long = refl;
  seats = length-map p (λ _. []);
  count = λ x. omega (arith, no_lines x p);
  freed = λ x. omega (arith, frees-nil x, made_none x);
  mine = record {
    entries = λ f. empty_queues (λ (e : Entry). Belongs [] f e.context) p f;
    frames = λ o. tt;
    items = λ i. tt;
    links = λ x l e. absurd (cc);
  };
  owns = λ a x h. absurd (omega (arith, h, own_all-nil x));
}

-- ---- a step

module _ (laws : Laws) (p : List Filter) (ok : AreAccepted p) where
  -- each step at a moment of the invariant is good: a move of the system, a local step, a step with the board
  pub step_good : (m : Moment) → Kept p m → (x : Transition) → AfterStep (next p m x) (Good p m)
  step_good m k (Make x) = move_good laws p ok m k x
  step_good m k (Local a) = local_good p m k a
  step_good m k (Board a grant) = board_good p m k a grant
