-- What a new activation is given: perhaps a visit and perhaps a context, which it gains and its variables then own.
-- a is the activation, `gift` the visit, `arg` the context; v and y are a visit and a context that are counted.
use Rattle.std.proofs.Common.{◌≡◌, ℕ, ◌≤◌, List, ◌++◌, Option, Some, None, subst, refl, arith, inl, inr}
use Rattle.std.proofs.lemmas.Bool.{cases_eq}
use Rattle.flt_tree.specs.declared.filter.Filter.{Filter}
use Rattle.flt_model.specs.declared.event.Event.{Event}
use Rattle.flt_model.specs.declared.event.Object.{Object}
use Rattle.flt_model.specs.declared.event.Object.TheVariants.{Context, Visit}
use Rattle.flt_model.specs.Effects.{gains_context}
use Rattle.flt_model.specs.Moves.{gains_visit}
use Rattle.flt_model.specs.Runs.{Moment}
use Rattle.flt_model.specs.Trace.{gains, loses, settles, frees}
use Rattle.flt_model.specs.Violations.{in_some}
use Rattle.flt_sound.proofs.sums.Counts.{counts, one_if-other, of_actor-same}
use Rattle.flt_sound.proofs.sums.Shadows.{given, own}
use Rattle.flt_sound.proofs.points.Events.{Events, none, gained}
use Rattle.flt_sound.proofs.sums.Touching.{CleanBy}

-- a variable that is given an object owns just that
pub own_given : (n : ℕ) (x : Option ℕ) → own n (given x) ≡ in_some n x
own_given n None = refl
own_given n (Some x) = refl

-- what holds of what it was given holds of what it owns
pub own_of_given : (P : ℕ → Type 0) (x : Option ℕ) → ((y : ℕ) → x ≡ Some y → P y) → (y : ℕ) → 1 ≤ own y (given x) → P y
own_of_given P None h y has = absurd (omega (arith, has))
own_of_given P (Some x) h y has = elim (cases_eq x y) [
  | inl e ↦ subst P e (h x refl)
  | inr ne ↦ absurd (omega (arith, has, one_if-other x y ne))
]

module _ (a : ℕ) where
  -- what an activation gains where it starts
  abbrev pub gifts : Option ℕ → Option ℕ → List Event
  gifts gift arg = gains_visit a gift ++ gains_context a arg

  -- the visit is gained once
  pub gifts-visits : (gift arg : Option ℕ) (v : ℕ) → gains (gifts gift arg) a (Visit v) ≡ in_some v gift
  gifts-visits None None v = simp counts
  gifts-visits None (Some x) v = simp (counts, of_actor-same)
  gifts-visits (Some u) None v = simp (counts, of_actor-same) (omega arith)
  gifts-visits (Some u) (Some x) v = simp (counts, of_actor-same) (omega arith)

  -- the context is gained once
  pub gifts-contexts : (gift arg : Option ℕ) (y : ℕ) → gains (gifts gift arg) a (Context y) ≡ in_some y arg
  gifts-contexts None None y = simp counts
  gifts-contexts None (Some x) y = simp (counts, of_actor-same) (omega arith)
  gifts-contexts (Some u) None y = simp (counts, of_actor-same)
  gifts-contexts (Some u) (Some x) y = simp (counts, of_actor-same) (omega arith)

  -- nothing is lost
  pub gifts-loses : (gift arg : Option ℕ) (b : ℕ) (o : Object) → loses (gifts gift arg) b o ≡ 0
  gifts-loses None None b o = simp counts
  gifts-loses None (Some x) b o = simp counts
  gifts-loses (Some u) None b o = simp counts
  gifts-loses (Some u) (Some x) b o = simp counts

  -- no visit is settled
  pub gifts-settles : (gift arg : Option ℕ) (v : ℕ) → settles (gifts gift arg) v ≡ 0
  gifts-settles None None v = simp counts
  gifts-settles None (Some x) v = simp counts
  gifts-settles (Some u) None v = simp counts
  gifts-settles (Some u) (Some x) v = simp counts

  -- no context is freed
  pub gifts-frees : (gift arg : Option ℕ) (y : ℕ) → frees (gifts gift arg) y ≡ 0
  gifts-frees None None y = simp counts
  gifts-frees None (Some x) y = simp counts
  gifts-frees (Some u) None y = simp counts
  gifts-frees (Some u) (Some x) y = simp counts

  -- no other context is touched
  pub gifts_clean : (P : ℕ → ℕ → Type 0) (gift arg : Option ℕ) → ((y : ℕ) → arg ≡ Some y → P a y) → CleanBy P (gifts gift arg)
  gifts_clean P None None h = tt
  gifts_clean P None (Some x) h = (h x refl, tt)
  gifts_clean P (Some u) None h = tt
  gifts_clean P (Some u) (Some x) h = (h x refl, tt)

  -- these events break nothing
  pub gifts_events : {p : List Filter} {m : Moment} (gift arg : Option ℕ) (t : List Event) → Events p m a t (gifts gift arg)
  gifts_events None None t = none t
  gifts_events None (Some x) t = gained (Context x) (none _)
  gifts_events (Some v) None t = gained (Visit v) (none _)
  gifts_events (Some v) (Some x) t = gained (Visit v) (gained (Context x) (none _))
