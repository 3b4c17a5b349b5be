-- One event that is taken in, by its kind.
use Rattle.std.proofs.Common.{◌≡◌, ℕ, Bool, true, List, ap, sym, refl, ◌∙◌}
use Rattle.std.proofs.Math.Bool.{and-true}
use Rattle.std.specs.Prelude.{◌&&◌}
use Rattle.flt_model.specs.declared.event.Event.{Event}
use Rattle.flt_model.specs.declared.event.Event.TheVariants as event
use Rattle.flt_model.specs.declared.event.Object.{Object}
use Rattle.flt_model.specs.Violations.{is_fresh, leaks_nothing, is_first_settling}
use Rattle.flt_model.specs.World.{World}
use Rattle.flt_replay.proofs.Counting.Noting.{noted_other}
use Rattle.flt_replay.specs.Ledger.{Tally, Tells, IsCounted, Noted, Taken}

still : (kept b : Bool) → b ≡ true → kept ≡ (kept && b)
still kept b is = sym (ap (λ x. kept && x) is ∙ and-true kept)

module _ (w : World) (t : List Event) (tight once : Bool) where
  -- one that ends nothing and settles nothing
  pub taken_as : (e : Event) (old new : Tally) (was now : List ℕ) → is_fresh w t e ≡ true → Noted t e old new was now →
      leaks_nothing t e ≡ true → is_first_settling t e ≡ true → Taken w t e old new was now tight once tight once
  taken_as e old new was now fresh noted leaks settles = record {
    fresh = fresh;
    noted = noted;
    tight_is = still tight (leaks_nothing t e) leaks;
    once_is = still once (is_first_settling t e) settles;
  }

  -- a settling, which may be of a visit that was settled
  pub taken_settled : (v : ℕ) (old new : Tally) (was now : List ℕ) (tight_too once_too : Bool) → Noted t (event.Settle v) old new was now →
      tight_too ≡ tight → once_too ≡ (once && is_first_settling t (event.Settle v)) →
      Taken w t (event.Settle v) old new was now tight once tight_too once_too
  taken_settled v old new was now tight_too once_too noted same is = record {
    fresh = refl;
    noted = noted;
    tight_is = same ∙ still tight true refl;
    once_is = is;
  }

  module _ (c : Tally) (was : List ℕ) (k : Tells t c) (counted : IsCounted c) where
    -- a use of what is held and isn't stale
    pub taken_used : (a : ℕ) (o : Object) → is_fresh w t (event.Use a o) ≡ true →
        Taken w t (event.Use a o) c c was was tight once tight once
    taken_used a o fresh =
        taken_as (event.Use a o) c c was was fresh
        (noted_other t c was k counted (event.Use a o) (λ b p e. absurd (cc)) (λ b p e. absurd (cc))
        (λ x e. absurd (cc)) (λ v e. absurd (cc))) refl refl

    -- an end, at which something may leak
    pub taken_ended : (a : ℕ) (tight_too once_too : Bool) → tight_too ≡ (tight && leaks_nothing t (event.End a)) → once_too ≡ once →
        Taken w t (event.End a) c c was was tight once tight_too once_too
    taken_ended a tight_too once_too is same = record {
      fresh = refl;
      noted = noted_other t c was k counted (event.End a) (λ b p e. absurd (cc)) (λ b p e. absurd (cc)) (λ x e. absurd (cc))
          (λ v e. absurd (cc));
      tight_is = is;
      once_is = same ∙ still once true refl;
    }

    -- one of which nothing is counted
    pub taken_other : (e : Event) → ((a : ℕ) (o : Object) → e ≡ event.Use a o → ⊥) → ((a : ℕ) (o : Object) → e ≡ event.Lose a o → ⊥) →
        ((a : ℕ) (o : Object) → e ≡ event.Gain a o → ⊥) → ((a : ℕ) → e ≡ event.Empty a → ⊥) → ((x : ℕ) → e ≡ event.Free x → ⊥) →
        ((v : ℕ) → e ≡ event.Settle v → ⊥) → ((a : ℕ) → e ≡ event.End a → ⊥) → Taken w t e c c was was tight once tight once
    taken_other (event.Use a o) u l g m f s n = absurd (u a o refl)
    taken_other (event.Lose a o) u l g m f s n = absurd (l a o refl)
    taken_other (event.Gain a o) u l g m f s n = absurd (g a o refl)
    taken_other (event.Empty a) u l g m f s n = absurd (m a refl)
    taken_other (event.Free x) u l g m f s n = absurd (f x refl)
    taken_other (event.Settle v) u l g m f s n = absurd (s v refl)
    taken_other (event.End a) u l g m f s n = absurd (n a refl)
    taken_other (event.Call a j) u l g m f s n =
        taken_as (event.Call a j) c c was was refl (noted_other t c was k counted (event.Call a j) g l f s) refl refl
    taken_other (event.Status a j) u l g m f s n =
        taken_as (event.Status a j) c c was was refl (noted_other t c was k counted (event.Status a j) g l f s) refl refl
    taken_other (event.Lock a j) u l g m f s n =
        taken_as (event.Lock a j) c c was was refl (noted_other t c was k counted (event.Lock a j) g l f s) refl refl
    taken_other (event.Unlock a j) u l g m f s n =
        taken_as (event.Unlock a j) c c was was refl (noted_other t c was k counted (event.Unlock a j) g l f s) refl refl
