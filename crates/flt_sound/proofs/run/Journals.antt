-- Filters stay accepted when they are put in the order of their altitudes, as the machine takes them, and so with all that holds of each;
-- so no journal of accepted ones breaks anything.
use Rattle.std.proofs.Common.{◌≡◌, ℕ, Bool, true, false, List, [], ◌∷◌, Option, Some, None}
use Rattle.std.proofs.lemmas.Bool.{cond_both}
use Rattle.std.proofs.lemmas.List.Elements.{All-cons, All-head, All-nil, All-tail}
use Rattle.std.specs.List.{All}
use Rattle.std.specs.Prelude.{◌↔◌, nat_lt, if◌then◌else◌, option_map}
use Rattle.flt_tree.specs.declared.filter.Filter.{Filter}
use Rattle.flt_model.specs.Expansion.{IsBrokenAt}
use Rattle.flt_model.specs.Program.{by_altitude, put_by_altitude}
use Rattle.flt_model.specs.Runs.{Break, breaks}
use Rattle.flt_model.specs.declared.moves.JournalEntry.{JournalEntry}
use Rattle.flt_model.specs.declared.verdict.Violation.{Violation}
use Rattle.flt_sound.specs.Soundness.{IsAccepted, AreAccepted, AcceptedRunsBreakNothing}

module _ (P : Filter → Type 0) where
  -- what holds of each filter holds of each where one is put among them, and the other way round
  all_put : (f : Filter) (fs : List Filter) → P f → All P fs → All P (put_by_altitude f fs)
  all_put f [] one all = All-cons P f [] one all
  all_put f (g ∷ rest) one all =
      cond_both (nat_lt g.altitude f.altitude) (f ∷ g ∷ rest) (g ∷ put_by_altitude f rest) (All P)
      (λ e. All-cons P f (g ∷ rest) one all)
      (λ e. All-cons P g (put_by_altitude f rest) (All-head P g rest all) (all_put f rest one (All-tail P g rest all)))

  put_all : (f : Filter) (fs : List Filter) → All P (put_by_altitude f fs) → P f × All P fs
  put_all f [] all = (All-head P f [] all, All-nil P)
  put_all f (g ∷ rest) all = by (nat_lt g.altitude f.altitude) all (put_all f rest)
    where
      by : (b : Bool) → All P (if b then f ∷ g ∷ rest else g ∷ put_by_altitude f rest) →
          (All P (put_by_altitude f rest) → P f × All P rest) → P f × All P (g ∷ rest)
      by true all later = (All-head P f (g ∷ rest) all, All-tail P f (g ∷ rest) all)
      by false all later =
          let k = later (All-tail P g (put_by_altitude f rest) all) in
          (k.0, All-cons P g rest (All-head P g (put_by_altitude f rest) all) k.1)

  there : (fs : List Filter) → All P fs → All P (by_altitude fs)
  there [] all = all
  there (f ∷ fs) all = all_put f (by_altitude fs) (All-head P f fs all) (there fs (All-tail P f fs all))

  back : (fs : List Filter) → All P (by_altitude fs) → All P fs
  back [] all = all
  back (f ∷ fs) all = let k = put_all f (by_altitude fs) all in All-cons P f fs k.0 (back fs k.1)

  -- what holds of each filter holds of each in the order of their altitudes, and the other way round
  pub all_by_altitude : (fs : List Filter) → All P fs ↔ All P (by_altitude fs)
  all_by_altitude fs = (there fs, back fs)

-- accepted filters are accepted in the order of their altitudes
pub accepted_by_altitude : (fs : List Filter) → AreAccepted fs → AreAccepted (by_altitude fs)
accepted_by_altitude fs = (all_by_altitude IsAccepted fs).0

none_broken : (b : Option Break) (v : Violation) → b ≡ None → option_map (λ (b : Break). b.violation) b ≡ Some v → ⊥
none_broken None v e h = cc
none_broken (Some b) v e h = cc

-- what breaks nothing isn't broken at any entry
pub never_broken : AcceptedRunsBreakNothing → (filters : List Filter) (entries : List JournalEntry) (v : Violation) (n : ℕ) →
    AreAccepted filters → IsBrokenAt filters entries v n → ⊥
never_broken theorem filters entries v n ok h =
    none_broken (breaks (by_altitude filters) h.transitions) v
    (theorem (by_altitude filters) h.transitions (accepted_by_altitude filters ok)) h.broken
