-- Worked runs of two filters, one above the other.
use Rattle.std.specs.Prelude.{◌≡◌, refl, ℕ, List, [], ◌∷◌, Some}
use Rattle.flt_rules.specs.declared.place.Operation.TheVariants.{Read}
use Rattle.flt_rules.specs.declared.status.FinalStatus.TheVariants as final
use Rattle.flt_tree.specs.declared.filter.Filter.{Filter}
use Rattle.flt_tree.specs.declared.filter.Head.TheVariants as head
use Rattle.flt_tree.specs.declared.filter.Status.TheVariants as status
use Rattle.flt_model.specs.declared.moves.JournalEntry.{JournalEntry}
use Rattle.flt_model.specs.declared.verdict.Verdict.TheVariants.{Legal, NotARun}
use Rattle.flt_model.specs.Expansion.{verdict}
use Rattle.flt_model.specs.World.{Completed}
use Rattle.flt_model.specs.WorkedParts.{computed, outcomes_after, return, on, filter, passes, cleans_up, arrive, pre, lower, post, go}

abbrev pub watches : ℕ → Filter
watches altitude = filter altitude (passes Read ∷ cleans_up Read ∷ [])

-- a read goes down through both and up again, whichever text comes first
abbrev pub down_and_up : List JournalEntry
down_and_up = arrive Read ∷ pre 0 ∷ go 0 1 ∷ pre 0 ∷ go 1 1 ∷ lower 0 ∷ post 0 ∷ go 2 2 ∷ post 0 ∷ go 3 2 ∷ []

pub down_and_up-legal : verdict (watches 200 ∷ watches 100 ∷ []) down_and_up ≡ Legal
unfolding computed
down_and_up-legal = refl

pub down_and_up-sorted : verdict (watches 100 ∷ watches 200 ∷ []) down_and_up ≡ Legal
unfolding computed
down_and_up-sorted = refl

-- it isn't below the last filter yet
pub lowered_early : verdict (watches 200 ∷ watches 100 ∷ []) (arrive Read ∷ pre 0 ∷ go 0 1 ∷ lower 0 ∷ []) ≡ NotARun 3
unfolding computed
lowered_early = refl

-- ---- the lower filter completes the read: only the post callback above it is called

abbrev pub denies : Filter
denies = filter 100 (on (head.Pre Read) (return (status.Complete final.AccessDenied) ∷ []) ∷ [])

abbrev pub denied_below : List JournalEntry
denied_below = arrive Read ∷ pre 0 ∷ go 0 1 ∷ pre 0 ∷ go 1 1 ∷ post 0 ∷ go 2 2 ∷ []

pub denied_below-legal : verdict (watches 200 ∷ denies ∷ []) denied_below ≡ Legal
unfolding computed
denied_below-legal = refl

pub denied_below-outcome :
    outcomes_after (watches 200 ∷ denies ∷ []) denied_below
    ≡ Some (Some (Completed final.AccessDenied) ∷ [])
unfolding computed
denied_below-outcome = refl
