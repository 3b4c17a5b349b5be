-- Requests that were collected, and marks that were taken. This project's own rule.
use Rattle.std.specs.Prelude.{◌≡◌, ◌≢◌, ◌+◌, ◌*◌, ◌<◌, ◌++◌, ℕ, List}
use Rattle.std.specs.Int.{bit_at}
use Rattle.flt_cancel.specs.Seats.{marks, view}
use Rattle.flt_cancel.specs.Serials.{serials}
use Rattle.flt_cancel.specs.Steps.{IsNext}
use Rattle.flt_cancel.specs.declared.seat.Seat.{Seat}
use Rattle.flt_cancel.specs.declared.step.Step.{Step}
use Rattle.flt_cancel.specs.declared.step.Step.TheVariants.{Collect}

-- the request of a bit is gone from a word, and no other one
abbrev pub IsWithout : ℕ → ℕ → ℕ → Type 0
IsWithout bit before after = (bit_at after bit ≡ 0)
    × ((other : ℕ) → other < 64 → other ≢ bit → bit_at after other ≡ bit_at before other)

-- no request of a word is left
abbrev pub IsEmpty : ℕ → Type 0
IsEmpty bits = (bit : ℕ) → bit < 64 → bit_at bits bit ≡ 0

-- a seat that had seen some steps collected so many words from one on, in their order, and did nothing else, and has seen these
pub data AreCollected (first : ℕ) : ℕ → List Step → List Step → Type 0 where
  none : (seen : List Step) → AreCollected first 0 seen seen
  one_more : (count : ℕ) (before between after : List Step) (by found : ℕ) → AreCollected first count before between
      → IsNext by (Collect by (first + count) found) between after → AreCollected first (count + 1) before after

-- of the first so many groups it collected the 16 words of each one whose bit is set here, in their order, and did nothing else
pub data AreSwept (groups : ℕ) : ℕ → List Step → List Step → Type 0 where
  none : (seen : List Step) → AreSwept groups 0 seen seen
  swept : (group : ℕ) (before between after : List Step) → AreSwept groups group before between → bit_at groups group ≡ 1
      → AreCollected (16 * group) 16 between after → AreSwept groups (group + 1) before after
  passed : (group : ℕ) (before after : List Step) → AreSwept groups group before after → bit_at groups group ≡ 0
      → AreSwept groups (group + 1) before after

-- all marks were taken, in one step, and the words of the groups collected that had one; which came first isn't said
abbrev pub HasSwept : Seat → Seat → Type 0
HasSwept before after = (by groups : ℕ) × IsNext by (Collect by 0 groups) (marks before).seen (marks after).seen
    × AreSwept groups 64 (view before).seen (view after).seen

-- all marks that were taken were set again, whether the words of their groups were collected or not
abbrev pub AreSetAgain : Seat → Seat → Type 0
AreSetAgain before after = (groups : ℕ) × ((marks after).collected ≡ (marks before).collected ++ serials 0 groups)
    × ((marks after).asked ≡ (marks before).asked ++ serials 0 groups)
