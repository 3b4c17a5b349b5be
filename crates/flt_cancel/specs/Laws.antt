-- What holds of the pads between any two steps. All of it is this project's own rule.
use Rattle.std.specs.Prelude.{◌≡◌, ◌⊎◌, ℕ, ◌+◌, ◌<◌, ◌≤◌, ◌==◌, List, [], ◌∷◌, ◌++◌, if◌then◌else◌, All}
use Rattle.std.specs.Int.{bit_at}
use Rattle.std.specs.List.{Contains}
use mathlib.Core.Option.{some}
use lib.ListN.{get_elem?}
use Rattle.atomic_table.specs.Table as table
use Rattle.flt_cancel.specs.Rule.{Kept}
use Rattle.flt_cancel.specs.Serials.{word_of, place_of, present, IsPresent}
use Rattle.flt_cancel.specs.Steps.{words_after, IsHistory, IsBy}
use Rattle.flt_cancel.specs.declared.seat.View.{View}
use Rattle.flt_cancel.specs.declared.step.Step.{Step}
use Rattle.flt_cancel.specs.declared.step.Step.TheVariants.{Ask, Collect}

-- how often the serial stands in the list
abbrev pub times : ℕ → List ℕ → ℕ
times serial [] = 0
times serial (other ∷ others) = (if other == serial then 1 else 0) + times serial others

-- how often the seats asked for the serial
abbrev pub times_asked : ℕ → List View → ℕ
times_asked serial [] = 0
times_asked serial (v ∷ others) = times serial v.asked + times_asked serial others

-- how often the seats collected the serial
abbrev pub times_collected : ℕ → List View → ℕ
times_collected serial [] = 0
times_collected serial (v ∷ others) = times serial v.collected + times_collected serial others

-- the serial was collected at most as often as asked, where a present bit counts as one collection more; and if it was asked, it
-- was collected or is present
abbrev pub IsBalanced : ℕ → List ℕ → List View → Type 0
IsBalanced serial words views =
    (times_collected serial views + present words serial ≤ times_asked serial views)
    × (0 < times_asked serial views → 0 < times_collected serial views + present words serial)

-- between any two steps each serial is balanced
abbrev pub NoneIsInvented : Type 0
NoneIsInvented = (pads : table.State ℕ View) → Kept pads → (serial : ℕ) → IsBalanced serial pads.words pads.views

-- one of these steps collected the serial
abbrev pub IsCollected : ℕ → List Step → Type 0
IsCollected serial steps = (by found : ℕ) × Contains steps (Collect by (word_of serial) found) × (bit_at found (place_of serial) ≡ 1)

-- however the steps went on after an ask, one of them collected the serial, or its bit is present at the end
abbrev pub NoneIsLost : Type 0
NoneIsLost = (later earlier : List Step) (by serial : ℕ) → IsHistory (later ++ Ask by serial ∷ earlier)
    → IsCollected serial later ⊎ IsPresent (words_after (later ++ Ask by serial ∷ earlier)) serial

-- the seat of this number has seen these steps but for the last ones, of which none is its own
abbrev pub HasSeen : List Step → ℕ → View → Type 0
HasSeen steps by v = (since : List Step) × (steps ≡ since ++ v.seen) × All (λ step. IsBy by step → ⊥) since

-- between any two steps there is one list of steps that leaves the words as they are, and what each seat has seen is where it begins
abbrev pub OneHistory : Type 0
OneHistory = (pads : table.State ℕ View) → Kept pads
    → (steps : List Step) × IsHistory steps × (pads.words ≡ words_after steps)
    × ((by : ℕ) (v : View) → get_elem? pads.views by ≡ some v → HasSeen steps by v)
