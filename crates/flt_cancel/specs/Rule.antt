-- The rule of the pads between any two steps, and what a step tells its seat. All of it is this project's own rule.
use Rattle.std.specs.Prelude.{◌≡◌, ℕ, List, [], ◌∷◌, ◌++◌}
use Rattle.atomic_table.specs.Table as table
use Rattle.flt_cancel.specs.Serials.{word_of, mask_of, serials}
use Rattle.flt_cancel.specs.Steps.{words_after, views_after, IsHistory, IsNext}
use Rattle.flt_cancel.specs.declared.seat.View.{View}
use Rattle.flt_cancel.specs.declared.step.Step.{Step}
use Rattle.flt_cancel.specs.declared.step.Step.TheVariants.{Ask, Collect}

-- there is one list of steps, each of the three kinds, that leaves these words and these views
abbrev pub Kept : table.State ℕ View → Type 0
Kept pads = (steps : List Step) × IsHistory steps × (pads.words ≡ words_after steps) × (pads.views ≡ views_after steps)

-- a seat's view before and after it asks
abbrev pub HasAsked : ℕ → View → View → Type 0
HasAsked serial before after =
    (after.asked ≡ before.asked ++ serial ∷ [])
    × (after.collected ≡ before.collected)
    × ((by : ℕ) × IsNext by (Ask by serial) before.seen after.seen)

-- a seat's view before and after it collects
abbrev pub HasCollected : ℕ → ℕ → View → View → Type 0
HasCollected word found before after =
    (after.asked ≡ before.asked)
    × (after.collected ≡ before.collected ++ serials word found)
    × ((by : ℕ) × IsNext by (Collect by word found) before.seen after.seen)

-- a step with a serial's mask on its word asks for it
abbrev pub Asked : table.Step ℕ → table.Me ℕ View → ℕ → table.Me ℕ View → Type 0
Asked step me found after = (serial : ℕ) → step.word ≡ word_of serial → step.first ≡ mask_of serial → HasAsked serial me.0 after.0

-- a step on a word collects what it found there
abbrev pub Collected : table.Step ℕ → table.Me ℕ View → ℕ → table.Me ℕ View → Type 0
Collected step me found after = HasCollected step.word found me.0 after.0
