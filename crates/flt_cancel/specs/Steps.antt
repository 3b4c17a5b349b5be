-- The three kinds of step, and what they leave. Steps are listed with the last one first. All of it is this project's own rule.
use Rattle.std.specs.Prelude.{◌≡◌, ℕ, ◌<◌, List, [], ◌∷◌, ◌++◌, length, replicate, slice_index, slice_index_or, slice_set, bit_or, All}
use Rattle.std.specs.List.{Contains}
use Rattle.flt_cancel.specs.Serials.{word_of, mask_of, serials}
use Rattle.flt_cancel.specs.declared.seat.View.{View}
use Rattle.flt_cancel.specs.declared.step.Step.{Step}
use Rattle.flt_cancel.specs.declared.step.Step.TheVariants.{Split, Ask, Collect}
use Rattle.flt_rules.specs.Limits.{max_operations}

-- the view of a seat that has done nothing
abbrev pub newcomer : View
newcomer = record { asked = []; collected = []; seen = [] }

-- the words after one step more: an ask leaves its serial's bit set, a collection leaves its word empty
abbrev pub words_then : Step → List ℕ → List ℕ
words_then Split words = words
words_then (Ask by serial) words = slice_set words (word_of serial) (bit_or (slice_index words (word_of serial)) (mask_of serial))
words_then (Collect by word found) words = slice_set words word 0

-- the words after these steps; at the start no bit is set
abbrev pub words_after : List Step → List ℕ
words_after [] = replicate 1024 0
words_after (step ∷ earlier) = words_then step (words_after earlier)

-- the view of a seat that asked, once these are all the steps
abbrev pub having_asked : List Step → ℕ → View → View
having_asked steps serial v = record { asked = v.asked ++ serial ∷ []; collected = v.collected; seen = steps }

-- the view of a seat that collected, once these are all the steps
abbrev pub having_collected : List Step → ℕ → ℕ → View → View
having_collected steps word found v = record { asked = v.asked; collected = v.collected ++ serials word found; seen = steps }

-- the view of the seat of this number
abbrev pub view_at : List View → ℕ → View
view_at views by = slice_index_or views by newcomer

-- the views after one step more: a split makes a seat that has done nothing, another step changes the view of its own seat alone
abbrev pub views_then : List Step → Step → List View → List View
views_then steps Split views = views ++ newcomer ∷ []
views_then steps (Ask by serial) views = slice_set views by (having_asked steps serial (view_at views by))
views_then steps (Collect by word found) views = slice_set views by (having_collected steps word found (view_at views by))

-- the views after these steps, by the seats' numbers; at the start there is one seat
abbrev pub views_after : List Step → List View
views_after [] = newcomer ∷ []
views_after (step ∷ earlier) = views_then (step ∷ earlier) step (views_after earlier)

-- what can be done after these steps: seats that are there ask for serials and collect words, and who collects finds what the word is
abbrev pub CanFollow : List Step → Step → Type 0
CanFollow earlier Split = Unit {0}
CanFollow earlier (Ask by serial) = (by < length (views_after earlier)) × (serial < max_operations)
CanFollow earlier (Collect by word found) = (by < length (views_after earlier)) × (word < 1024)
    × (found ≡ slice_index (words_after earlier) word)

-- each of these steps could be done after those before it
abbrev pub IsHistory : List Step → Type 0
IsHistory [] = Unit {0}
IsHistory (step ∷ earlier) = CanFollow earlier step × IsHistory earlier

-- the step is one of this seat's
abbrev pub IsBy : ℕ → Step → Type 0
IsBy by Split = ⊥
IsBy by (Ask seat serial) = seat ≡ by
IsBy by (Collect seat word found) = seat ≡ by

-- a seat that had seen some steps then did this one, after others' steps and none of its own, and has seen these
abbrev pub IsNext : ℕ → Step → List Step → List Step → Type 0
IsNext by step before after = IsHistory after × (between : List Step) × (after ≡ step ∷ between ++ before)
    × All (λ other. IsBy by other → ⊥) between

-- some seat asked for the serial in one of these steps
abbrev pub WasAsked : ℕ → List Step → Type 0
WasAsked serial steps = (by : ℕ) × Contains steps (Ask by serial)
