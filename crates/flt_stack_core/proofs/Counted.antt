-- An entry more.
use Rattle.std.proofs.Common.{◌≡◌, ◌+◌, Bool, true, false, List, [], ◌∷◌, ◌++◌, length, ap, ◌∙◌, arith}
use Rattle.std.proofs.lemmas.List.{length_push}
use Rattle.std.specs.Prelude.{if◌then◌else◌}
use Rattle.flt_stack_core.specs.Counting.{callers_in, is_callers, is_callers_move, others_in}
use Rattle.flt_machine_calls.specs.Plans.{choice_at}
use Rattle.flt_machine_frames.specs.Loading.{AreLoaded}
use Rattle.flt_machine_frames.specs.declared.frame.Advanced.{Advanced}
use Rattle.flt_machine_frames.specs.declared.loaded.Loaded.{Loaded}
use Rattle.flt_machine.specs.Calls.{Commits}
use Rattle.flt_machine.specs.Situations.{Situation, IsBoard, Now}
use Rattle.flt_model.specs.World.{activation_at}
use Rattle.flt_model.specs.declared.event.Event.{Event}
use Rattle.flt_model.specs.declared.moves.JournalEntry.{JournalEntry}
use Rattle.flt_model.specs.declared.moves.JournalEntry.TheVariants as entry
use Rattle.flt_model.specs.declared.moves.JournalEntry.TheVariants.{Go}
use Rattle.flt_model.specs.declared.moves.Move.{Move}
use Rattle.flt_tree.specs.declared.filter.Filter.{Filter}

-- one entry more counts where a caller made it
pub callers_in_more : (es : List JournalEntry) (e : JournalEntry) →
    callers_in (es ++ e ∷ []) ≡ callers_in es + (if is_callers e then 1 else 0)
callers_in_more [] e = omega arith
callers_in_more (x ∷ es) e = omega (arith, callers_in_more es e)

-- one entry more counts where no caller made it
pub others_in_more : (es : List JournalEntry) (e : JournalEntry) → others_in (es ++ e ∷ []) ≡ others_in es + (if is_callers e then 0 else 1)
others_in_more [] e = omega arith
others_in_more (x ∷ es) e = omega (arith, others_in_more es e)

-- a caller's move counts as one of the callers' entries
pub counted_callers : (es later : List JournalEntry) (step : Move) → is_callers_move step ≡ true → later ≡ es ++ entry.Move step ∷ [] →
    (callers_in later ≡ callers_in es + 1) × (others_in later ≡ others_in es)
counted_callers es later step is written = (
  ap callers_in written ∙ callers_in_more es (entry.Move step) ∙ ap (λ (b : Bool). callers_in es + (if b then 1 else 0)) is,
  ap others_in written ∙ others_in_more es (entry.Move step) ∙ ap (λ (b : Bool). others_in es + (if b then 0 else 1)) is ∙ omega arith,
)

-- another move counts as one of the others
pub counted_others : (es later : List JournalEntry) (step : Move) → is_callers_move step ≡ false → later ≡ es ++ entry.Move step ∷ [] →
    (callers_in later ≡ callers_in es) × (others_in later ≡ others_in es + 1)
counted_others es later step is written = (
  ap callers_in written ∙ callers_in_more es (entry.Move step) ∙ ap (λ (b : Bool). callers_in es + (if b then 1 else 0)) is ∙ omega arith,
  ap others_in written ∙ others_in_more es (entry.Move step) ∙ ap (λ (b : Bool). others_in es + (if b then 0 else 1)) is,
)

-- the step after an advance is no caller's
pub counted_step : (p : List Filter) (l : Loaded) (b later : Situation) (advanced : Advanced) (grant : Bool) (events : List Event) →
    AreLoaded p l → IsBoard p b → Now l b (λ p m. Commits p b later advanced grant events m) →
    (callers_in later.entries ≡ callers_in b.entries) × (others_in later.entries ≡ others_in b.entries + 1)
    × (length later.entries ≡ length b.entries + 1)
counted_step p l b later advanced grant events loaded own commits =
    let made = commits p loaded own.moment own.at in
    let step = Go advanced.frame.activation (advanced.steps + 1)
    (choice_at (activation_at made.middle.world advanced.frame.activation).rest grant) in (
      omega (arith, ap callers_in made.written, callers_in_more b.entries step),
      omega (arith, ap others_in made.written, others_in_more b.entries step),
      ap length made.written ∙ length_push b.entries step,
    )
