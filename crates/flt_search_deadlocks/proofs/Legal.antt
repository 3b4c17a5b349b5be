-- Journals that lead to a moment are legal.
use Rattle.std.proofs.Common.{◌≡◌, ◌+◌, ◌∷◌, [], ℕ, List, Some, refl}
use Rattle.flt_tree.specs.declared.filter.Filter.{Filter}
use Rattle.flt_model.specs.declared.moves.JournalEntry.{JournalEntry}
use Rattle.flt_model.specs.declared.verdict.Verdict.TheVariants.{Legal}
use Rattle.flt_model.specs.Expansion.{Course, Reaches, Stops, Fails, entry_course, expansion, judged, verdict_from}
use Rattle.flt_model.specs.Runs.{Moment}
use Rattle.flt_replay.specs.Lesser.{moment_by, moment_after}

-- entries that lead to a moment are legal
pub legal : (p : List Filter) (m r : Moment) (n : ℕ) (es : List JournalEntry) → moment_after p m es ≡ Some r → verdict_from p m n es ≡ Legal
legal p m r n [] led = refl
legal p m r n (e ∷ es) led = by (λ q led. legal p q r (n + 1) es led) (entry_course p m (expansion e)) led
  where
    by : ((q : Moment) → moment_after p q es ≡ Some r → verdict_from p q (n + 1) es ≡ Legal) → (c : Course) →
        moment_by c (λ q. moment_after p q es) ≡ Some r → judged c n (λ q. verdict_from p q (n + 1) es) ≡ Legal
    by more (Reaches q) led = more q led
    by more Stops led = absurd (cc)
    by more (Fails v) led = absurd (cc)
