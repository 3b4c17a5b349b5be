-- What is printed of texts, one behind the other.
use Rattle.std.proofs.Common.{inl, inr, ◌≡◌, ◌+◌, ℕ, List, [], ◌∷◌, ◌++◌, arith, refl, subst, max}
use Rattle.std.proofs.lemmas.List.{append-nil}
use Rattle.flt_places.specs.declared.files.Files.{Files}
use Rattle.flt_tree.specs.declared.tree.Tree.{Tree}
use Rattle.flt_explain_texts.specs.declared.sources.Source.{Source}
use Rattle.flt_explain_runs.specs.Parts.{notes_in, report_bytes}
use Rattle.flt_explain_runs.specs.Printing.{IsKnownPart, IsPrintOf}
use Rattle.flt_explain_outcomes.specs.Readings.{IsPlaced, known}
use Rattle.flt_explain_runs.specs.Totals.{some}
use Rattle.flt_explain_runs.specs.Whole.{ArePrints, Look, fails, parses}
use Rattle.flt_explain_outcomes.specs.declared.noted.Note.{Note}
use Rattle.flt_explain_runs.specs.declared.parts.TextReport.{TextReport}
use Rattle.flt_explain_outcomes.specs.declared.readings.Reading.{Reading}
use Rattle.flt_explain_outcomes.specs.declared.readings.Reading.TheVariants as reading

-- one more
pub prints_more : (look : Look) (trees : List Tree) (files : List Files) (place : ℕ) (sources : List Source) (notes : List Note)
    (printed : List ℕ) (greatest findings many : ℕ) (s : Source) (r : Reading) (p : TextReport) →
    ArePrints look trees files place sources notes printed greatest findings many →
    IsPlaced place r → (known r ≡ 0 → notes_in p ≡ []) → IsPrintOf look trees files s r p →
    ArePrints look trees files (place + known r) (sources ++ s ∷ []) (notes ++ notes_in p) (printed ++ report_bytes p ++ 10 ∷ [])
    (max greatest p.tally.status) (findings + p.tally.findings) (many + some p.tally.findings)
prints_more look trees files place sources notes printed greatest findings many s (reading.Unread f) p are placed none is =
    let same : place + 0 ≡ place = omega arith in rw (same, none refl, append-nil notes) (fails are (inl is))
prints_more look trees files place sources notes printed greatest findings many s (reading.Other kind) p are placed none is =
    let same : place + 0 ≡ place = omega arith in rw (same, none refl, append-nil notes) (fails are (inr is))
prints_more look trees files place sources notes printed greatest findings many s (reading.Known at) p are placed none is =
    parses are
    (subst (λ n. IsKnownPart look trees files n s p) placed is)
