use Rattle.std.proofs.Common.{◌≡◌, ◌<◌, [], ◌∷◌, ◌++◌, length, sym, subst, ◌∙◌, length-append, refl, arith, Ok, Err, Some, None}
use Rattle.flt_model.specs.JournalText.{most_entries}
use Rattle.flt_model.specs.JournalTextReading as spec
use Rattle.flt_model.proofs.ReadingSteps.{most_entries_is, next_entry, last_entry, bad_entry, full}
use Rattle.flt_model.proofs.reader.entries.Goals as goal

pub returns-in-Ok-None-clause-read : goal.returns-in-Ok-None-clause-read
returns-in-Ok-None-clause-read g c =
    let low : c.loop-number.number < most_entries = rw most_entries_is c.loop-number-test.true in
    let read : spec.line (g.R.Source.coming c.loop-number.reader) ≡ Ok (None, g.R.Source.coming c.line.new.reader) =
    cc (c.in-Ok-None.ensures.read, c.in-Ok-None.field-0-is) in
    let same = sym c.loop-number.invariant.read
    ∙ last_entry most_entries c.loop-number.number c.loop-number.found (g.R.Source.coming c.loop-number.reader)
    (g.R.Source.coming c.line.new.reader) low read in
    let P : spec.Reading → Type 0 = λ o. spec.ReadsAll o c.closed.result (g.R.Source.coming c.closed.new.reader) in
    subst P (sym same) c.closed.ensures.read

pub returns-in-Err-Wrong-clause-read : goal.returns-in-Err-Wrong-clause-read
returns-in-Err-Wrong-clause-read g c =
    let low : c.loop-number.number < most_entries = rw most_entries_is c.loop-number-test.true in
    let read : spec.line (g.R.Source.coming c.loop-number.reader) ≡ Err (g.R.Source.coming c.line.new.reader) =
    rw c.in-Err-Wrong.field-0-is at c.in-Err-Wrong.ensures.read in
    sym c.loop-number.invariant.read ∙ bad_entry most_entries c.loop-number.number c.loop-number.found
    (g.R.Source.coming c.loop-number.reader) (g.R.Source.coming c.line.new.reader) low
    c.loop-number.invariant.count read

pub loop-number-preserved : goal.loop-number-preserved
loop-number-preserved g c =
    let low : c.loop-number.number < most_entries = rw most_entries_is c.loop-number-test.true in
    let read : spec.line (g.R.Source.coming c.loop-number.reader) ≡ Ok
    (Some c.in-Ok-Some.entry, g.R.Source.coming c.line.new.reader) = cc (c.in-Ok-Some.ensures.read, c.in-Ok-Some.field-0-is) in
    let pushed : c.push.new.self ≡ c.loop-number.found ++ c.in-Ok-Some.entry ∷ [] = cc (c.in_ok-push-in-Ok-Some.ensures.ok) in
    let count : length c.loop-number.found ≡ c.loop-number.number = c.loop-number.invariant.count in
    let step = next_entry most_entries c.loop-number.number c.loop-number.found c.in-Ok-Some.entry
    (g.R.Source.coming c.loop-number.reader) (g.R.Source.coming c.line.new.reader) low count read in
    record {
      count = rw (pushed, length-append, count) refl;
      read = rw pushed (sym step ∙ c.loop-number.invariant.read);
      fine = c.in-Ok-Some.ensures.fails ∙ c.loop-number.invariant.fine;
      reads = omega (arith, c.in-Ok-Some.ensures.reads);
    }

pub returns-clause-read : goal.returns-clause-read
returns-clause-read g c =
    let all : c.loop-number.number ≡ most_entries = rw most_entries_is (omega arith) in
    let same = sym c.loop-number.invariant.read
    ∙ full most_entries c.loop-number.number c.loop-number.found (g.R.Source.coming c.loop-number.reader) all in
    let P : spec.Reading → Type 0 = λ o. spec.ReadsAll o c.ending.result (g.R.Source.coming c.ending.new.reader) in
    subst P (sym same) c.ending.ensures.read
