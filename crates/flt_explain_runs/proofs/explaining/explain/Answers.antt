use Rattle.std.proofs.Common.{◌≡◌, ap, subst}
use Rattle.flt_explain_texts.specs.Reports.{texts_of}
use Rattle.flt_model.specs.Program.{filters_of}
use Rattle.flt_explain_outcomes.specs.Parsed.{AreFilesOf}
use Rattle.flt_explain_outcomes.specs.Readings.{files_read, known_in, texts_read}
use Rattle.flt_explain_outcomes.proofs.Studied.{files_placed}
use Rattle.flt_explain_runs.proofs.explaining.explain.Goals as goal

pub put_all-requires-clause-texts : goal.put_all-requires-clause-texts
put_all-requires-clause-texts g c = rw (c.as_slice.ensures, c.as_slice-each.ensures.value) c.in_ok-readings.ensures.readings.each

pub put_all-requires-clause-parsed : goal.put_all-requires-clause-parsed
put_all-requires-clause-parsed g c = rw (c.as_slice.ensures, c.as_slice-each.ensures.value) c.in_ok-readings.ensures.readings.filters

pub returns-clause-reports : goal.returns-clause-reports
returns-clause-reports g c =
    let texts : texts_read c.in_ok-readings.readings.each.items ≡ texts_of c.args.sources.now =
    ap texts_of c.in_ok-readings.ensures.sources in
    record {
      filters = filters_of c.as_slice.result.now;
      parsed = rw c.as_slice.ensures (rw texts at c.in_ok-readings.ensures.readings.filters);
      are = rw (c.finished.ensures.output, c.finished.ensures.status)
          (rw (c.as_slice-each.ensures.value, c.in_ok-readings.ensures.sources) at c.in_ok-printed.ensures.reports);
    }

pub returns-clause-noted : goal.returns-clause-noted
returns-clause-noted g c =
    let texts : texts_read c.in_ok-readings.readings.each.items ≡ texts_of c.args.sources.now =
    ap texts_of c.in_ok-readings.ensures.sources in
    record {
      trees = c.as_slice.result.now;
      parsed = rw c.as_slice.ensures (rw texts at c.in_ok-readings.ensures.readings.filters);
      place = known_in c.in_ok-readings.readings.each.items;
      are = rw c.finished.ensures.noted (rw (c.as_slice-each.ensures.value, texts) at c.in_ok-printed.ensures.notes);
    }

pub returns-clause-said : goal.returns-clause-said
returns-clause-said g c =
    let texts : texts_read c.in_ok-readings.readings.each.items ≡ texts_of c.args.sources.now =
    ap texts_of c.in_ok-readings.ensures.sources in
    record {
      trees = c.as_slice.result.now;
      parsed = rw c.as_slice.ensures (rw texts at c.in_ok-readings.ensures.readings.filters);
      said = rw (c.finished.ensures.noted, c.finished.ensures.output) c.in_ok-printed.ensures.said;
    }

pub returns-clause-print : goal.returns-clause-print
returns-clause-print g c =
    let texts : texts_read c.in_ok-readings.readings.each.items ≡ texts_of c.args.sources.now =
    ap texts_of c.in_ok-readings.ensures.sources in
    record {
      trees = c.as_slice.result.now;
      parsed = rw c.as_slice.ensures (rw texts at c.in_ok-readings.ensures.readings.filters);
      files = c.as_slice-2.result.now;
      placed = rw (c.as_slice-2.ensures.value, c.in_ok-files.ensures, c.as_slice-each.ensures.value)
          (subst (λ ss. AreFilesOf ss (files_read c.in_ok-readings.readings.each.items)) c.in_ok-readings.ensures.sources
          (files_placed c.in_ok-readings.readings.trees 0 c.in_ok-readings.readings.each.items c.in_ok-readings.ensures.readings.each));
      are = rw (c.finished.ensures.output, c.finished.ensures.status, c.finished.ensures.noted)
          (rw (c.as_slice-each.ensures.value, c.in_ok-readings.ensures.sources) at c.in_ok-printed.ensures.print);
    }
