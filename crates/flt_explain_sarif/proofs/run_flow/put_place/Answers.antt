use Rattle.std.proofs.Common.{length, refl, sym}
use Rattle.std.proofs.lemmas.Option.{slice_get_past, slice_get_read}
use Rattle.flt_explain_parts.proofs.Adding.{none_added}
use Rattle.flt_explain_sarif.proofs.run_flow.put_place.Goals as goal

pub returns-in-None : goal.returns-in-None
returns-in-None c =
    let past = slice_get_past c.args.files.now c.in-Some.number c.in-None.ensures.lookup.3 in
    rw (sym c.source_of.ensures, c.in-Some.is, past) (record { ok = none_added c.args.writer.now })

pub returns-in-Some-get : goal.returns-in-Some-get
returns-in-Some-get c =
    let files = c.args.files.now in
    let lookup = c.in-Some-get.ensures.lookup in
    let found = slice_get_read files (length files) c.in-Some.number c.in-Some-get.file.now refl lookup.3.0 lookup.1 in
    rw (sym c.source_of.ensures, c.in-Some.is, found) c.put_span.ensures
