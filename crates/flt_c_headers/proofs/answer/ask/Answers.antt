use Rattle.std.specs.Prelude.{None, Some}
use Rattle.flt_c_headers.specs.Reading.IsAnswered.{barred}
use Rattle.flt_c_headers.proofs.Linking.{answered_by}
use Rattle.flt_c_headers.proofs.answer.ask.Goals as goal

pub returns-in-None : goal.returns-in-None
returns-in-None g c = barred c.requires c.in-None.ensures

pub returns-in-None-2 : goal.returns-in-None-2
returns-in-None-2 g c =
    answered_by (g.I.HeaderFiles.gives c.args.inputs.now) c.args.name.now c.args.headers.now c.in-Some.text.now None
    c.add_missing.new.self c.add_missing.result c.requires c.in-Some.ensures (rw c.in-None-2.is at c.in_ok-read-in-Some.ensures)
    c.add_missing.ensures.answer c.add_missing.ensures.added

pub returns-in-Some-2 : goal.returns-in-Some-2
returns-in-Some-2 g c =
    answered_by (g.I.HeaderFiles.gives c.args.inputs.now) c.args.name.now c.args.headers.now c.in-Some.text.now
    (Some c.in-Some-2.bytes.items) c.add_found.new.self c.add_found.result c.requires c.in-Some.ensures
    (rw c.in-Some-2.is at c.in_ok-read-in-Some.ensures) c.add_found.ensures.answer c.add_found.ensures.added
