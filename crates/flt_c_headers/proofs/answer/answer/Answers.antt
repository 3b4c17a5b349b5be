use Rattle.flt_c_headers.proofs.Linking.{answered_before}
use Rattle.flt_c_headers.proofs.answer.answer.Goals as goal

pub returns-in-Some : goal.returns-in-Some
returns-in-Some g c =
    answered_before (g.I.HeaderFiles.gives c.args.inputs.now) c.args.name.now c.args.headers.now c.in-Some.known c.in-Some.ensures
