use Rattle.std.proofs.Common.{◌≡◌, Some}
use Rattle.flt_cert.specs.Format.{state_text}
use Rattle.flt_cert.specs.Reading.{front_of}
use Rattle.flt_cert.specs.Text.{decimal, after}
use Rattle.flt_cert.proofs.FixedWidthLaws.{line_whole}
use Rattle.flt_cert.proofs.fixed_width.fixed_state.Goals as goal

pub returns-clause-spelled : goal.returns-clause-spelled
returns-clause-spelled c =
    let behind : after (decimal c.args.number) c.args.text.now ≡ Some c.in_ok-after_number.field-0.now =
    cc (c.in_ok-after_number.ensures) in
    let split : front_of 23 c.in_ok-after_number.field-0.now ≡ Some (c.in_ok-bytes.bytes.now, c.in_ok-bytes.rest.now) =
    cc (c.in_ok-bytes.ensures.value) in
    line_whole c.args.number c.args.text.now c.in_ok-after_number.field-0.now c.in_ok-bytes.bytes.now c.in_ok-bytes.rest.now
    (state_text c.state_of.result) behind split c.state_of.ensures.spelled
