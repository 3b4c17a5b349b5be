use Rattle.std.proofs.Common.{arith}
use Rattle.flt_server_frames.proofs.Reading.{body_read, body_cut, body_passed}
use Rattle.flt_server_frames.proofs.frame.read_rest.Goals as goal

pub returns-then-branch-length-clause-frame : goal.returns-then-branch-length-clause-frame
returns-then-branch-length-clause-frame g c had head =
    let passed = c.in_ok-skip.ensures.bytes in
    body_cut _ _ _ c.args.length passed.0 head passed.1 (omega (arith, passed.2, c.if-branch-length.true))
    (c.in_ok-skip.ensures.ended c.if-branch-length.true)

pub returns-then-length-gt-MAX_BODY-clause-frame : goal.returns-then-length-gt-MAX_BODY-clause-frame
returns-then-length-gt-MAX_BODY-clause-frame g c had head =
    let passed = c.in_ok-skip.ensures.bytes in
    body_passed _ _ _ c.args.length head
    (passed.0, passed.1, omega (arith, passed.2, c.in_ok-skip.ensures.few, c.if-branch-length.false)) c.if-length-gt-MAX_BODY.true

pub returns-in-Some-clause-frame : goal.returns-in-Some-clause-frame
returns-in-Some-clause-frame g c had head =
    let taken = rw c.in-Some.is at c.in_ok-body.ensures.bytes in
    let count = rw c.in-Some.is at c.in_ok-body.ensures.count in
    (omega (arith, count, c.if-length-gt-MAX_BODY.false), body_read _ _ _ c.args.length c.in-Some.body.items head taken count)

pub returns-in-None-clause-frame : goal.returns-in-None-clause-frame
returns-in-None-clause-frame g c had head =
    let found = rw c.in-None.is at c.in_ok-body.ensures.cut in
    body_cut _ _ _ c.args.length found.0 head found.1 found.2 found.3
