use Rattle.std.proofs.Common.{◌≡◌, ◌++◌, ap, take, true, ◌∙◌}
use Rattle.flt_c.proofs.OverRuns.{lay_on}
use Rattle.flt_c.specs.InPlace.{laid}
use Rattle.flt_c.proofs.laying.laid.Goals as goal

pub loop-rest-preserved-then-run-gt0 : goal.loop-rest-preserved-then-run-gt0
loop-rest-preserved-then-run-gt0 c =
    let out = c.loop-rest.out.items in
    let z = c.loop-rest.rest.now in
    let n = c.run_in-run.result in
    let lines = c.loop-rest.lines.now in
    let more : c.extend_from_slice.new.self.items ≡ out ++ take n z =
    c.in_ok-extend_from_slice.ensures.items ∙ ap (λ z. out ++ z) c.before-then-run-gt0.ensures in
    ap (λ o. o ++ laid c.loop-rest.last c.loop-rest.fresh c.after-rest.result.now lines) more
    ∙ (ap (λ r. (out ++ take n z) ++ laid c.loop-rest.last c.loop-rest.fresh r lines) c.after-rest.ensures
    ∙ lay_on out (laid 0 true c.args.bytes.now c.args.lines.now) z c.loop-rest.fresh n c.loop-rest.last lines
    c.loop-rest.invariant c.if-run-gt0.true c.run_in-run.ensures.value)
