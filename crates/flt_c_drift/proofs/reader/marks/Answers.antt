use Rattle.std.proofs.Common.{◌≡◌, ◌≤◌, ap, arith, drop, length, length-drop, take, ◌∙◌}
use Rattle.flt_c_drift.proofs.OverRuns.{run_on}
use Rattle.flt_c_drift.specs.Reading.{state_in}
use Rattle.flt_c_drift.specs.Runs.{run_count, run_in, run_taken}
use Rattle.flt_c_drift.proofs.reader.marks.Goals as goal

pub loop-at-preserved : goal.loop-at-preserved
loop-at-preserved c =
    let letters = c.args.letters.now in
    let at = c.loop-at.at in
    let s = state_in c.loop-at.reader in
    let n = c.run_count-n.result in
    let rest : c.after-rest.result.now ≡ drop at letters = c.after-rest.ensures in
    let count : n ≡ run_count (run_in s) (drop at letters) =
    c.run_count-n.ensures.value
    ∙ (ap (λ run. run_count run c.after-rest.result.now) c.run-run.ensures ∙ ap (run_count (run_in s)) rest) in
    let taken : state_in c.take_run.new.self ≡ run_taken (run_in s) (take n (drop at letters)) s =
    c.in_ok-take_run.ensures
    ∙ (ap (λ run. run_taken run c.before-else-n-eq0.result.now s) c.run-run.ensures
    ∙ ap (λ z. run_taken (run_in s) z s) (c.before-else-n-eq0.ensures ∙ ap (take n) rest)) in
    let within : n ≤ length c.after-rest.result.now = c.run_count-n.ensures.within in
    let left : length c.after-rest.result.now ≡ length (drop at letters) = ap length rest in
    let all = length-drop at letters in
    let before : at ≤ length letters = c.loop-at.invariant.0 in (
      omega (arith, before, within, left, all),
      run_on letters at n s (state_in c.take_run.new.self) before c.loop-at.invariant.1 c.if-n-eq0.false count taken,
    )
