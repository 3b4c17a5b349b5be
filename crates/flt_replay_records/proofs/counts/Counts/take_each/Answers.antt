use Rattle.std.proofs.Common.{◌≡◌, ◌<◌, ◌≤◌, ◌+◌, ℕ, get_or, take, arith}
use Rattle.std.proofs.lemmas.Bool.Decides.{nat_tests}
use Rattle.std.proofs.lemmas.List.Sums.{sum_by_more, sum_by-take-le}
use Rattle.flt_model.specs.Trace.{one_if}
use Rattle.flt_replay_records.specs.Counts.{count, occurs}
use Rattle.flt_replay_records.proofs.counts.Counts.take_each.Goals as goal

pub loop-number-preserved : goal.loop-number-preserved
unfolding one_if
loop-number-preserved c = λ fits n.
    let xs = c.args.numbers.now in
    let i = c.loop-number.number-index in
    let x = get_or xs i 0 in
    let step : (m : ℕ) → occurs m (take (i + 1) xs) ≡ occurs m (take i xs) + one_if x m =
    λ m. sum_by_more (λ (k : ℕ). one_if k m) xs i 0 c.loop-number-test.true in
    let within : occurs x (take (i + 1) xs) ≤ occurs x xs = sum_by-take-le (λ (k : ℕ). one_if k x) xs (i + 1) in
    let before : (m : ℕ) → count c.args.self.now m ≡ count c.loop-number.self m + occurs m (take i xs) = c.loop-number.invariant fits in
    let one : one_if x x ≡ 1 = grind (arith, nat_tests) in
    let some : 0 < count c.loop-number.self x = omega (arith, step x, within, before x, fits x) in
    omega (arith, step n, before n, c.take.ensures some n)
