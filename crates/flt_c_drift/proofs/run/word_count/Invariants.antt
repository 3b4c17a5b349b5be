use Rattle.std.proofs.Common.{◌≡◌, ◌+◌, drop}
use Rattle.flt_c_drift.specs.Runs.{run_count}
use Rattle.flt_c_drift.specs.declared.run.Run.TheVariants as r
use Rattle.flt_c_drift.proofs.run.word_count.Given as goal

abbrev pub invariant-loop-letter : goal.invariant-loop-letter
invariant-loop-letter l =
    (l.n ≡ l.letter-index) × (l.n + run_count (r.Word l.part) (drop l.letter-index l.letters) ≡ run_count (r.Word l.part) l.letters)
