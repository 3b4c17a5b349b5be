use Rattle.std.proofs.Common.{◌≡◌, ◌++◌, map, drop}
use Rattle.flt_c_drift.proofs.run.put_bytes.Given as goal

abbrev pub invariant-loop-letter : goal.invariant-loop-letter
invariant-loop-letter l =
    l.out.items ++ map (λ letter. letter.byte) (drop l.letter-index l.letters)
    ≡ l.initial.out.items ++ map (λ letter. letter.byte) l.letters
