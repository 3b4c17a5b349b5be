use Rattle.std.proofs.Common.{◌≡◌, ◌+◌, length}
use Rattle.std.specs.List.{prefix_len}
use Rattle.flt_c_tokens.specs.Bytes.{is_word}
use Rattle.flt_c_tokens.proofs.word.run_length.Given as goal

abbrev pub invariant-loop-rest : goal.invariant-loop-rest
invariant-loop-rest l =
    (prefix_len is_word l.z ≡ l.length + prefix_len is_word l.rest) × (l.length + length l.rest ≡ length l.z)

abbrev pub decreases-loop-rest : goal.decreases-loop-rest
decreases-loop-rest l = length l.rest
