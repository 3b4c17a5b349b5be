use Rattle.std.proofs.Common.{◌≡◌, ◌+◌, length}
use Rattle.std.specs.Prelude.{not}
use Rattle.std.specs.List.{prefix_len}
use Rattle.flt_c_headers.specs.Reading.{is_line_end}
use Rattle.flt_c_headers.proofs.linked.line_length.Given as goal

abbrev pub invariant-loop-rest : goal.invariant-loop-rest
invariant-loop-rest l =
    (prefix_len (λ t. not (is_line_end t.kind)) l.tokens ≡ l.length + prefix_len (λ t. not (is_line_end t.kind)) l.rest)
    × (l.length + length l.rest ≡ length l.tokens)

abbrev pub decreases-loop-rest : goal.decreases-loop-rest
decreases-loop-rest l = length l.rest
