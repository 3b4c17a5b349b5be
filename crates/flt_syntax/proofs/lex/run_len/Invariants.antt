use Rattle.std.proofs.Common.{◌≡◌, ◌-◌, ◌+◌, ◌≤◌, length}
use Rattle.std.specs.List.{prefix_len}
use Rattle.flt_tree.specs.Names.{is_word}
use Rattle.flt_syntax.proofs.lex.run_len.Given as goal

abbrev pub invariant-loop-rest : goal.invariant-loop-rest
invariant-loop-rest l =
    (prefix_len is_word l.z ≡ length l.z - length l.rest + prefix_len is_word l.rest) × (length l.rest ≤ length l.z)

abbrev pub decreases-loop-rest : goal.decreases-loop-rest
decreases-loop-rest l = length l.rest

abbrev pub invariant-loop-rest-2 : goal.invariant-loop-rest-2
invariant-loop-rest-2 l =
    (prefix_len is_word l.z ≡ length l.z - length l.rest + prefix_len is_word l.rest) × (length l.rest ≤ length l.z)

abbrev pub decreases-loop-rest-2 : goal.decreases-loop-rest-2
decreases-loop-rest-2 l = length l.rest
