use Rattle.std.proofs.Common.{◌≡◌, length, map}
use Rattle.flt_print.specs.Vocabulary.{word_for}
use Rattle.flt_print.proofs.vocabulary.word_for.Given as goal

abbrev pub invariant-loop-table : goal.invariant-loop-table
invariant-loop-table l =
    word_for l.kind (map (λ e. (e.0.now, e.1)) l.initial.table) ≡ word_for l.kind (map (λ e. (e.0.now, e.1)) l.table)

abbrev pub decreases-loop-table : goal.decreases-loop-table
decreases-loop-table l = length l.table
