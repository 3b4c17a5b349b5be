use Rattle.std.proofs.Common.{◌≡◌, ◌+◌, ◌≤◌, length}
use Rattle.flt_explain_hints.specs.Names.{occurrences}
use Rattle.flt_explain_hints.proofs.new_name.occurrences.Given as goal

abbrev pub invariant-loop-rest : goal.invariant-loop-rest
invariant-loop-rest l =
    record {
      same : l.found + occurrences l.word l.rest ≡ occurrences l.word l.text;
      few : l.found + length l.rest ≤ length l.text;
    }

abbrev pub decreases-loop-rest : goal.decreases-loop-rest
decreases-loop-rest l = length l.rest
