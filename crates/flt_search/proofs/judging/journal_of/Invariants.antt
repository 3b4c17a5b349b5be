use Rattle.std.proofs.Common.{◌≡◌, take}
use Rattle.flt_search.proofs.judging.journal_of.Given as goal

abbrev pub invariant-loop-entry : goal.invariant-loop-entry
invariant-loop-entry l = l.journal ≡ take l.entry-index l.entries
