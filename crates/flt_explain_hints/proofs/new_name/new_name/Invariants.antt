use Rattle.flt_explain_hints.specs.Names.{occurrences}
use Rattle.flt_explain_hints.proofs.Rare.{IsRare}
use Rattle.flt_explain_hints.proofs.new_name.new_name.Given as goal

abbrev pub invariant-loop-alloc : goal.invariant-loop-alloc
invariant-loop-alloc l = IsRare l.text l.name.items

abbrev pub decreases-loop-alloc : goal.decreases-loop-alloc
decreases-loop-alloc l = occurrences l.name.items l.text
