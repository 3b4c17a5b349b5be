use Rattle.std.proofs.Common.{◌+◌, ◌-◌, length}
use Rattle.flt_explain_origins.specs.Search.{IsSearched, open_in}
use Rattle.flt_explain_origins.proofs.path.reach.Given as goal

abbrev pub invariant-loop-number : goal.invariant-loop-number
invariant-loop-number l = IsSearched l.graph l.callback l.fact l.point l.search l.number

-- how often points may be reached still, with those that aren't followed yet
abbrev pub decreases-loop-number : goal.decreases-loop-number
decreases-loop-number l = open_in l.search.seen + (length l.search.found - l.number)
