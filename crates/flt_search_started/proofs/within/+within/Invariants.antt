use Rattle.std.proofs.Common.{◌≡◌, drop}
use Rattle.flt_starts.specs.Closed.{body_within}
use Rattle.flt_search_started.specs.Marks.{is_marked}
use Rattle.flt_search_started.proofs.within.+within.Given as goal

-- so far all that is asked for is marked
abbrev pub invariant-body_within-loop-statement : goal.invariant-body_within-loop-statement
invariant-body_within-loop-statement l =
    body_within l.callbacks (is_marked l.marks) l.place l.body
    ≡ body_within l.callbacks (is_marked l.marks) l.place (drop l.statement-index l.body)
