use Rattle.std.proofs.Common.{◌≡◌, drop}
use Rattle.flt_explain.specs.Sets.{after_of}
use Rattle.flt_explain.proofs.sets.Sets.keep_empty.Given as goal

abbrev pub invariant-loop-subject : goal.invariant-loop-subject
invariant-loop-subject l =
    after_of l.before l.instruction l.granted (drop l.subject-index l.subjects) l.self
    ≡ after_of l.before l.instruction l.granted l.subjects l.initial.self
