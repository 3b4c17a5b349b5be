use Rattle.flt_replay_course.proofs.Leading.{Made}
use Rattle.flt_replay_course.proofs.entries.go_locally.Given as goal

abbrev pub invariant-loop-made : goal.invariant-loop-made
invariant-loop-made l = Made l.made l.fn.world l.a l.world
