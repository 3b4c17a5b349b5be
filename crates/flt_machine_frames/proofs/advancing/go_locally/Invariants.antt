use Rattle.flt_tree.specs.declared.filter.Filter.{Filter}
use Rattle.flt_machine_frames.proofs.Ways.{IsOnWay}
use Rattle.flt_machine_frames.proofs.advancing.go_locally.Given as goal
use Rattle.flt_machine_frames.specs.Loading.{IsLoaded}

abbrev pub invariant-loop-steps : goal.invariant-loop-steps
invariant-loop-steps l = (f : Filter) → IsLoaded f l.graph → IsOnWay f.callbacks l.frame l.steps l.after
