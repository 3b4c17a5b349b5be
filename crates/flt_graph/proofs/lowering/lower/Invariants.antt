use Rattle.std.proofs.Common.{◌≡◌, map, take}
use Rattle.flt_tree.specs.declared.filter.Lock.{Lock}
use Rattle.flt_graph.specs.Lowering.{AreGraphsOf}
use Rattle.flt_graph.proofs.lowering.lower.Given as goal

abbrev pub invariant-loop-lock : goal.invariant-loop-lock
invariant-loop-lock l = l.locks ≡ map (λ (x : Lock). x.kind) (take l.lock-index l.tree.filter.locks)

abbrev pub invariant-loop-callback : goal.invariant-loop-callback
invariant-loop-callback l =
    (l.locks ≡ map (λ (x : Lock). x.kind) l.tree.filter.locks) × AreGraphsOf l.callbacks (take l.callback-index l.callbacks) l.graphs
