use Rattle.std.proofs.Common.{◌<◌, ◌+◌, refl, subst, arith}
use Rattle.std.proofs.lemmas.List.{get_or-replicate}
use Rattle.flt_graph.specs.Graph.{points_at}
use Rattle.flt_graph.specs.declared.instruction.Instruction.{Instruction}
use Rattle.flt_cert.specs.Counts.{AreCounts, edges_so_far}
use Rattle.flt_graph.specs.Kept.{edges_of}
use Rattle.flt_cert.proofs.Counted.{counted_more, counted_all}
use Rattle.flt_cert.proofs.kept.edges_in.Goals as goal

pub loop-point-init : goal.loop-point-init
loop-point-init c = record { long = refl; counts = λ p h. get_or-replicate 512 p 0 0 h }

pub loop-point-preserved : goal.loop-point-preserved
loop-point-preserved c =
    let g = c.args.graph.now in
    let n = c.loop-point.point in
    let within : n < points_at g c.args.callback = omega arith in
    let counts = c.count_edges.ensures (edges_so_far g c.args.callback n) c.loop-point.invariant.counts in
    record {
      long = omega arith;
      counts = counted_more c.count_edges.new.edges g c.args.callback n within
          (subst (λ (i : Instruction). AreCounts c.count_edges.new.edges (λ p. edges_so_far g c.args.callback n p + edges_of i p))
          c.instruction_ref.ensures counts);
    }

pub returns-clause-counts : goal.returns-clause-counts
returns-clause-counts c =
    counted_all c.loop-point.edges c.args.graph.now c.args.callback c.loop-point.point (omega arith) c.loop-point.invariant.counts
