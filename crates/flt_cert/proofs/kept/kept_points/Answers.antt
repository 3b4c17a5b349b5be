use Rattle.flt_cert.proofs.Counted.{all_kept}
use Rattle.flt_cert.proofs.kept.kept_points.Goals as goal

pub returns-clause-kept : goal.returns-clause-kept
returns-clause-kept c =
    all_kept c.args.graph.now c.args.callback c.edges_in-edges.result c.joined_points-kept.result c.keep_repeats.new.kept
    c.edges_in-edges.ensures.counts c.joined_points-kept.ensures.joined c.keep_repeats.ensures.kept c.keep_repeats.ensures.count
