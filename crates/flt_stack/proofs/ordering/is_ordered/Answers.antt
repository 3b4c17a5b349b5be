use Rattle.flt_check.specs.Accepting.{full_of}
use Rattle.flt_stack.proofs.ordering.is_ordered.Goals as goal

pub is_ordered_by_least-requires : goal.is_ordered_by_least-requires
is_ordered_by_least-requires c =
    let law = c.accepted_certificates_fill_up.ensures in
    let g = c.args.graph.now in
    let cert = c.args.cert.now in
    record {
      covered = λ none. none (full_of g cert) (law.certificate g cert c.requires.certificate) (law.covers g cert c.requires.covers);
    }
