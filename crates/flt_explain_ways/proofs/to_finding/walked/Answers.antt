use Rattle.std.proofs.Common.{sym, subst, ◌∙◌}
use Rattle.flt_abs.specs.Entry.{entry}
use Rattle.flt_abs.specs.State.{Means}
use Rattle.flt_explain_origins.specs.Ways.{end_of}
use Rattle.flt_explain_ways.proofs.to_finding.walked.Goals as goal

pub returns : goal.returns
returns c = record {
  starts = subst (λ p. Means (entry p) c.args.path.start) c.place.ensures (c.is_entry.ensures c.if-not-is_entry.false);
  leads = sym (λ k. end_of c.args.graph.now c.args.callback c.args.clean 0 (c.in_ok-copied.ensures k) (c.as_slice.ensures k))
      ∙ c.in_ok-end.ensures;
}
