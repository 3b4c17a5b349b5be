use Rattle.std.proofs.Common.{arith, ap, sym, ◌∙◌}
use Rattle.flt_explain_timeline.proofs.Cuts.{last_row, one_more}
use Rattle.flt_explain_timeline.specs.Rows.{rows_of}
use Rattle.flt_explain_timeline.proofs.rows.rows_of.Goals as goal

pub loop-next-preserved : goal.loop-next-preserved
loop-next-preserved c = record {
  covered = c.in_ok-row.ensures.covers c.loop-next.invariant.covered;
  some = c.in_ok-row.ensures.some;
  ends = omega (arith, c.in_ok-row.ensures.ends);
  exact = one_more _ _ _ _ _ c.in-Some.rest.now c.loop-next.next-index c.loop-next.last _ (omega arith) c.in_ok-row.ensures.exact
      c.loop-next.invariant.exact;
}

pub returns-clause-exact : goal.returns-clause-exact
returns-clause-exact c =
    c.in_ok-push.ensures.ok
    ∙ last_row c.loop-next.rows _ c.loop-next.row c.in-Some.rest.now c.loop-next.next-index c.loop-next.last c.loop-next.invariant.exact
    (omega arith)
    ∙ ap rows_of (sym c.in-Some.ensures.cases.0)
