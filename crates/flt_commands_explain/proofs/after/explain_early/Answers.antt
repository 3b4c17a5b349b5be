use Rattle.std.proofs.Common.{◌≡◌, Err, rules}
use Rattle.flt_commands_explain.proofs.AfterDrifts.{cut_always, drifts_sent, early_sent}
use Rattle.flt_commands_explain.specs.Explain as explain
use Rattle.flt_commands_explain.proofs.after.explain_early.Goals as goal

pub returns-clause-told : goal.returns-clause-told
returns-clause-told g c = record {
  own = c.in_ok-own.own;
  told = record {
    told = c.in_ok-own.ensures.told;
    noted = c.in_ok-own.ensures.noted;
    notes = c.in_ok-own.ensures.notes;
    print = c.in_ok-own.ensures.print;
  };
  after = rw (c.in_ok-first.ensures, c.drift_status-worth.ensures) at c.in_ok-told.ensures.after;
}

pub returns-clause-sent : goal.returns-clause-sent
returns-clause-sent g c =
    early_sent _ _ _ c.in_ok-first.first.items c.in_ok-own.own c.in_ok-told.told
    (rw (← c.in_ok-first.ensures) at
    (drifts_sent c.args.asked.form c.args.drifted.now _ _
    (rw (c.as_slice.ensures.value, c.in_ok-first.ensures) at c.in_ok-put_let_out.ensures.ok)))
    c.in_ok-own.ensures.sent c.in_ok-told.ensures.after.output
    (rw (c.len-before.ensures, c.min.ensures, c.len.ensures, c.in_ok-first.first.ok.0, c.in_ok-own.own.explained.output.ok.0) at
    c.in_ok-told.ensures.sent)

pub returns-in_err-own-clause-memory : goal.returns-in_err-own-clause-memory
returns-in_err-own-clause-memory g c =
    let fails : c.from_residual-in_err-own.result ≡ Err c.in_err-own.field-0.0 = search rules in
    rw fails
    (λ short. explain.drifts_out _ (drifts_sent c.args.asked.form c.args.drifted.now _ _
    (rw (c.as_slice.ensures.value, c.in_ok-first.ensures) at c.in_ok-put_let_out.ensures.ok))
    (c.in_err-own.ensures.memory short))

pub returns-in_err-told-clause-memory : goal.returns-in_err-told-clause-memory
returns-in_err-told-clause-memory g c =
    cut_always _
    (explain.drifts_out _ (drifts_sent c.args.asked.form c.args.drifted.now _ _
    (rw (c.as_slice.ensures.value, c.in_ok-first.ensures) at c.in_ok-put_let_out.ensures.ok)) c.in_ok-own.ensures.cut)

pub returns-clause-cut : goal.returns-clause-cut
returns-clause-cut g c =
    explain.drifts_out _ (drifts_sent c.args.asked.form c.args.drifted.now _ _
    (rw (c.as_slice.ensures.value, c.in_ok-first.ensures) at c.in_ok-put_let_out.ensures.ok)) c.in_ok-own.ensures.cut
