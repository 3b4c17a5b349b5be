use Rattle.std.proofs.Common.{◌≡◌, ◌∙◌, Err, arith, rules}
use Rattle.flt_commands_explain.proofs.InTurn.{lines_cut, more_sent, one_more_told}
use Rattle.flt_commands_explain.proofs.in_turn.lines_in_turn.Goals as goal

pub loop-source-preserved : goal.loop-source-preserved
loop-source-preserved g c =
    let more = c.in_ok-put_text.ensures.text in
    record {
      told = one_more_told c.args.sources.now c.loop-source.source-index _
          (omega (arith, c.loop-source-test.true)) c.args.style c.args.options _ _ _ _
          c.loop-source.invariant.told (rw c.source-item.is at more);
      sent = more_sent _ _ _ _ _ _ _ _ c.loop-source.invariant.sent more;
      fine = c.in_ok-put_text.ensures.fine ∙ c.loop-source.invariant.fine;
    }

pub returns-in_err-put_text-clause-memory : goal.returns-in_err-put_text-clause-memory
returns-in_err-put_text-clause-memory g c =
    let fails : c.from_residual.result ≡ Err c.in_err-put_text.field-0.0 = search rules in
    rw fails (λ short. lines_cut g.O.Sink.taken c.args.style c.args.options c.args.sources.now c.loop-source.source-index
    c.loop-source.told _ _ _ c.loop-source.invariant.told c.loop-source.invariant.sent (c.in_err-put_text.ensures.memory short))
