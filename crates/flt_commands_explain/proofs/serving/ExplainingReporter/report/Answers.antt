use Rattle.flt_commands_explain.proofs.NewServers.{reported}
use Rattle.flt_commands_explain.proofs.serving.ExplainingReporter.report.Goals as goal

pub returns : goal.returns
returns c = reported (λ bytes. bytes.items) c.args.uri.now c.args.text.now _ _ c.in_ok-printed.ensures
    (rw c.as_slice.ensures.value at c.as_string.ensures)
