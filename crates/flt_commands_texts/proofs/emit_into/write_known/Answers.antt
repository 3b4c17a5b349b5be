use Rattle.flt_commands_texts.proofs.Putting.{put_known}
use Rattle.flt_commands_texts.proofs.emit_into.write_known.Goals as goal

pub returns-clause-put : goal.returns-clause-put
returns-clause-put g c =
    put_known _ _ _ _ _ c.args.tree.now.filter c.args.listed.now
    (record { names = c.in_ok-names.names; outcome = c.in_ok-outcome.outcome }) _ _ _
    c.in_ok-parts.ensures.source c.in_ok-parts.ensures.read c.in_ok-parts.ensures.header c.in_ok-parts.ensures.installation
    (rw c.as_slice.ensures at c.in_ok-names.ensures) c.in_ok-outcome.ensures.done
