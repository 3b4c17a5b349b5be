use Rattle.flt_commands_explain.proofs.FoundFiles.{nothing_given}
use Rattle.flt_commands_explain.proofs.annotated.found_in.Goals as goal

pub returns-in_default-clause-missing : goal.returns-in_default-clause-missing
returns-in_default-clause-missing g c =
    nothing_given c.args.all (g.I.Inputs.gives c.args.inputs.now) c.args.name.now (rw c.in_default.is at c.in_ok-file.ensures)
