use Rattle.std.proofs.Common.{refl}
use Rattle.flt_commands_explain.proofs.ServedFile.{printed_of}
use Rattle.flt_commands_explain.proofs.serving.printed.Goals as goal

pub returns-in-Ok : goal.returns-in-Ok
returns-in-Ok c =
    printed_of c.args.file.now _ _ _ _ _ c.requires c.as_slice.ensures.value refl c.as_slice-2.ensures.value
    (c.in_ok-source_file.ensures (λ name. name) refl) (rw c.asking.ensures.look at c.in-Ok.ensures.print)
