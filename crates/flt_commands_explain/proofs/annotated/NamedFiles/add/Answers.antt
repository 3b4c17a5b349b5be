use Rattle.std.proofs.Common.{refl}
use Rattle.flt_commands_explain.proofs.FoundFiles.{found_more, unfound_more}
use Rattle.flt_commands_explain.proofs.annotated.NamedFiles.add.Goals as goal

pub returns-in_ok-push-in-Ok : goal.returns-in_ok-push-in-Ok
returns-in_ok-push-in-Ok g c before are used =
    found_more _ _ before c.args.name.now c.args.self.now _ are c.in-Ok.file (rw c.in-Ok.is at c.in_ok-file.ensures.name)
    (rw c.in-Ok.is at c.in_ok-file.ensures.found) (rw c.in-Ok.is at c.in_ok-file.ensures.own)
    (rw (c.in-Ok.is, used) at c.in_ok-file.ensures.once) c.in_ok-push-in-Ok.ensures.items refl

pub returns-in_ok-push-in-Err : goal.returns-in_ok-push-in-Err
returns-in_ok-push-in-Err g c before are used =
    unfound_more _ _ before c.args.name.now c.args.self.now _ are c.in_ok-file-in-Err.file c.in_ok-file-in-Err.ensures
    (rw (c.in-Err.is, used) at c.in_ok-file.ensures.missing) refl c.in_ok-push-in-Err.ensures.items
