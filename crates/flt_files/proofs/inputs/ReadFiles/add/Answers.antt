use Rattle.flt_files.proofs.SomeRead.{missing_more, read_more}
use Rattle.flt_files.proofs.inputs.ReadFiles.add.Goals as goal

pub returns-in_ok-push-in-Ok-2 : goal.returns-in_ok-push-in-Ok-2
returns-in_ok-push-in-Ok-2 g c before are used =
    read_more _ before c.args.name c.args.self.now.names.items c.args.self.now.texts.items c.args.self.now.unread.items are c.in-Ok.text _ _
    (rw c.in-Ok.is at c.in_ok-text.ensures.given) (rw (c.in-Ok.is, used) at c.in_ok-text.ensures.once) c.in_ok-push-in-Ok.ensures.items
    c.in_ok-push-in-Ok-2.ensures.items

pub returns-in_ok-push-in-Err : goal.returns-in_ok-push-in-Err
returns-in_ok-push-in-Err g c before are used =
    missing_more _ before c.args.name c.args.self.now.names.items c.args.self.now.texts.items c.args.self.now.unread.items are
    c.in_ok-file-in-Err.file _ c.in_ok-file-in-Err.ensures (rw (c.in-Err.is, used) at c.in_ok-text.ensures.missing)
    c.in_ok-push-in-Err.ensures.items
