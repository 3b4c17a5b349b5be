use Rattle.std.proofs.Common.{rules}
use Rattle.flt_files.proofs.Ended.{given_of}
use Rattle.flt_files.proofs.named.SystemFilesInputs.read.Goals as goal

pub returns-then-eq : goal.returns-then-eq
returns-then-eq g c =
    let opened : g.S.System.holds (g.S.System.disk c.args.self.now.system.now) c.args.name.now (g.S.Input.Reader.left c.input.result) =
    search rules in
    given_of _ _ _ _ c.args.name.now _ c.input.ensures.failing opened (λ v. v.items) c.read_opened.result c.read_opened.ensures.all
    c.read_opened.ensures.none

pub returns-in-Some : goal.returns-in-Some
returns-in-Some g c =
    given_of _ _ _ _ c.args.name.now _ c.open.ensures.failing c.in-Some.ensures.opened (λ v. v.items) c.read_opened-in-Some.result
    c.read_opened-in-Some.ensures.all c.read_opened-in-Some.ensures.none
