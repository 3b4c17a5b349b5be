use Rattle.std.proofs.Common.{rules}
use Rattle.flt_files.proofs.Lengths.{kept_of}
use Rattle.flt_files.proofs.named.SystemFilesInputs.read_text.Goals as goal

pub returns-then-eq : goal.returns-then-eq
returns-then-eq g c =
    let opened : g.S.System.holds (g.S.System.disk c.args.self.now.system.now) c.args.name.now (g.S.Input.Reader.left c.input.result) =
    search rules in
    kept_of _ _ _ _ c.args.name.now c.input.ensures.failing (λ v. v.items) _ opened c.read_opened_text.result
    c.read_opened_text.ensures.all c.read_opened_text.ensures.none

pub returns-in-Some : goal.returns-in-Some
returns-in-Some g c =
    kept_of _ _ _ _ c.args.name.now c.open.ensures.failing (λ v. v.items) _ c.in-Some.ensures.opened c.read_opened_text-in-Some.result
    c.read_opened_text-in-Some.ensures.all c.read_opened_text-in-Some.ensures.none
