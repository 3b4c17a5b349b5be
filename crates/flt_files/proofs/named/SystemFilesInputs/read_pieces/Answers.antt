use Rattle.std.proofs.Common.{rules}
use Rattle.flt_files.proofs.Ended.{given_as}
use Rattle.flt_files.proofs.named.SystemFilesInputs.read_pieces.Goals as goal

pub returns-then-eq : goal.returns-then-eq
returns-then-eq g c =
    let opened : g.S.System.holds (g.S.System.disk c.args.self.now.system.now) c.args.name.now (g.S.Input.Reader.left c.input.result) =
    search rules in
    given_as _ _ _ _ c.args.name.now _ c.input.ensures.failing opened c.read_opened_pieces.result c.read_opened_pieces.ensures.all
    c.read_opened_pieces.ensures.none

pub returns-in-Some : goal.returns-in-Some
returns-in-Some g c =
    given_as _ _ _ _ c.args.name.now _ c.open.ensures.failing c.in-Some.ensures.opened c.read_opened_pieces-in-Some.result
    c.read_opened_pieces-in-Some.ensures.all c.read_opened_pieces-in-Some.ensures.none
