use Rattle.std.proofs.Common.{map}
use Rattle.flt_c_functions.proofs.Reading.{read_by}
use Rattle.flt_c_functions.proofs.source.read.Goals as goal

pub returns-in-Ok : goal.returns-in-Ok
returns-in-Ok g c =
    read_by (g.I.HeaderFiles.gives c.args.inputs.now) (map (λ folder. folder.now) c.args.folders.now) (map (λ line. line.items) c.args.lines.now)
    (record { texts = c.args.spellings.now; headers = c.args.headers.now }) c.args.name.now c.args.file.now c.in-Ok.tokens.items
    (record { texts = c.linked.new.spellings; headers = c.linked.new.headers }) _ c.expand_in_language.result
    (rw c.in-Ok.is at c.in_ok-excess.ensures) c.expand_in_language.ensures
