use Rattle.std.proofs.Common.{◌≡◌, ◌∙◌, sym, Some, rules}
use Rattle.flt_files.proofs.ButOne.{but_of}
use Rattle.flt_files.specs.Inputs.{gives_text}
use Rattle.flt_files.proofs.texts.TextsInputs.read_pieces.Goals as goal

pub returns : goal.returns
returns g c =
    let gives = g.I.Inputs.gives c.args.self.now.inputs.now in
    let whole : c.push.new.self ≡ c.in-Some.text.items = search rules in
    let text : gives_text gives c.args.name.now (Some c.in-Some.text.items) = rw c.in-Some.is at c.in_ok-text.ensures in
    rw whole (but_of gives c.args.name.now c.args.self.now.whole _ (sym c.if-is_whole.false ∙ c.is_whole.ensures) _ text)
