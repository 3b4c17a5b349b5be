use Rattle.flt_commands_explain.specs.Html as spec
use Rattle.flt_commands_explain.proofs.html.pictures_of.Goals as goal

pub loop-one-init : goal.loop-one-init
loop-one-init c = rw c.new-pictures.ensures spec.no_note
