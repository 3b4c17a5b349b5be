use Rattle.std.proofs.Common.{ap, sym, ◌∙◌}
use Rattle.std.specs.Option.{option_copied}
use Rattle.flt_commands_explain.specs.Html as spec
use Rattle.flt_commands_explain.proofs.MoreDrawn.{picture_more}
use Rattle.flt_commands_explain.proofs.html.add_picture.Goals as goal

pub returns-in_ok-picture-in-Some : goal.returns-in_ok-picture-in-Some
returns-in_ok-picture-in-Some c =
    picture_more _ _ _ _ _ _ c.push.result (sym c.run_of.ensures ∙ ap option_copied c.in-Some.is) c.in_ok-picture-in-Some.ensures
    c.push.ensures.ok

pub returns-in-None : goal.returns-in-None
returns-in-None c = λ notes are. spec.undrawn _ are (sym c.run_of.ensures ∙ ap option_copied c.in-None.is)
