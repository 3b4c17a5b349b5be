use Rattle.std.proofs.Common.{take}
use Rattle.flt_commands_explain.specs.Html.{AreDrawn}
use Rattle.flt_commands_explain.proofs.html.pictures_of.Given as goal

abbrev pub invariant-loop-one : goal.invariant-loop-one
invariant-loop-one l = AreDrawn l.parsed.trees (take l.one-index l.noted) l.pictures
