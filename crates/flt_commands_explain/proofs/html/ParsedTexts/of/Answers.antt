use Rattle.flt_explain_outcomes.specs.Parsed.AreParsed.{none}
use Rattle.flt_commands_explain.proofs.html.ParsedTexts.of.Goals as goal

pub loop-source-init : goal.loop-source-init
loop-source-init c = rw c.new-3.ensures none
