use Rattle.std.proofs.Common.{take}
use Rattle.flt_explain_texts.specs.Reports.{texts_of}
use Rattle.flt_model.specs.Program.{filters_of}
use Rattle.flt_explain_outcomes.specs.Parsed.{AreParsed}
use Rattle.flt_commands_explain.proofs.html.ParsedTexts.of.Given as goal

abbrev pub invariant-loop-source : goal.invariant-loop-source
invariant-loop-source l = AreParsed (texts_of (take l.source-index l.sources)) (filters_of l.parsed.trees)
