-- What is wrong by a rule, how to fix it, and what else is said of it: a sentence for each case. This project's own program.
use Rattle.std.specs.Prelude.{[], codes}
use Rattle.flt_rules.specs.declared.rule.Rule.{Rule}
use Rattle.flt_rules.specs.declared.rule.Rule.TheVariants.{R01, R02, R03, R04, R05, R06, R07, R08, R09, R10, R11, R12, R13, R14, R15}
use Rattle.flt_tree.specs.Names.{Text}
use Rattle.flt_explain_advice.specs.Advice.Levels as levels
use Rattle.flt_explain_advice.specs.Advice.Locks as locks
use Rattle.flt_explain_advice.specs.Advice.Places as places
use Rattle.flt_explain_advice.specs.Advice.Sentences.{around, of_callback}
use Rattle.flt_explain_advice.specs.Advice.Statuses as statuses
use Rattle.flt_explain_advice.specs.Advice.Variables as variables
use Rattle.flt_explain_advice.specs.Case.{Circumstances}

abbrev pub title_by : Circumstances → Rule → Text
title_by x R01 = variables.use_title x
title_by x R02 = variables.end_title x
title_by x R03 = variables.overwriting_title x
title_by x R04 = variables.operation_title x
title_by x R05 = variables.end_title x
title_by x R06 = statuses.title x
title_by x R07 = levels.title x
title_by x R08 = places.title x
title_by x R09 = locks.release_title x
title_by x R10 = locks.end_title x
title_by x R11 = locks.twice_title x
title_by x R12 = locks.meeting_title x
title_by x R13 = variables.handing_title x
title_by x R14 = codes "the certificate doesn't cover this point"
title_by x R15 = of_callback x (codes " ends without a status")

-- what is wrong
unfoldable pub title : Circumstances → Text
title x = title_by x x.finding.rule

abbrev pub help_by : Circumstances → Rule → Text
help_by x R01 = variables.missing_help x (variables.context_remedy x)
help_by x R02 = variables.release_help x
help_by x R03 = variables.overwriting_help x
help_by x R04 = variables.missing_help x (variables.operation_remedy x)
help_by x R05 = variables.completion_help x
help_by x R06 = statuses.help x
help_by x R07 = levels.help x
help_by x R08 = places.help x
help_by x R09 = locks.release_help x
help_by x R10 = locks.end_help x
help_by x R11 = locks.twice_help x
help_by x R12 = locks.meeting_help x
help_by x R13 = variables.missing_help x variables.handing_remedy
help_by x R14 = codes "let `fltstack analyse` write the certificate"
help_by x R15 = codes "end the callback with `return` and a status, on this path too"

-- how to fix it
unfoldable pub help : Circumstances → Text
help x = help_by x x.finding.rule
