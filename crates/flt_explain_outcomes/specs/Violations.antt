-- What a broken rule leads to: the violations that it prevents. This project's own definitions.
use Rattle.std.specs.Prelude.{List, [], ◌∷◌}
use Rattle.flt_rules.specs.declared.rule.Rule.{Rule}
use Rattle.flt_rules.specs.declared.rule.Rule.TheVariants.{R01, R02, R03, R04, R05, R06, R07, R08, R09, R10, R11, R12, R13, R14, R15}
use Rattle.flt_model.specs.declared.verdict.Violation.{Violation}
use Rattle.flt_model.specs.declared.verdict.Violation.TheVariants.{V1, V2, V3, V4, V5, V6, V7, V8}

-- what a run can break where a callback breaks a rule
abbrev pub violations_of : Rule → List Violation
violations_of R01 = V1 ∷ []
violations_of R02 = V2 ∷ []
violations_of R03 = V2 ∷ V4 ∷ []
violations_of R04 = V1 ∷ V3 ∷ []
violations_of R05 = V4 ∷ []
violations_of R06 = V3 ∷ V4 ∷ V5 ∷ []
violations_of R07 = V6 ∷ []
violations_of R08 = V8 ∷ []
violations_of R09 = V7 ∷ []
violations_of R10 = V7 ∷ []
violations_of R11 = V7 ∷ []
violations_of R12 = V7 ∷ []
violations_of R13 = V1 ∷ []
violations_of R14 = []
violations_of R15 = V5 ∷ []
