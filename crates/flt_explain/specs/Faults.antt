-- All that is wrong at a point in a state: the rules that it breaks, each with what it is about. This project's own definitions.
use Rattle.std.specs.Prelude.{ℕ, List, [], ◌∷◌, ◌++◌, Option, Some, None, if◌then◌else◌, map, filter}
use Rattle.flt_rules.specs.declared.place.Place.{Place}
use Rattle.flt_rules.specs.declared.rule.Rule.{Rule}
use Rattle.flt_rules.specs.declared.rule.Rule.TheVariants.{R06, R15}
use Rattle.flt_graph.specs.Graph.{instruction_at}
use Rattle.flt_graph.specs.declared.graph.Graph.{Graph}
use Rattle.flt_graph.specs.declared.instruction.Instruction.{Instruction}
use Rattle.flt_abs.specs.Breaks.{breaks, rules}
use Rattle.flt_abs.specs.Setting.{setting_of}
use Rattle.flt_abs.specs.State.{State}
use Rattle.flt_abs.specs.declared.setting.Setting.{Setting}
use Rattle.flt_explain.specs.About.{is_about}
use Rattle.flt_explain.specs.Subjects.{operands}
use Rattle.flt_explain.specs.declared.finding.Fault.{Fault}
use Rattle.flt_explain.specs.declared.finding.Subject.{Subject}
use Rattle.flt_explain.specs.declared.finding.Subject.TheVariants.{Call, Status}

-- what a rule is about where no operand is to blame: the status, or the call
abbrev pub itself : Rule → Subject
itself R06 = Status
itself R15 = Status
itself r = Call

-- that where there is nothing else
abbrev pub or_itself : Rule → List Subject → List Subject
or_itself r [] = itself r ∷ []
or_itself r (u ∷ us) = u ∷ us

abbrev pub fault : Rule → Subject → Fault
fault r u = record { rule = r; subject = u }

-- the operands among these that a broken rule is about
abbrev pub blamed : Place → State → Instruction → Rule → List Subject → List Subject
blamed place x i r = filter (is_about place x i r)

-- the faults by one rule, as far as these operands are told: none, or one for each that is to blame, and one at least
abbrev pub faults_by : Setting → State → Instruction → List Subject → Rule → List Fault
faults_by s x i us r = if breaks s x i r then map (fault r) (or_itself r (blamed s.place x i r us)) else []

-- the faults of a point of a callback in a state by one rule
abbrev pub faults_of : Graph → ℕ → ℕ → State → List Subject → Rule → List Fault
faults_of g callback point x = faults_by (setting_of g callback x) x (instruction_at g callback point)

-- the same by some rules, rule after rule
abbrev pub faults_of_all : Graph → ℕ → ℕ → State → List Subject → List Rule → List Fault
faults_of_all g callback point x us [] = []
faults_of_all g callback point x us (r ∷ rs) = faults_of g callback point x us r ++ faults_of_all g callback point x us rs

-- all that is wrong there
abbrev pub faults_at : Graph → ℕ → ℕ → State → List Fault
faults_at g callback point x = faults_of_all g callback point x operands rules

-- the rule of the first fault
abbrev pub first_rule : List Fault → Option Rule
first_rule [] = None
first_rule (f ∷ fs) = Some f.rule
