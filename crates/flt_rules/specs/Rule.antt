-- The rules of the verifier, with their numbers, their names and the words that follow them in a refusal line.
use Rattle.std.specs.Prelude.{ℕ, List, codes}
use Rattle.flt_rules.specs.declared.rule.Rule.{Rule}
use Rattle.flt_rules.specs.declared.rule.Rule.TheVariants.{R01, R02, R03, R04, R05, R06, R07, R08, R09, R10, R11, R12, R13, R14, R15}

-- of several rules that fire at one point the one of the least number is reported
abbrev pub number : Rule → ℕ
number R01 = 1
number R02 = 2
number R03 = 3
number R04 = 4
number R05 = 5
number R06 = 6
number R07 = 7
number R08 = 8
number R09 = 9
number R10 = 10
number R11 = 11
number R12 = 12
number R13 = 13
number R14 = 14
number R15 = 15

abbrev pub text : Rule → List ℕ
text R01 = codes "context not held where used"
text R02 = codes "context held at end"
text R03 = codes "held variable overwritten"
text R04 = codes "operation not held where used"
text R05 = codes "operation held at end"
text R06 = codes "status not legal"
text R07 = codes "call above its level"
text R08 = codes "call not legal at this place"
text R09 = codes "lock not the latest taken"
text R10 = codes "lock kept at end"
text R11 = codes "lock taken twice"
text R12 = codes "lock lists differ where paths meet"
text R13 = codes "hand-over of a variable not held"
text R14 = codes "certificate does not cover"
text R15 = codes "end without status"

-- the number as it is printed
abbrev pub rule_name : Rule → List ℕ
rule_name R01 = codes "R01"
rule_name R02 = codes "R02"
rule_name R03 = codes "R03"
rule_name R04 = codes "R04"
rule_name R05 = codes "R05"
rule_name R06 = codes "R06"
rule_name R07 = codes "R07"
rule_name R08 = codes "R08"
rule_name R09 = codes "R09"
rule_name R10 = codes "R10"
rule_name R11 = codes "R11"
rule_name R12 = codes "R12"
rule_name R13 = codes "R13"
rule_name R14 = codes "R14"
rule_name R15 = codes "R15"
