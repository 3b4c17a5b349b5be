-- Refusals of texts, as they are printed. This project's own format.
use Rattle.std.specs.Prelude.{ℕ, List, ◌++◌, codes}
use Rattle.std.specs.Fmt.{decimal}
use Rattle.flt_rules.specs.Rule.{rule_name, text}
use Rattle.flt_rules.specs.declared.refusal.Refusal.{Refusal}
use Rattle.flt_rules.specs.declared.rule.Rule.{Rule}

-- where a text is refused
abbrev pub place_words : Refusal → List ℕ
place_words f = codes "callback " ++ decimal f.callback ++ codes " point " ++ decimal f.point ++ codes " line " ++ decimal f.line

-- a rule and its words
abbrev pub rule_words : Rule → List ℕ
rule_words r = rule_name r ++ codes " " ++ text r

-- where a text is refused, and by which rule
abbrev pub refusal_words : Refusal → List ℕ
refusal_words f = place_words f ++ codes " " ++ rule_words f.rule

-- the line that says so
abbrev pub refusal_line : Refusal → List ℕ
refusal_line f = codes "refused " ++ refusal_words f
