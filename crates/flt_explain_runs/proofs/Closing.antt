-- The lines that end reports are quiet.
use Rattle.std.proofs.Common.{◌≡◌, ℕ, true, false, List, [], ◌∷◌, ◌++◌, refl, append_assoc}
use Rattle.std.specs.Prelude.{codes, ◌==◌, if◌then◌else◌, Bool}
use Rattle.std.specs.Fmt.{decimal}
use Rattle.flt_rules.specs.Refusal.{place_words, refusal_line, refusal_words, rule_words}
use Rattle.flt_rules.specs.Rule.{rule_name, text}
use Rattle.flt_rules.specs.declared.refusal.Refusal.{Refusal}
use Rattle.flt_rules.specs.declared.rule.Rule.{Rule}
use Rattle.flt_rules.specs.declared.rule.Rule.TheVariants.{R01, R02, R03, R04, R05, R06, R07, R08, R09, R10, R11, R12, R13, R14, R15}
use Rattle.flt_syntax.specs.declared.fault.FaultKind.{FaultKind}
use Rattle.flt_syntax.specs.declared.fault.FaultKind.TheVariants.{E01, E02, E03, E04, E05, E06, E07, E08}
use Rattle.flt_syntax.specs.declared.fault.SyntaxFault.{SyntaxFault}
use Rattle.flt_explain.specs.declared.finding.Finding.{Finding}
use Rattle.flt_explain_reasons.specs.Notice as notices
use Rattle.flt_explain_reasons.specs.declared.notice.Kind.TheVariants.{Certificate, Journal, Script}
use Rattle.flt_explain_reasons.specs.declared.notice.Notice.{Notice}
use Rattle.flt_explain_reasons.specs.declared.notice.Notice.TheVariants.{Whole, Malformed}
use Rattle.flt_places.specs.declared.files.Files.{Files}
use Rattle.flt_explain_texts.specs.Closing.{fault_closing, fault_in, fault_name, findings_closing, refusal_in, syntax_line}
use Rattle.flt_explain_runs.specs.Quiet.{is_quiet}
use Rattle.flt_explain_runs.specs.Totals.{found_in, summary}
use Rattle.flt_explain_runs.proofs.QuietLines.{Plain, plain_both, plain_decimal, quiet_number}

plain_rule : (r : Rule) → Plain (text r)
plain_rule R01 = record { goes_on = λ rest. refl }
plain_rule R02 = record { goes_on = λ rest. refl }
plain_rule R03 = record { goes_on = λ rest. refl }
plain_rule R04 = record { goes_on = λ rest. refl }
plain_rule R05 = record { goes_on = λ rest. refl }
plain_rule R06 = record { goes_on = λ rest. refl }
plain_rule R07 = record { goes_on = λ rest. refl }
plain_rule R08 = record { goes_on = λ rest. refl }
plain_rule R09 = record { goes_on = λ rest. refl }
plain_rule R10 = record { goes_on = λ rest. refl }
plain_rule R11 = record { goes_on = λ rest. refl }
plain_rule R12 = record { goes_on = λ rest. refl }
plain_rule R13 = record { goes_on = λ rest. refl }
plain_rule R14 = record { goes_on = λ rest. refl }
plain_rule R15 = record { goes_on = λ rest. refl }

plain_name : (r : Rule) → Plain (rule_name r)
plain_name R01 = record { goes_on = λ rest. refl }
plain_name R02 = record { goes_on = λ rest. refl }
plain_name R03 = record { goes_on = λ rest. refl }
plain_name R04 = record { goes_on = λ rest. refl }
plain_name R05 = record { goes_on = λ rest. refl }
plain_name R06 = record { goes_on = λ rest. refl }
plain_name R07 = record { goes_on = λ rest. refl }
plain_name R08 = record { goes_on = λ rest. refl }
plain_name R09 = record { goes_on = λ rest. refl }
plain_name R10 = record { goes_on = λ rest. refl }
plain_name R11 = record { goes_on = λ rest. refl }
plain_name R12 = record { goes_on = λ rest. refl }
plain_name R13 = record { goes_on = λ rest. refl }
plain_name R14 = record { goes_on = λ rest. refl }
plain_name R15 = record { goes_on = λ rest. refl }

plain_place : (f : Refusal) → Plain (place_words f)
plain_place f =
    plain_both _ (decimal f.line) (plain_both _ (codes " line ") (plain_both _ (decimal f.point) (plain_both _ (codes " point ")
    (plain_both (codes "callback ") (decimal f.callback) (record { goes_on = λ rest. refl }) (plain_decimal f.callback))
    (record { goes_on = λ rest. refl })) (plain_decimal f.point)) (record { goes_on = λ rest. refl })) (plain_decimal f.line)

plain_broken : (r : Rule) → Plain (rule_words r)
plain_broken r =
    plain_both _ (text r) (plain_both (rule_name r) (codes " ") (plain_name r) (record { goes_on = λ rest. refl })) (plain_rule r)

plain_words : (f : Refusal) → Plain (refusal_words f)
plain_words f =
    plain_both _ (rule_words f.rule) (plain_both (place_words f) (codes " ") (plain_place f) (record { goes_on = λ rest. refl }))
    (plain_broken f.rule)

plain_refusal : (f : Refusal) → Plain (refusal_line f)
plain_refusal f = plain_both (codes "refused ") (refusal_words f) (record { goes_on = λ rest. refl }) (plain_words f)

-- the line that ends the reports of findings is quiet
pub quiet_findings : (files : Files) (found : List Finding) → is_quiet (findings_closing files found) ≡ true
quiet_findings files [] = refl
quiet_findings files (f ∷ found) = (plain_refusal (refusal_in files f)).goes_on (10 ∷ [])

plain_fault : (k : FaultKind) → Plain (fault_name k)
plain_fault E01 = record { goes_on = λ rest. refl }
plain_fault E02 = record { goes_on = λ rest. refl }
plain_fault E03 = record { goes_on = λ rest. refl }
plain_fault E04 = record { goes_on = λ rest. refl }
plain_fault E05 = record { goes_on = λ rest. refl }
plain_fault E06 = record { goes_on = λ rest. refl }
plain_fault E07 = record { goes_on = λ rest. refl }
plain_fault E08 = record { goes_on = λ rest. refl }

plain_syntax : (f : SyntaxFault) → Plain (syntax_line f)
plain_syntax f =
    plain_both _ (fault_name f.kind) (plain_both _ (codes " ") (plain_both _ (decimal f.column) (plain_both _ (codes ":")
    (plain_both (codes "syntax ") (decimal f.line) (record { goes_on = λ rest. refl }) (plain_decimal f.line))
    (record { goes_on = λ rest. refl })) (plain_decimal f.column)) (record { goes_on = λ rest. refl }))
    (plain_fault f.kind)

-- the line that ends the report of a syntax fault is quiet
pub quiet_fault : (files : Files) (f : SyntaxFault) → is_quiet (fault_closing files f) ≡ true
quiet_fault files f = (plain_syntax (fault_in files f)).goes_on (10 ∷ [])

plain_malformed : (name : List ℕ) (line : ℕ) → Plain name → Plain (name ++ codes " line " ++ decimal line)
plain_malformed name line plain =
    plain_both _ (decimal line) (plain_both name (codes " line ") plain (record { goes_on = λ rest. refl })) (plain_decimal line)

-- the line that ends a notice is quiet
pub quiet_notice : (n : Notice) → is_quiet (notices.closing n) ≡ true
quiet_notice (Whole kind count) = refl
quiet_notice (Malformed Certificate reason) =
    (plain_malformed (codes "certificate") reason.line (record { goes_on = λ rest. refl })).goes_on (10 ∷ [])
quiet_notice (Malformed Journal reason) =
    (plain_malformed (codes "journal") reason.line (record { goes_on = λ rest. refl })).goes_on (10 ∷ [])
quiet_notice (Malformed Script reason) =
    (plain_malformed (codes "script") reason.line (record { goes_on = λ rest. refl })).goes_on (10 ∷ [])

plain_plural : (one : Bool) → Plain (if one then [] else codes "s")
plain_plural true = record { goes_on = λ rest. refl }
plain_plural false = record { goes_on = λ rest. refl }

plain_more : (findings files all : ℕ) →
    Plain ((if findings == 1 then [] else codes "s") ++ codes " in " ++ decimal files ++ codes " of " ++ decimal all ++ codes " files")
plain_more findings files all =
    plain_both _ (codes " files") (plain_both _ (decimal all) (plain_both _ (codes " of ") (plain_both _ (decimal files)
    (plain_both (if findings == 1 then [] else codes "s") (codes " in ") (plain_plural (findings == 1)) (record { goes_on = λ rest. refl }))
    (plain_decimal files)) (record { goes_on = λ rest. refl })) (plain_decimal all)) (record { goes_on = λ rest. refl })

quiet_found : (findings files all : ℕ) → is_quiet (found_in findings files all ++ 10 ∷ []) ≡ true
quiet_found findings files all =
    let more = (if findings == 1 then [] else codes "s") ++ codes " in " ++ decimal files ++ codes " of " ++
    decimal all ++ codes " files" in
    rw (
      append_assoc (decimal findings ++ codes " finding") more (10 ∷ []),
      append_assoc (decimal findings) (codes " finding") (more ++ 10 ∷ []),
    )
    (quiet_number findings (codes " finding" ++ (more ++ 10 ∷ [])) refl ((plain_more findings files all).goes_on (10 ∷ [])))

-- the line that says how much is found
pub quiet_summary : (findings files all : ℕ) → is_quiet (summary findings files all ++ 10 ∷ []) ≡ true
quiet_summary findings files all = go (findings == 0)
  where
    go : (none : Bool) →
        is_quiet ((if none then codes "nothing found in " ++ decimal all ++ codes " files" else found_in findings files all) ++
        10 ∷ []) ≡ true
    go true =
        (plain_both (codes "nothing found in " ++ decimal all) (codes " files")
        (plain_both (codes "nothing found in ") (decimal all) (record { goes_on = λ rest. refl }) (plain_decimal all))
        (record { goes_on = λ rest. refl })).goes_on (10 ∷ [])
    go false = quiet_found findings files all
