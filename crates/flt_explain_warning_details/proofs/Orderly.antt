-- Why a text of which no circle is warned takes its locks in an order:
-- a circle comes first among the warnings, and its kind isn't left out.
use Rattle.std.proofs.Common.{◌≡◌, Bool, true, false, List, [], ◌∷◌, ◌++◌, Option, Some, None, sym, ap, refl, ◌∙◌, inl, inr}
use Rattle.std.specs.Prelude.{◌⊎◌}
use Rattle.flt_tree.specs.WellFormed.{IsWellFormed}
use Rattle.flt_syntax.specs.Spelling.{SpelledIsWellFormed}
use Rattle.flt_places.specs.declared.files.Files.{Files}
use Rattle.flt_tree.specs.Names.{Text}
use Rattle.flt_tree.specs.declared.tree.Tree.{Tree}
use Rattle.flt_graph.specs.declared.graph.Graph.{Graph}
use Rattle.flt_cert.specs.Format.{Certificate}
use Rattle.flt_order.specs.Order.{TakesInOrder}
use Rattle.flt_order.specs.declared.order.Acquisition.{Acquisition}
use Rattle.flt_explain_texts.specs.Reports.{IsKnown}
use Rattle.flt_sound.specs.Progress.{IsOrderly}
use Rattle.flt_explain_warnings.specs.Kinds.{allows}
use Rattle.flt_explain_warnings.specs.Warnings.{AreWarnings, IsShown, circle_warned, warned}
use Rattle.flt_explain_warnings.specs.declared.kinds.AllowedKinds.{AllowedKinds}
use Rattle.flt_explain_warnings.specs.declared.warning.Kind.TheVariants.{W01}
use Rattle.flt_explain_warnings.specs.declared.warning.Warning.{Warning}
use Rattle.flt_explain_warnings.specs.declared.warning.Warning.TheVariants.{LockCircle}
use Rattle.flt_explain_warnings.specs.Allowances.{allowances_of}
use Rattle.flt_explain_warnings.specs.declared.allowance.Allowance.{Allowance}
use Rattle.flt_explain_warning_details.specs.Details.{AreCertified, AreDetailsBy, IsUncovered, details}
use Rattle.flt_explain_warning_details.specs.Orderly.{TextsWithoutCirclesAreOrderly, warns_of_circle}
use Rattle.flt_explain_warning_details.specs.Parsed.{Parsed, parsed}
use Rattle.flt_explain_warning_details.specs.declared.detail.WarningDetail.{WarningDetail}

-- a circle that comes first is among what is said
circle_said : (x : Parsed) (allowed : AllowedKinds) (comments : List Allowance) (c : List Acquisition) (ws : List Warning) →
    allows allowed W01 ≡ false → warns_of_circle (details x allowed comments (LockCircle c ∷ ws)) ≡ true
unfolding details
circle_said x allowed comments c ws sought = rw sought refl

-- where none is said there is an order
in_order_by : (x : Parsed) (allowed : AllowedKinds) (comments : List Allowance) (g : Graph) (k : Certificate)
    (c : Option (List Acquisition)) →
    IsShown g k c → allows allowed W01 ≡ false → warns_of_circle (details x allowed comments (circle_warned c ++ warned g k)) ≡ false →
    TakesInOrder g k
in_order_by x allowed comments g k None shown sought none = shown.ordered.0 refl
in_order_by x allowed comments g k (Some c) shown sought none =
    let bad : true ≡ false = sym (circle_said x allowed comments c (warned g k) sought) ∙ none in absurd (cc)

-- the same of what is said by a certificate
in_order : (files : Files) (text : Text) (tree : Tree) (g : Graph) (k : Certificate) (allowed : AllowedKinds) (all : List WarningDetail) →
    AreDetailsBy files text tree.filter g k allowed all → allows allowed W01 ≡ false → warns_of_circle all ≡ false → TakesInOrder g k
in_order files text tree g k allowed all by sought none =
    let x : Parsed = parsed files text tree.filter g in
    in_order_by x allowed (allowances_of text) g k by.warned.circle by.warned.shown sought
    (ap (λ ws. warns_of_circle (details x allowed (allowances_of text) ws)) (sym by.warned.all) ∙ ap warns_of_circle (sym by.said) ∙ none)

-- by the least certificate; there is one, since something would be found
orderly_by : (files : Files) (text : Text) (tree : Tree) (g : Graph) (allowed : AllowedKinds) (all : List WarningDetail) →
    IsWellFormed tree.filter →
    IsKnown text tree g [] → allows allowed W01 ≡ false → warns_of_circle all ≡ false →
    AreCertified files text tree.filter g allowed all ⊎ IsUncovered g all → IsOrderly tree.filter
orderly_by files text tree g allowed all fine known sought none (inl by) = record {
  accepted = record { graph = g; cert = by.certificate; well_formed = fine; lowered = known.lowered; covers = by.covers };
  ordered = in_order files text tree g by.certificate allowed all by.details sought none;
}
orderly_by files text tree g allowed all fine known sought none (inr not) =
    absurd (not.uncovered known.findings.certificate known.findings.certified known.findings.covers)

-- a text of which no circle is warned is of a filter that takes its locks in an order
pub orderly_without_circles : SpelledIsWellFormed → TextsWithoutCirclesAreOrderly
orderly_without_circles spelled files text tree graph [] allowed all known said =
    λ e sought none. orderly_by files text tree graph allowed all (spelled text tree.filter known.spelled) known sought none said
orderly_without_circles spelled files text tree graph (h ∷ hs) allowed all known said =
    λ e sought none. absurd (cc)
