-- What it means that no circle of locks is warned of. This project's own program.
use Rattle.std.specs.Prelude.{◌≡◌, Bool, true, false, List, []}
use Rattle.std.specs.List.{list_any}
use Rattle.flt_places.specs.declared.files.Files.{Files}
use Rattle.flt_tree.specs.Names.{Text}
use Rattle.flt_tree.specs.declared.filter.Filter.{Filter}
use Rattle.flt_tree.specs.declared.tree.Tree.{Tree}
use Rattle.flt_graph.specs.declared.graph.Graph.{Graph}
use Rattle.flt_explain_texts.specs.Reports.{IsKnown}
use Rattle.flt_explain.specs.declared.finding.Finding.{Finding}
use Rattle.flt_sound.specs.Progress.{IsOrderly}
use Rattle.flt_explain_warnings.specs.Kinds.{allows}
use Rattle.flt_explain_warnings.specs.declared.kinds.AllowedKinds.{AllowedKinds}
use Rattle.flt_explain_warnings.specs.declared.warning.Kind.{Kind}
use Rattle.flt_explain_warnings.specs.declared.warning.Kind.TheVariants.{W01}
use Rattle.flt_explain_warning_details.specs.Details.{AreWarningDetails}
use Rattle.flt_explain_warning_details.specs.declared.detail.WarningDetail.{WarningDetail}

-- a warning is of a circle of locks
abbrev pub is_of_circle : Kind → Bool
is_of_circle W01 = true
is_of_circle _ = false

-- some of them is, allowed by a comment or not
abbrev pub warns_of_circle : List WarningDetail → Bool
warns_of_circle details = list_any (λ (d : WarningDetail). is_of_circle d.kind) details

-- Where nothing is found, circles are looked for and none is warned of, the filter is accepted and takes its locks in an order. So such
-- filters never deadlock, and each can always be unloaded (`orderly_filters_come_to_rest` of flt_sound).
abbrev pub PromisesOrder : List Finding → AllowedKinds → List WarningDetail → Filter → Type 0
PromisesOrder found allowed all f = found ≡ [] → allows allowed W01 ≡ false → warns_of_circle all ≡ false → IsOrderly f

-- that is so of what is found and warned of in a text
abbrev pub TextsWithoutCirclesAreOrderly : Type 0
TextsWithoutCirclesAreOrderly = (files : Files) (text : Text) (tree : Tree) (graph : Graph) (found : List Finding) (allowed : AllowedKinds)
    (all : List WarningDetail) → IsKnown text tree graph found → AreWarningDetails files text tree.filter graph found allowed all →
    PromisesOrder found allowed all tree.filter
