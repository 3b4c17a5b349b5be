-- What is reported of texts. This project's own program.
use Rattle.std.specs.Prelude.{◌≡◌, ℕ, List, [], ◌∷◌, ◌++◌, map}
use Rattle.flt_syntax.specs.Spelling.{Spells}
use Rattle.flt_syntax.specs.TextFails.{Fails}
use Rattle.flt_places.specs.Files.{file_name}
use Rattle.flt_tree.specs.Names.{Text}
use Rattle.flt_tree.specs.declared.tree.Tree.{Tree}
use Rattle.flt_graph.specs.Lowering.{IsLowered}
use Rattle.flt_graph.specs.declared.graph.Graph.{Graph}
use Rattle.flt_explain.specs.Findings.{AreFindings}
use Rattle.flt_explain.specs.declared.finding.Finding.{Finding}
use Rattle.flt_explain_texts.specs.declared.judged.TextJudgement.{TextJudgement}
use Rattle.flt_explain_texts.specs.declared.judged.TextJudgement.TheVariants.{Unread, Known}
use Rattle.flt_explain_texts.specs.declared.sources.Source.{Source}

-- a text spells a tree, which has these points, and this is what is found: nothing exactly where a certificate covers the points,
-- else the analyser's refusal comes first
pub record IsKnown (text : Text) (tree : Tree) (graph : Graph) (found : List Finding) : Type 0 where
  pub spelled : Spells text tree.filter
  pub lowered : IsLowered tree.filter graph
  pub findings : AreFindings graph found

-- what a text is: it has this first fault, or it is known
abbrev pub IsJudged : Text → TextJudgement → Type 0
IsJudged text (Unread f) = Fails text f
IsJudged text (Known tree graph found) = IsKnown text tree graph found

-- 0 where nothing is found, 1 where something is
abbrev pub findings_status : List Finding → ℕ
findings_status [] = 0
findings_status (f ∷ fs) = 1

-- the same; 2 where the text doesn't parse
abbrev pub status_of : TextJudgement → ℕ
status_of (Unread f) = 2
status_of (Known tree graph found) = findings_status found

-- the last bytes are these
abbrev pub EndsWith : List ℕ → List ℕ → Type 0
EndsWith whole last = (front : List ℕ) × (whole ≡ front ++ last)

-- the name of a source: that of its first file
abbrev pub name_of : Source → Text
name_of s = file_name s.files 0

-- the texts of sources
abbrev pub texts_of : List Source → List Text
texts_of sources = map (λ (s : Source). s.text.now) sources
