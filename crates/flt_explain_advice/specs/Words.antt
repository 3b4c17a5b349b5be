-- The words of a finding. This project's own program.
use Rattle.std.specs.Prelude.{◌≡◌, Option}
use Rattle.flt_places.specs.declared.files.Files.{Files}
use Rattle.flt_tree.specs.Names.{Text}
use Rattle.flt_tree.specs.declared.filter.Filter.{Filter}
use Rattle.flt_graph.specs.declared.graph.Graph.{Graph}
use Rattle.flt_explain.specs.declared.finding.Finding.{Finding}
use Rattle.flt_explain_advice.specs.Advice.ByRule.{help, title}
use Rattle.flt_explain_advice.specs.Advice.Notes.{note}
use Rattle.flt_explain_advice.specs.Case.{Circumstances}
use Rattle.flt_explain_texts.specs.Scene.{head_of}
use Rattle.flt_explain_advice.specs.Subjects.{subject_told}
use Rattle.flt_explain_advice.specs.declared.words.Words.{Words}
use Rattle.flt_explain_origins.specs.declared.trace.FindingTrace.{FindingTrace}

-- what is known of a finding
abbrev pub known : Files → Text → Filter → Graph → Finding → Option FindingTrace → Circumstances
known files text f g found shown = record { files = files; text = text; filter = f; graph = g; finding = found; shown = shown }

-- what is wrong
unfoldable pub title_of : Files → Text → Filter → Graph → Finding → Option FindingTrace → Text
title_of files text f g found shown = title (known files text f g found shown)

-- how to fix it
unfoldable pub help_of : Files → Text → Filter → Graph → Finding → Option FindingTrace → Text
help_of files text f g found shown = help (known files text f g found shown)

-- that the rule is stricter there than the driver kit, or that numbers rule out the path; or nothing
unfoldable pub note_of : Files → Text → Filter → Graph → Finding → Option FindingTrace → Text
note_of files text f g found shown = note (known files text f g found shown)

-- what is said of a finding of a graph, by what shows it
pub record AreWords (files : Files) (text : Text) (f : Filter) (g : Graph) (found : Finding) (shown : Option FindingTrace) (w : Words)
    : Type 0 where
  pub title : w.title.items ≡ title_of files text f g found shown
  pub help : w.help.items ≡ help_of files text f g found shown
  pub note : w.note.items ≡ note_of files text f g found shown
  pub head : w.head.items ≡ head_of text f found.callback
  pub subject : w.subject.items ≡ subject_told f found.subject
