-- The reports of a text. This project's own program.
use Rattle.std.specs.Prelude.{◌≡◌, ◌==◌, Bool, false, true, if◌then◌else◌, List, [], ◌∷◌, ◌++◌, codes, length, slice_get}
use Rattle.flt_graph.specs.declared.graph.Graph.{Graph}
use Rattle.flt_explain_origins.specs.declared.grouping.Group.{Group}
use Rattle.flt_places.specs.declared.files.Files.{Files}
use Rattle.flt_places.specs.declared.files.SourceFile.{SourceFile}
use Rattle.flt_tree.specs.Names.{Text}
use Rattle.flt_tree.specs.declared.filter.Filter.{Filter}
use Rattle.flt_shown.specs.Shown.{shown}
use Rattle.flt_explain_advice.specs.Words.{AreWords}
use Rattle.flt_explain_advice.specs.declared.words.Words.{Words}
use Rattle.flt_explain_ways.specs.declared.tracing.Traces.{Traces}
use Rattle.flt_explain_reports.specs.Finding.{finding_report}

-- ---- of a text in which something is found

-- the lines of a group's report: that of its first, in words that say what it is, by what shows it
pub record AreLines (coloured : Bool) (files : Files) (text : Text) (f : Filter) (g : Graph) (traces : Traces) (group : Group)
    (lines : Text) : Type 0 where
  pub words : Words
  pub worded : AreWords files text f g group.first.finding (slice_get traces.shown group.first.number) words
  pub drawn : lines ≡
      finding_report coloured files text g group.first.finding words (slice_get traces.shown group.first.number) group.others

-- ---- of one in which nothing is

-- what is before a name: nothing before the first
abbrev pub before_name : Bool → Text → Text
before_name is_behind between = if is_behind then between else []

-- the names of files with these words between them, where another may be before the first
abbrev pub named_from : Text → Bool → List SourceFile → Text
named_from between is_behind [] = []
named_from between is_behind (file ∷ files) =
    before_name is_behind between ++ (shown file.name.now ++ named_from between true files)

abbrev pub named : Text → List SourceFile → Text
named between files = named_from between false files

-- the command that prints the certificate of the text of a file, and that for the annotations of files, which are extracted first
unfoldable pub analyse_command : List SourceFile → Text
analyse_command files = codes "fltstack analyse " ++ named (codes " ") files

unfoldable pub extract_command : List SourceFile → Text
extract_command files = codes "fltstack extract " ++ (named (codes " ") files ++ codes " | fltstack analyse -")

-- the one of the two for a text in these files
abbrev pub command : Files → Text
command files = if length files.stands.now == 0 then analyse_command files.all.now else extract_command files.all.now

-- what that promises, and how to see the certificate
unfoldable pub nothing_report : Files → Text
nothing_report files =
    named (codes ", ") files.all.now ++ (codes ": a certificate covers this text, so that no run of it breaks V1 to V8" ++ (10 ∷ (
    codes "   = help: `" ++ (command files ++ (codes "` prints the certificate" ++ 10 ∷ [])))))
