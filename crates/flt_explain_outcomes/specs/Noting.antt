-- How notes are made. This project's own definitions.
use Rattle.std.specs.Prelude.{◌≡◌, ℕ, All, Bool, List, [], IfSome, Option, None, Some, map, slice_get}
use Rattle.flt_tree.specs.Names.{Text}
use Rattle.flt_tree.specs.declared.tree.Tree.{Tree}
use Rattle.flt_explain.specs.declared.finding.Finding.{Finding}
use Rattle.flt_explain_texts.specs.Reports.{IsKnown}
use Rattle.flt_explain_ways.specs.Covering.{AreFirsts}
use Rattle.flt_explain_ways.specs.Reported.{AreReported}
use Rattle.flt_explain_ways.specs.declared.reported.ReportedFinding.{ReportedFinding}
use Rattle.flt_explain_outcomes.specs.Noted.{AreNoted, AreNotesOf, IsAgain, IsNoted, numbers_in, reported_in}
use Rattle.flt_explain_outcomes.specs.Schedules.{IsScheduled}
use Rattle.flt_explain_outcomes.specs.Setters.{IsSetter}
use Rattle.flt_explain_outcomes.specs.declared.again.Setting.{Setting}
use Rattle.flt_explain_outcomes.specs.declared.noted.Note.{Note}
use Rattle.flt_explain_outcomes.specs.declared.noted.SetterOutcome.{SetterOutcome}
use Rattle.flt_explain_outcomes.specs.declared.noting.ParsedText.{ParsedText}
use Rattle.flt_explain_outcomes.specs.declared.noting.TextNotes.{TextNotes}
use Rattle.flt_explain_outcomes.specs.declared.readings.Reading.{Reading}
use Rattle.flt_explain_outcomes.specs.declared.readings.Reading.TheVariants as reading
use Rattle.flt_explain_outcomes.specs.declared.schedules.Outcome.{Outcome}
use Rattle.flt_explain_outcomes.specs.declared.schedules.Suspect.{Suspect}

-- a text that parses has this tree, these points and findings
pub record IsParsed (trees : List Tree) (k : ParsedText) : Type 0 where
  pub own : slice_get trees k.place ≡ Some k.tree.now
  pub known : IsKnown k.source.text.now k.tree.now k.graph.now k.found.now

-- ---- one note

-- a suspect is the finding that is reported
pub record IsSuspectOf (found : List Finding) (r : ReportedFinding) (s : Suspect) : Type 0 where
  pub number : s.number ≡ r.number
  pub is : slice_get found r.number ≡ Some s.finding

-- what comes of the finding that is reported
pub record IsOutcomeOf (is_stack : Bool) (trees : List Tree) (k : ParsedText) (r : ReportedFinding) (o : Outcome) : Type 0 where
  pub number : o.number ≡ r.number
  pub finding : Finding
  pub numbered : slice_get k.found.now r.number ≡ Some finding
  pub scheduled : IsScheduled is_stack trees k.place k.graph.now finding o.scheduled

-- what comes of the finding of a number where one more callback stands behind the text
abbrev pub IsAgainOf : ParsedText → ℕ → SetterOutcome → Type 0
IsAgainOf k number a = (f : Finding) → slice_get k.found.now number ≡ Some f → IsAgain k.source.text.now f a

-- a note of a finding of a text, behind earlier ones
abbrev pub IsNotedOf : Bool → List Tree → ParsedText → List Note → Note → Type 0
IsNotedOf is_stack trees k earlier n = IsNoted is_stack trees k.source.text.now k.place k.graph.now k.found.now earlier n

-- ---- the notes of a text

-- the notes are of findings of a text
abbrev pub HasNotes : Bool → List Tree → ParsedText → List Note → Type 0
HasNotes is_stack trees k notes = AreNoted is_stack trees k.source.text.now k.place k.graph.now k.found.now notes

-- the callback of a setting stands behind a text; without one a note says nothing of it
pub record IsSettingOf (text : Text) (setting : Option Setting) (n : Note) : Type 0 where
  pub some : IfSome setting (λ (s : Setting). IsSetter text s.setter)
  pub none : setting ≡ None → n.again ≡ None

-- the same of each note
pub record IsSettingFor (text : Text) (setting : Option Setting) (notes : List Note) : Type 0 where
  pub some : IfSome setting (λ (s : Setting). IsSetter text s.setter)
  pub none : setting ≡ None → All (λ (n : Note). n.again ≡ None) notes

-- a note of each finding that is reported, in their order
pub record AreTextNotes (is_stack : Bool) (trees : List Tree) (k : ParsedText) (all : List ReportedFinding) (t : TextNotes)
    : Type 0 where
  pub noted : HasNotes is_stack trees k t.each
  pub reported : map reported_in t.each ≡ all
  pub setting : IsSettingFor k.source.text.now t.setting t.each

-- a note of each finding of a text that is reported by itself, in their order; each other one is akin to one of these
pub record AreAllNotes (is_stack : Bool) (trees : List Tree) (k : ParsedText) (notes : List Note) : Type 0 where
  pub each : HasNotes is_stack trees k notes
  pub reported : AreReported k.graph.now k.found.now (map reported_in notes)
  pub firsts : AreFirsts k.found.now (numbers_in notes)

-- the notes are those of a text; none where it doesn't parse
abbrev pub AreNotesFor : Bool → List Tree → Text → Reading → List Note → Type 0
AreNotesFor is_stack trees text (reading.Known place) notes = AreNotesOf is_stack trees text place notes
AreNotesFor is_stack trees text _ notes = notes ≡ []
