-- What is said of findings: how each is reached, by what shows it, and where that stands. This project's own program.
use Rattle.std.specs.Prelude.{◌≡◌, ℕ, List, [], Option, Some, None, length, option_copied, slice_get}
use Rattle.std.specs.List.{AllZip}
use Rattle.flt_explain.specs.declared.finding.Finding.{Finding}
use Rattle.flt_explain.specs.declared.finding.Subject.{Subject}
use Rattle.flt_graph.specs.declared.graph.Graph.{Graph}
use Rattle.flt_explain_origins.specs.declared.origin.Cause.{Cause}
use Rattle.flt_explain_origins.specs.declared.origin.Cause.TheVariants as cause
use Rattle.flt_places.specs.declared.files.Files.{Files}
use Rattle.flt_tree.specs.Names.{Text}
use Rattle.flt_tree.specs.declared.filter.Filter.{Filter}
use Rattle.flt_explain_origins.specs.declared.answer.Answer.{Answer}
use Rattle.flt_explain_origins.specs.declared.answer.Answer.TheVariants as answer
use Rattle.flt_explain_origins.specs.declared.answer.Step.{Step}
use Rattle.flt_explain_origins.specs.declared.answer.Way.{Way}
use Rattle.flt_explain_details.specs.Alike.{AreLike}
use Rattle.flt_explain_advice.specs.Branches.{branch_at, step_outcome}
use Rattle.flt_explain_texts.specs.Operands.{AreMarks}
use Rattle.flt_explain_texts.specs.Scene.{place_of}
use Rattle.flt_explain_advice.specs.Subjects.{state_at_end}
use Rattle.flt_explain_origins.specs.Trace.{cause_of, other_way, way_of}
use Rattle.flt_explain_ways.specs.Tracing.{AreTraces}
use Rattle.flt_explain_advice.specs.Words.{AreWords}
use Rattle.flt_explain_details.specs.declared.study.Detail.{Detail}
use Rattle.flt_explain_details.specs.declared.study.Maker.{Maker}
use Rattle.flt_explain_details.specs.declared.study.Route.{Route}
use Rattle.flt_explain_details.specs.declared.study.Stage.{Stage}
use Rattle.flt_explain_details.specs.declared.study.WayKind.{WayKind}
use Rattle.flt_explain_details.specs.declared.study.WayKind.TheVariants.{Clean, Behind, Unreached, Unknown}
use Rattle.flt_explain_origins.specs.declared.trace.FindingTrace.{FindingTrace}
use Rattle.flt_explain_ways.specs.declared.tracing.Traces.{Traces}

-- what is asked at a step's point, and how it comes out; nothing where nothing is asked
abbrev pub branch_words : Text → Graph → ℕ → ℕ → Option Text → Text
branch_words text g callback point None = []
branch_words text g callback point (Some outcome) = branch_at text g callback point outcome

-- a stage is a step of a callback: its point, where that stands, how it comes out, and that in words
pub record IsStage (text : Text) (g : Graph) (callback : ℕ) (step : Step) (s : Stage) : Type 0 where
  pub point : s.point ≡ step.point
  pub place : s.place ≡ place_of text g callback step.point
  pub granted : s.granted ≡ step.granted
  pub words : s.words.items ≡ branch_words text g callback step.point (step_outcome g callback step)

-- the stages of a path are its steps, in their order
abbrev pub AreStages : Text → Graph → ℕ → List Step → List Stage → Type 0
AreStages text g callback = AllZip (IsStage text g callback)

-- the same of a path, if there is one
abbrev pub AreStagesOn : Text → Graph → ℕ → Option Way → List Stage → Type 0
AreStagesOn text g callback None stages = stages ≡ []
AreStagesOn text g callback (Some w) stages = AreStages text g callback w.steps stages

-- the same of the other of two paths
abbrev pub AreOtherStages : Text → Graph → ℕ → Option Way → Option (List Stage) → Type 0
AreOtherStages text g callback None other = other ≡ None
AreOtherStages text g callback (Some w) None = ⊥
AreOtherStages text g callback (Some w) (Some stages) = AreStages text g callback w.steps stages

-- the step that made a finding so, with where its statement stands, and in it what the finding is about
pub record IsMaker (text : Text) (f : Filter) (g : Graph) (callback : ℕ) (u : Subject) (step : Step) (m : Maker) : Type 0 where
  pub stage : IsStage text g callback step m.stage
  pub marks : AreMarks text f g callback step.point u m.marks

-- what made a finding so, if a step did
abbrev pub IsMadeBy : Text → Filter → Graph → ℕ → Subject → Option Cause → Option Maker → Type 0
IsMadeBy text f g callback u (Some (cause.Made step)) (Some m) = IsMaker text f g callback u step m
IsMadeBy text f g callback u (Some (cause.Made step)) None = ⊥
IsMadeBy text f g callback u (Some cause.Entry) m = m ≡ None
IsMadeBy text f g callback u None m = m ≡ None

-- what a path to a finding is
abbrev pub kind_of : Answer → WayKind
kind_of (answer.Clean found) = Clean
kind_of (answer.Behind found) = Behind
kind_of answer.Unreached = Unreached
kind_of answer.Unknown = Unknown

-- the stages of the paths that show a finding; none where the path of another finding serves
abbrev pub AreShownStages : Text → Graph → ℕ → Answer → Option ℕ → List Stage → Option (List Stage) → Type 0
AreShownStages text g callback a None stages other =
    AreStagesOn text g callback (way_of a) stages × AreOtherStages text g callback (other_way a) other
AreShownStages text g callback a (Some like) stages other = (stages ≡ []) × (other ≡ None)

-- how a finding is reached, by what shows it
pub record IsRoute (text : Text) (f : Filter) (g : Graph) (found : Finding) (shown : FindingTrace) (r : Route) : Type 0 where
  pub kind : r.kind ≡ kind_of shown.answer
  pub stages : AreShownStages text g found.callback shown.answer r.like r.stages r.other
  pub origin : IsMadeBy text f g found.callback found.subject (cause_of (Some shown)) r.origin
  pub state : option_copied r.state ≡ state_at_end found.subject (way_of shown.answer)

-- what is said of a finding, by what shows it, with each place in it
pub record IsDetail (files : Files) (text : Text) (f : Filter) (g : Graph) (found : Finding)
    (shown : FindingTrace) (d : Detail) : Type 0 where
  pub finding : d.finding ≡ found
  pub marks : AreMarks text f g found.callback found.point found.subject d.marks
  pub words : AreWords files text f g found (Some shown) d.words
  pub route : IsRoute text f g found shown d.route

-- what is said of each of some findings, by what shows it
abbrev pub AreDetailsBy : Files → Text → Filter → Graph → List Finding → List FindingTrace → List Detail → Type 0
AreDetailsBy files text f g found shown details =
    (k : ℕ) (e : Finding) (s : FindingTrace) (d : Detail) → slice_get found k ≡ Some e → slice_get shown k ≡ Some s →
    slice_get details k ≡ Some d → IsDetail files text f g e s d

-- what is said of some findings, in their order: as many as there are, each by what shows it
pub record AreDetails (files : Files) (text : Text) (f : Filter) (g : Graph) (found : List Finding) (details : List Detail) : Type 0 where
  pub traces : Traces
  pub shown : AreTraces g found traces
  pub long : length details ≡ length found
  pub each : AreDetailsBy files text f g found traces.shown details
  pub like : AreLike found details
