-- The flow of a run. This project's own definitions.
use Rattle.std.specs.Prelude.{◌≡◌, ℕ, ◌+◌, List, [], ◌∷◌, Some, map}
use Rattle.std.specs.Borrow.{Bor}
use Rattle.flt_places.specs.declared.files.Files.{Files}
use Rattle.flt_tree.specs.declared.filter.Filter.{Filter}
use Rattle.flt_tree.specs.declared.tree.Tree.{Tree}
use Rattle.flt_model.specs.Program.{by_altitude, filter_at, filter_of, filters_of}
use Rattle.flt_model.specs.declared.moves.JournalEntry.{JournalEntry}
use Rattle.flt_model.specs.declared.verdict.Verdict.TheVariants.{Legal}
use Rattle.flt_replay_world.specs.Filters.{filters_behind}
use Rattle.flt_explain_timeline.specs.Text as timelines
use Rattle.flt_explain_timeline.specs.Timelines.{IsTimeline}
use Rattle.flt_explain_timeline.specs.declared.timeline.Timeline.{Timeline}
use Rattle.flt_explain_flows.specs.Naming.{name_of}
use Rattle.flt_explain_flows.specs.Running.{run_of}
use Rattle.flt_explain_flows.specs.declared.flows.Flow.{Flow}
use Rattle.flt_explain_flows.specs.declared.flows.FlowActivation.{FlowActivation}
use Rattle.flt_explain_flows.specs.declared.flows.FlowStep.{FlowStep}
use Rattle.flt_explain_flows.specs.declared.running.Active.{Active}
use Rattle.flt_explain_flows.specs.declared.running.Run.{Run}
use Rattle.flt_explain_flows.specs.declared.running.EntryActivation.{EntryActivation}

-- the entry of a number as a step: its words are those that a timeline has for a row of this entry alone
abbrev pub step_of : Timeline → ℕ → EntryActivation → FlowStep
step_of t entry taken = record {
  entry = entry;
  activation = taken.activation;
  span = taken.span;
  words = timelines.words t (timelines.single entry);
}

-- the entries from this number on
unfoldable pub steps_from : Timeline → ℕ → List EntryActivation → List FlowStep
steps_from t entry [] = []
steps_from t entry (taken ∷ more) = step_of t entry taken ∷ steps_from t (entry + 1) more

-- all entries as steps
abbrev pub steps_of : Timeline → List EntryActivation → List FlowStep
steps_of t taken = steps_from t 0 taken

-- an activation: its filter's tree is the one of the same altitude
abbrev pub activation_of : List Tree → List (Bor Filter) → Active → FlowActivation
activation_of trees filters active = record {
  tree = filter_of (filters_of trees) (filter_at (filters_behind filters) active.started.filter).altitude;
  callback = active.started.callback;
  operation = active.operation;
  name = name_of filters active;
}

-- the flow of a run of which this is kept, on these filters, whose texts are in these files
pub record IsFlowBy (trees : List Tree) (files : List Files) (journal : List JournalEntry) (filters : List (Bor Filter)) (run : Run)
    (f : Flow) : Type 0 where
  pub timeline : Timeline
  pub shown : IsTimeline (filters_of trees) files journal Legal timeline
  pub steps : f.steps ≡ steps_of timeline run.taken
  pub activations : f.activations ≡ map (activation_of trees filters) run.actives

-- the flow of a journal's run: a step for each entry, with its activation and place by the machine and its words by the journal's
-- timeline, in which these files name the lines, and each activation
pub record IsFlow (trees : List Tree) (files : List Files) (journal : List JournalEntry) (f : Flow) : Type 0 where
  pub run : Run
  pub ran : run_of (by_altitude (filters_of trees)) journal ≡ Some run
  pub filters : List (Bor Filter)
  pub ordered : filters_behind filters ≡ by_altitude (filters_of trees)
  pub whole : IsFlowBy trees files journal filters run f
