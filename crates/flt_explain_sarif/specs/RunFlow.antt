-- Runs that break something because of findings, as code flows of SARIF 2.1.0 (OASIS).
use Rattle.std.specs.Fmt.{decimal}
use Rattle.std.specs.Prelude.{ℕ, List, [], ◌∷◌, ◌++◌, ◌==◌, Bool, true, false, Option, Some, None, codes, flat_map, if◌then◌else◌}
use Rattle.json.specs.Token.{Token, begin_object, end_object, key}
use Rattle.flt_explain_flows.specs.declared.flows.FlowActivation.{FlowActivation}
use Rattle.flt_explain_flows.specs.declared.flows.FlowStep.{FlowStep}
use Rattle.flt_model.specs.Verdicts.{violation_name}
use Rattle.flt_model.specs.declared.verdict.Violation.{Violation}
use Rattle.flt_places.specs.Places.{region_of}
use Rattle.flt_places.specs.declared.places.Region.{Region}
use Rattle.flt_tree.specs.declared.filter.Span.{Span}
use Rattle.flt_explain_parts.specs.Counted.{counted}
use Rattle.flt_explain_parts.specs.Members.{array_member, number_member, object_member, string_member, text_member}
use Rattle.flt_explain_flows.specs.FindingRun.{at, run_of, source_of}
use Rattle.flt_explain_parts.specs.declared.file.File.{File}
use Rattle.flt_explain_flows.specs.declared.finding_run.FindingRun.{FindingRun}
use Rattle.flt_explain_sarif.specs.Results.{artifact_location, item, message, whole_region}
use Rattle.flt_explain_sarif.specs.declared.run_flow.FileRuns.{FileRuns}
use Rattle.flt_explain_sarif.specs.declared.run_flow.OwnFlow.{OwnFlow}

-- a region of a file
abbrev pub whole_place : File → Region → List Token
whole_place file region =
    key (codes "physicalLocation") ∷ begin_object ∷ (artifact_location file region.first.line
    ++ (whole_region (codes "region") file region ++ end_object ∷ []))

-- where something is in a file, if it is anywhere
abbrev pub region_in : File → Option Span → List Token
region_in file None = []
region_in file (Some span) = whole_place file (region_of file.lines span)

-- nothing where there is no such file
abbrev pub place_in : Option File → Option Span → List Token
place_in None span = []
place_in (Some file) span = region_in file span

-- where an entry is, in the file of its activation
abbrev pub place : List File → FindingRun → FlowStep → List Token
place files r s = place_in (at files (source_of r s.activation)) s.span

-- the same with what happens by it
abbrev pub step_location : List File → FindingRun → FlowStep → List Token
step_location files r s = key (codes "location") ∷ begin_object ∷ (place files r s ++ (message s.words ++ end_object ∷ []))

-- an entry: its place and its words, and its number, from 0, by which the entries of all threads are ordered
abbrev pub flow_entry : List File → FindingRun → FlowStep → List Token
flow_entry files r s =
    begin_object ∷ (step_location files r s ++ (number_member (codes "executionOrder") s.entry ++ end_object ∷ []))

-- two numbers are the same, or both are missing
abbrev pub is_same : Option ℕ → Option ℕ → Bool
is_same None None = true
is_same (Some one) (Some other) = one == other
is_same one other = false

-- an entry is of this activation; of none, where it is a move of the machine
abbrev pub is_on : Option ℕ → FlowStep → Bool
is_on activation s = is_same activation s.activation

abbrev pub entry_on : List File → FindingRun → Option ℕ → FlowStep → List Token
entry_on files r activation s = if is_on activation s then flow_entry files r s else []

-- whether there is one
abbrev pub has_entry : Option ℕ → List FlowStep → Bool
has_entry activation [] = false
has_entry activation (s ∷ ss) = if is_on activation s then true else has_entry activation ss

-- the entries of an activation under its name, in their order
abbrev pub whole_thread : List File → FindingRun → Option ℕ → List ℕ → List Token
whole_thread files r activation name =
    item (text_member (codes "id") name ++ array_member (codes "locations") (flat_map (entry_on files r activation) r.flow.steps))

-- nothing where it has none
abbrev pub thread : List File → FindingRun → Option ℕ → List ℕ → List Token
thread files r activation name = if has_entry activation r.flow.steps then whole_thread files r activation name else []

-- the number of an activation, which no other has, and its name
abbrev pub thread_name : ℕ → List ℕ → List ℕ
thread_name number name = decimal number ++ (codes ": " ++ name)

-- the thread of the activation of a number
abbrev pub thread_of : List File → FindingRun → ℕ → FlowActivation → List Token
thread_of files r number a = thread files r (Some number) (thread_name number a.name)

-- the moves of the machine, and the entries of each activation
abbrev pub threads : List File → FindingRun → List Token
threads files r = thread files r None (codes "machine") ++ counted (thread_of files r) 0 r.flow.activations

-- the violation in a run, and the number of the entry that makes it
abbrev pub words_of : Violation → ℕ → List ℕ
words_of violation entry = codes "a run that breaks " ++ (violation_name violation ++ (codes " at entry " ++ decimal entry))

abbrev pub broken : FindingRun → List Token
broken r = object_member (codes "message") (string_member (codes "text") (words_of r.violation r.entry))

-- a run of filters of these files
abbrev pub flow_of_run : List File → FindingRun → List Token
flow_of_run files r = item (broken r ++ array_member (codes "threadFlows") (threads files r))

-- nothing where there is none
abbrev pub run_flow : List File → Option FindingRun → List Token
run_flow files None = []
run_flow files (Some r) = flow_of_run files r

-- that of each finding, by the number of its text and by its own
abbrev pub run_flows : List File → List FindingRun → ℕ → ℕ → List Token
run_flows files runs source finding = run_flow files (run_of runs source finding)

-- the same as the code has them
abbrev pub flows_in : FileRuns → ℕ → ℕ → List Token
flows_in f = run_flows f.files.now f.runs.now

abbrev pub flow_of : OwnFlow → List Token
flow_of own = flows_in own.runs own.source own.finding
