-- Runs that break something because of findings, as JSON. This project's own format.
use Rattle.std.specs.Prelude.{ℕ, List, [], ◌∷◌, ◌++◌, Option, Some, None, codes, flat_map, map, slice_get}
use Rattle.std.specs.Borrow.{Bor}
use Rattle.json.specs.Token.{Token, begin_object, end_object, key}
use Rattle.flt_explain_texts.specs.Reports.{name_of}
use Rattle.flt_explain_texts.specs.declared.sources.Source.{Source}
use Rattle.flt_explain_flows.specs.declared.flows.FlowActivation.{FlowActivation}
use Rattle.flt_explain_flows.specs.declared.flows.FlowStep.{FlowStep}
use Rattle.flt_places.specs.Places.{region_of}
use Rattle.flt_tree.specs.declared.filter.Span.{Span}
use Rattle.flt_explain_parts.specs.Members.{array_member, null_member, number_member, object_member, string_member}
use Rattle.flt_explain_parts.specs.Members.{text_member}
use Rattle.flt_explain_flows.specs.FindingRun.{at, run_of, source_of}
use Rattle.flt_explain_flows.specs.declared.finding_run.FindingRun.{FindingRun}
use Rattle.flt_explain_forms.specs.Places.{region_members}
use Rattle.flt_model.specs.Verdicts.{violation_name}
use Rattle.flt_explain_forms.specs.declared.run_member.OwnRun.{OwnRun}
use Rattle.flt_explain_forms.specs.declared.run_member.TextLines.{TextLines}
use Rattle.flt_explain_forms.specs.declared.run_member.TextRuns.{TextRuns}

-- the violation in a run, and the number of the entry that makes it
abbrev pub breaks : FindingRun → List Token
breaks r =
    object_member (codes "breaks") (string_member (codes "violation") (violation_name r.violation) ++ number_member (codes "entry") r.entry)

-- a number, or null
abbrev pub number_or_null : List ℕ → Option ℕ → List Token
number_or_null name None = null_member name
number_or_null name (Some n) = number_member name n

-- the name of the file of an activation, or null
abbrev pub file_member : Option Source → List Token
file_member None = null_member (codes "file")
file_member (Some s) = string_member (codes "file") (name_of s)

-- an activation: its file, its callback, its operation, if it is about one, and its name
abbrev pub activation : List Source → FindingRun → FlowActivation → List Token
activation sources r a =
    begin_object ∷ (file_member (at sources (slice_get r.sources a.tree)) ++ (number_member (codes "callback") a.callback
    ++ (number_or_null (codes "operation") a.operation ++ (text_member (codes "name") a.name ++ end_object ∷ []))))

-- a text with its files
abbrev pub lines_of : Source → TextLines
lines_of s = record { lines = s.text.now; files = s.files }

abbrev pub texts_of : List Source → List TextLines
texts_of sources = map lines_of sources

-- where something is in a text, whose object has the name of its first file; or null
abbrev pub region_in : TextLines → Option Span → List Token
region_in t None = null_member (codes "place")
region_in t (Some span) = object_member (codes "place") (region_members t.files 0 (region_of t.lines span))

abbrev pub place_member : Option TextLines → Option Span → List Token
place_member None span = null_member (codes "place")
place_member (Some t) span = region_in t span

-- an entry: its number, the number of its activation, where that is, and what happens
abbrev pub entry : List TextLines → FindingRun → FlowStep → List Token
entry texts r s =
    begin_object ∷ (number_member (codes "entry") s.entry ++ (number_or_null (codes "activation") s.activation
    ++ (place_member (at texts (source_of r s.activation)) s.span ++ (text_member (codes "words") s.words ++ end_object ∷ []))))

-- all activations, and all entries
abbrev pub activations : List Source → FindingRun → List Token
activations sources r = array_member (codes "activations") (flat_map (activation sources r) r.flow.activations)

abbrev pub entries : List TextLines → FindingRun → List Token
entries texts r = array_member (codes "entries") (flat_map (entry texts r) r.flow.steps)

-- a run of filters of these texts; null where there is none
abbrev pub run_member : List Source → List TextLines → Option FindingRun → List Token
run_member sources texts None = null_member (codes "run")
run_member sources texts (Some r) =
    key (codes "run") ∷ begin_object ∷ (breaks r ++ (activations sources r ++ (entries texts r ++ end_object ∷ [])))

-- that of each finding, by the number of its text and by its own
abbrev pub member_among : List Source → List TextLines → List FindingRun → ℕ → ℕ → List Token
member_among sources texts runs source finding = run_member sources texts (run_of runs source finding)

abbrev pub own_member : List Source → List FindingRun → ℕ → ℕ → List Token
own_member sources runs = member_among sources (texts_of sources) runs

-- no finding of a text has one
abbrev pub no_run : ℕ → List Token
no_run finding = []

-- and none of any text
abbrev pub no_member : ℕ → ℕ → List Token
no_member source = no_run

-- those of these runs; there are no members where runs weren't looked for
abbrev pub run_members : List Source → Option (Bor (List FindingRun)) → ℕ → ℕ → List Token
run_members sources None = no_member
run_members sources (Some runs) = own_member sources runs.now

-- the same as the code has them
abbrev pub members_by : List Source → List TextLines → Option (Bor (List FindingRun)) → ℕ → ℕ → List Token
members_by sources texts None = no_member
members_by sources texts (Some runs) = member_among sources texts runs.now

abbrev pub members_in : TextRuns → ℕ → ℕ → List Token
members_in t = members_by t.sources.now t.texts.now t.runs

abbrev pub member_of : OwnRun → List Token
member_of own = members_in own.runs own.source own.finding
