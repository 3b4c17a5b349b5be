-- Results of SARIF 2.1.0 (OASIS): findings and faults of texts.
use Rattle.std.specs.Prelude.{ℕ, List, [], ◌∷◌, ◌++◌, Bool, Option, Some, None, codes, flat_map, if◌then◌else◌, length, slice_get}
use Rattle.flt_explain_texts.specs.declared.operands.Marks.{Marks}
use Rattle.flt_explain_details.specs.declared.study.Detail.{Detail}
use Rattle.flt_explain_details.specs.declared.study.Maker.{Maker}
use Rattle.flt_explain_details.specs.declared.study.Stage.{Stage}
use Rattle.flt_explain_details.specs.declared.study.WayKind.{WayKind}
use Rattle.flt_explain_details.specs.declared.study.WayKind.TheVariants.{Clean, Behind, Unreached, Unknown}
use Rattle.flt_graph.specs.declared.graph.Graph.{Graph}
use Rattle.flt_places.specs.Files.{file_at, file_line}
use Rattle.flt_places.specs.declared.files.Files.{Files}
use Rattle.flt_places.specs.declared.places.Region.{Region}
use Rattle.flt_syntax.specs.declared.fault.SyntaxFault.{SyntaxFault}
use Rattle.flt_tree.specs.declared.filter.Position.{Position}
use Rattle.json.specs.Token.{Token, begin_object, end_object, key}
use Rattle.flt_places.specs.Columns.{file_column_behind}
use Rattle.flt_explain_parts.specs.Members.{array_member, filled_member, number_member, object_member, string_member, text_member}
use Rattle.flt_explain_parts.specs.Points.{region_at}
use Rattle.flt_explain_parts.specs.Rules.{of_rule}
use Rattle.flt_explain_parts.specs.Help.{place_of}
use Rattle.flt_explain_parts.specs.declared.file.Artifact.{Artifact}
use Rattle.flt_explain_parts.specs.declared.file.File.{File}
use Rattle.flt_explain_parts.specs.declared.rules.ResultKind.TheVariants.{Broken, Unread}
use Rattle.flt_explain_parts.specs.declared.uri.Reference.{Reference}
use Rattle.flt_explain_sarif.specs.Fingerprints.{finding_key, fingerprint, numbered}

-- an object with these members, in an array
abbrev pub item : List Token → List Token
item members = begin_object ∷ (members ++ end_object ∷ [])

-- ---- places

-- words
abbrev pub message : List ℕ → List Token
message words = object_member (codes "message") (text_member (codes "text") words)

-- the folder that a relative name is from
abbrev pub base : Bool → List Token
base is_absolute = if is_absolute then [] else string_member (codes "uriBaseId") (codes "%SRCROOT%")

-- how a file is named
abbrev pub reference : Reference → List Token
reference r = text_member (codes "uri") r.uri ++ base r.is_absolute

-- a file, by its name and its number
abbrev pub artifact_by : Option Artifact → List Token
artifact_by None = []
artifact_by (Some a) =
    key (codes "artifactLocation") ∷ begin_object ∷ (reference a.reference ++ (number_member (codes "index") a.number ++ end_object ∷ []))

-- the file in which a line of a text is
abbrev pub artifact_location : File → ℕ → List Token
artifact_location file line = artifact_by (slice_get file.artifacts (file_at file.files line))

-- where something begins and ends, from 1; the last column is one behind its last one
abbrev pub region_member : List ℕ → Position → Position → List Token
region_member name first end =
    object_member name (number_member (codes "startLine") first.line ++ (number_member (codes "startColumn") first.column
    ++ (number_member (codes "endLine") end.line ++ number_member (codes "endColumn") end.column)))

-- so many bytes behind a place of a text, in the line of its file; the column counts in UTF-16 units
abbrev pub units_behind : Files → Position → ℕ → Position
units_behind files at count = record { line = file_line files at.line; column = file_column_behind files at count }

-- the place itself
abbrev pub units_at : Files → Position → Position
units_at files at = units_behind files at 0

-- where something of a text begins and ends in its file
abbrev pub whole_region : List ℕ → File → Region → List Token
whole_region name file r = region_member name (units_at file.files r.first) (units_at file.files r.end)

-- where a region of a file is
abbrev pub physical : File → Region → List Token
physical file r =
    key (codes "physicalLocation") ∷ begin_object
    ∷ (artifact_location file r.first.line ++ (whole_region (codes "region") file r ++ end_object ∷ []))

-- the same with words
abbrev pub location : File → Region → List ℕ → List Token
location file r words = begin_object ∷ (physical file r ++ (message words ++ end_object ∷ []))

-- what is marked: what a finding names, with the statement round it, or else the statement
abbrev pub marked_regions : File → Region → Option Region → List Token
marked_regions file statement None = whole_region (codes "region") file statement
marked_regions file statement (Some operand) =
    whole_region (codes "region") file operand ++ whole_region (codes "contextRegion") file statement

abbrev pub marked_physical : File → Marks → List Token
marked_physical file m =
    key (codes "physicalLocation") ∷ begin_object ∷
    (artifact_location file m.statement.first.line ++ (marked_regions file m.statement m.operand ++ end_object ∷ []))

-- the same with words
abbrev pub marked_location : File → Marks → List ℕ → List Token
marked_location file m words = begin_object ∷ (marked_physical file m ++ (message words ++ end_object ∷ []))

-- the places of a result: what is marked, with what is said of it
abbrev pub locations : File → Marks → List ℕ → List Token
locations file m words = array_member (codes "locations") (marked_location file m words)

-- ---- ways

-- a statement on a path
abbrev pub flow_location : File → Region → List ℕ → List Token
flow_location file r words = item (key (codes "location") ∷ location file r words)

-- a step at which nothing is asked isn't shown
abbrev pub flow_step_by : File → Region → List ℕ → List Token
flow_step_by file r [] = []
flow_step_by file r (b ∷ words) = flow_location file r (b ∷ words)

-- a step of a callback whose points are in these regions
abbrev pub flow_step : File → (ℕ → Region) → Stage → List Token
flow_step file region s = flow_step_by file (region s.point) s.words.items

-- the end of a way
abbrev pub finding_place : File → Detail → List Token
finding_place file d = item (key (codes "location") ∷ marked_location file d.marks d.words.title.items)

-- the places of a way to a finding, with the finding last
abbrev pub thread_places : File → (ℕ → Region) → Detail → List Stage → List Token
thread_places file region d stages = flat_map (flow_step file region) stages ++ finding_place file d

abbrev pub thread : File → (ℕ → Region) → Detail → List Stage → List Token
thread file region d stages = item (array_member (codes "locations") (thread_places file region d stages))

-- a way to a finding
abbrev pub flow : File → (ℕ → Region) → Detail → List Stage → List Token
flow file region d stages = item (array_member (codes "threadFlows") (thread file region d stages))

-- the other way, if there is one
abbrev pub other_flow : File → (ℕ → Region) → Detail → Option (List Stage) → List Token
other_flow file region d None = []
other_flow file region d (Some stages) = flow file region d stages

abbrev pub both_flows : File → (ℕ → Region) → Detail → List Token
both_flows file region d = flow file region d d.route.stages ++ other_flow file region d d.route.other

-- the ways, where one was found
abbrev pub flows_by : WayKind → File → (ℕ → Region) → Detail → List Token
flows_by Clean file region d = both_flows file region d
flows_by Behind file region d = both_flows file region d
flows_by Unreached file region d = []
flows_by Unknown file region d = []

-- none where another finding's serve
abbrev pub own_flows : Option ℕ → File → (ℕ → Region) → Detail → List Token
own_flows None file region d = flows_by d.route.kind file region d
own_flows (Some n) file region d = []

abbrev pub flows : File → (ℕ → Region) → Detail → List Token
flows file region d = own_flows d.route.like file region d

-- ---- results

-- what breaks a rule is an error
abbrev pub level : List Token
level = string_member (codes "level") (codes "error")

-- nothing in the text allows it
abbrev pub not_suppressed : List Token
not_suppressed = array_member (codes "suppressions") []

-- where what is found comes from
abbrev pub origin : File → Maker → List Token
origin file m = marked_location file m.marks (codes "this caused it")

abbrev pub related : File → Option Maker → List Token
related file None = []
related file (Some m) = origin file m

-- what stays the same when lines move: the head of a callback, what is said of it, and what no other result of the text has
abbrev pub fingerprints : List ℕ → List ℕ → List ℕ → List Token
fingerprints head subject print =
    object_member (codes "partialFingerprints") (text_member (codes "callback/v1") head ++ (text_member (codes "subject/v1") subject
    ++ string_member (codes "callbackRuleSubject/v2") print))

abbrev pub properties : Detail → List Token
properties d =
    object_member (codes "properties") (number_member (codes "callback") d.finding.callback
    ++ (number_member (codes "point") d.finding.point ++ (text_member (codes "help") d.words.help.items
    ++ filled_member (codes "note") d.words.note.items)))

-- a finding of this fingerprint; the code flow of its run is the last
abbrev pub result_members : File → (ℕ → Region) → List ℕ → List Token → Detail → List Token
result_members file region print run d =
    of_rule (Broken d.finding.rule) ++ (level ++ (message d.words.title.items ++ (locations file d.marks d.words.title.items
    ++ (array_member (codes "relatedLocations") (related file d.route.origin)
    ++ (array_member (codes "codeFlows") (flows file region d ++ run) ++ (fingerprints d.words.head.items d.words.subject.items print
    ++ (properties d ++ not_suppressed)))))))

abbrev pub result : File → (ℕ → Region) → List ℕ → List Token → Detail → List Token
result file region print run d = item (result_members file region print run d)

-- a finding after those of these keys, with its fingerprint, and the run of its number
abbrev pub next_result : File → Graph → (ℕ → List Token) → List (List ℕ) → Detail → List Token
next_result file graph run before d =
    result file (region_at file.lines graph d.finding.callback) (fingerprint before (finding_key file.lines d)) (run (length before)) d

-- findings of a text with these points in their order, each with its fingerprint and its run
abbrev pub results_of : File → Graph → (ℕ → List Token) → List Detail → List Token
results_of file graph run details = numbered (finding_key file.lines) (next_result file graph run) [] details

-- how to fix a fault of a text
abbrev pub fault_properties : List ℕ → List Token
fault_properties help = object_member (codes "properties") (filled_member (codes "help") help)

-- where a text is refused, up to behind what stands there
abbrev pub fault_region : File → Position → List ℕ → List Token
fault_region file at found = region_member (codes "region") (units_at file.files at) (units_behind file.files at (length found))

abbrev pub fault_physical : File → SyntaxFault → List ℕ → List Token
fault_physical file f found =
    key (codes "physicalLocation") ∷ begin_object ∷
    (artifact_location file f.line ++ (fault_region file (place_of f) found ++ end_object ∷ []))

abbrev pub fault_location : File → SyntaxFault → List ℕ → List ℕ → List Token
fault_location file f found words = begin_object ∷ (fault_physical file f found ++ (message words ++ end_object ∷ []))

-- the places of a fault: what stands there, with what is said of it
abbrev pub fault_locations : File → SyntaxFault → List ℕ → List ℕ → List Token
fault_locations file f found words = array_member (codes "locations") (fault_location file f found words)

-- a fault of a text at what is found there, with its words
abbrev pub fault_members : File → SyntaxFault → List ℕ → List ℕ → List ℕ → List Token
fault_members file f found words help =
    of_rule (Unread f.kind) ++ (level ++ (message words
    ++ (fault_locations file f found words ++ (fault_properties help ++ not_suppressed))))

abbrev pub fault_result : File → SyntaxFault → List ℕ → List ℕ → List ℕ → List Token
fault_result file f found words help = item (fault_members file f found words help)
