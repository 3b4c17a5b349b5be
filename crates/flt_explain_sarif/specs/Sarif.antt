-- What is found of texts, as SARIF 2.1.0 (OASIS).
use Rattle.std.specs.Prelude.{◌≡◌, ℕ, ◌+◌, List, [], ◌∷◌, ◌++◌, Some, Bool, codes, true, false, flat_map, max, string_bytes}
use Rattle.std.specs.Borrow.{Bor}
use Rattle.flt_explain.specs.declared.finding.Finding.{Finding}
use Rattle.flt_explain_hints.specs.Telling.{title_of}
use Rattle.flt_explain_hints.specs.Trouble.{IsDescribed}
use Rattle.flt_explain_hints.specs.declared.troubles.Trouble.{Trouble}
use Rattle.flt_explain_texts.specs.Reports.{IsJudged}
use Rattle.flt_explain_details.specs.Stages.{AreDetails}
use Rattle.flt_explain_texts.specs.declared.judged.TextJudgement.{TextJudgement}
use Rattle.flt_explain_texts.specs.declared.judged.TextJudgement.TheVariants.{Unread, Known}
use Rattle.flt_explain_texts.specs.declared.sources.Source.{Source}
use Rattle.flt_explain_details.specs.declared.study.Detail.{Detail}
use Rattle.flt_graph.specs.declared.graph.Graph.{Graph}
use Rattle.flt_tree.specs.declared.filter.Filter.{Filter}
use Rattle.flt_explain_warning_details.specs.declared.detail.WarningDetail.{WarningDetail}
use Rattle.flt_explain_warning_details.specs.declared.options.WarningOptions.{WarningOptions}
use Rattle.json.specs.Token.{Token, begin_object, boolean, end_object, key, string}
use Rattle.flt_explain_parts.specs.Drifted.{drift_status}
use Rattle.flt_explain_parts.specs.Help.{help_of}
use Rattle.flt_explain_parts.specs.Files.{file_of, files_of, names_of}
use Rattle.flt_explain_parts.specs.Members.{array_member, line_of, number_member, object_member, string_member}
use Rattle.flt_explain_parts.specs.Rules.{AreRules, all, drift_rules, tool}
use Rattle.flt_explain_parts.specs.Uri.{reference_of}
use Rattle.flt_explain_parts.specs.Warned.{AreWarned, status_of}
use Rattle.flt_explain_parts.specs.declared.drifted.DriftedFile.{DriftedFile}
use Rattle.flt_explain_parts.specs.declared.file.File.{File}
use Rattle.flt_explain_flows.specs.declared.finding_run.FindingRun.{FindingRun}
use Rattle.flt_explain_parts.specs.declared.uri.Reference.{Reference}
use Rattle.flt_explain_sarif.specs.DriftResults.{drift_results}
use Rattle.flt_explain_sarif.specs.Results.{fault_result, item, level, reference, results_of}
use Rattle.flt_explain_sarif.specs.RunFlow.{run_flows}
use Rattle.flt_explain_sarif.specs.WarningResults as warning
use Rattle.flt_files.specs.declared.unread.UnreadFile.{UnreadFile}

-- the result of a text that doesn't parse: its first fault, what is said of it, and how to fix it
pub record IsFaultResult (file : File) (s : Source) (tokens : List Token) : Type 0 where
  pub trouble : Trouble
  pub described : IsDescribed s.text.now (Some trouble)
  pub result : tokens ≡ fault_result file trouble.spot.fault trouble.spot.bytes.now (title_of trouble) (help_of s.files trouble)

-- one result for each of these findings, in their order, with its run
pub record AreFindingResults (file : File) (run : ℕ → List Token) (s : Source) (filter : Filter) (graph : Graph) (found : List Finding)
    (tokens : List Token) : Type 0 where
  pub details : List Detail
  pub each : AreDetails s.files s.text.now filter graph found details
  pub results : tokens ≡ results_of file graph run details

-- the results of a text: one where it doesn't parse, else one for each finding
unfoldable pub HasResults : File → (ℕ → List Token) → Source → TextJudgement → List Token → Type 0
HasResults file run s (Unread f) tokens = IsFaultResult file s tokens
HasResults file run s (Known tree graph found) tokens = AreFindingResults file run s tree.filter graph found tokens

-- the same with those of its warnings last, and its status, which comes of the same findings and warnings, in a document of files of
-- these names; its findings have these runs, by their numbers
pub record IsPart (options : WarningOptions) (names : List (Bor (List ℕ))) (run : ℕ → List Token) (s : Source) (tokens : List Token)
    (status : ℕ) : Type 0 where
  pub file : File
  pub of : file ≡ file_of names s
  pub judged : TextJudgement
  pub is : IsJudged s.text.now judged
  pub warned : List WarningDetail
  pub are : AreWarned s options.allowed judged warned
  pub own : status ≡ status_of options.is_strict judged warned
  pub first : List Token
  pub results : HasResults file run s judged first
  pub all : tokens ≡ first ++ warning.results_of file warned

-- the results of several texts, of which the first has this number, in the order of the texts; the status is the greatest of theirs. Their
-- findings have these runs, by the number of the text and by their own
abbrev pub AreResults : WarningOptions → List (Bor (List ℕ)) → (ℕ → ℕ → List Token) → ℕ → List Source → List Token → ℕ → Type 0
AreResults options names runs number [] tokens status = (tokens ≡ []) × (status ≡ 0)
AreResults options names runs number (s ∷ ss) tokens status =
    (part : List Token) × (rest : List Token) × (first : ℕ) × (others : ℕ) × IsPart options names (runs number) s part first
    × AreResults options names runs (number + 1) ss rest others × (tokens ≡ part ++ rest) × (status ≡ max first others)

-- ---- files that aren't read

-- why one isn't
abbrev pub reason : List ℕ → List Token
reason why = object_member (codes "message") (string_member (codes "text") why)

-- a file as a whole
abbrev pub whole_file : Reference → List Token
whole_file name = object_member (codes "physicalLocation") (object_member (codes "artifactLocation") (reference name))

abbrev pub unread_places : List ℕ → List Token
unread_places name = array_member (codes "locations") (item (whole_file (reference_of name)))

-- that a file isn't read, and why
abbrev pub notification : UnreadFile → List Token
notification file = item (level ++ (reason (string_bytes file.why) ++ unread_places (string_bytes file.name)))

abbrev pub notifications : List UnreadFile → List Token
notifications files = array_member (codes "toolExecutionNotifications") (flat_map notification files)

-- each file is read
abbrev pub is_successful : List UnreadFile → Bool
is_successful [] = true
is_successful (file ∷ files) = false

-- the exit status of the program: that of the texts, or 2 where a file isn't read
abbrev pub exit_code : List UnreadFile → ℕ → ℕ
exit_code [] status = status
exit_code (file ∷ files) status = 2

-- how the program ran, with a notification for each of the files that aren't read, by the status of the others
abbrev pub invocation : List UnreadFile → ℕ → List Token
invocation files status =
    item ((key (codes "executionSuccessful") ∷ boolean (is_successful files) ∷ [])
    ++ (number_member (codes "exitCode") (exit_code files status) ++ notifications files))

-- it ran once
abbrev pub invocations : List UnreadFile → ℕ → List Token
invocations files status = array_member (codes "invocations") (invocation files status)

-- ---- files that are read

-- a file of this name, whose findings are looked for
abbrev pub artifact : List ℕ → List Token
artifact name =
    begin_object ∷ (object_member (codes "location") (reference (reference_of name))
    ++ (array_member (codes "roles") (string (codes "analysisTarget") ∷ []) ++ end_object ∷ []))

-- one for each name
abbrev pub artifacts : List (Bor (List ℕ)) → List Token
artifacts names = array_member (codes "artifacts") (flat_map (λ n. artifact n.now) names)

-- what the folder of relative names is; where it is isn't said, so that the document is the same everywhere
abbrev pub base_text : List Token
base_text = object_member (codes "description") (string_member (codes "text") (codes "the folder in which the program ran"))

abbrev pub bases : List Token
bases = object_member (codes "originalUriBaseIds") (object_member (codes "%SRCROOT%") base_text)

-- columns count as Unicode's UTF-16 has it
abbrev pub column_kind : List Token
column_kind = string_member (codes "columnKind") (codes "utf16CodeUnits")

-- how files and columns are named
abbrev pub setting : List (Bor (List ℕ)) → List Token
setting names = bases ++ (artifacts names ++ column_kind)

-- ---- the run

-- a run over files of these names beside which these aren't read, with these rules, results and status
abbrev pub run_members : List Token → List (Bor (List ℕ)) → List UnreadFile → List Token → ℕ → List Token
run_members rules names unread results status =
    tool rules ++ (setting names ++ (array_member (codes "results") results ++ invocations unread status))

-- the rules with their pages, and the results of several texts, and after them those of the drifts of C files; the status is the greatest
-- of theirs
pub record IsRun (options : WarningOptions) (names : List (Bor (List ℕ))) (runs : ℕ → ℕ → List Token) (sources : List Source)
    (unread : List UnreadFile) (drifted : List DriftedFile) (tokens : List Token) (status : ℕ) : Type 0 where
  pub rules : List Token
  pub described : AreRules all rules
  pub results : List Token
  pub own : ℕ
  pub found : AreResults options names runs 0 sources results own
  pub greatest : status ≡ max own (drift_status options.is_strict drifted)
  pub members : tokens ≡ run_members (rules ++ drift_rules drifted) names unread (results ++ drift_results names drifted) status

-- the whole document, of this run
abbrev pub document : List Token → List Token
document run =
    begin_object ∷ (string_member (codes "$schema") (codes "https://json.schemastore.org/sarif-2.1.0.json")
    ++ (string_member (codes "version") (codes "2.1.0") ++ (array_member (codes "runs") (item run) ++ end_object ∷ [])))

-- the code flows of runs of findings, in a document of these texts, of files of these names
abbrev pub flows_of : List (Bor (List ℕ)) → List Source → List FindingRun → ℕ → ℕ → List Token
flows_of names sources runs = run_flows (files_of names sources) runs

-- one document of this program, of files of these names
abbrev pub IsSarifIn : List (Bor (List ℕ)) → WarningOptions → List Source → List UnreadFile → List FindingRun → List DriftedFile → List ℕ →
    ℕ → Type 0
IsSarifIn names options sources unread runs drifted printed status =
    (run : List Token) × IsRun options names (flows_of names sources runs) sources unread drifted run status
    × (printed ≡ line_of (document run))

-- one document for several texts, beside which these files aren't read, with these runs of their findings, and for the drifts of C files
unfoldable pub IsSarif : WarningOptions → List Source → List UnreadFile → List FindingRun → List DriftedFile → List ℕ → ℕ → Type 0
IsSarif options sources unread runs drifted printed status =
    IsSarifIn (names_of sources drifted) options sources unread runs drifted printed status
