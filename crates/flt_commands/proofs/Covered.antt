-- What is covered breaks nothing, and an exit status 0 says that something is covered.
use Rattle.std.proofs.Common.{◌⊎◌, inl, inr, ◌≡◌, ℕ, zero, suc, ◌+◌, List, [], ◌∷◌, ◌++◌, Bool, None}
use Rattle.std.proofs.Common.{Option, Result, Ok, Err, take, drop, max, refl, sym, ◌∙◌, arith}
use Rattle.std.proofs.Math.Path.{subst}
use Rattle.std.specs.Borrow.{Bor}
use Rattle.flt_syntax.specs.declared.fault.SyntaxFault.{SyntaxFault}
use Rattle.flt_syntax.specs.Spelling.{SpellsAtMostOne, SpelledIsWellFormed}
use Rattle.flt_syntax.specs.TextFails.{Fails, SpelledFailsNowhere}
use Rattle.flt_graph.specs.declared.graph.Graph.{Graph}
use Rattle.flt_cert.specs.declared.cert.Cert.{Cert}
use Rattle.flt_cert.specs.declared.cert.Cert.TheVariants.{Full}
use Rattle.flt_check.specs.Accepting.{CertCovers, full_of}
use Rattle.flt_check.specs.Covering.{Covers}
use Rattle.flt_sound.specs.Soundness.{IsAccepted, AreAccepted, AcceptedRunsBreakNothing}
use Rattle.flt_stack_crew.specs.Running.{IsRun}
use Rattle.flt_stack_crew.specs.declared.running.Ran.{Ran}
use Rattle.flt_explain.specs.declared.finding.Finding.{Finding}
use Rattle.flt_explain_forms.specs.Lines.{AreLinesFrom}
use Rattle.flt_explain_forms.specs.RunMember.{no_member, own_member}
use Rattle.flt_explain_parts.specs.declared.drifted.DriftedFile.{DriftedFile}
use Rattle.flt_explain_flows.specs.declared.finding_run.FindingRun.{FindingRun}
use Rattle.flt_explain_sarif.specs.Sarif.{AreResults, IsSarif}
use Rattle.flt_explain_parts.specs.Warned.{status_of as status_of_warned}
use Rattle.flt_explain_forms.specs.declared.as_lines.Style.{Style}
use Rattle.flt_files.specs.declared.unread.UnreadFile.{UnreadFile}
use Rattle.flt_explain_forms.specs.declared.as_lines.Style.TheVariants.{Object, Sentence}
use Rattle.flt_explain_runs.specs.Reported.{AreAllReports, AreParts, IsNoticeReport, IsStatus, IsText, IsTextReport}
use Rattle.flt_explain_runs.specs.Reported as reports
use Rattle.flt_explain_runs.specs.Whole.{Look}
use Rattle.flt_explain_texts.specs.Reports.{IsJudged, IsKnown, texts_of}
use Rattle.flt_explain_runs.specs.declared.explaining.ExplainOutput.{ExplainOutput}
use Rattle.flt_explain_texts.specs.declared.sources.Source.{Source}
use Rattle.flt_explain_warning_details.specs.Options.{warned_status}
use Rattle.flt_explain_warning_details.specs.declared.detail.WarningDetail.{WarningDetail}
use Rattle.flt_explain_warning_details.specs.declared.options.WarningOptions.{WarningOptions}
use Rattle.flt_words.specs.declared.request.Colour.{Colour}
use Rattle.flt_words.specs.declared.request.Part.{Part}
use Rattle.flt_words.specs.declared.request.Form.{Form}
use Rattle.flt_words.specs.declared.request.Form.TheVariants.{Html, Human, Lines, LinesWithRuns, Sarif, SarifWithRuns, Short}
use Rattle.flt_words.specs.declared.request.SearchChoice.{SearchChoice}
use Rattle.json.specs.Token.{Token}
use Rattle.flt_explain_texts.specs.declared.judged.TextJudgement.{TextJudgement as Found}
use Rattle.flt_explain_texts.specs.declared.judged.TextJudgement.TheVariants.{Unread, Known}
use Rattle.flt_tree.specs.declared.tree.Tree.{Tree}
use Rattle.flt_model.specs.Program.{by_altitude}
use Rattle.flt_model.specs.Runs.{breaks}
use Rattle.flt_syntax.specs.Spelling.{Spells}
use Rattle.flt_tree.specs.declared.filter.Filter.{Filter}
use Rattle.flt_files.proofs.OnePlace.{zipped_once}
use Rattle.flt_commands_texts.specs.Analyse.{IsAnalysed}
use Rattle.flt_commands.specs.Answer.{IsOf, answered, of_explain, status_of}
use Rattle.flt_commands_explain.specs.Answer.{status_of as explain_status}
use Rattle.flt_commands_runs.specs.Answer.{status_of as run_status}
use Rattle.flt_commands_texts.specs.Answer.{status_of as text_status}
use Rattle.flt_files.specs.Unread.{status_beside}
use Rattle.flt_commands_texts.specs.Check.{Decides, HasPoints, IsAnswer, IsChecked}
use Rattle.flt_commands.specs.Clean.{BreakNothing, BreaksNothing, EachBreaksNothing, IsClean}
use Rattle.flt_commands.specs.Commands.{IsSaid, IsReported}
use Rattle.flt_commands_texts.specs.Emit as emit
use Rattle.flt_commands_texts.specs.Emit.{Emits, Emitting, IsEmitted}
use Rattle.flt_commands_texts.specs.EmitInto.{IsEmittedInto, Writes}
use Rattle.flt_commands_explain.specs.Explain.{IsExplained, IsTold, look_in}
use Rattle.flt_files.specs.Inputs.{Giving, given, Says, Text, unread}
use Rattle.flt_commands_runs.specs.Running.{IsRan}
use Rattle.flt_commands_texts.specs.Thin.{IsThinned, Decides as DecidesThin}
use Rattle.flt_words.specs.Request.{Asked, Choice, Check, Analyse, Thin, Run, Replay, Show, Explain}
use Rattle.flt_words.specs.Request.{Extract, Format, Pages, Emit, EmitInto, Compare, Functions, Serve}
use Rattle.flt_commands.specs.declared.answer.Answer.{Answer}
use Rattle.flt_commands.specs.declared.answer.Answer.TheVariants.{OfText, OfRun, OfExplain}
use Rattle.flt_commands_explain.specs.declared.answer.ExplainAnswer.{ExplainAnswer}
use Rattle.flt_commands_explain.specs.declared.answer.ExplainAnswer.TheVariants.{Explained, Pages as has_pages}
use Rattle.flt_commands_runs.specs.declared.answer.RunAnswer.{RunAnswer}
use Rattle.flt_commands_runs.specs.declared.answer.RunAnswer.TheVariants.{FileRefused, Judged, Ran as has_run, Shown}
use Rattle.flt_commands_texts.specs.declared.answer.TextAnswer.{TextAnswer}
use Rattle.flt_commands_texts.specs.declared.answer.TextAnswer.TheVariants.{Accepted, Refused, Certificate as Written, Extracted as has_text}
use Rattle.flt_commands_texts.specs.declared.answer.TextAnswer.TheVariants.{Formatted as has_layouts, Emitted, NotEmitted, EmittedInto, Compared, Listed}
use Rattle.flt_files.specs.declared.failure.Failure.{Failure}

-- the laws' clauses
abbrev pub Law : Type 0
Law = (text : Text) (graph : Graph) (cert : Cert) → HasPoints text graph → CertCovers graph cert → BreaksNothing text

abbrev pub LawOfRuns : Type 0
LawOfRuns = (script : Text) (texts : List Text) (ran : Ran) → IsRun script texts ran → BreakNothing texts

-- by the laws of the grammar, of covering and of the machine, what is covered breaks nothing
pub covered_is_clean : SpellsAtMostOne → SpelledIsWellFormed → ((g : Graph) (c : Cert) → CertCovers g c → Covers g (full_of g c)) →
    AcceptedRunsBreakNothing → Law
covered_is_clean one fine fills theorem text graph cert points covers f transitions spelled = theorem (f ∷ []) transitions all
  where
    same : points.filter ≡ f
    same = one text points.filter f points.spelled spelled

    accepted : IsAccepted f
    accepted = subst IsAccepted same (record {
      graph = graph;
      cert = full_of graph cert;
      well_formed = fine text points.filter points.spelled;
      lowered = points.lowered;
      covers = fills graph cert covers;
    })

    all : AreAccepted (f ∷ [])
    all zero d within = accepted
    all (suc k) d within = absurd (omega (arith, within))

-- the filters of a run are those that its texts spell
pub driven_is_clean : SpellsAtMostOne → LawOfRuns
driven_is_clean one script texts ran is filters transitions spelled =
    let same : is.filters ≡ filters = zipped_once Spells one texts is.filters filters is.spelled spelled in
    subst (λ (fs : List Filter). breaks (by_altitude fs) transitions ≡ None) same (is.unbroken transitions)

module _ (law : Law) (runs : LawOfRuns) (nowhere : SpelledFailsNowhere) where
  -- what is said of a text and its certificate with the status 0 is that it is accepted
  judged : (text certificate : Text) (answer : TextAnswer) →
      IsAnswer Decides text certificate answer → text_status answer ≡ 0 → BreaksNothing text
  judged text certificate Accepted said good = law text said.graph said.cert said.points said.decided
  judged text certificate (Refused f) said good = absurd (omega (arith, good))
  judged text certificate (Written bytes) said good = absurd said.decided
  judged text certificate (has_text b) said good = absurd said.decided
  judged text certificate (has_layouts mode outcomes) said good = absurd said.decided
  judged text certificate (Emitted b) said good = absurd said.decided
  judged text certificate (NotEmitted w) said good = absurd said.decided
  judged text certificate (EmittedInto d) said good = absurd said.decided
  judged text certificate (Compared w) said good = absurd said.decided
  judged text certificate (Listed l) said good = absurd said.decided

  checked : (texts : List Text) (answer : TextAnswer) (file : Text) (cert : Option Text) → IsChecked texts (Ok answer) →
      text_status answer ≡ 0 → IsClean (Check file cert) texts
  checked [] answer file cert said good = said
  checked (bytes ∷ []) answer file cert said good = (said.0, said.1, judged (take said.0 bytes) (drop said.0 bytes) answer said.2 good)
  checked (text ∷ certificate ∷ []) answer file cert said good = judged text certificate answer said good
  checked (text ∷ certificate ∷ more ∷ texts) answer file cert said good = said

  -- what is said so by `thin` is that it is covered
  left : (text certificate : Text) (answer : TextAnswer) →
      IsAnswer DecidesThin text certificate answer → text_status answer ≡ 0 → BreaksNothing text
  left text certificate (Written bytes) said good = law text said.graph said.cert said.points said.decided.0
  left text certificate (Refused f) said good = absurd (omega (arith, good))
  left text certificate Accepted said good = absurd said.decided
  left text certificate (has_text b) said good = absurd said.decided
  left text certificate (has_layouts mode outcomes) said good = absurd said.decided
  left text certificate (Emitted b) said good = absurd said.decided
  left text certificate (NotEmitted w) said good = absurd said.decided
  left text certificate (EmittedInto d) said good = absurd said.decided
  left text certificate (Compared w) said good = absurd said.decided
  left text certificate (Listed l) said good = absurd said.decided

  thinned : (texts : List Text) (answer : TextAnswer) (file : Text) (cert : Option Text) → IsThinned texts (Ok answer) →
      text_status answer ≡ 0 → IsClean (Thin file cert) texts
  thinned [] answer file cert said good = said
  thinned (bytes ∷ []) answer file cert said good = (said.0, said.1, left (take said.0 bytes) (drop said.0 bytes) answer said.2 good)
  thinned (text ∷ certificate ∷ []) answer file cert said good = left text certificate answer said good
  thinned (text ∷ certificate ∷ more ∷ texts) answer file cert said good = said

  analysed : (texts : List Text) (answer : TextAnswer) (file : Text) → IsAnalysed texts (Ok answer) → text_status answer ≡ 0 →
      IsClean (Analyse file) texts
  analysed [] answer file said good = said
  analysed (text ∷ []) (Written bytes) file said good = law text said.graph (Full said.cert) said.points said.covers
  analysed (text ∷ []) (Refused f) file said good = absurd (omega (arith, good))
  analysed (text ∷ []) Accepted file said good = absurd said
  analysed (text ∷ []) (has_text b) file said good = absurd said
  analysed (text ∷ []) (has_layouts mode outcomes) file said good = absurd said
  analysed (text ∷ []) (Emitted b) file said good = absurd said
  analysed (text ∷ []) (NotEmitted w) file said good = absurd said
  analysed (text ∷ []) (EmittedInto d) file said good = absurd said
  analysed (text ∷ []) (Compared w) file said good = absurd said
  analysed (text ∷ []) (Listed l) file said good = absurd said
  analysed (text ∷ more ∷ texts) answer file said good = said

  driven : (texts : List Text) (answer : RunAnswer) (workers : ℕ) (quiet : Bool) (script : Text) (files : List Text) →
      IsRan texts (Ok answer) → run_status answer ≡ 0 → IsClean (Run workers quiet script files) texts
  driven [] answer workers quiet script files said good = said
  driven (bytes ∷ texts) (has_run ran) workers quiet script files said good = runs bytes texts ran said
  driven (bytes ∷ texts) (FileRefused n f) workers quiet script files said good = absurd (omega (arith, good))
  driven (bytes ∷ texts) (Shown rows v) workers quiet script files said good = absurd said
  driven (bytes ∷ texts) (Judged v) workers quiet script files said good = absurd said

  -- a text of which nothing is found is covered
  unfound : (text : Text) (tree : Tree) (graph : Graph) (found : List Finding) (strict : Bool) (warned : List WarningDetail) →
      IsKnown text tree graph found → warned_status strict found warned ≡ 0 → BreaksNothing text
  unfound text tree graph [] strict warned is good =
      law text graph (Full is.findings.certificate)
      (record { filter = tree.filter; spelled = is.spelled; lowered = is.lowered })
      is.findings.covers
  unfound text tree graph (f ∷ fs) strict warned is good = absurd (omega (arith, good))

  found_well : (text : Text) (j : Found) (strict : Bool) (warned : List WarningDetail) → IsJudged text j →
      status_of_warned strict j warned ≡ 0 → BreaksNothing text
  found_well text (Unread f) strict warned is good = absurd (omega (arith, good))
  found_well text (Known tree graph found) strict warned is good = unfound text tree graph found strict warned is good

  -- a text that doesn't parse spells no filter
  unspelled : (text : Text) (f : SyntaxFault) → Fails text f → BreaksNothing text
  unspelled text f fault filter transitions spelled = absurd (nowhere text filter f spelled fault)

  text_well : (options : WarningOptions) (s : Source) (j : Found) (status : ℕ) → IsText s.text.now j → IsStatus options s j status →
      status ≡ 0 → BreaksNothing s.text.now
  text_well options s (Unread f) status is own good = absurd (omega (arith, own, good))
  text_well options s (Known tree graph found) status is own good =
      unfound s.text.now tree graph found options.is_strict own.details is (sym own.worth ∙ good)

  report_well : (options : WarningOptions) (filters : List Filter) (s : Source) (report : List ℕ) (status count : ℕ) →
      IsTextReport options s report status count ⊎ IsNoticeReport filters s.text.now report status count → status ≡ 0 →
      BreaksNothing s.text.now
  report_well options filters s report status count (inl is) good = text_well options s is.judged status is.is is.own good
  report_well options filters s report status count (inr is) good = unspelled s.text.now is.other.fault is.other.unread

  -- the greatest of two statuses is 0 only where both are
  both_zero : (m n : ℕ) → max m n ≡ 0 → (m ≡ 0) × (n ≡ 0)
  both_zero zero zero good = (refl, refl)
  both_zero zero (suc n) good = absurd (omega (arith, good))
  both_zero (suc m) zero good = absurd (omega (arith, good))
  both_zero (suc m) (suc n) good = absurd (omega (arith, good))

  one_more_breaks_nothing : (sources : List Source) (s : Source) → EachBreaksNothing (texts_of sources) → BreaksNothing s.text.now →
      EachBreaksNothing (texts_of (sources ++ s ∷ []))
  one_more_breaks_nothing [] s each own = (own, tt)
  one_more_breaks_nothing (t ∷ ts) s each own = (each.0, one_more_breaks_nothing ts s each.1 own)

  reported : (options : WarningOptions) (filters : List Filter) (sources : List Source) (printed : List ℕ) (status findings files : ℕ) →
      AreParts options filters sources printed status findings files → status ≡ 0 → EachBreaksNothing (texts_of sources)
  reported options filters _ _ _ _ _ reports.none good = tt
  reported options filters _ _ _ _ _
      (reports.one_more {sources = sources} {printed = printed} {greatest = greatest} {findings = findings} {files = files}
      {s = s} {report = report} {status = status} {count = count} are is) good =
      let zeros = both_zero greatest status good in
      one_more_breaks_nothing sources s (reported options filters sources printed greatest findings files are zeros.0)
      (report_well options filters s report status count is.is zeros.1)

  in_lines : (style : Style) (options : WarningOptions) (runs : ℕ → ℕ → List Token) (number : ℕ) (sources : List Source)
      (before printed : List ℕ) (status : ℕ) → AreLinesFrom style options runs number sources before printed status → status ≡ 0 →
      EachBreaksNothing (texts_of sources)
  in_lines style options runs number [] before printed status said good = tt
  in_lines style options runs number (s ∷ ss) before printed status (part, first, others, own, rest, greatest) good =
      let zeros = both_zero first others (sym greatest ∙ good) in (
        found_well s.text.now own.judged options.is_strict own.warned own.is (sym own.own ∙ zeros.0),
        in_lines style options runs (number + 1) ss (before ++ part) printed others rest zeros.1,
      )

  in_results : (options : WarningOptions) (names : List (Bor (List ℕ))) (runs : ℕ → ℕ → List Token) (number : ℕ) (sources : List Source)
      (tokens : List Token) (status : ℕ) → AreResults options names runs number sources tokens status → status ≡ 0 →
      EachBreaksNothing (texts_of sources)
  in_results options names runs number [] tokens status said good = tt
  in_results options names runs number (s ∷ ss) tokens status (part, others_tokens, first, others, own, rest, joined, greatest) good =
      let zeros = both_zero first others (sym greatest ∙ good) in (
        found_well s.text.now own.judged options.is_strict own.warned own.is (sym own.own ∙ zeros.0),
        in_results options names runs (number + 1) ss others_tokens others rest zeros.1,
      )

  -- of all files
  all_reported : (options : WarningOptions) (filters : List Filter) (sources : List Source) (printed : List ℕ) (status : ℕ) →
      AreAllReports options filters sources printed status → status ≡ 0 → EachBreaksNothing (texts_of sources)
  all_reported options filters [] printed status said good = tt
  all_reported options filters (s ∷ []) printed status is good = (report_well options filters s printed status is.count is.is.is good, tt)
  all_reported options filters (s ∷ t ∷ ss) printed status is good =
      reported options filters (s ∷ t ∷ ss) is.reports status is.findings is.files is.are good

  in_document : (options : WarningOptions) (sources : List Source) (missed : List UnreadFile) (runs : List FindingRun)
      (drifted : List DriftedFile) (printed : List ℕ) (status : ℕ) → IsSarif options sources missed runs drifted printed status →
      status ≡ 0 → EachBreaksNothing (texts_of sources)
  unfolding IsSarif
  in_document options sources missed runs drifted printed status (run, is, same) good =
      let zeros = both_zero is.own _ (sym is.greatest ∙ good) in in_results options _ _ 0 sources is.results is.own is.found zeros.0

  told_well : (form : Form) (options : WarningOptions) (drifted : List DriftedFile) (sources : List Source) (missed : List UnreadFile)
      (t : ExplainOutput) → IsTold form options drifted sources missed t → t.explained.status ≡ 0 → EachBreaksNothing (texts_of sources)
  told_well Human options drifted sources missed t told good =
      all_reported options told.filters sources t.explained.output.items t.explained.status told.are good
  told_well Short options drifted sources missed t told good =
      in_lines Sentence options no_member 0 sources [] t.explained.output.items t.explained.status told good
  told_well Lines options drifted sources missed t told good =
      in_lines Object options no_member 0 sources [] t.explained.output.items t.explained.status told good
  told_well Sarif options drifted sources missed t told good =
      in_document options sources missed [] drifted t.explained.output.items t.explained.status told good
  told_well LinesWithRuns options drifted sources missed t told good =
      in_lines Object options (own_member sources told.runs.now) 0 sources [] t.explained.output.items t.explained.status told.lines good
  told_well SarifWithRuns options drifted sources missed t told good =
      in_document options sources missed told.runs drifted t.explained.output.items t.explained.status told.document good
  told_well Html options drifted sources missed t told good =
      all_reported options told.reports.filters sources told.printed t.explained.status told.reports.are good

  -- where a file isn't read, the status isn't 0
  own_zero : (status : ℕ) (missed : List UnreadFile) → status_beside status missed ≡ 0 → status ≡ 0
  own_zero status [] good = good
  own_zero status (file ∷ files) good = absurd (omega (arith, good))

  explained : (gives : Giving) (is_c : Bool) (form : Form) (colour : Colour) (search : SearchChoice) (look : Look)
      (journal : Option Text)
      (warnings : Choice) (files : List Text) (codes : List (Option Text)) (texts : List Text) (answer : ExplainAnswer) →
      IsExplained gives is_c form look warnings.allowed journal files codes texts (Ok answer) → explain_status answer ≡ 0 →
      IsClean (Explain form colour search journal warnings is_c files) texts
  explained gives is_c form colour search look journal warnings files codes texts (Explained e missed) said good =
      let with = said.told.told in
      let zeros = both_zero with.own.explained.status _ (sym with.after.status ∙ own_zero e.explained.status missed.items good) in
      subst EachBreaksNothing (sym said.told.given)
      (told_well form look.options said.told.drifted said.told.sources missed.items with.own with.told.told zeros.0)
  explained gives is_c form colour search look journal warnings files codes texts (has_pages t) said good = absurd said

  -- what is emitted is covered
  covered : (emitting : Emitting) (has : Cert → Type 0) (refuses : TextAnswer → Type 0) (text : Text) (answer : TextAnswer) →
      emit.IsAnswer emitting has refuses text answer → text_status answer ≡ 0 → BreaksNothing text
  covered emitting has refuses text _ (emit.refused f is) good = absurd (omega (arith, good))
  covered emitting has refuses text _ (emit.emits answer is) good = law text is.graph is.cert is.points is.covers

  emitted : (texts : List Text) (answer : TextAnswer) (part : Part) (file : Text) (cert : Option Text) → IsEmitted part texts (Ok answer) →
      text_status answer ≡ 0 → IsClean (Emit part file cert) texts
  emitted [] answer part file cert said good = said
  emitted (text ∷ []) answer part file cert said good = covered (Emits part) _ _ text answer said good
  emitted (text ∷ certificate ∷ []) answer part file cert said good = covered (Emits part) _ _ text answer said good
  emitted (text ∷ certificate ∷ more ∷ texts) answer part file cert said good = said

  emitted_into : (gives : Giving) (texts : List Text) (answer : TextAnswer) (folder : Text) (is_forced : Bool) (file : Text)
      (cert : Option Text) → IsEmittedInto gives is_forced folder texts (Ok answer) → text_status answer ≡ 0 →
      IsClean (EmitInto folder is_forced file cert) texts
  emitted_into gives [] answer folder is_forced file cert said good = said
  emitted_into gives (text ∷ []) answer folder is_forced file cert said good =
      covered (Writes gives is_forced folder) _ _ text answer said good
  emitted_into gives (text ∷ certificate ∷ []) answer folder is_forced file cert said good =
      covered (Writes gives is_forced folder) _ _ text answer said good
  emitted_into gives (text ∷ certificate ∷ more ∷ texts) answer folder is_forced file cert said good = said

  -- where this is said of what the names give, and reported with the status 0, that holds which it says of an answer with that status
  module _ {A : Type 0} (kind : A → Answer) where
    own_clean : (gives : Giving) (names texts : List Text) (IsSaidOf : List Text → Result A Failure → Type 0) (P : Type 0)
        (own : Result A Failure) (bytes : List ℕ) (status : ℕ) →
        ((answer : A) → IsSaidOf texts (Ok answer) → status_of (kind answer) ≡ 0 → P) → Says gives names IsSaidOf texts own →
        IsReported (answered kind own) bytes status → status ≡ 0 → P
    own_clean gives names texts IsSaidOf P _ bytes status holds (unread f fails) reported good = absurd (omega (arith, reported.1.1, good))
    own_clean gives names texts IsSaidOf P (Err f) bytes status holds (given result there said) reported good =
        absurd (omega (arith, reported.1.1, good))
    own_clean gives names texts IsSaidOf P (Ok answer) bytes status holds (given result there said) reported good =
        holds answer said (sym reported.1 ∙ good)

    says_clean : (gives : Giving) (names texts : List Text) (IsSaidOf : List Text → Result A Failure → Type 0) (P : Type 0)
        (said : Result Answer Failure) (bytes : List ℕ) (status : ℕ) →
        ((answer : A) → IsSaidOf texts (Ok answer) → status_of (kind answer) ≡ 0 → P) → IsOf kind (Says gives names IsSaidOf texts) said →
        IsReported said bytes status → status ≡ 0 → P
    says_clean gives names texts IsSaidOf P said bytes status holds (own, same, is) reported good =
        own_clean gives names texts IsSaidOf P own bytes status holds is (subst (λ s. IsReported s bytes status) same reported) good

  own_explains_clean : (gives : Giving) (is_c : Bool) (form : Form) (colour : Colour) (search : SearchChoice) (look : Look)
      (journal : Option Text)
      (warnings : Choice) (files : List Text) (codes : List (Option Text)) (texts : List Text) (own : Result ExplainAnswer Failure)
      (bytes : List ℕ) (status : ℕ) → IsExplained gives is_c form look warnings.allowed journal files codes texts own →
      IsReported (of_explain own) bytes status →
      status ≡ 0 → IsClean (Explain form colour search journal warnings is_c files) texts
  own_explains_clean gives is_c form colour search look journal warnings files codes texts (Ok answer) bytes status said reported good =
      explained gives is_c form colour search look journal warnings files codes texts answer said (sym reported.1 ∙ good)
  own_explains_clean gives is_c form colour search look journal warnings files codes texts (Err f) bytes status said reported good =
      absurd (omega (arith, reported.1.1, good))

  explains_clean : (gives : Giving) (is_c : Bool) (form : Form) (colour : Colour) (search : SearchChoice) (look : Look)
      (journal : Option Text)
      (warnings : Choice) (files : List Text) (codes : List (Option Text)) (texts : List Text) (said : Result Answer Failure)
      (bytes : List ℕ) (status : ℕ) →
      IsOf OfExplain (IsExplained gives is_c form look warnings.allowed journal files codes texts) said → IsReported said bytes status →
      status ≡ 0 → IsClean (Explain form colour search journal warnings is_c files) texts
  explains_clean gives is_c form colour search look journal warnings files codes texts said bytes status (own, same, is) reported good =
      own_explains_clean gives is_c form colour search look journal warnings files codes texts own bytes status is
      (subst (λ s. IsReported s bytes status) same reported) good

  -- where this is said of what is asked for, and reported with the status 0, the text breaks nothing
  pub clean_of : (shown : Bool) (gives : Giving) (request : Asked) (codes : List (Option Text)) (texts : List Text)
      (said : Result Answer Failure) (bytes : List ℕ) (status : ℕ) →
      IsSaid shown gives request codes texts said → IsReported said bytes status → status ≡ 0 → IsClean request texts
  clean_of shown gives (Check file cert) codes texts said bytes status is reported good =
      says_clean OfText gives _ texts IsChecked _ said bytes status (λ answer is well. checked texts answer file cert is well) is reported
      good
  clean_of shown gives (Analyse file) codes texts said bytes status is reported good =
      says_clean OfText gives _ texts IsAnalysed _ said bytes status (λ answer is well. analysed texts answer file is well) is reported good
  clean_of shown gives (Thin file cert) codes texts said bytes status is reported good =
      says_clean OfText gives _ texts IsThinned _ said bytes status (λ answer is well. thinned texts answer file cert is well) is reported
      good
  clean_of shown gives (Run workers quiet script files) codes texts said bytes status is reported good =
      says_clean OfRun gives _ texts IsRan _ said bytes status
      (λ answer is well. driven texts answer workers quiet script files is well) is reported good
  clean_of shown gives (Replay journal files) codes texts said bytes status is reported good = tt
  clean_of shown gives (Show timeline picture journal files) codes texts said bytes status is reported good = tt
  clean_of shown gives (Explain form colour search journal warnings is_c files) codes texts said bytes status is reported good =
      explains_clean gives is_c form colour search (look_in colour shown search warnings) journal warnings files codes texts said bytes
      status is reported good
  clean_of shown gives (Extract of_map files) codes texts said bytes status is reported good = tt
  clean_of shown gives (Format mode files) codes texts said bytes status is reported good = tt
  clean_of shown gives (Pages names) codes texts said bytes status is reported good = tt
  clean_of shown gives (Compare files) codes texts said bytes status is reported good = tt
  clean_of shown gives (Functions defined undefined folders files) codes texts said bytes status is reported good = tt
  clean_of shown gives (Emit part file cert) codes texts said bytes status is reported good =
      says_clean OfText gives _ texts (IsEmitted part) _ said bytes status
      (λ answer is well. emitted texts answer part file cert is well) is reported good
  clean_of shown gives (EmitInto folder is_forced file cert) codes texts said bytes status is reported good =
      says_clean OfText gives _ texts (IsEmittedInto gives is_forced folder) _ said bytes status
      (λ answer is well. emitted_into gives texts answer folder is_forced file cert is well) is reported good
  clean_of shown gives Serve codes texts said bytes status is reported good = tt
