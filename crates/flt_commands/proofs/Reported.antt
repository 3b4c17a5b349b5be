-- The report on what is asked for, from what is said of it and how that is printed.
use Rattle.std.proofs.Common.{◌≡◌, ◌≢◌, ◌∙◌, ℕ, List, [], ◌∷◌, ◌++◌, flat_map, refl, Option, Some, None, Result}
use Rattle.std.proofs.Common.{Ok, Err, IfErr, IfOk, OnOk, Bool, option_map, Vec, Global, map, ap, sym, arith}
use Rattle.std.proofs.Math.Path.{subst}
use Rattle.flt_syntax.specs.TextFails.{SpelledFailsNowhere}
use Rattle.flt_commands.proofs.Covered.{Law, LawOfRuns, clean_of}
use Rattle.flt_commands.specs.Commands.{Answers, AnswersFor, AreThose, HasCodes, HoldsBack, IsAnswered}
use Rattle.flt_commands.specs.Commands.{IsBefore, IsCutShort, IsKept, IsRemarked, NamesNoJournal, IsRemarkedAfter}
use Rattle.flt_commands.specs.Commands.{IsReported, IsSaid, codes_of, giving_for, texts_in}
use Rattle.flt_door.specs.Door.{at_door}
use Rattle.flt_files.specs.Attempts.{Attempt, AreDeedsOf, Does, Failed, IsUndone, Wrote, none as no_deeds}
use Rattle.flt_files.specs.Deeds.{Deed}
use Rattle.flt_commands_runs.specs.Drawn.{IsDrawnFor}
use Rattle.flt_commands_runs.specs.Replay.{IsKeptAs}
use Rattle.flt_commands_texts.specs.EmitInto.{ArePut}
use Rattle.flt_commands_explain.specs.Explain.{ArePaged, IsSpelledAs, IsWrittenFor}
use Rattle.flt_commands_texts.specs.Format.{AreChanged, attempts_in}
use Rattle.flt_explain_outcomes.specs.Noted.{first_journal}
use Rattle.std.specs.Prelude.{drop}
use Rattle.flt_files.specs.Inputs.{Giving, Says, Text, given}
use Rattle.flt_commands_explain.specs.Remarks.{IsFound, unread_in, unread_lines}
use Rattle.flt_commands.specs.Answer.{of_explain, of_run}
use Rattle.flt_commands_explain.specs.Answer.{status_of as explain_status}
use Rattle.flt_files.specs.Unread.{status_beside}
use Rattle.flt_files.specs.declared.unread.UnreadFile.{UnreadFile}
use Rattle.flt_model.specs.JournalText.{Entries, spelling}
use Rattle.flt_words.specs.Request.{Asked, Choice, EmitInto, Explain, Format, Show}
use Rattle.flt_words.specs.declared.request.Colour.{Colour}
use Rattle.flt_words.specs.declared.request.Form.{Form}
use Rattle.flt_words.specs.declared.request.FormatMode.TheVariants.{Write}
use Rattle.flt_words.specs.declared.request.SearchChoice.{SearchChoice}
use Rattle.flt_commands.specs.declared.answer.Answer.{Answer}
use Rattle.flt_commands_explain.specs.declared.answer.ExplainAnswer.{ExplainAnswer}
use Rattle.flt_commands_explain.specs.declared.answer.ExplainAnswer.TheVariants.{Explained, Pages}
use Rattle.flt_commands_runs.specs.declared.answer.RunAnswer.{RunAnswer}
use Rattle.flt_commands_runs.specs.declared.answer.RunAnswer.TheVariants.{Shown}
use Rattle.flt_commands_texts.specs.declared.answer.TextAnswer.{TextAnswer}
use Rattle.flt_commands_texts.specs.declared.answer.TextAnswer.TheVariants.{EmittedInto, Formatted}
use Rattle.flt_files.specs.declared.failure.Failure.{Failure}
use Rattle.flt_files.specs.declared.failure.Failure.TheVariants.{CannotWrite, OutOfMemory as RanOut}
use Rattle.flt_commands_explain.specs.declared.fault.CommandFault.{CommandFault}
use Rattle.flt_commands_explain.specs.declared.fault.CommandFault.TheVariants.{OutOfMemory}
use Rattle.flt_commands.specs.declared.report.Report.{Report}

-- ---- what was read is what the report has

-- of texts alone
pub those_of : (texts : Vec (Vec ℕ Global) Global) (result : Result Report CommandFault) → IfOk result (λ report. report.texts ≡ texts) →
    IfOk result (λ report. map (λ text. text.items) texts.items ≡ texts_in report)
those_of texts (Ok report) same = ap (λ (ts : Vec (Vec ℕ Global) Global). map (λ text. text.items) ts.items) (sym same)
those_of texts (Err f) same = tt

-- the entries that a command kept are those of its answer
kept_as : (journal : Option Entries) (bytes : Text) (own : Result RunAnswer Failure) → IsKeptAs journal bytes own →
    IsKeptAs journal bytes (of_run own)
kept_as (Some entries) bytes (Ok answer) is = is
kept_as None bytes (Ok answer) is = is
kept_as journal bytes (Err f) is = is

-- of a journal and texts
pub those_after : (bytes : Text) (texts : Vec (Vec ℕ Global) Global) (journal : Option Entries) (own : Result RunAnswer Failure)
    (said : Result Answer Failure) (result : Result Report CommandFault) → said ≡ of_run own →
    IfOk result (λ report. report.texts ≡ texts) → IfOk result (λ report. report.journal ≡ journal) → IsKeptAs journal bytes own →
    IfOk result (λ report. (first : Text) × (bytes ∷ map (λ text. text.items) texts.items ≡ first ∷ texts_in report)
    × IsKeptAs report.journal first said)
those_after bytes texts journal own said (Ok report) is same kept has = (
  bytes,
  ap (λ (ts : Vec (Vec ℕ Global) Global). bytes ∷ map (λ text. text.items) ts.items) (sym same),
  subst (λ (s : Result Answer Failure). IsKeptAs report.journal bytes s) (sym is)
      (kept_as report.journal bytes own (subst (λ (entries : Option Entries). IsKeptAs entries bytes own) (sym kept) has)),
)
those_after bytes texts journal own said (Err f) is same kept has = tt

-- the C files that a report is given are those that it has
pub codes_given : (codes : Vec (Option (Vec ℕ Global)) Global) (result : Result Report CommandFault) →
    IfOk result (λ report. report.codes ≡ codes) →
    IfOk result (λ report. map (option_map (λ code. code.items)) codes.items ≡ codes_of report)
codes_given codes (Ok report) same =
    ap (λ (cs : Vec (Option (Vec ℕ Global)) Global). map (option_map (λ (code : Vec ℕ Global). code.items)) cs.items) (sym same)
codes_given codes (Err f) same = tt

-- a report of `explain` on files may have any
pub may_have : (result : Result Report CommandFault) → IfOk result (λ report. Unit {0})
may_have (Ok report) = tt
may_have (Err f) = tt

-- where it has none, it has those that another request has
none_are_had : (request : Asked) (report : Report) → report.codes.items ≡ [] → HasCodes request report
none_are_had (Explain form colour search journal warnings is_c files) report none = tt
none_are_had _ report none = none

-- ---- pages, and what stands before a line

-- what is said of pages is said of no input
pub says_of_pages : (gives : Giving) (names texts : List Text) (said : Result ExplainAnswer Failure) → texts ≡ [] → ArePaged names said →
    Says gives [] (λ read. ArePaged names) texts said
says_of_pages gives names texts said none is = given said (rw none (record { each = tt; once = omega arith })) is

-- what was remarked after a request is what is remarked on it
pub remarked_after : (request : Asked) (before : List ℕ) (said : Result Answer Failure) (result : Result Report CommandFault) →
    IsBefore request said before → IfOk result (λ report. IsRemarkedAfter before said report.remark.items) →
    IfOk result (λ report. IsRemarked request said report.remark.items)
remarked_after request before said (Ok report) first is = (before, first, is)
remarked_after request before said (Err f) first is = tt

-- what is done for a journal that is shown is what the request has
pub kept_shown : (written : Text → Text → Type 0) (does : List Attempt → Type 0) (timeline : Bool) (picture : Option Text)
    (journal : Text) (files : List Text) (bytes : Text) (texts : List Text) (own : Result RunAnswer Failure)
    (said : Result Answer Failure) → said ≡ of_run own → IsDrawnFor written does picture texts own →
    IsKept written does (Show timeline picture journal files) (bytes ∷ texts) said
kept_shown written does timeline picture journal files bytes texts own said is drawn = (own, is, drawn)

-- beside a journal that is shown nothing is said
own_before : (P : Type 0) (own : Result RunAnswer Failure) → OnOk own P → OnOk (of_run own) P
own_before P (Ok answer) is = is
own_before P (Err f) is = tt

pub before_shown : (before : List ℕ) (own : Result RunAnswer Failure) (said : Result Answer Failure) → said ≡ of_run own →
    OnOk own (before ≡ []) → OnOk said (before ≡ [])
before_shown before own said is none =
    subst (λ (s : Result Answer Failure). OnOk s (before ≡ [])) (sym is) (own_before (before ≡ []) own none)

-- ---- with the exit status 0 or 1 nothing is remarked

-- of a journal that is shown
pub quiet_shown : (P : Type 0) (before : List ℕ) (said : Result Answer Failure) (result : Result Report CommandFault) →
    OnOk said (before ≡ []) → IfOk result (λ report. IsReported said report.output.items report.status) →
    IfOk result (λ report. report.status ≢ 2 → report.remark.items ≡ before) →
    IfOk result (λ report. report.status ≢ 2 → P → report.remark.items ≡ [])
quiet_shown P before (Ok answer) (Ok report) none reported same = λ good p. same good ∙ none
quiet_shown P before (Err f) (Ok report) none reported same = λ good p. absurd (good reported.1.1)
quiet_shown P before said (Err e) none reported same = tt

-- where each file is read, nothing is said of one that isn't
none_unread : (status : ℕ) (unread : List UnreadFile) → status_beside status unread ≢ 2 → flat_map unread_lines unread ≡ []
none_unread status [] good = refl
none_unread status (file ∷ files) good = absurd (good refl)

unread_none : (answer : ExplainAnswer) → explain_status answer ≢ 2 → unread_in answer ≡ []
unread_none (Explained e unread) good = none_unread e.explained.status unread.items good
unread_none (Pages pages) good = refl

-- of what `explain` says, where no file is named for a journal
pub quiet_for : (form : Form) (colour : Colour) (search : SearchChoice) (journal : Option Text) (warnings : Choice) (is_c : Bool)
    (files : List Text) (before : List ℕ) (own : Result ExplainAnswer Failure) (result : Result Report CommandFault) →
    IsFound journal own before →
    IfOk result (λ report. IsReported (of_explain own) report.output.items report.status) →
    IfOk result (λ report. report.status ≢ 2 → report.remark.items ≡ before) →
    IfOk result (λ report. report.status ≢ 2 → NamesNoJournal (Some (Explain form colour search journal warnings is_c files)) →
    report.remark.items ≡ [])
quiet_for form colour search (Some name) warnings is_c files before own (Ok report) found reported same = λ good names. absurd names
quiet_for form colour search None warnings is_c files before (Ok answer) (Ok report) found reported same =
    λ good names. same good ∙ found ∙ ap (λ lines. lines ++ []) (unread_none answer (λ two. good (reported.1 ∙ two)))
quiet_for form colour search None warnings is_c files before (Err f) (Ok report) found reported same =
    λ good names. absurd (good reported.1.1)
quiet_for form colour search journal warnings is_c files before own (Err e) found reported same = tt

-- ---- of a request, and of what is asked for by it

module _ (wanted : Option Asked) (request : Asked) (asks : Some request ≡ wanted) where
  -- what is answered to the request is answered to what is asked for
  pub answers_asked : (shown : Bool) (gives : Giving) (written : Text → Text → Type 0) (does : List Attempt → Type 0)
      (result : Result Report CommandFault) → IfOk result (IsAnswered shown gives written does request) →
      IfOk result (λ report. AnswersFor shown gives written does wanted report)
  answers_asked shown gives written does (Ok report) is = rw (← asks) is
  answers_asked shown gives written does (Err e) is = tt

  -- where the request is quiet, so is what is asked for
  pub quiet_asked : (result : Result Report CommandFault) →
      IfOk result (λ report. report.status ≢ 2 → NamesNoJournal (Some request) → report.remark.items ≡ []) →
      IfOk result (λ report. report.status ≢ 2 → NamesNoJournal wanted → report.remark.items ≡ [])
  quiet_asked result quiet = rw (← asks) quiet

  -- what is cut short of the request is cut short of what is asked for
  pub cut_asked : (gives : Giving) (old new : Option Text) (result : Result Report CommandFault) →
      IfErr result (λ e. e ≡ OutOfMemory → IsCutShort gives (Some request) old new) →
      IfErr result (λ e. e ≡ OutOfMemory → IsCutShort gives wanted old new)
  cut_asked gives old new result cut = rw (← asks) cut

  -- where the request holds its output back, so does what is asked for
  pub held_asked : {O : Type 0} (old new : O) → (HoldsBack (Some request) → new ≡ old) → HoldsBack wanted → new ≡ old
  held_asked old new held = rw (← asks) held

-- where a folder is named for a driver, nothing is said of lines beside the answer
pub never_quiet : (wanted : Option Asked) (folder : Text) (is_forced : Bool) (file : Text) (cert : Option Text) →
    Some (EmitInto folder is_forced file cert) ≡ wanted → (result : Result Report CommandFault) →
    IfOk result (λ report. report.status ≢ 2 → NamesNoJournal wanted → report.remark.items ≡ [])
never_quiet wanted folder is_forced file cert asks (Ok report) = rw (← asks) (λ good none. absurd none)
never_quiet wanted folder is_forced file cert asks (Err e) = tt

-- ---- what is done to files, in other words

module _ (written : Text → Text → Type 0) (does did : List Attempt → Type 0)
    (said_so : (attempts : List Attempt) → does attempts → did attempts) where
  undone_as : (name : Text) (f : Failure) → IsUndone does name f → IsUndone did name f
  undone_as name (CannotWrite other why) is = said_so (Failed name ∷ []) is
  undone_as name RanOut is = tt
  undone_as name _ is = said_so [] is

  spelled_as : (name : Text) (journal : Option Entries) → IsSpelledAs written does name journal → IsSpelledAs written did name journal
  spelled_as name (Some entries) is = (is.0, said_so (Wrote name (spelling entries) ∷ []) is.1)
  spelled_as name None is = said_so [] is

  written_as : (journal : Option Text) (own : Result ExplainAnswer Failure) → IsWrittenFor written does journal own →
      IsWrittenFor written did journal own
  written_as None (Ok answer) is = said_so [] is
  written_as (Some name) (Ok (Explained e unread)) is = spelled_as name (first_journal e.noted) is
  written_as (Some name) (Ok (Pages pages)) is = said_so [] is
  written_as None (Err f) is = said_so [] is
  written_as (Some name) (Err f) is = undone_as name f is

  drawn_as : (picture : Option Text) (texts : List Text) (own : Result RunAnswer Failure) → IsDrawnFor written does picture texts own →
      IsDrawnFor written did picture texts own
  drawn_as None texts own is = said_so [] is
  drawn_as (Some name) texts (Ok (Shown rows v)) is =
      (is.0, is.1, (is.2.0, is.2.1, is.2.2, said_so (Wrote name (at_door is.2.0) ∷ []) is.2.3))
  drawn_as (Some name) texts (Ok _) is = absurd is
  drawn_as (Some name) texts (Err f) is = undone_as name f is

  changed_as : (answer : TextAnswer) → AreChanged written does answer → AreChanged written did answer
  changed_as (Formatted mode found) is = (is.0, said_so (attempts_in mode found.files.items) is.1)
  changed_as _ is = said_so [] is

  all_changed_as : (own : Result TextAnswer Failure) → IfOk own (AreChanged written does) → IfOk own (AreChanged written did)
  all_changed_as (Ok answer) is = changed_as answer is
  all_changed_as (Err f) is = tt

  put_as : (folder : Text) (texts : List Text) (own : Result TextAnswer Failure) → ArePut written does folder texts own →
      ArePut written did folder texts own
  put_as folder (text ∷ texts) (Ok (EmittedInto driver)) is = record {
    graph = is.graph;
    points = is.points;
    listed = is.listed;
    kinds = is.kinds;
    put = record { read = is.put.read; named = is.put.named; done = is.put.done; only = said_so _ is.put.only };
  }
  put_as folder [] (Ok (EmittedInto driver)) is = is
  put_as folder texts (Ok _) is = said_so [] is
  put_as folder texts (Err f) is = λ other. said_so [] (is other)

  kept_as_done : (request : Asked) (texts : List Text) (said : Result Answer Failure) → IsKept written does request texts said →
      IsKept written did request texts said
  kept_as_done (Explain form colour search journal warnings is_c files) texts said (own, same, is) = (own, same, written_as journal own is)
  kept_as_done (Show timeline picture journal files) texts said (own, same, is) = (own, same, drawn_as picture (drop 1 texts) own is)
  kept_as_done (Format Write files) texts said (own, same, is) = (own, same, all_changed_as own is)
  kept_as_done (EmitInto folder is_forced file cert) texts said (own, same, is) = (own, same, put_as folder texts own is)
  kept_as_done _ texts said is = said_so [] is

  answered_as : (shown : Bool) (gives : Giving) (request : Option Asked) (report : Report) →
      AnswersFor shown gives written does request report → AnswersFor shown gives written did request report
  answered_as shown gives None report is = (is.0, said_so [] is.1)
  answered_as shown gives (Some request) report is = record {
    said = is.said;
    texts = is.texts;
    those = is.those;
    coded = is.coded;
    is = is.is;
    reported = is.reported;
    remarked = is.remarked;
    clean = is.clean;
    kept = kept_as_done request is.texts is.said is.kept;
  }

  -- what answers a request answers it in other words of what is done
  pub answers_as : (shown : Bool) (gives : Giving) (request : Option Asked) (result : Result Report CommandFault) →
      IfOk result (Answers shown gives written does request) → IfOk result (Answers shown gives written did request)
  answers_as shown gives request (Ok report) is = (is.0, answered_as shown gives request is.0 is.1, is.2)
  answers_as shown gives request (Err e) is = tt

-- what was done since nothing was is all that was done
pub all_done : (same : Type 0) (old new : List Deed) → old ≡ [] → (same → new ≡ old) → (attempts : List Attempt) →
    Does same old new attempts → AreDeedsOf attempts new
all_done same old new none unchanged [] is = rw (unchanged is ∙ none) no_deeds
all_done same old new none unchanged (x ∷ xs) is =
    subst (AreDeedsOf (x ∷ xs)) (sym (is.added ∙ ap (λ (l : List Deed). l ++ is.more) none)) is.are

-- ---- all of it

module _ (law : Law) (runs : LawOfRuns) (nowhere : SpelledFailsNowhere) (shown : Bool) (gives : Giving)
    (written : Text → Text → Type 0) (does : List Attempt → Type 0) where
  -- what is said of what is asked for, and reported, answers it
  pub answered_of : (request : Asked) (codes : List (Option Text)) (texts : List Text) (said : Result Answer Failure)
      (result : Result Report CommandFault) → IsSaid shown (giving_for request gives) request codes texts said →
      IsKept written does request texts said → IfOk result (λ report. AreThose request report texts said) →
      IfOk result (λ report. HasCodes request report) → IfOk result (λ report. codes ≡ codes_of report) →
      IfOk result (λ report. IsReported said report.output.items report.status) →
      IfOk result (λ report. IsRemarked request said report.remark.items) → IfOk result (IsAnswered shown gives written does request)
  answered_of request codes texts said (Ok report) is kept those coded same reported remarked = record {
    said = said;
    texts = texts;
    those = those;
    coded = coded;
    is = subst (λ cs. IsSaid shown (giving_for request gives) request cs texts said) same is;
    reported = reported;
    remarked = remarked;
    clean = λ good. clean_of law runs nowhere shown (giving_for request gives) request codes texts said report.output.items
        report.status is reported good;
    kept = kept;
  }
  answered_of request codes texts said (Err f) is kept those coded same reported remarked = tt

  -- the same where the report has no C files
  pub answered_without : (request : Asked) (texts : List Text) (said : Result Answer Failure) (result : Result Report CommandFault) →
      IsSaid shown (giving_for request gives) request [] texts said → IsKept written does request texts said →
      IfOk result (λ report. AreThose request report texts said) → IfOk result (λ report. report.codes.items ≡ []) →
      IfOk result (λ report. IsReported said report.output.items report.status) →
      IfOk result (λ report. IsRemarked request said report.remark.items) → IfOk result (IsAnswered shown gives written does request)
  answered_without request texts said (Ok report) is kept those none reported remarked =
      answered_of request [] texts said (Ok report) is kept those (none_are_had request report none)
      (ap (map (option_map (λ (code : Vec ℕ Global). code.items))) (sym none)) reported remarked
  answered_without request texts said (Err f) is kept those none reported remarked = tt

  -- the same of what is asked for
  pub answers_of : (wanted : Option Asked) (request : Asked) (texts : List Text) (said : Result Answer Failure)
      (result : Result Report CommandFault) → Some request ≡ wanted → IsSaid shown (giving_for request gives) request [] texts said →
      IsKept written does request texts said → IfOk result (λ report. AreThose request report texts said) →
      IfOk result (λ report. report.codes.items ≡ []) →
      IfOk result (λ report. IsReported said report.output.items report.status) →
      IfOk result (λ report. IsRemarked request said report.remark.items) →
      IfOk result (λ report. AnswersFor shown gives written does wanted report)
  answers_of wanted request texts said (Ok report) asks is kept those none reported remarked =
      rw (← asks) (answered_without request texts said (Ok report) is kept those none reported remarked)
  answers_of wanted request texts said (Err f) asks is kept those none reported remarked = tt
