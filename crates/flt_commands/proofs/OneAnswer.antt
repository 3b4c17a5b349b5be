-- A command line has one answer at most.
use Rattle.std.proofs.Common.{◌≡◌, ◌≢◌, ℕ, Bool, true, false, List, Option, Some, None}
use Rattle.std.proofs.Common.{Result, Ok, Err, codes, refl, subst, sym, ap, unwrap_or, ◌∙◌}
use Rattle.std.specs.Str.{bytes_eq}
use Rattle.flt_commands.proofs.OneComparison.{compares_once}
use Rattle.flt_commands.proofs.OneExtraction.{extracts_once}
use Rattle.flt_commands.proofs.OneLayout.{layouts_said_once}
use Rattle.flt_commands.proofs.OneReading.{says_once, told_unread}
use Rattle.flt_commands_texts.specs.Analyse.{IsAnalysed}
use Rattle.flt_commands.specs.Answer.{IsOf, answered, output, status_of}
use Rattle.flt_files.specs.Attempts.{Attempt}
use Rattle.flt_commands_texts.specs.Check.{IsChecked}
use Rattle.flt_commands.specs.Commands.{Answers, AnswersFor, IsReported, IsSaid, IsUnserved, codes_of, gives_bytes, giving_for, out_of}
use Rattle.flt_commands_texts.specs.Compare.{IsCompared}
use Rattle.flt_commands_texts.specs.Extract.{IsExtracted}
use Rattle.flt_commands_texts.specs.Format.{IsFormatSaid}
use Rattle.flt_commands_texts.specs.Functions.{AreListed}
use Rattle.flt_c_functions.specs.Options.{lines_of}
use Rattle.flt_files.specs.Inputs.{Giving, Says, Text, gives_but, gives_if, gives_text, kept}
use Rattle.flt_files.specs.Names.{names_of}
use Rattle.flt_commands_runs.specs.Replay.{IsReplayed}
use Rattle.flt_commands.specs.Single.{AreSame, AskForOne, GivesOne, HasOneAnswer, ListsOne, SaysOne, seen, told}
use Rattle.flt_commands_texts.specs.Thin.{IsThinned}
use Rattle.flt_words.specs.Request.{Asked, Check, Analyse, Thin, Run, Replay, Show, Explain}
use Rattle.flt_words.specs.Request.{Extract, Format, Pages, Emit, EmitInto, Compare, Functions, Serve}
use Rattle.flt_commands.specs.declared.answer.Answer.{Answer}
use Rattle.flt_commands.specs.declared.answer.Answer.TheVariants.{OfRun, OfText}
use Rattle.flt_files.specs.declared.failure.Failure.{Failure}
use Rattle.flt_files.specs.declared.failure.Failure.TheVariants.{OutOfMemory}
use Rattle.flt_commands.specs.declared.report.Report.{Report}
use Rattle.flt_syntax.specs.TextFails.{SpelledFailsNowhere}
use Rattle.flt_words.specs.declared.request.FormatMode.TheVariants as modes

-- an answer isn't want of memory, nor is any other failure
an_answer : (a : Answer) → Ok a ≢ Err OutOfMemory
an_answer a e = cc

a_failure : (f : Failure) → f ≢ OutOfMemory → (r : Result Answer Failure) → r ≡ Err f → r ≢ Err OutOfMemory
a_failure f other r is e = let same : f ≡ OutOfMemory = cc in other same

same_pair : (p q : List ℕ × ℕ) (r s : Result (List ℕ × ℕ) Failure) → r ≡ s → r ≡ Ok p → s ≡ Ok q → p ≡ q
same_pair p q r s h e f = cc

not_both : (p : List ℕ × ℕ) (f : Failure) (r s : Result (List ℕ × ℕ) Failure) → r ≡ s → r ≡ Ok p → s ≡ Err f → ⊥
not_both p f r s h e g = cc

module _ (bytes other : List ℕ) (status other_status : ℕ) where
  -- of what is the same one thing is reported
  reported_once : (a b : Result Answer Failure) → AreSame a b → IsReported a bytes status → IsReported b other other_status →
      (bytes ≡ other) × (status ≡ other_status)
  reported_once (Ok a) (Ok b) same x y =
      let once = same_pair (output a, status_of a) (output b, status_of b) (seen (Ok a)) (seen (Ok b))
      (same (an_answer a) (an_answer b)) refl refl in
      (x.0 ∙ ap (λ (p : List ℕ × ℕ). p.0) once ∙ sym y.0, x.1 ∙ ap (λ (p : List ℕ × ℕ). p.1) once ∙ sym y.1)
  reported_once (Ok a) (Err f) same x y =
      absurd (not_both (output a, status_of a) (told f) (seen (Ok a)) (seen (Err f))
      (same (an_answer a) (a_failure f y.0 (Err f) refl)) refl refl)
  reported_once (Err f) (Ok b) same x y =
      absurd (not_both (output b, status_of b) (told f) (seen (Ok b)) (seen (Err f))
      (sym (same (a_failure f x.0 (Err f) refl) (an_answer b))) refl refl)
  reported_once (Err f) (Err h) same x y = (x.1.0 ∙ sym y.1.0, x.1.1 ∙ sym y.1.1)

-- ---- where one thing is given at most for each name, so is what is kept of it

module _ (gives : Giving) (one : GivesOne gives) where
  text_once : (name : Text) (a b : Option Text) → gives_text gives name a → gives_text gives name b → a ≡ b
  text_once name (Some a) (Some b) (text, is, same) (other, has, alike) =
      let both : Some text ≡ Some other = one name (Some text) (Some other) is has in
      let inner : text ≡ other = cc in
      let found : a ≡ b = same ∙ ap kept inner ∙ sym alike in ap Some found
  text_once name (Some a) None (text, is, same) has =
      let both : Some text ≡ None = one name (Some text) None is has in
      let no : ⊥ = cc in absurd no
  text_once name None (Some b) has (text, is, same) =
      let both : None ≡ Some text = one name None (Some text) has is in
      let no : ⊥ = cc in absurd no
  text_once name None None has other = refl

  if_once : (whole : Bool) (name : Text) (a b : Option Text) → gives_if whole gives name a → gives_if whole gives name b → a ≡ b
  if_once true = one
  if_once false = text_once

  but_once : (whole : Option Text) → GivesOne (gives_but whole gives)
  but_once None = text_once
  but_once (Some whole) = λ name. if_once (bytes_eq name whole) name

  pub gives_one : (request : Asked) → GivesOne (giving_for request gives)
  gives_one (Check file cert) = but_once (Some (unwrap_or cert file))
  gives_one (Analyse file) = but_once None
  gives_one (Thin file cert) = but_once (Some (unwrap_or cert file))
  gives_one (Run workers quiet script files) = but_once (Some script)
  gives_one (Replay journal files) = but_once (Some journal)
  gives_one (Show timeline picture journal files) = but_once (Some journal)
  gives_one (Explain form colour search journal warnings is_c files) = one
  gives_one (Extract of_map files) = one
  gives_one (Format mode files) = one
  gives_one (Pages names) = one
  gives_one (Emit part file cert) = but_once cert
  gives_one (EmitInto folder is_forced file cert) = one
  gives_one (Compare files) = one
  gives_one (Functions defined undefined folders files) = one
  gives_one Serve = one

-- ---- what `draft --functions` lists

-- where functions are asked for, one thing is listed at most
abbrev ListsFor : Giving → Asked → Type 0
ListsFor gives (Functions defined undefined folders files) = SaysOne OfText (AreListed gives folders (lines_of defined undefined) files)
ListsFor gives request = Unit {0}

-- so it is for each request, of what the inputs give
pub lists_as : (gives : Giving) → ListsOne gives → (request : Asked) → ListsFor gives request
lists_as gives listed (Functions defined undefined folders files) = listed folders (lines_of defined undefined) files
lists_as gives listed request = tt

-- and of what is kept of that
lists_for : (gives : Giving) → ListsOne gives → (request : Asked) → ListsFor (giving_for request gives) request
lists_for gives listed (Functions defined undefined folders files) = listed folders (lines_of defined undefined) files
lists_for gives listed request = tt

-- the standard input can't be read for a server
unserved_once : (a b : Result Answer Failure) → IsUnserved a → IsUnserved b → AreSame a b
unserved_once (Ok x) b first second = absurd first
unserved_once (Err f) (Ok y) first second = absurd second
unserved_once (Err f) (Err g) first second = λ _ _. ap Err (told_unread (codes "-") f first ∙ sym (told_unread (codes "-") g second))

-- where commands of one kind say one thing at most, so much is said of any
module _ {A : Type 0} (kind : A → Answer) where
  of_one_kind : (IsFirst IsSecond : Result A Failure → Type 0) →
      ((x y : Result A Failure) → IsFirst x → IsSecond y → AreSame (answered kind x) (answered kind y)) → (a b : Result Answer Failure) →
      IsOf kind IsFirst a → IsOf kind IsSecond b → AreSame a b
  of_one_kind IsFirst IsSecond once a b (x, first, is) (y, second, has) =
      subst (λ s. AreSame s b) (sym first) (subst (λ s. AreSame (answered kind x) s) (sym second) (once x y is has))

  -- the same of what is said where names are read
  says_of_one_kind : (gives : Giving) → GivesOne gives → (names : List Text) (IsSaidOf : List Text → Result A Failure → Type 0) →
      SaysOne kind IsSaidOf → (texts more : List Text) (a b : Result Answer Failure) → IsOf kind (Says gives names IsSaidOf texts) a →
      IsOf kind (Says gives names IsSaidOf more) b → AreSame a b
  says_of_one_kind gives one names IsSaidOf once texts more =
      of_one_kind (Says gives names IsSaidOf texts) (Says gives names IsSaidOf more)
      (says_once gives one kind names IsSaidOf once texts more)

module _ (checked : SaysOne OfText IsChecked) (analysed : SaysOne OfText IsAnalysed) (thinned : SaysOne OfText IsThinned)
    (replayed : SaysOne OfRun IsReplayed) (nowhere : SpelledFailsNowhere) where
  -- of what is asked for one thing is said at most
  pub said_once : (gives : Giving) (shown showing : Bool) (request : Asked) (codes others : List (Option Text)) (texts more : List Text)
      (a b : Result Answer Failure) → HasOneAnswer request → GivesOne gives → ListsFor gives request →
      IsSaid shown gives request codes texts a → IsSaid showing gives request others more b → AreSame a b
  said_once gives shown showing (Check file cert) codes others texts more a b has one listed x y =
      says_of_one_kind OfText gives one (names_of (Check file cert)) IsChecked checked texts more a b x y
  said_once gives shown showing (Analyse file) codes others texts more a b has one listed x y =
      says_of_one_kind OfText gives one (names_of (Analyse file)) IsAnalysed analysed texts more a b x y
  said_once gives shown showing (Thin file cert) codes others texts more a b has one listed x y =
      says_of_one_kind OfText gives one (names_of (Thin file cert)) IsThinned thinned texts more a b x y
  said_once gives shown showing (Run workers quiet script files) codes others texts more a b has one listed x y = absurd has
  said_once gives shown showing (Replay journal files) codes others texts more a b has one listed x y =
      says_of_one_kind OfRun gives one (names_of (Replay journal files)) IsReplayed replayed texts more a b x y
  said_once gives shown showing (Show timeline picture journal files) codes others texts more a b has one listed x y = absurd has
  said_once gives shown showing (Explain form colour search journal warnings is_c files) codes others texts more a b has one listed x y =
      absurd has
  said_once gives shown showing (Extract of_map files) codes others texts more a b has one listed x y =
      says_of_one_kind OfText gives one (names_of (Extract of_map files)) (IsExtracted of_map files) (extracts_once of_map files) texts
      more a b x y
  said_once gives shown showing (Format modes.Print files) codes others texts more a b has one listed x y =
      of_one_kind OfText (IsFormatSaid gives modes.Print files texts) (IsFormatSaid gives modes.Print files more)
      (layouts_said_once nowhere gives one modes.Print (λ e. cc) files texts more) a b x y
  said_once gives shown showing (Format modes.Check files) codes others texts more a b has one listed x y =
      of_one_kind OfText (IsFormatSaid gives modes.Check files texts) (IsFormatSaid gives modes.Check files more)
      (layouts_said_once nowhere gives one modes.Check (λ e. cc) files texts more) a b x y
  said_once gives shown showing (Format modes.Write files) codes others texts more a b has one listed x y = absurd has
  said_once gives shown showing (Pages names) codes others texts more a b has one listed x y = absurd has
  said_once gives shown showing (Emit part file cert) codes others texts more a b has one listed x y = absurd has
  said_once gives shown showing (EmitInto folder is_forced file cert) codes others texts more a b has one listed x y = absurd has
  said_once gives shown showing (Compare files) codes others texts more a b has one listed x y =
      says_of_one_kind OfText gives one (names_of (Compare files)) (IsCompared files) (compares_once files) texts more a b x y
  said_once gives shown showing (Functions defined undefined folders files) codes others texts more a b has one listed x y =
      says_of_one_kind OfText gives one (names_of (Functions defined undefined folders files))
      (AreListed gives folders (lines_of defined undefined) files) listed texts more a b x y
  said_once gives shown showing Serve codes others texts more a b has one listed x y = unserved_once a b x y

  -- one thing is printed at most, with one exit status
  printed_once : (gives : Giving) (written others : Text → Text → Type 0) (does did : List Attempt → Type 0) (shown showing : Bool)
      (request : Option Asked) (r s : Report) →
      AskForOne request → GivesOne gives → ListsOne gives → AnswersFor shown gives written does request r →
      AnswersFor showing gives others did request s →
      (r.output.items ≡ s.output.items) × (r.status ≡ s.status)
  printed_once gives written others does did shown showing None r s has one listed x y = (x.0.0 ∙ sym y.0.0, x.0.1 ∙ sym y.0.1)
  printed_once gives written others does did shown showing (Some request) r s has one listed x y =
      reported_once r.output.items s.output.items r.status s.status x.said y.said
      (said_once (giving_for request gives) shown showing request (codes_of r) (codes_of s) x.texts y.texts x.said y.said has
      (gives_one gives one request) (lists_for gives listed request) x.is y.is)
      x.reported y.reported

  -- the same of what goes out
  pub let_out_once : (gives : Giving) (written others : Text → Text → Type 0) (does did : List Attempt → Type 0) (shown showing : Bool)
      (request : Option Asked) (r s : Report) →
      AskForOne request → GivesOne gives → ListsOne gives → Answers shown gives written does request r →
      Answers showing gives others did request s →
      (r.output.items ≡ s.output.items) × (r.status ≡ s.status)
  let_out_once gives written others does did shown showing request r s has one listed (a, x, p) (b, y, q) =
      let same = printed_once gives written others does did shown showing request a b has one listed x y in (
        p.output ∙ ap (out_of (gives_bytes request)) same.0 ∙ sym q.output,
        p.status ∙ same.1 ∙ sym q.status,
      )
