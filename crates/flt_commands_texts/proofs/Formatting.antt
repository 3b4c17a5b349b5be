-- Files whose texts are laid out: one after the other, what is written into them, and what is said of them.
use Rattle.std.proofs.Common.{◌≡◌, ◌∙◌, ◌+◌, ◌<◌, ◌||◌, ℕ, Bool, true, false, ap, get_or, take, List, []}
use Rattle.std.proofs.Common.{◌∷◌, ◌++◌, Bor, Vec, Global, append-nil, append_assoc, length, map, refl, string_bytes, subst, sym}
use Rattle.std.proofs.lemmas.List.Elements.{All-push, All-weaker}
use Rattle.std.specs.List.{All}
use Rattle.flt_files.proofs.Doing.{grows_more}
use Rattle.flt_files.specs.Attempts.{Attempt, Does, Grows}
use Rattle.flt_files.specs.Deeds.{Deed}
use Rattle.flt_commands_texts.specs.Format.{AreFormatted, AreOutcomes, IsDone, IsFileDone, IsOutcome, IsFormatKept}
use Rattle.flt_commands_texts.specs.Format.{attempts_for, attempts_in}
use Rattle.flt_commands_texts.specs.Format.{one_more as an_outcome_more}
use Rattle.flt_files.specs.Inputs.{AreReadIn, Giving, Text}
use Rattle.flt_commands_texts.specs.declared.answer.TextAnswer.TheVariants.{Formatted}
use Rattle.flt_files.specs.declared.inputs.ReadFiles.{ReadFiles}
use Rattle.flt_commands_texts.specs.declared.outcomes.FileOutcome.{FileOutcome}
use Rattle.flt_commands_texts.specs.declared.outcomes.Outcome.{Outcome}
use Rattle.flt_commands_texts.specs.declared.outcomes.Outcomes.{Outcomes}
use Rattle.flt_commands_texts.specs.declared.outcomes.Outcome.TheVariants.{Other}
use Rattle.flt_tree.proofs.Parts.{one_more}
use Rattle.flt_words.specs.declared.request.FormatMode.{FormatMode}
use Rattle.flt_words.specs.declared.request.FormatMode.TheVariants as modes

-- ---- a file more

module _ (mode : FormatMode) (names : List (Bor Text)) (texts : List (Vec ℕ Global)) (i : ℕ) (name other : Bor Text)
    (text another : Vec ℕ Global) (few : i < length names) (within : i < length texts) (first : name ≡ get_or names i other)
    (second : text ≡ get_or texts i another) where
  -- one more file has the outcome of its text
  pub outcome_more : (files more : List FileOutcome) (file : FileOutcome) →
      AreOutcomes mode (map (λ n. n.now) (take i names)) (map (λ t. t.items) (take i texts)) files → string_bytes file.name ≡ name.now →
      IsOutcome mode text.items file → more ≡ files ++ file ∷ [] →
      AreOutcomes mode (map (λ n. n.now) (take (i + 1) names)) (map (λ t. t.items) (take (i + 1) texts)) more
  outcome_more files more file are named is pushed =
      let ns : map (λ (n : Bor Text). n.now) (take (i + 1) names) ≡ map (λ (n : Bor Text). n.now) (take i names) ++ name.now ∷ [] =
      one_more (λ n. n.now) names i name other few first in
      let ts : map (λ (t : Vec ℕ Global). t.items) (take (i + 1) texts) ≡ map (λ (t : Vec ℕ Global). t.items) (take i texts)
      ++ text.items ∷ [] =
      one_more (λ t. t.items) texts i text another within second in
      rw (ns, ts, pushed, ← named) (an_outcome_more text.items file are is)

-- what was written stays written
module _ (old new : Text → Text → Type 0) (kept : (other held : Text) → old other held → new other held) where
  done_still : (mode : FormatMode) (name : Text) (outcome : Outcome) → IsDone old mode name outcome → IsDone new mode name outcome
  done_still modes.Write name (Other bytes) is = kept name bytes.items is
  done_still mode name outcome is = tt

  -- one more file is done in its mode, and those before it stay so
  pub done_more : (mode : FormatMode) (files more : List FileOutcome) (file : FileOutcome) → All (IsFileDone old mode) files →
      IsFileDone new mode file → more ≡ files ++ file ∷ [] → All (IsFileDone new mode) more
  done_more mode files more file done one pushed =
      rw pushed (All-push (IsFileDone new mode) files file
      (All-weaker (IsFileDone old mode) (IsFileDone new mode) (λ f is. done_still mode (string_bytes f.name) f.outcome is) files done) one)

-- where neither of two holds
pub neither : (a b : Bool) → (a || b) ≡ false → (a ≡ false) × (b ≡ false)
neither true b h = absurd (cc h)
neither false b h = (refl, h)

-- one file more
attempts_more : (mode : FormatMode) (files : List FileOutcome) (file : FileOutcome) →
    attempts_in mode (files ++ file ∷ []) ≡ attempts_in mode files ++ attempts_for mode file
attempts_more mode [] file = append-nil (attempts_for mode file)
attempts_more mode (f ∷ fs) file =
    ap (λ (more : List Attempt). attempts_for mode f ++ more) (attempts_more mode fs file)
    ∙ sym (append_assoc (attempts_for mode f) (attempts_in mode fs) (attempts_for mode file))

-- what was done, and then what was done for one file more
module _ {P : Type 0} (done : P → List Deed) (start old new : P) where
  does_more : (xs ys : List Attempt) → Does (old ≡ start) (done start) (done old) xs → Does (new ≡ old) (done old) (done new) ys →
      Does (new ≡ start) (done start) (done new) (xs ++ ys)
  does_more [] [] first second = second ∙ first
  does_more [] (y ∷ ys) first second = subst (λ p. Grows (done p) (done new) (y ∷ ys)) first second
  does_more (x ∷ xs) [] first second = subst (λ zs. Grows (done start) (done new) (x ∷ zs)) (sym (append-nil xs))
      (subst (λ p. Grows (done start) (done p) (x ∷ xs)) (sym second) first)
  does_more (x ∷ xs) (y ∷ ys) first second = grows_more (done start) (done old) (done new) (x ∷ xs) (y ∷ ys) first second

  pub does_for : (mode : FormatMode) (files more : List FileOutcome) (file : FileOutcome) →
      Does (old ≡ start) (done start) (done old) (attempts_in mode files) →
      Does (new ≡ old) (done old) (done new) (attempts_for mode file) → more ≡ files ++ file ∷ [] →
      Does (new ≡ start) (done start) (done new) (attempts_in mode more)
  does_for mode files more file before one pushed =
      subst (Does (new ≡ start) (done start) (done new))
      (sym (attempts_more mode files file) ∙ ap (attempts_in mode) (sym pushed))
      (does_more (attempts_in mode files) (attempts_for mode file) before one)

-- ---- what is said, and what is written

none_printed : (files : List FileOutcome) → attempts_in modes.Print files ≡ []
none_printed [] = refl
none_printed (f ∷ fs) = none_printed fs

none_checked : (files : List FileOutcome) → attempts_in modes.Check files ≡ []
none_checked [] = refl
none_checked (f ∷ fs) = none_checked fs

-- where each file is done in its mode, the files are as `format` must leave them
pub kept_formatted : (written : Text → Text → Type 0) (does : List Attempt → Type 0) (mode : FormatMode) (found : Outcomes) →
    All (IsFileDone written mode) found.files.items → does (attempts_in mode found.files.items) →
    IsFormatKept written does mode (Formatted mode found)
kept_formatted written does modes.Print found done did = subst does (none_printed found.files.items) did
kept_formatted written does modes.Check found done did = subst does (none_checked found.files.items) did
kept_formatted written does modes.Write found done did = (done, did)

-- outcomes of the files that were read are the layouts of the files that were named
pub formatted_of : (gives : Giving) (mode : FormatMode) (files : List Text) (r : ReadFiles) (outcomes : Vec FileOutcome Global) →
    AreReadIn gives files r →
    AreOutcomes mode (map (λ n. n.now) r.names.items) (map (λ t. t.items) r.texts.items) outcomes.items →
    AreFormatted gives mode files (map (λ t. t.items) r.texts.items) (record { files = outcomes; unread = r.unread })
formatted_of gives mode files r outcomes has are = record { names = map (λ (n : Bor Text). n.now) r.names.items; read = has; are = are }
