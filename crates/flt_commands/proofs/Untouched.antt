-- Where no file is named for what is made, nothing is done to files.
use Rattle.std.proofs.Common.{◌≡◌, ◌≢◌, ◌∙◌, Bool, List, [], Option, Some, None, Bor, Result, option_map, refl}
use Rattle.flt_commands.specs.Commands.{WritesNoFile}
use Rattle.flt_commands_runs.specs.Drawn.{IsDrawnFor}
use Rattle.flt_commands_runs.specs.declared.answer.RunAnswer.{RunAnswer}
use Rattle.flt_files.specs.Attempts.{Does}
use Rattle.flt_files.specs.Deeds.{Deed}
use Rattle.flt_files.specs.Inputs.{Text}
use Rattle.flt_files.specs.declared.failure.Failure.{Failure}
use Rattle.flt_words.specs.Request.{Asked, Choice, EmitInto, Explain, Format, Show}
use Rattle.flt_words.specs.declared.request.Colour.{Colour}
use Rattle.flt_words.specs.declared.request.Form.{Form}
use Rattle.flt_words.specs.declared.request.FormatMode.{FormatMode}
use Rattle.flt_words.specs.declared.request.FormatMode.TheVariants as modes
use Rattle.flt_words.specs.declared.request.SearchChoice.{SearchChoice}

module _ {O : Type 0} (old new : O) (wanted : Option Asked) where
  -- by `explain` without a file for a journal
  pub by_explain : (form : Form) (colour : Colour) (search : SearchChoice) (journal : Option (Bor Text)) (warnings : Choice) (is_c : Bool)
      (files : List Text) → Some (Explain form colour search (option_map (λ name. name.now) journal) warnings is_c files) ≡ wanted →
      (journal ≡ None → new ≡ old) → WritesNoFile wanted → new ≡ old
  by_explain form colour search journal warnings is_c files asks same = rw (← asks) (own journal same) where
    own : (journal : Option (Bor Text)) → (journal ≡ None → new ≡ old) →
        WritesNoFile (Some (Explain form colour search (option_map (λ name. name.now) journal) warnings is_c files)) → new ≡ old
    own (Some name) same none = absurd none
    own None same none = same refl

  -- by `replay` without a picture
  pub by_show : (before after : List Deed) (written : Text → Text → Type 0) (timeline : Bool) (picture : Option (Bor Text)) (journal : Text)
      (files texts : List Text) (said : Result RunAnswer Failure) →
      Some (Show timeline (option_map (λ name. name.now) picture) journal files) ≡ wanted →
      IsDrawnFor written (Does (new ≡ old) before after) (option_map (λ name. name.now) picture) texts said →
      WritesNoFile wanted → new ≡ old
  by_show before after written timeline picture journal files texts said asks drawn = rw (← asks) (own picture drawn) where
    own : (picture : Option (Bor Text)) →
        IsDrawnFor written (Does (new ≡ old) before after) (option_map (λ name. name.now) picture) texts said →
        WritesNoFile (Some (Show timeline (option_map (λ name. name.now) picture) journal files)) → new ≡ old
    own (Some name) drawn none = absurd none
    own None drawn none = drawn

  -- by `format` that writes no layout
  pub by_format : (mode : FormatMode) (files : List Text) → Some (Format mode files) ≡ wanted →
      (mode ≢ modes.Write → new ≡ old) → WritesNoFile wanted → new ≡ old
  by_format mode files asks same = rw (← asks) (own mode same) where
    own : (mode : FormatMode) → (mode ≢ modes.Write → new ≡ old) → WritesNoFile (Some (Format mode files)) → new ≡ old
    own modes.Write same none = absurd none
    own modes.Print same none = same (λ is. absurd (cc is))
    own modes.Check same none = same (λ is. absurd (cc is))

  -- and `emit --into` names a folder
  pub by_emit : (folder : Text) (is_forced : Bool) (file : Text) (cert : Option Text) → Some (EmitInto folder is_forced file cert) ≡ wanted →
      WritesNoFile wanted → new ≡ old
  by_emit folder is_forced file cert asks = rw (← asks) (λ none. absurd none)

-- what is done where nothing was done before and all is as it was
pub none_done : {P : Type 0} (old new : List Deed) → old ≡ [] → (P → new ≡ old) → P → new ≡ []
none_done old new none same p = same p ∙ none
