-- What is done under the name of a picture.
use Rattle.std.proofs.Common.{List, [], ◌∷◌, Option, Some, None, Bor, Result, Ok, Err, IfOk, OnOk, option_map}
use Rattle.flt_commands_runs.specs.Drawn.{IsDrawnFor, IsDrawnIn, IsDrawnOf}
use Rattle.flt_commands_runs.specs.Replay.{IsFailure}
use Rattle.flt_door.specs.Door.{at_door}
use Rattle.flt_explain_picture.specs.Pictures.{IsPicture}
use Rattle.flt_explain_picture.specs.Titles.{title_of}
use Rattle.flt_files.specs.Attempts.{Attempt, IsUndone, Wrote}
use Rattle.flt_files.specs.Inputs.{Giving, NamesFail, Text}
use Rattle.flt_files.specs.declared.failure.Failure.{Failure}
use Rattle.flt_files.specs.declared.failure.Failure.TheVariants.{CannotWrite, OutOfMemory}
use Rattle.flt_model.specs.declared.verdict.Verdict.{Verdict}
use Rattle.flt_tree.specs.declared.filter.Filter.{Filter}

-- a picture of which this is written is drawn
pub drawn_by : {A E F : Type 0} (written : Text → Text → Type 0) (does : List Attempt → Type 0) (name drawn : Text) (filters : List Filter)
    (v : Verdict) (result : Result (Result A F) E) → IsPicture (title_of filters v) drawn →
    IfOk result (λ tried. OnOk tried (written name (at_door drawn))) →
    IfOk result (λ tried. OnOk tried (does (Wrote name (at_door drawn) ∷ []))) →
    IfOk result (λ tried. OnOk tried (IsDrawnOf written does name filters v))
drawn_by written does name drawn filters v (Ok (Ok x)) is done did = (drawn, is, done, did)
drawn_by written does name drawn filters v (Ok (Err f)) is done did = tt
drawn_by written does name drawn filters v (Err e) is done did = tt

-- where a journal can't be judged, nothing is done
undone_by : (does : List Attempt → Type 0) (journal : Text) (texts : List Text) (name : Text) (f : Failure) → IsFailure journal texts f →
    does [] → IsUndone does name f
undone_by does journal texts name (CannotWrite other why) fails none = absurd fails
undone_by does journal texts name OutOfMemory fails none = tt
undone_by does journal texts name _ fails none = none

-- where names can't be read, nothing is done
unread_by : (does : List Attempt → Type 0) (gives : Giving) (names : List Text) (name : Text) (f : Failure) → NamesFail gives names f →
    does [] → IsUndone does name f
unread_by does gives names name (CannotWrite other why) fails none = absurd fails.told
unread_by does gives names name OutOfMemory fails none = tt
unread_by does gives names name _ fails none = none

module _ (written : Text → Text → Type 0) (does : List Attempt → Type 0) (none : does []) (picture : Option (Bor Text)) where
  -- nothing was done before memory ran out
  pub undrawn_yet : (filters : List Filter) (v : Verdict) →
      IsDrawnIn written does (option_map (λ name. name.now) picture) filters v (Err OutOfMemory)
  undrawn_yet filters v = own picture where
    own : (picture : Option (Bor Text)) → IsDrawnIn written does (option_map (λ name. name.now) picture) filters v (Err OutOfMemory)
    own (Some name) = tt
    own None = none

  -- nor before a journal was judged
  pub unjudged : (journal : Text) (texts : List Text) (f : Failure) → IsFailure journal texts f →
      IsDrawnFor written does (option_map (λ name. name.now) picture) texts (Err f)
  unjudged journal texts f fails = own picture where
    own : (picture : Option (Bor Text)) → IsDrawnFor written does (option_map (λ name. name.now) picture) texts (Err f)
    own (Some name) = undone_by does journal texts name.now f fails none
    own None = none

  -- nor before its names were read
  pub unread : (gives : Giving) (names texts : List Text) (f : Failure) → NamesFail gives names f →
      IsDrawnFor written does (option_map (λ name. name.now) picture) texts (Err f)
  unread gives names texts f fails = own picture where
    own : (picture : Option (Bor Text)) → IsDrawnFor written does (option_map (λ name. name.now) picture) texts (Err f)
    own (Some name) = unread_by does gives names name.now f fails none
    own None = none

  pub out_of_memory : (texts : List Text) → IsDrawnFor written does (option_map (λ name. name.now) picture) texts (Err OutOfMemory)
  out_of_memory texts = own picture where
    own : (picture : Option (Bor Text)) → IsDrawnFor written does (option_map (λ name. name.now) picture) texts (Err OutOfMemory)
    own (Some name) = tt
    own None = none
