-- The files of a driver: one after the other, what is done to them, and what is said of a text whose driver they are.
use Rattle.std.proofs.Common.{◌≡◌, Bool, List, [], ◌∷◌, ◌++◌, Ok}
use Rattle.std.proofs.lemmas.List.Elements.{All-cons, All-nil, All-push, All-weaker}
use Rattle.flt_emit.specs.Files.{installation, user_header}
use Rattle.flt_graph.specs.declared.graph.Graph.{Graph}
use Rattle.flt_kinds.specs.declared.slot.Spot.{Spot}
use Rattle.flt_tree.specs.declared.filter.Filter.{Filter}
use Rattle.flt_words.specs.declared.request.Part.TheVariants.{Source}
use Rattle.flt_files.specs.Attempts.{Attempt, Does, Failed, Grows, IsDone, Left, Made, Wrote}
use Rattle.flt_files.specs.Deeds.{Deed}
use Rattle.flt_files.proofs.Doing.{grows_more}
use Rattle.flt_commands_texts.specs.Check.{HasPoints}
use Rattle.flt_commands_texts.specs.Driver.{AreDone, AreNamed, HasPlace, IsAskedFor, IsPlace, attempts_of}
use Rattle.flt_commands_texts.specs.Emit.{IsReadBack, part_text}
use Rattle.flt_commands_texts.specs.EmitInto.{ArePut, IsPut, IsPutFor}
use Rattle.flt_files.specs.Inputs.{Giving, Text}
use Rattle.flt_commands_texts.specs.declared.answer.TextAnswer.{TextAnswer}
use Rattle.flt_commands_texts.specs.declared.answer.TextAnswer.TheVariants.{EmittedInto}
use Rattle.flt_commands_texts.specs.declared.driver.Driver.{Driver}
use Rattle.flt_commands_texts.specs.declared.driver.DriverNames.{DriverNames}
use Rattle.flt_commands_texts.specs.declared.driver.DriverOutcome.{DriverOutcome}
use Rattle.flt_commands_texts.specs.declared.driver.DriverOutcome.TheVariants.{Kept, NoSource, Written}
use Rattle.flt_commands_texts.specs.declared.driver.SourcePlace.{SourcePlace}
use Rattle.flt_commands_texts.specs.declared.driver.SourcePlace.TheVariants.{Free, Own, Forced}
use Rattle.flt_commands_texts.specs.Stamp.{stamped}

-- ---- one attempt more

-- a first attempt
pub done_first : (written : Text → Text → Type 0) (before after : List Deed) (x : Attempt) → IsDone written x →
    Grows before after (x ∷ []) → AreDone written before after (x ∷ [])
done_first written before after x one grown = record { done = All-push (IsDone written) [] x (All-nil (IsDone written)) one; only = grown }

module _ (old new : Text → Text → Type 0) (kept : (other held : Text) → old other held → new other held) where
  -- what was done stays done
  still : (x : Attempt) → IsDone old x → IsDone new x
  still (Wrote name bytes) is = kept name bytes is
  still (Made name bytes) is = kept name bytes is
  still (Left name) is = tt
  still (Failed name) is = tt

  -- one more behind others
  pub done_more : (before mid after : List Deed) (xs : List Attempt) (x : Attempt) → AreDone old before mid xs → IsDone new x →
      Grows mid after (x ∷ []) → AreDone new before after (xs ++ x ∷ [])
  done_more before mid after xs x are one grown = record {
    done = All-push (IsDone new) xs x (All-weaker (IsDone old) (IsDone new) still xs are.done) one;
    only = grows_more before mid after xs (x ∷ []) are.only grown;
  }

-- one before others
pub done_before : (written : Text → Text → Type 0) (before mid after : List Deed) (x : Attempt) (xs : List Attempt) →
    IsDone written x → Grows before mid (x ∷ []) → AreDone written mid after xs → AreDone written before after (x ∷ xs)
done_before written before mid after x xs one grown are = record {
  done = All-cons (IsDone written) x xs one are.done;
  only = grows_more before mid after (x ∷ []) xs grown are.only;
}

-- what is known of the name of a driver's source
pub asked_for : (gives : Giving) (is_forced : Bool) (name : Text) (place : SourcePlace) (outcome : DriverOutcome) →
    IsPlace gives is_forced name place → HasPlace place outcome → IsAskedFor gives is_forced name outcome
asked_for gives is_forced name place (Kept why) known has = absurd has
asked_for gives is_forced name place (NoSource other why) known has = rw has known
asked_for gives is_forced name place (Written other rest) known has = rw has known

-- ---- all of them

-- there is an attempt, whatever became of a driver
does_of : (same : Type 0) (old new : List Deed) (names : DriverNames) (s h i : Text) (outcome : DriverOutcome) →
    Grows old new (attempts_of names s h i outcome) → Does same old new (attempts_of names s h i outcome)
does_of same old new names s h i (Kept why) is = is
does_of same old new names s h i (NoSource Free why) is = is
does_of same old new names s h i (NoSource Own why) is = is
does_of same old new names s h i (NoSource Forced why) is = is
does_of same old new names s h i (Written Free rest) is = is
does_of same old new names s h i (Written Own rest) is = is
does_of same old new names s h i (Written Forced rest) is = is

-- the driver of a filter is put where its parts are written
pub put_known : (written : Text → Text → Type 0) (same : Type 0) (old new : List Deed) (folder : Text) (f : Filter)
    (listed : List Spot) (driver : Driver) (s h i : Text) → s ≡ stamped (part_text Source listed f) →
    IsReadBack Source f (part_text Source listed f) → h ≡ user_header f →
    i ≡ installation f → AreNamed folder f.name driver.names → AreDone written old new (attempts_of driver.names s h i driver.outcome) →
    IsPut written (Does same old new) folder f listed driver
put_known written same old new folder f listed driver s h i source read header inf named are = record {
  read = read;
  named = named;
  done = rw (source, header, inf) at are.done;
  only = does_of same old new driver.names _ _ _ driver.outcome (rw (source, header, inf) at are.only);
}

-- what is put for a filter and its points is put for the text that spells it
pub put_of : (written : Text → Text → Type 0) (does : List Attempt → Type 0) (folder text : Text) (texts : List Text) (graph : Graph)
    (points : HasPoints text graph) (answer : TextAnswer) → IsPutFor written does folder points.filter graph answer →
    ArePut written does folder (text ∷ texts) (Ok answer)
put_of written does folder text texts graph points (EmittedInto driver) is = record {
  graph = graph;
  points = points;
  listed = is.0;
  kinds = is.1;
  put = is.2;
}
put_of written does folder text texts graph points _ is = is
