-- On some files `draft --functions` has one answer at most.
use Rattle.std.proofs.Common.{◌≡◌, ◌≢◌, ℕ, Bool, List, [], Result, Ok, Err, refl, sym, ap, ◌∙◌, slice_index_or}
use Rattle.flt_c.specs.declared.files.Flaw.TheVariants.{Large}
use Rattle.flt_c_functions.specs.Laws.{ListsAtMostOne, NeverBoth, RefusesAtMostOne}
use Rattle.flt_c_functions.specs.Listing.{IsListing, IsRefused}
use Rattle.flt_c_functions.specs.declared.listing.Listing.{Listing}
use Rattle.flt_c_tokens.specs.declared.lexer.Excess.{Excess}
use Rattle.flt_c_tokens.specs.declared.lexer.Excess.TheVariants.{LargeFile, TooManySpellings}
use Rattle.flt_commands_texts.specs.Answer.{listing_status}
use Rattle.flt_commands_texts.specs.Functions.{AreListed, stopped}
use Rattle.flt_files.specs.Inputs.{Giving, Text}
use Rattle.flt_commands.specs.Answer.{of_text}
use Rattle.flt_commands.specs.Single.{ListsOne, seen}
use Rattle.flt_commands_texts.specs.declared.answer.TextAnswer.{TextAnswer}
use Rattle.flt_commands_texts.specs.declared.answer.TextAnswer.TheVariants.{Listed}
use Rattle.flt_files.specs.declared.failure.Failure.{Failure}
use Rattle.flt_files.specs.declared.failure.Failure.TheVariants.{Flawed, TooManyWords, OutOfMemory}

-- what files come to: a listing, or the number of the first that isn't read, and why
abbrev Found : Type 0
Found = Result Listing (ℕ × Excess)

abbrev ComesTo : Giving → List Text → List Text → List Text → List Text → Found → Type 0
ComesTo gives folders lines names files (Ok l) = IsListing gives folders lines names files l
ComesTo gives folders lines names files (Err stop) = IsRefused gives folders lines names files stop.0 stop.1

abbrev listed : List ℕ → Bool → Result (List ℕ × ℕ) Failure
listed bytes whole = Ok (bytes, listing_status whole)

abbrev refused : Text → Excess → Result (List ℕ × ℕ) Failure
refused name excess = Err (stopped (record { ref_ptr = (0, 0); now = name }) excess)

-- what is seen of what the files come to
abbrev seen_of : List Text → Found → Result (List ℕ × ℕ) Failure
seen_of names (Ok l) = listed l.text.items l.is_whole
seen_of names (Err stop) = refused (slice_index_or names stop.0 []) stop.1

is_seen : (gives : Giving) (folders lines names files : List Text) (result : Result TextAnswer Failure) →
    AreListed gives folders lines names files result → of_text result ≢ Err OutOfMemory →
    (found : Found) × ComesTo gives folders lines names files found × (seen (of_text result) ≡ seen_of names found)
is_seen gives folders lines names files (Ok (Listed l)) is other = (Ok l, is, refl)
is_seen gives folders lines names files (Err (Flawed name Large)) is other =
    (Err (is.number, LargeFile), is.first, ap (λ n. refused n LargeFile) is.named)
is_seen gives folders lines names files (Err (TooManyWords name line column)) is other =
    (Err (is.number, TooManySpellings line column), is.first, ap (λ n. refused n (TooManySpellings line column)) is.named)
is_seen gives folders lines names files (Err OutOfMemory) is other = absurd (other refl)
is_seen gives folders lines names files (Ok _) is other = absurd is
is_seen gives folders lines names files (Err _) is other = absurd is

module _ (gives : Giving) (one_listing : ListsAtMostOne gives) (one_refusal : RefusesAtMostOne gives) (never_both : NeverBoth gives) where
  comes_once : (folders lines names files : List Text) (found other : Found) → ComesTo gives folders lines names files found →
      ComesTo gives folders lines names files other → seen_of names found ≡ seen_of names other
  comes_once folders lines names files (Ok l) (Ok m) is has =
      let same = one_listing folders lines names files l m is has in
      ap (λ bytes. listed bytes l.is_whole) same.0 ∙ ap (listed m.text.items) same.1
  comes_once folders lines names files (Ok l) (Err stop) is has = absurd (never_both folders lines names files l stop.0 stop.1 is has)
  comes_once folders lines names files (Err stop) (Ok l) is has = absurd (never_both folders lines names files l stop.0 stop.1 has is)
  comes_once folders lines names files (Err stop) (Err end) is has =
      let same = one_refusal folders lines names files stop.0 end.0 stop.1 end.1 is has in
      ap (λ n. refused (slice_index_or names n []) stop.1) same.0 ∙ ap (refused (slice_index_or names end.0 [])) same.1

  -- one listing is printed, or one file is told that isn't read
  pub lists_once : ListsOne gives
  lists_once folders lines names files a b x y =
      λ first second.
      let is = is_seen gives folders lines names files a x first in
      let has = is_seen gives folders lines names files b y second in
      is.2 ∙ (comes_once folders lines names files is.0 has.0 is.1 has.1 ∙ sym has.2)
