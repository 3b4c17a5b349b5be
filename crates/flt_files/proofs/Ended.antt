-- What was read to its end, and what was too long.
use Rattle.std.proofs.Common.{◌<◌, ◌++◌, ◌∙◌, ◌⊎◌, inl, inr, ℕ, List, Option, Some, None, Result}
use Rattle.std.proofs.Common.{Ok, Err, IfOk, IfSome, IfNone, ap, length, option_map, arith}
use Rattle.std.proofs.lemmas.List.{append-nil, length-append}
use Rattle.std.specs.Io.KnownBytes.{Consumes, IsAtEnd}
use Rattle.flt_files.specs.Inputs.{Text}
use Rattle.flt_files.specs.System.{AreAll, Holding, IsGiven, IsTooLong, failed, too_long}

-- what was taken up to the end is all that there was
pub all_read : (old new : Option (List ℕ)) (bytes : List ℕ) → Consumes old new bytes → IsAtEnd new → AreAll old bytes
all_read None new bytes taken end = tt
all_read (Some xs) None bytes taken end = absurd taken
all_read (Some xs) (Some ys) bytes taken end = taken ∙ ap (λ rest. bytes ++ rest) end ∙ append-nil bytes

-- where too much was taken, there was too much
pub read_too_long : (old new : Option (List ℕ)) (bytes : List ℕ) → Consumes old new bytes → 67108864 < length bytes → IsTooLong old
read_too_long None new bytes taken many = tt
read_too_long (Some xs) None bytes taken many = absurd taken
read_too_long (Some xs) (Some ys) bytes taken many = omega (arith, ap length taken, length-append bytes ys, many)

-- what was read of a reader that was opened under a name is given for it, as it is or as the bytes of another value
module _ (holds : Holding) (lacks : Text → Type 0) (fails X : Type 0) (name : Text) (known : Option Text) (may : X → fails)
    (opened : holds name known) where
  given_found : (found : Option Text) → IfSome found (AreAll known) → IfNone found (X ⊎ IsTooLong known) →
      IsGiven holds lacks fails name found
  given_found (Some bytes) all none = record { known = known; opened = opened; all = all }
  given_found None all (inl x) = failed (may x)
  given_found None all (inr long) = too_long known opened long

  -- a text that was read to its end is given by its name, and one that was too long is told as such
  pub given_as : {E : Type 0} (result : Result (Option Text) E) → IfOk result (λ found. IfSome found (λ bytes. AreAll known bytes)) →
      IfOk result (λ found. IfNone found (X ⊎ IsTooLong known)) → IfOk result (λ found. IsGiven holds lacks fails name found)
  given_as (Ok found) all none = given_found found all none
  given_as (Err e) all none = tt

  -- the same of what holds a text's bytes
  pub given_of : {E V : Type 0} (bytes_of : V → Text) (result : Result (Option V) E) →
      IfOk result (λ found. IfSome found (λ v. AreAll known (bytes_of v))) → IfOk result (λ found. IfNone found (X ⊎ IsTooLong known)) →
      IfOk result (λ found. IsGiven holds lacks fails name (option_map bytes_of found))
  given_of bytes_of (Ok (Some v)) all none = given_found (Some (bytes_of v)) all none
  given_of bytes_of (Ok None) all none = given_found None all none
  given_of bytes_of (Err e) all none = tt
