-- What is done to files under their names, one after the other. This project's own program.
use Rattle.std.specs.Prelude.{◌≡◌, ◌⊎◌, Bool, ℕ, List, [], ◌∷◌, ◌++◌, if◌then◌else◌, None}
use Rattle.flt_files.specs.Deeds as deeds
use Rattle.flt_files.specs.Deeds.{Adds, Deed, IsFailing, IsFailingNew, IsWriting}
use Rattle.flt_files.specs.declared.deeds.Fate.TheVariants.{Stays}
use Rattle.flt_files.specs.declared.failure.Failure.{Failure}
use Rattle.flt_files.specs.declared.failure.Failure.TheVariants.{CannotWrite, OutOfMemory}

-- the file of a name got these bytes, whatever was there; a new file of a name got them, since nothing was there; something of a name was
-- there, and is as it was; or the file of a name couldn't be written
pub data Attempt : Type 0 where
  Wrote : (name bytes : List ℕ) → Attempt
  Made : (name bytes : List ℕ) → Attempt
  Left : (name : List ℕ) → Attempt
  Failed : (name : List ℕ) → Attempt

-- of a file that is made unless something of its name is there
abbrev pub made : Bool → List ℕ → List ℕ → Attempt
made is_new name bytes = if is_new then Made name bytes else Left name

-- what was done to files in an attempt
abbrev pub AreDeedsIn : Attempt → List Deed → Type 0
AreDeedsIn (Wrote name bytes) done = IsWriting name done
AreDeedsIn (Made name bytes) done = done ≡ deeds.made name None Stays ∷ []
AreDeedsIn (Left name) done = done ≡ deeds.not_made name None ∷ []
AreDeedsIn (Failed name) done = IsFailing name done ⊎ IsFailingNew name done

-- in attempts, one after the other
pub data AreDeedsOf : List Attempt → List Deed → Type 0 where
  none : AreDeedsOf [] []
  one_more : {attempts : List Attempt} {done : List Deed} (x : Attempt) (own : List Deed) → AreDeedsOf attempts done → AreDeedsIn x own →
      AreDeedsOf (attempts ++ x ∷ []) (done ++ own)

-- these attempts were made since, and no others
abbrev pub Grows : List Deed → List Deed → List Attempt → Type 0
Grows old new attempts = Adds old new (AreDeedsOf attempts)

-- what is done where there is no answer: the file of a name couldn't be written; or nothing was done, unless memory ran out
abbrev pub IsUndone : (List Attempt → Type 0) → List ℕ → Failure → Type 0
IsUndone does name (CannotWrite other why) = does (Failed name ∷ [])
IsUndone does name OutOfMemory = Unit {0}
IsUndone does name f = does []

-- what holds once bytes are written under a name holds of a file that got its bytes
abbrev pub IsDone : (List ℕ → List ℕ → Type 0) → Attempt → Type 0
IsDone written (Wrote name bytes) = written name bytes
IsDone written (Made name bytes) = written name bytes
IsDone written (Left name) = Unit {0}
IsDone written (Failed name) = Unit {0}

-- these attempts and no others were made; where there is none, all is the same
abbrev pub Does : Type 0 → List Deed → List Deed → List Attempt → Type 0
Does same old new [] = same
Does same old new (first ∷ more) = Grows old new (first ∷ more)
