-- What is done to files, one after the other, as a system is asked for it. This project's own program.
use Rattle.std.specs.Prelude.{◌≡◌, ◌⊎◌, ◌+◌, ℕ, List, [], ◌∷◌, ◌++◌, Option, Some, None, Result, Ok, Err, Bool, true, false}
use Rattle.std.specs.Prelude.{zero, suc, map, option_map, string_bytes}
use Rattle.flt_files.specs.Inputs.{Text}
use Rattle.flt_files.specs.System.{part_name}
use Rattle.flt_files.specs.declared.deeds.Act.{Act}
use Rattle.flt_files.specs.declared.deeds.Act.TheVariants.{Looked, Opened, NotMade, Made}
use Rattle.flt_files.specs.declared.deeds.Deed.{Deed as OwnDeed}
use Rattle.flt_files.specs.declared.deeds.Deeds.{Deeds}
use Rattle.flt_files.specs.declared.deeds.Fate.{Fate}
use Rattle.flt_files.specs.declared.deeds.Fate.TheVariants.{Stays, Replaces, Removed}
use Rattle.flt_files.specs.declared.system.Place.{Place}
use Rattle.flt_files.specs.declared.system.Place.TheVariants as place
use Rattle.flt_files.specs.declared.unwritten.OutputFault.{OutputFault}

-- what was done under a name; a new file may be made for the place of another one, its target
pub record Deed : Type 0 where
  pub name : Text
  pub target : Option Text
  pub act : Act

abbrev pub deed : Text → Option Text → Act → Deed
deed name target act = record { name = name; target = target; act = act }

-- the same of what the program notes
abbrev pub deed_of : OwnDeed → Deed
deed_of d = deed (string_bytes d.name) (option_map string_bytes d.target) d.act

abbrev pub deeds_in : Deeds → List Deed
deeds_in d = map deed_of d.each.items

-- ---- one deed

-- the place of a name that may be written
abbrev pub place_in : Result Place OutputFault → Option Place
place_in (Ok found) = Some found
place_in (Err why) = None

abbrev pub looked : Text → Option Place → Deed
looked name found = deed name None (Looked found)

abbrev pub opened : Text → Deed
opened name = deed name None Opened

abbrev pub not_made : Text → Option Text → Deed
not_made name target = deed name target NotMade

abbrev pub made : Text → Option Text → Fate → Deed
made name target fate = deed name target (Made fate)

-- a file that is to be made: it is there, or it wasn't made
abbrev pub made_or_not : {A : Type 0} → Text → Option Text → Result (Option A) OutputFault → Deed
made_or_not name target (Ok (Some file)) = made name target Stays
made_or_not name target (Ok None) = not_made name target
made_or_not name target (Err why) = not_made name target

-- ---- a new file beside another one

-- the files beside that of a name, of the first numbers, weren't made
abbrev pub parts_not_made : Text → ℕ → List Deed
parts_not_made name zero = []
parts_not_made name (suc n) = parts_not_made name n ++ not_made (part_name name (suc n)) (Some name) ∷ []

-- of one of them: it took the place of the file of the name; or it wasn't made; or it was removed
abbrev pub IsPartDeed : Text → Text → Result Bool OutputFault → Deed → Type 0
IsPartDeed part name (Ok true) d = d ≡ made part (Some name) Replaces
IsPartDeed part name (Ok false) d = d ≡ not_made part (Some name)
IsPartDeed part name (Err why) d = (d ≡ not_made part (Some name)) ⊎ (d ≡ made part (Some name) Removed)

-- one of them was done since
pub record AddsPart (old new : List Deed) (part name : Text) (tried : Result Bool OutputFault) : Type 0 where
  pub own : Deed
  pub added : new ≡ old ++ own ∷ []
  pub is : IsPartDeed part name tried own

-- the same where it was made
abbrev pub fate_of : {A : Type 0} → Result A OutputFault → Fate
fate_of (Ok done) = Replaces
fate_of (Err why) = Removed

-- a new file took the place of the file of a name; those of smaller numbers weren't made
pub record IsReplacing (name : Text) (deeds : List Deed) : Type 0 where
  pub number : ℕ
  pub are : deeds ≡ parts_not_made name number ++ made (part_name name (number + 1)) (Some name) Replaces ∷ []

-- no new file took its place: none was made, or the one that was made was removed
pub data IsLeft (name : Text) : List Deed → Type 0 where
  unmade : (number : ℕ) → IsLeft name (parts_not_made name number)
  removed : (number : ℕ) → IsLeft name (parts_not_made name number ++ made (part_name name (number + 1)) (Some name) Removed ∷ [])

-- ---- what is done where bytes are written under a name

-- a stream takes them; or a new file does, which takes the place of what is there, if anything is
pub data IsWriting (name : Text) : List Deed → Type 0 where
  poured : IsWriting name (looked name (Some place.Stream) ∷ opened name ∷ [])
  put_free : (deeds : List Deed) → IsReplacing name deeds → IsWriting name (looked name (Some place.Free) ∷ deeds)
  put_over : (deeds : List Deed) → IsReplacing name deeds → IsWriting name (looked name (Some place.File) ∷ deeds)

-- it fails: the name may not be written; or no stream may be asked for, or it refuses; or no new file takes its place, and none is left
pub data IsFailing (name : Text) : List Deed → Type 0 where
  barred : IsFailing name (looked name None ∷ [])
  unasked : IsFailing name (looked name (Some place.Stream) ∷ [])
  unpoured : IsFailing name (looked name (Some place.Stream) ∷ opened name ∷ [])
  left_free : (deeds : List Deed) → IsLeft name deeds → IsFailing name (looked name (Some place.Free) ∷ deeds)
  left_over : (deeds : List Deed) → IsLeft name deeds → IsFailing name (looked name (Some place.File) ∷ deeds)

-- memory ran out before it was done: nothing was, or it fails
pub data IsCutShort (name : Text) : List Deed → Type 0 where
  unlooked : IsCutShort name []
  failing : (deeds : List Deed) → IsFailing name deeds → IsCutShort name deeds

-- a new file of the name is there, or none was made
abbrev pub new_or_not : Text → Bool → Deed
new_or_not name true = made name None Stays
new_or_not name false = not_made name None

-- it isn't made, or is removed
pub data IsFailingNew (name : Text) : List Deed → Type 0 where
  unmade : IsFailingNew name (not_made name None ∷ [])
  removed : IsFailingNew name (made name None Removed ∷ [])

-- ---- what was done since

-- these deeds and no others were done since, and they are so
pub record Adds (old new : List Deed) (Are : List Deed → Type 0) : Type 0 where
  pub more : List Deed
  pub added : new ≡ old ++ more
  pub are : Are more
