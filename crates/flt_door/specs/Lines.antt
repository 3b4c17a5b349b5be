-- What goes out line by line. This project's own rule.
use Rattle.std.specs.Io.KnownBytes.{Appends}
use Rattle.std.specs.Prelude.{◌≡◌, ◌⊎◌, [], ◌∷◌, ◌++◌, Option}
use Rattle.flt_shown.specs.Shown.{Text}
use Rattle.flt_door.specs.Door.{at_door}

-- whole lines, or nothing
abbrev pub AreWholeLines : Text → Type 0
AreWholeLines z = (z ≡ []) ⊎ ((y : Text) × (z ≡ y ++ 10 ∷ []))

-- whole lines went out, at the door
pub record Shows (old new : Option Text) (z : Text) : Type 0 where
  pub lines : AreWholeLines z
  pub out : Appends old new (at_door z)
