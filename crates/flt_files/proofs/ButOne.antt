-- Inputs that are texts, but for one.
use Rattle.std.proofs.Common.{◌≡◌, Bool, false, Bor, Option, Some, None, Result, Ok, Err, IfOk, option_map}
use Rattle.std.proofs.Math.Path.{subst}
use Rattle.std.specs.Option.{option_map_or}
use Rattle.std.specs.Str.{bytes_eq}
use Rattle.flt_files.specs.Inputs.{Giving, Text, gives_but, gives_if}

module _ (gives : Giving) (name : Text) where
  -- where a name is read whole by a test of its bytes, and another one only as a text, each is given as it is read
  pub but_of : (whole : Option (Bor Text)) (is : Bool) → is ≡ option_map_or (λ (w : Bor Text). bytes_eq name w.now) whole false →
      (found : Option Text) → gives_if is gives name found → gives_but (option_map (λ w. w.now) whole) gives name found
  but_of None is same found has = subst (λ b. gives_if b gives name found) same has
  but_of (Some w) is same found has = subst (λ b. gives_if b gives name found) same has

  -- what is given for a name that is read to its end, or isn't, is given for it among the others
  pub but_of_all : {E V : Type 0} (bytes_of : V → Text) (whole : Option (Bor Text)) (is : Bool) →
      is ≡ option_map_or (λ (w : Bor Text). bytes_eq name w.now) whole false → (result : Result (Option V) E) →
      IfOk result (λ found. gives_if is gives name (option_map bytes_of found)) →
      IfOk result (λ found. gives_but (option_map (λ w. w.now) whole) gives name (option_map bytes_of found))
  but_of_all bytes_of whole is same (Ok found) has = but_of whole is same (option_map bytes_of found) has
  but_of_all bytes_of whole is same (Err e) has = tt
