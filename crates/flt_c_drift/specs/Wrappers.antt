-- Functions of the driver that make a call of the kit's, as comments `@flt-call FUNCTION CALL` declare them. This project's own rule.
use Rattle.std.specs.Prelude.{ℕ, List, [], ◌∷◌, ◌++◌, Option, Some, None, is_some, if◌then◌else◌}
use Rattle.std.specs.Global.{Vec}
use Rattle.std.specs.Option.{option_or}
use Rattle.std.specs.Str.{bytes_eq}
use Rattle.flt_c_drift.specs.Names.{call_of}

-- a function that makes this one of the calls
pub record Wrapping : Type 0 where
  pub name : List ℕ
  pub call : ℕ

abbrev pub wrapping_of : Vec ℕ × ℕ → Wrapping
wrapping_of w = record { name = w.0.items; call = w.1 }

-- the call that the first of some functions of this name makes
abbrev pub wrapped_by : List Wrapping → List ℕ → Option ℕ
wrapped_by [] word = None
wrapped_by (w ∷ ws) word = if bytes_eq w.name word then Some w.call else wrapped_by ws word

-- and one function more, unless one of its name is there: the first declaration counts
abbrev pub with_wrapping : List Wrapping → List ℕ → ℕ → List Wrapping
with_wrapping ws name call = if is_some (wrapped_by ws name) then ws else ws ++ (record { name = name; call = call } ∷ [])

-- the call of a word of code: by its name, or by that of a function that makes it
abbrev pub call_in : List Wrapping → List ℕ → Option ℕ
call_in ws word = option_or (call_of word) (wrapped_by ws word)
