-- What is known of names: what their last `#define` or `#undef` says, if there is one.
use Rattle.std.specs.Prelude.{ℕ, nat_eq, List, [], ◌∷◌, Option, if◌then◌else◌}
use Rattle.std.specs.Map.{lookup}
use Rattle.indexmap.specs.IndexMap.{insert_entry}
use Rattle.flt_c_macros.specs.declared.macros.Macro.{Macro}

-- names by number, each once
abbrev pub Known : Type 0
Known = List (ℕ × Macro)

-- what is known of a name
abbrev pub macro_of : Known → ℕ → Option Macro
macro_of macros name = lookup (nat_eq name) macros

-- the same, but a name is another thing
abbrev pub with_macro : Known → ℕ → Macro → Known
with_macro macros name what = insert_entry nat_eq macros name what
