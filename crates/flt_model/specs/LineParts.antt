-- Reading what stands in a journal's lines.
use Rattle.std.specs.Prelude.{◌≡◌, Result, Ok, Err}
use Rattle.flt_model.specs.Streams.{Text}
use Rattle.flt_model.specs.declared.scanner.Stop.{Stop}
use Rattle.flt_model.specs.declared.scanner.Stop.TheVariants.{Wrong, Failed}

-- this was read and the bytes behind it are left, or the reader failed
abbrev pub IsReadAs : {A : Type 0} → A → Text → Result A Stop → Text → Type 0
IsReadAs value behind (Ok found) left = (found ≡ value) × (left ≡ behind)
IsReadAs value behind (Err Wrong) left = ⊥
IsReadAs value behind (Err Failed) left = Unit {0}
