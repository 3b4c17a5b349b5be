-- What is kept of loaded filters.
use Rattle.std.specs.Prelude.{◌≡◌, ◌↔◌, Bool, IsTrue, List}
use Rattle.flt_tree.specs.declared.filter.Filter.{Filter}
use Rattle.flt_machine_frames.specs.Loading.{AreLoaded}
use Rattle.flt_machine_frames.specs.declared.loaded.Loaded.{Loaded}
use Rattle.flt_model.specs.Program.{HasDistinctAltitudes, by_altitude}
use Rattle.flt_sound.specs.Progress.{AreOrderly}
use Rattle.flt_sound.specs.Soundness.{AreAccepted}

-- the filters are accepted, no two have one altitude, they stand from the highest to the lowest, and are what a machine was lent to run;
-- and whether each takes its locks in an order is known
pub record AreLoadable (filters : List Filter) (machine : Loaded) (known : Bool) : Type 0 where
  pub accepted : AreAccepted filters
  pub distinct : HasDistinctAltitudes filters
  pub ordered : by_altitude filters ≡ filters
  pub loaded : AreLoaded filters machine
  pub locks : IsTrue known ↔ AreOrderly filters
