-- The interrupt request level of an activation: the greatest of its entry level and those that its locks raise it to.
-- Source: the driver kit's pages on spin locks and fast mutexes; entry levels are taken at their worst.
use Rattle.std.specs.Prelude.{List}
use Rattle.flt_rules.specs.Held.{level_with}
use Rattle.flt_rules.specs.Place.{entry_level}
use Rattle.flt_rules.specs.declared.held.HeldLock.{HeldLock}
use Rattle.flt_rules.specs.declared.place.Level.{Level}
use Rattle.flt_rules.specs.declared.place.Place.{Place}
use Rattle.flt_tree.specs.declared.filter.Filter.{Filter}
use Rattle.flt_model.specs.Program.{kind_of_lock}

-- the level at a place, with these locks
abbrev pub level_at : Filter → Place → List HeldLock → Level
level_at f place locks = level_with (kind_of_lock f) (entry_level place) locks
