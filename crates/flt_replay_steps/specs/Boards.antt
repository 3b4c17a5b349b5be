-- The statements that remain, by the first one and those after it.
use Rattle.std.specs.Prelude.{List, [], ◌∷◌, Option, Some, None}
use Rattle.flt_tree.specs.declared.filter.Statement.{Statement}
use Rattle.flt_replay_records.specs.declared.rest.Upcoming.{Upcoming}
use Rattle.flt_replay_records.specs.Rest.{statement_of}

-- where there is no first one, none remain
abbrev pub coming : Option Upcoming → List Statement → List Statement
coming None others = []
coming (Some u) others = statement_of u ∷ others
