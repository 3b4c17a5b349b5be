-- What a move makes of a board. This project's own representation of the machine's moves.
use Rattle.std.specs.Prelude.{◌≡◌, ℕ, List, [], ◌∷◌, ◌++◌, Option, Some, None}
use Rattle.flt_tree.specs.declared.filter.Filter.{Filter}
use Rattle.flt_model.specs.declared.moves.JournalEntry.{JournalEntry}
use Rattle.flt_model.specs.declared.moves.JournalEntry.TheVariants as journal_entry
use Rattle.flt_model.specs.declared.moves.Move.{Move}
use Rattle.flt_model.specs.Program.{body_at, callbacks_at}
use Rattle.flt_model.specs.Variables.{starting}
use Rattle.flt_machine_store.specs.Changes.{after_change}
use Rattle.flt_machine_dispatch.specs.Decisions.{actors_by}
use Rattle.flt_machine_dispatch.specs.declared.decision.Decision.{Decision}
use Rattle.flt_machine_dispatch.specs.declared.decision.Start.{Start}
use Rattle.flt_machine_frames.specs.Standings.{StandsFor}
use Rattle.flt_machine_frames.specs.declared.standing.Standing.{Standing}
use Rattle.flt_machine.specs.Situations.{Situation}

-- how often the new activation has gained the visit that it is given: once, where it is given one
abbrev pub gained_by : Option ℕ → ℕ
gained_by None = 0
gained_by (Some v) = 1

-- what is kept of an activation that starts: nothing where none does
abbrev pub Begins : List Filter → Option Start → Option Standing → Type 0
Begins p None None = Unit {0}
Begins p (Some start) (Some s) =
    StandsFor (callbacks_at p start.filter) s (starting (body_at (callbacks_at p start.filter) start.callback) start.given start.arg)
    × ((s.gained ≡ gained_by start.given) × (s.lost ≡ 0))
Begins p _ _ = ⊥

-- it comes behind the others
abbrev pub standings_by : Option Standing → List (Option Standing)
standings_by None = []
standings_by (Some s) = Some s ∷ []

-- the board after a move
abbrev pub moved_by : Situation → Decision → Option Standing → List JournalEntry → Situation
moved_by b d s entries = record {
  actors = b.actors ++ actors_by d.start;
  standings = b.standings ++ standings_by s;
  store = after_change b.store d.change;
  entries = entries;
}

-- a decision led a board to another, with one entry more that says so
pub record HasMoved (b later : Situation) (move : Move) (d : Decision) : Type 0 where
  pub standing : Option Standing
  pub begins : (p : List Filter) → Begins p d.start standing
  pub same : later ≡ moved_by b d standing (b.entries ++ journal_entry.Move move ∷ [])
