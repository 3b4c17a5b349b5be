-- What a caller keeps of a script's commands. This project's own rule.
use Rattle.std.specs.Prelude.{◌≡◌, ℕ, true, List, [], ◌∷◌, ◌++◌}
use Rattle.flt_stack_core.specs.Refusals.{has_altitude}
use Rattle.flt_stack_core.specs.declared.receipt.Receipt.{Receipt}
use Rattle.flt_model.specs.declared.moves.Move.{Move}
use Rattle.flt_model.specs.declared.moves.Move.TheVariants as moves
use Rattle.flt_stack_script.specs.ScriptText.{Commands}
use Rattle.flt_stack_script.specs.declared.command.Command.{Command}
use Rattle.flt_stack_script.specs.declared.command.Command.TheVariants.{Arrive, Cancel, Detach, Refuse}
use Rattle.flt_tree.specs.declared.filter.Filter.{Filter}

-- the filter that a command detaches, if it detaches one, is one of these
abbrev pub IsAimed : List Filter → Command → Type 0
IsAimed filters (Detach altitude) = has_altitude filters altitude ≡ true
IsAimed filters _ = Unit {0}

-- the command detaches some filter
abbrev pub IsDetach : Command → Type 0
IsDetach command = (altitude : ℕ) × (command ≡ Detach altitude)

-- one more receipt, of this move
abbrev pub Adds : Move → List Receipt → List Receipt → Type 0
Adds move before later = (r : Receipt) × (r.entry ≡ move) × (later ≡ before ++ r ∷ [])

-- what a command that is given makes of the receipts: an arrival and a detach add one, others none
abbrev pub Makes : Command → List Receipt → List Receipt → Type 0
Makes (Arrive operation mode file) before later = Adds (moves.Arrive operation mode file) before later
Makes (Detach altitude) before later = Adds (moves.Detach altitude) before later
Makes _ before later = later ≡ before

-- the serial numbers that a command asks to be cancelled
abbrev pub asks : Command → List ℕ
asks (Cancel serial) = serial ∷ []
asks _ = []

-- these are the receipts, and the serial numbers that were asked to be cancelled, once these commands were given, one after another
pub data AreMade : Commands → List Receipt → List ℕ → Type 0 where
  begun : AreMade [] [] []
  one_more : (commands : Commands) (receipts later : List Receipt) (asked : List ℕ) (command : Command) →
      AreMade commands receipts asked → Makes command receipts later → AreMade (commands ++ command ∷ []) later (asked ++ asks command)

-- the first commands of a script were given, and these are the receipts and the serial numbers that were asked to be cancelled
pub record AreGiven (script : Commands) (receipts : List Receipt) (asked : List ℕ) : Type 0 where
  pub given : Commands
  pub rest : Commands
  pub parts : script ≡ given ++ rest
  pub made : AreMade given receipts asked

-- the commands of a script before one that detaches a filter were given,
-- and these are the receipts and the serial numbers that were asked to
-- be cancelled
pub record StopsAtDetach (script : Commands) (receipts : List Receipt) (asked : List ℕ) : Type 0 where
  pub given : Commands
  pub altitude : ℕ
  pub rest : Commands
  pub parts : script ≡ given ++ Detach altitude ∷ rest
  pub made : AreMade given receipts asked
