-- Scripts and their spelling. This project's own format.
use Rattle.std.specs.Prelude.{◌≡◌, ◌≢◌, ℕ, suc, ◌^◌, Bool, true, false, ◌&&◌, not, ◌==◌, nat_lt}
use Rattle.std.specs.Prelude.{List, [], ◌∷◌, ◌++◌, length, Option, Some, None, codes, IsTrue}
use Rattle.std.specs.List.{flat_map, list_any}
use Rattle.flt_rules.specs.Place.{fits_mode}
use Rattle.flt_tree.specs.declared.filter.Filter.{Filter}
use Rattle.flt_model.specs.JournalText.{move_line, number_text}
use Rattle.flt_model.specs.Streams.{Text}
use Rattle.flt_model.specs.declared.moves.Move.{Move}
use Rattle.flt_model.specs.declared.moves.Move.TheVariants as moves
use Rattle.flt_stack_script.specs.declared.command.Command.{Command}
use Rattle.flt_stack_script.specs.declared.command.Command.TheVariants.{Arrive, Cancel, Detach, Refuse}
use Rattle.flt_stack_script.specs.declared.fault.ScriptFault.{ScriptFault}
use Rattle.flt_stack_script.specs.declared.fault.ScriptFault.TheVariants.{Line, OutOfMemory}
use Rattle.flt_rules.specs.Limits.{max_operations}

-- ---- scripts

-- the commands, the first one first
abbrev pub Commands : Type 0
Commands = List Command

-- the mode and the number of a command are within bounds: an operation comes in a mode of its kind; there are 1,024
-- files and 65,536 operations; other numbers have 32 bits
abbrev pub is_command : Command → Bool
is_command (Arrive operation mode file) = fits_mode operation mode && nat_lt file 1024
is_command (Cancel serial) = nat_lt serial max_operations
is_command (Detach altitude) = nat_lt altitude (2 ^ 32)
is_command (Refuse choice) = nat_lt choice (2 ^ 32)

-- the filters of a stack, where it is known
abbrev pub Stack : Type 0
Stack = Option (List Filter)

-- a filter of this altitude is in the stack; of one that isn't known it may be
abbrev pub is_loaded : Stack → ℕ → Bool
is_loaded None altitude = true
is_loaded (Some filters) altitude = list_any (λ (f : Filter). f.altitude == altitude) filters

-- a command detaches the filter of this altitude
abbrev pub detaches : ℕ → Command → Bool
detaches altitude (Detach other) = other == altitude
detaches altitude _ = false

-- behind others a command detaches no filter but one of the stack, and that for the first time
abbrev pub detaches_legally : Stack → Commands → Command → Bool
detaches_legally stack before (Detach altitude) = is_loaded stack altitude && not (list_any (detaches altitude) before)
detaches_legally stack before _ = true

-- a command may stand behind others
abbrev pub may_follow : Stack → Commands → Command → Bool
may_follow stack before command = is_command command && detaches_legally stack before command

-- behind some commands each one more may stand behind all those before it
abbrev pub are_commands : Stack → Commands → Commands → Bool
are_commands stack before [] = true
are_commands stack before (command ∷ more) = may_follow stack before command && are_commands stack (before ++ command ∷ []) more

-- a script for this stack; where it isn't known, for one that has all filters that are detached
abbrev pub is_script : Stack → Commands → Bool
is_script stack = are_commands stack []

-- ---- their text

-- the line of a command, which for a move is the line that it has in a journal
abbrev pub command_line : Command → Text
command_line (Arrive operation mode file) = move_line (moves.Arrive operation mode file)
command_line (Cancel serial) = move_line (moves.Cancel serial)
command_line (Detach altitude) = move_line (moves.Detach altitude)
command_line (Refuse choice) = codes "refuse " ++ number_text choice 10

-- the one spelling of a script: its lines, and nothing else
abbrev pub spelling : Commands → Text
spelling = flat_map command_line

-- the command that is this move, if it is one
abbrev pub command_of : Move → Option Command
command_of (moves.Arrive operation mode file) = Some (Arrive operation mode file)
command_of (moves.Cancel serial) = Some (Cancel serial)
command_of (moves.Detach altitude) = Some (Detach altitude)
command_of _ = None

-- ---- texts that are no script

-- the first malformed line, counted from 1: the lines before it are those of a script, something stands behind
-- them, and no script goes on with it
pub record IsFirstFault (stack : Stack) (text : Text) (line : ℕ) : Type 0 where
  pub before : Commands
  pub script : IsTrue (is_script stack before)
  pub number : line ≡ suc (length before)
  pub left : Text
  pub begun : text ≡ spelling before ++ left
  pub some : left ≢ []
  pub stopped : (command : Command) → IsTrue (is_script stack (before ++ command ∷ [])) → (others : Text) →
      left ≢ command_line command ++ others

-- a fault of the text names its first line that isn't as asked
abbrev pub IsFaultOf : Stack → Text → ScriptFault → Type 0
IsFaultOf stack text (Line line) = IsFirstFault stack text line
IsFaultOf stack text OutOfMemory = Unit {0}
