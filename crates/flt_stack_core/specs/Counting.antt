-- The entries of a journal, by who made them. This project's own rule.
use Rattle.std.specs.Prelude.{ℕ, ◌+◌, Bool, true, false, if◌then◌else◌, List, [], ◌∷◌}
use Rattle.flt_model.specs.declared.moves.JournalEntry.{JournalEntry}
use Rattle.flt_model.specs.declared.moves.JournalEntry.TheVariants as journal_entry
use Rattle.flt_model.specs.declared.moves.Move.{Move}
use Rattle.flt_model.specs.declared.moves.Move.TheVariants as moves

-- callers make arrivals, and begin teardowns
abbrev pub is_callers_move : Move → Bool
is_callers_move (moves.Arrive operation mode file) = true
is_callers_move (moves.Detach altitude) = true
is_callers_move _ = false

-- a caller made the entry
abbrev pub is_callers : JournalEntry → Bool
is_callers (journal_entry.Move move) = is_callers_move move
is_callers (journal_entry.Go activation steps grant) = false

-- how many entries callers made
abbrev pub callers_in : List JournalEntry → ℕ
callers_in [] = 0
callers_in (e ∷ es) = (if is_callers e then 1 else 0) + callers_in es

-- how many entries others made
abbrev pub others_in : List JournalEntry → ℕ
others_in [] = 0
others_in (e ∷ es) = (if is_callers e then 0 else 1) + others_in es
