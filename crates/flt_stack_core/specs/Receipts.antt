-- The receipts of a journal, and those of seats. This project's own rule.
use Rattle.std.specs.Prelude.{ℕ, ◌+◌, Bool, true, false, if◌then◌else◌, List, [], ◌∷◌, ◌++◌, Option, Some, None, Contains}
use Rattle.flt_stack_core.specs.declared.receipt.Receipt.{Receipt}
use Rattle.flt_model.specs.declared.moves.JournalEntry.{JournalEntry}
use Rattle.flt_model.specs.declared.moves.JournalEntry.TheVariants as journal_entry
use Rattle.flt_model.specs.declared.moves.Move.{Move}
use Rattle.flt_model.specs.declared.moves.Move.TheVariants as moves

-- what a caller keeps of an entry
abbrev pub receipt : ℕ → Move → Option ℕ → Receipt
receipt number entry answer = record { number = number; entry = entry; answer = answer }

-- an operation arrived by the entry
abbrev pub is_arrival : JournalEntry → Bool
is_arrival (journal_entry.Move (moves.Arrive operation mode file)) = true
is_arrival _ = false

-- what receipt an entry has, which has this number and before which so many operations arrived: an arrival is answered its serial
-- number, a detach nothing; no other entry has a receipt
abbrev pub receipt_of : ℕ → ℕ → JournalEntry → List Receipt
receipt_of number arrived (journal_entry.Move (moves.Arrive operation mode file)) =
    receipt number (moves.Arrive operation mode file) (Some arrived) ∷ []
receipt_of number arrived (journal_entry.Move (moves.Detach altitude)) = receipt number (moves.Detach altitude) None ∷ []
receipt_of number arrived _ = []

-- the receipts of entries, of which the first has this number and comes after so many arrivals
abbrev pub receipts_from : ℕ → ℕ → List JournalEntry → List Receipt
receipts_from number arrived [] = []
receipts_from number arrived (e ∷ es) =
    receipt_of number arrived e ++ receipts_from (number + 1) (arrived + (if is_arrival e then 1 else 0)) es

-- the receipts of a journal
abbrev pub receipts_in : List JournalEntry → List Receipt
receipts_in entries = receipts_from 0 0 entries

-- what seats hold together, one seat's receipts after another's
abbrev pub together : List (List Receipt) → List Receipt
together [] = []
together (held ∷ others) = held ++ together others

-- one of these is not among what is held
abbrev pub Misses : List Receipt → List Receipt → Type 0
Misses held wanted = (r : Receipt) × Contains wanted r × (Contains held r → ⊥)
