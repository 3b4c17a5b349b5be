-- How much a journal holds. This project's own rule.
use Rattle.std.specs.Prelude.{◌≡◌, ◌⊎◌, List, length, count_by}
use Rattle.flt_model.specs.declared.moves.JournalEntry.{JournalEntry}
use Rattle.flt_stack_core.specs.Receipts.{is_arrival}
use Rattle.flt_rules.specs.Limits.{max_entries, max_operations}

-- there are as many entries as may be, or as many operations
abbrev pub IsFull : List JournalEntry → Type 0
IsFull entries = (length entries ≡ max_entries) ⊎ (count_by is_arrival entries ≡ max_operations)
