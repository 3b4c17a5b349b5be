use Rattle.std.proofs.Common.{◌≡◌, ℕ, ◌<◌, length}
use Rattle.std.specs.List.{list_any}
use Rattle.flt_model.specs.Moves.{is_entry_of}
use Rattle.flt_model.specs.World.{queue_at}
use Rattle.flt_machine_store.proofs.Marked.{is_marked}
use Rattle.flt_machine_store.proofs.store.Store.waiting.Given as goal

abbrev pub invariant-loop-entry : goal.invariant-loop-entry
invariant-loop-entry l =
    (length l.marks.items ≡ length l.fn.self.arrivals)
    × ((o : ℕ) → o < length l.fn.self.arrivals →
    is_marked l.fn.self l.marks.items l.left o ≡ list_any (is_entry_of l.fn.self o) (queue_at l.fn.self l.fn.filter))

abbrev pub decreases-loop-entry : goal.decreases-loop-entry
decreases-loop-entry l = length l.left
