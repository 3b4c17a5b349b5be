use Rattle.std.proofs.Common.{◌≡◌, find, length, map}
use Rattle.flt_model.specs.Moves.{is_entry_of}
use Rattle.flt_model.specs.World.{queue_at}
use Rattle.flt_machine_store.specs.Parts.{entry_of}
use Rattle.flt_machine_store.proofs.store.Store.walk_to_entry.Given as goal

abbrev pub invariant-loop-entry : goal.invariant-loop-entry
invariant-loop-entry l =
    let test = is_entry_of l.fn.self l.fn.serial in
    find test (queue_at l.fn.self l.fn.filter) ≡ find test (map entry_of l.left)

abbrev pub decreases-loop-entry : goal.decreases-loop-entry
decreases-loop-entry l = length l.left
