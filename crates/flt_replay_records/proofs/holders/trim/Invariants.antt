use Rattle.std.proofs.Common.{◌≡◌, ℕ, List, length}
use Rattle.flt_rules.specs.declared.held.Access.{Access}
use Rattle.flt_replay_records.specs.Slots.{left, ArePlaces}
use Rattle.flt_replay_records.proofs.holders.trim.Given as goal

abbrev pub invariant-loop-slots : goal.invariant-loop-slots
invariant-loop-slots l = record {
  left : left l.slots.items ≡ left l.fn.slots.items;
  places : (access : Access) (places : List (ℕ × ℕ)) → ArePlaces access l.fn.slots.items places → ArePlaces access l.slots.items places;
}

abbrev pub decreases-loop-slots : goal.decreases-loop-slots
decreases-loop-slots l = length l.slots.items
