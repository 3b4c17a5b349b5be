use Rattle.std.proofs.Common.{◌≡◌, ◌≤◌, All, Contains, length, map, take}
use Rattle.flt_stack_core.specs.Receipts.{receipts_in, together}
use Rattle.flt_stack_core.proofs.Entries.{arrivals}
use Rattle.flt_stack_core.proofs.agreeing.count_held.Given as goal

abbrev pub invariant-loop-number : goal.invariant-loop-number
invariant-loop-number g l = record {
  arrived : l.arrived ≡ arrivals (take l.number l.entries);
  few_arrived : l.arrived ≤ l.number;
  count : l.count ≡ length (receipts_in (take l.number l.entries));
  few : l.count ≤ l.number;
  held : All (Contains (together (map g.S.HoldsReceipts.held l.seats))) (receipts_in (take l.number l.entries));
}
