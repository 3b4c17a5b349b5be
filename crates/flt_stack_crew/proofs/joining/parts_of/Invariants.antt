use Rattle.std.proofs.Common.{◌≡◌, ◌≤◌, ◌<◌, true, false, map, sum_by}
use Rattle.flt_stack_crew.specs.Following.{IsSum}
use Rattle.flt_stack_crew.proofs.joining.parts_of.Given as goal

abbrev pub invariant-loop-worked : goal.invariant-loop-worked
invariant-loop-worked g l = record {
  seats : map (λ worked. worked.seat) l.yielded ≡ l.seats.items;
  counted : l.made ≤ sum_by (λ seat. seat.share.amount) l.seats.items;
  full : l.is_full ≡ true → 0 < sum_by (λ seat. seat.fulls.amount) l.seats.items;
  told : l.is_full ≡ false → IsSum l.made (sum_by (λ seat. seat.share.amount) l.seats.items);
}
