use Rattle.std.proofs.Common.{◌≡◌, ◌≤◌, ◌+◌, length, All}
use Rattle.std.specs.Vec.{vec_len, vec_capacity}
use Rattle.flt_cancel.specs.Steps.{newcomer}
use Rattle.flt_cancel.specs.Seats.{marks, view}
use Rattle.flt_cancel.proofs.pads.Pads.open.Given as goal

abbrev pub invariant-loop : goal.invariant-loop
invariant-loop l = record {
  counted : length l.made.items + 1 ≡ l.counter;
  as_long : vec_len l.made ≡ length l.made.items;
  within : l.counter ≤ l.seats;
  room : l.seats ≤ vec_capacity l.made;
  first_here : l.first.table_id ≡ l.table.shared.table_id;
  first_new : l.first.me.0 ≡ newcomer;
  mark_here : l.first_mark.table_id ≡ l.marks.shared.table_id;
  mark_new : l.first_mark.me.0 ≡ newcomer;
  seats_made : All (λ seat. ((seat.token.table_id ≡ l.table.shared.table_id) × (seat.mark.table_id ≡ l.marks.shared.table_id))
      × (view seat ≡ newcomer)) l.made.items;
  marks_made : All (λ seat. marks seat ≡ newcomer) l.made.items;
}
