-- What contracts see of a seat.
use Rattle.std.specs.Prelude.{◌≡◌}
use Rattle.flt_cancel.specs.declared.pads.Pads.{Pads}
use Rattle.flt_cancel.specs.declared.seat.Seat.{Seat}
use Rattle.flt_cancel.specs.declared.seat.View.{View}

-- what is known through the seat of the requests
abbrev pub view : Seat → View
view seat = seat.token.me.0

-- what is known through the seat of the marks
abbrev pub marks : Seat → View
marks seat = seat.mark.me.0

-- the seat is one that these pads gave
abbrev pub IsSeatOf : Pads → Seat → Type 0
IsSeatOf pads seat = (seat.token.table_id ≡ pads.words.table.shared.table_id) × (seat.mark.table_id ≡ pads.marks.table.shared.table_id)
