use Rattle.std.proofs.Common.{◌≡◌, ◌-◌, List, Some, length, ap, ◌∙◌, sym}
use Rattle.std.specs.Borrow.{Bor}
use Rattle.std.specs.List.{slice_get}
use Rattle.flt_tree.specs.declared.filter.Statement.{Statement}
use Rattle.flt_replay_records.proofs.Suspended.{turned_if}
use Rattle.flt_replay_records.proofs.behind.Behind.turn.Goals as goal

pub returns-in-Some-empty : goal.returns-in-Some-empty
returns-in-Some-empty c =
    let blocks = c.args.self.now.blocks.items in
    let last = rw c.in-Some-empty.is at c.last.ensures.value in
    let here : slice_get blocks (length blocks - 1) ≡ Some c.in-Some-empty.field-0.now =
    sym (last ∙ ap (λ (bs : List (Bor (List Statement))). slice_get bs (length bs - 1)) c.deref.ensures.value) in
    turned_if blocks c.in-Some-empty.field-0.now c.args.self.now.repeats.items c.turn_of.new.repeats.items c.turn_of.result here
    c.in-Some-empty.len_below c.turn_of.ensures
