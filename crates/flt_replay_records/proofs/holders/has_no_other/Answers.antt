use Rattle.std.proofs.Common.{sym, ◌∙◌, length}
use Rattle.flt_replay_records.proofs.Slots.{counted_one, counted_none, empty_is}
use Rattle.flt_replay_records.proofs.holders.has_no_other.Goals as goal

pub returns-then-contains_key : goal.returns-then-contains_key
returns-then-contains_key c access slots are =
    rw c.len.ensures.len
    (counted_one access c.args.activation slots c.args.places.now.entries are (sym c.contains_key.ensures ∙ c.if-contains_key.true))

pub returns-else-contains_key : goal.returns-else-contains_key
returns-else-contains_key c access slots are =
    empty_is c.is_empty.result (length c.args.places.now.entries) c.is_empty.ensures
    ∙ counted_none access c.args.activation slots c.args.places.now.entries are (sym c.contains_key.ensures ∙ c.if-contains_key.false)
