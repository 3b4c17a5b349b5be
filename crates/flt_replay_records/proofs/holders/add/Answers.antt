use Rattle.std.proofs.Common.{◌≡◌, sym, ◌∙◌, length, arith}
use Rattle.std.proofs.lemmas.Grind.{common_steps}
use Rattle.flt_replay_records.proofs.Slots.{left_push, places_more, others_more, none_some}
use Rattle.flt_replay_records.proofs.holders.add.Goals as goal

pub returns-clause-left : goal.returns-clause-left
returns-clause-left c = rw (c.push_reserved.ensures.items, c.in_ok-reserve.ensures.items) (left_push c.args.slots.now.items c.args.holder)

pub returns-clause-places : goal.returns-clause-places
returns-clause-places c had access is are =
    let none = none_some c.in_ok-earlier.earlier (sym c.is_some.ensures ∙ had) in
    let place : c.len-place.result ≡ length c.args.slots.now.items = grind (arith, common_steps) in
    rw (c.push_reserved.ensures.items, c.in_ok-reserve.ensures.items)
    (places_more c.args.slots.now.items c.args.holder access is c.args.places.now.entries c.insert.new.self.entries are
    (sym c.in_ok-earlier.ensures.old ∙ none) (λ b. rw place at (c.in_ok-earlier.ensures.updates.0 b))
    (rw none at c.in_ok-earlier.ensures.len))

pub returns-clause-others : goal.returns-clause-others
returns-clause-others c other others differ theirs =
    rw (c.push_reserved.ensures.items, c.in_ok-reserve.ensures.items)
    (others_more c.args.slots.now.items c.args.holder other others differ theirs)
