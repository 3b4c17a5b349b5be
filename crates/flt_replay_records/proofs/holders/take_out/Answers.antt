use Rattle.std.proofs.Common.{sym, subst, ◌∙◌}
use Rattle.flt_replay_records.specs.Slots.{IsOnly}
use Rattle.flt_replay_records.proofs.Slots.{none_goes, emptied_left, emptied_places, emptied_others}
use Rattle.flt_replay_records.proofs.holders.take_out.Goals as goal

pub returns-in_default-clause-left : goal.returns-in_default-clause-left
returns-in_default-clause-left c access are =
    sym (none_goes access c.args.activation c.args.slots.now.items
    (subst (IsOnly access c.args.activation c.args.slots.now.items) (sym c.remove.ensures.value ∙ c.in_default.is)
    (are.each c.args.activation)))

pub returns-in-Some-get_mut-clause-left : goal.returns-in-Some-get_mut-clause-left
returns-in-Some-get_mut-clause-left c access are =
    emptied_left access c.args.activation c.in-Some.place c.args.slots.now.items c.args.places.now.entries c.remove.new.self.entries are
    (sym c.remove.ensures.value ∙ c.in-Some.is)

pub returns-in-Some-get_mut-clause-places : goal.returns-in-Some-get_mut-clause-places
returns-in-Some-get_mut-clause-places c access are =
    emptied_places access c.args.activation c.in-Some.place c.args.slots.now.items c.args.places.now.entries c.remove.new.self.entries are
    (sym c.remove.ensures.value ∙ c.in-Some.is) c.remove.ensures.updates.0 (rw c.in-Some.is at c.remove.ensures.len)

pub returns-in-Some-get_mut-clause-others : goal.returns-in-Some-get_mut-clause-others
returns-in-Some-get_mut-clause-others c access other others are differ theirs =
    emptied_others access c.args.activation c.in-Some.place c.args.slots.now.items c.args.places.now.entries c.remove.new.self.entries are
    (sym c.remove.ensures.value ∙ c.in-Some.is) other others differ theirs
