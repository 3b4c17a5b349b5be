use Rattle.flt_machine.proofs.Few.{two_at_most}
use Rattle.flt_machine.proofs.tickets.subjects_by.Goals as goal

pub returns-clause-few : goal.returns-clause-few
returns-clause-few c calm =
    two_at_most c.args.loaded.now.altitudes c.args.store.now c.args.change c.operation_by.result c.args.activation c.item_by.result
    c.teardown_by.result calm c.operation_by.ensures c.item_by.ensures (c.teardown_by.ensures c.args.store.now c.requires.possible)
    _ _ _ _ _ _ c.new-next.ensures.items c.in_ok-push_one.ensures.next c.in_ok-push_one-2.ensures.next c.in_ok-push_one-3.ensures.next
    c.in_ok-push_entries.ensures.next (c.in_ok-push_entries.ensures.few calm) c.in_ok-push_one-4.ensures.next
