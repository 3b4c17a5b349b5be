use Rattle.std.proofs.Common.{find, ap, sym, subst, ◌∙◌}
use Rattle.flt_cbdq.specs.Queues.{Queueing, has_visit}
use Rattle.flt_model.specs.Moves.{is_entry_of, other_entries}
use Rattle.flt_model.specs.World.{Store, queue_at, with_queue}
use Rattle.flt_machine_store.proofs.Carried.{with_queues, first_carried}
use Rattle.flt_machine_store.specs.Changes.{IsFirstOf}
use Rattle.flt_machine_store.proofs.Listed.{first_up_to}
use Rattle.flt_machine_store.specs.contracts.store.Store.{the_view}
use Rattle.flt_machine_store.proofs.store.Store.remove_of.Goals as goal

pub invariant_of-self : goal.invariant_of-self
invariant_of-self c = rw c.remove.ensures.rest (record {
  filters = c.self.invariant.filters;
  locked = c.self.invariant.locked;
  closed = c.self.invariant.closed;
  disabled = c.self.invariant.disabled;
  queued = first_up_to c.self.inside.greatest_queued
      (has_visit c.args.visit) c.self.inside.queues.queues c.args.filter c.self.invariant.queued;
})

pub returns : goal.returns
returns c =
    let s = the_view c.self.inside in
    let f = c.args.filter in
    let o = c.args.serial in
    let v = c.args.visit in
    let first = subst (λ (r : Store). IsFirstOf r f o v (find (is_entry_of r o) (queue_at r f))) (sym c.self.view_is) c.requires in
    ap (λ (q : Queueing). with_queues s q) c.remove.ensures.rest ∙ first_carried s c.self.inside.queues f o v first
    ∙ ap (λ (r : Store). with_queue r f (other_entries r o (queue_at r f))) c.self.view_is
