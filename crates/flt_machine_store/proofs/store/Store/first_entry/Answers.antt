use Rattle.std.proofs.Common.{find, ap, List, ℕ, Option, option_map, ◌∙◌, arith}
use Rattle.flt_cbdq.specs.Queues.{is_of, queue_of}
use Rattle.flt_cbdq.specs.declared.entry.Entry as kept
use Rattle.flt_model.specs.Moves.{is_entry_of}
use Rattle.flt_model.specs.World.{Store, queue_at}
use Rattle.flt_machine_store.proofs.Listed.{listed_there}
use Rattle.flt_machine_store.specs.Parts.{entry_of}
use Rattle.flt_machine_store.specs.contracts.store.Store.{the_view}
use Rattle.flt_machine_store.proofs.store.Store.first_entry.Goals as goal

pub returns : goal.returns
returns c =
    let q = c.self.inside.queues in
    ap (λ (e : Option kept.Entry). option_map entry_of e) (c.copied.ensures ∙ c.first_of.ensures
    ∙ ap (λ (vs : List ℕ). find (is_of vs) (queue_of q c.args.filter)) c.visits_of-visits.ensures)
    ∙ listed_there (the_view c.self.inside) q c.args.filter c.args.serial c.self.inside.greatest_queued c.self.invariant.queued
    (omega (arith, c.if-self-visits.false, c.visits.ensures))
    ∙ ap (λ (s : Store). find (is_entry_of s c.args.serial) (queue_at s c.args.filter)) c.self.view_is
