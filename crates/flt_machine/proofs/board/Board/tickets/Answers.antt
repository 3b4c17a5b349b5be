-- A decision says what the move gives a ticket.
use Rattle.std.proofs.Common.{◌≡◌, [], ◌∷◌, Some, length, ap, subst, sym, ◌∙◌}
use Rattle.flt_model.specs.declared.moves.Move.{Move}
use Rattle.flt_model.specs.declared.subject.Subject.TheVariants as subject
use Rattle.flt_model.specs.Moves.{make}
use Rattle.flt_machine_store.specs.Changes.{after_change}
use Rattle.flt_machine_dispatch.specs.Decisions.{Decides}
use Rattle.flt_machine.specs.Situations.{Situation}
use Rattle.flt_machine.specs.Tickets.{by_move, one_of, subjects}
use Rattle.flt_machine.proofs.Decided.{decided_now}
use Rattle.flt_machine.proofs.Given.{arrival_next, other_next}
use Rattle.flt_machine.proofs.board.Board.tickets.Goals as goal

pub returns-in-Arrive-clause-next : goal.returns-in-Arrive-clause-next
returns-in-Arrive-clause-next c p loaded m at =
    let decides =
    decided_now c.args.loaded.now _ c.args.self.now c.args.step c.is_active_for-active.result
    (Some c.in-Some.decision) c.self.view_is c.is_active_for-active.ensures
    c.in-Some.ensures.decided in
    (rw (c.new-next.ensures.items, c.operations.ensures ∙ ap (λ (b : Situation). length b.store.arrivals) c.self.view_is) at
    c.in_ok-push.ensures.items) ∙
    subst (λ (step : Move). subject.Operation (length c.args.self.now.store.arrivals) ∷ [] ≡
    by_move c.args.loaded.now.altitudes m.world (make p m.world step)) (sym c.in-Arrive.is)
    (arrival_next c.args.loaded.now.altitudes p c.args.self.now m c.in-Some.decision at c.in-Arrive.operation
    c.in-Arrive.mode c.in-Arrive.file
    (subst (λ (step : Move). Decides p m.world (Some c.in-Some.decision) (make p m.world step)) c.in-Arrive.is (decides p loaded m at)))

pub returns-clause-next : goal.returns-clause-next
returns-clause-next c p loaded m at =
    let decides =
    decided_now c.args.loaded.now _ c.args.self.now c.args.step c.is_active_for-active.result
    (Some c.in-Some.decision) c.self.view_is c.is_active_for-active.ensures
    c.in-Some.ensures.decided in
    other_next c.args.loaded.now.altitudes p c.args.self.now m c.in-Some.decision at c.args.step
    c.in_ok-next.next.items (decides p loaded m at) (c.in_ok-next.ensures.next ∙
    ap (λ (b : Situation). subjects c.args.loaded.now.altitudes b.store (after_change b.store c.in-Some.decision.change)
    (one_of c.starting.result)) c.self.view_is ∙
    ap (subjects c.args.loaded.now.altitudes c.args.self.now.store (after_change c.args.self.now.store c.in-Some.decision.change))
    (sym c.starting.ensures))
