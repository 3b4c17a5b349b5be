use Rattle.std.proofs.Common.{true, false, ap, sym, ◌∙◌}
use Rattle.flt_model.specs.World.{Visit}
use Rattle.flt_machine.proofs.Followed.{not_led, settled_read}
use Rattle.flt_machine.proofs.tickets.settled_operation.Goals as goal

pub returns-then-not-is_led : goal.returns-then-not-is_led
returns-then-not-is_led c x =
    not_led c.args.store.now c.args.visit x c.args.way (sym c.is_led.ensures ∙ c.if-not-is_led.true)

pub returns-then-leads_on : goal.returns-then-leads_on
returns-then-leads_on c x =
    settled_read c.args.store.now c.args.visit x c.args.way _ _ _ c.is_spent_after-spent.result true
    (sym c.is_led.ensures ∙ c.if-not-is_led.false)
    (ap (λ (v : Visit). v.operation) (c.seen.view_is ∙ c.visit-seen.ensures))
    (ap (λ (v : Visit). v.filter) (c.seen.view_is ∙ c.visit-seen.ensures))
    c.position-from.ensures c.is_spent_after-spent.ensures (sym c.if-leads_on.true ∙ c.leads_on.ensures)

pub returns-else-leads_on : goal.returns-else-leads_on
returns-else-leads_on c x =
    settled_read c.args.store.now c.args.visit x c.args.way _ _ _ c.is_spent_after-spent.result false
    (sym c.is_led.ensures ∙ c.if-not-is_led.false)
    (ap (λ (v : Visit). v.operation) (c.seen.view_is ∙ c.visit-seen.ensures))
    (ap (λ (v : Visit). v.filter) (c.seen.view_is ∙ c.visit-seen.ensures))
    c.position-from.ensures c.is_spent_after-spent.ensures (sym c.if-leads_on.false ∙ c.leads_on.ensures)
