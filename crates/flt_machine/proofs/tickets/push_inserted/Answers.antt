-- Where the operation has none yet, its entry comes to wait.
use Rattle.std.proofs.Common.{◌++◌, List, ap, sym, ◌∙◌, append-nil}
use Rattle.flt_model.specs.declared.subject.Subject.{Subject}
use Rattle.flt_model.specs.World.{Visit}
use Rattle.flt_machine.proofs.Entered.{inserted_entry, inserted_not, inserted_past}
use Rattle.flt_machine.proofs.tickets.push_inserted.Goals as goal

pub returns-then-not-is_new-clause-next : goal.returns-then-not-is_new-clause-next
returns-then-not-is_new-clause-next c x =
    sym (append-nil c.args.next.now.items) ∙
    ap (λ (l : List Subject). c.args.next.now.items ++ l)
    (sym (inserted_not c.args.store.now c.args.filter c.args.visit x c.requires.possible c.requires.queues
    c.args.loaded.now.altitudes _ c.is_new.result
    (ap (λ (v : Visit). v.operation) (c.serial.view_is ∙ c.visit.ensures)) c.is_new.ensures c.if-not-is_new.true))

pub returns-in_ok-push-clause-next : goal.returns-in_ok-push-clause-next
returns-in_ok-push-clause-next c x =
    c.in_ok-push.ensures.items ∙
    ap (λ (l : List Subject). c.args.next.now.items ++ l)
    (sym (inserted_entry c.args.store.now c.args.filter c.args.visit x c.requires.possible c.requires.queues
    c.args.loaded.now.altitudes _ _ c.is_new.result
    (ap (λ (v : Visit). v.operation) (c.serial.view_is ∙ c.visit.ensures))
    (sym c.in-Some.ensures.value) c.is_new.ensures c.if-not-is_new.false))

pub returns-in_default-clause-next : goal.returns-in_default-clause-next
returns-in_default-clause-next c x =
    sym (append-nil c.args.next.now.items) ∙
    ap (λ (l : List Subject). c.args.next.now.items ++ l)
    (sym (inserted_past c.args.store.now c.args.filter c.args.visit x c.requires.possible c.requires.queues c.args.loaded.now.altitudes
    (sym c.in_default.ensures.value)))
