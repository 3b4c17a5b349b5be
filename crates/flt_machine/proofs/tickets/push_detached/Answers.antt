-- The operations with an entry are marked.
use Rattle.std.proofs.Common.{◌++◌, Bool, false, List, length, ap, sym, ◌∙◌, append-nil}
use Rattle.std.proofs.Math.ListN.{get_or}
use Rattle.flt_model.specs.declared.subject.Subject.{Subject}
use Rattle.flt_machine.proofs.Entered.{detached_some, detached_past}
use Rattle.flt_machine.proofs.tickets.push_detached.Goals as goal

pub returns-in_default-clause-next : goal.returns-in_default-clause-next
returns-in_default-clause-next c =
    sym (append-nil c.args.next.now.items) ∙
    ap (λ (l : List Subject). c.args.next.now.items ++ l)
    (sym (detached_past c.args.store.now c.args.filter c.requires.possible c.args.loaded.now.altitudes (sym c.in_default.ensures.value)))

pub returns-clause-next : goal.returns-clause-next
returns-clause-next c =
    rw (detached_some c.args.store.now c.args.filter c.requires.possible c.args.loaded.now.altitudes _ c.as_slice.result.now _
    (sym c.in-Some.ensures.value) (ap (λ (l : List Bool). length l) c.as_slice.ensures.value ∙ c.in_ok-marks.ensures.length)
    (λ k less. ap (λ (l : List Bool). get_or l k false) c.as_slice.ensures.value ∙ c.in_ok-marks.ensures.marked k less))
    c.push_marked.ensures.next
