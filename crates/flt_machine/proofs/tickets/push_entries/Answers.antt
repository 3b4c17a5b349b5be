-- Other changes let no entry be cancelled.
use Rattle.std.proofs.Common.{◌++◌, List, ap, sym, ◌∙◌, append-nil}
use Rattle.flt_model.specs.declared.subject.Subject.{Subject}
use Rattle.flt_machine.proofs.Quieted.{quiet_entries}
use Rattle.flt_machine.proofs.tickets.push_entries.Goals as goal

pub returns-in_default-clause-next : goal.returns-in_default-clause-next
returns-in_default-clause-next c =
    sym (append-nil c.args.next.now.items) ∙
    ap (λ (l : List Subject). c.args.next.now.items ++ l)
    (sym (quiet_entries c.args.store.now c.args.change c.args.loaded.now.altitudes c.in_default.not-Cancel c.in_default.not-Insert
    c.in_default.not-Detach))
