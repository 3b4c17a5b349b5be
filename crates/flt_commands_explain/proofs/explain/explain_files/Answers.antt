use Rattle.std.proofs.Common.{◌≡◌, Err, rules}
use Rattle.flt_commands_explain.proofs.Explaining.{coded_as, cut_named, cut_read, explained_of, sent_of_said, unread_of_said}
use Rattle.flt_commands_explain.specs.Explain.{search_of}
use Rattle.flt_commands_explain.specs.declared.fault.CommandFault.TheVariants.{OutOfMemory}
use Rattle.flt_commands_explain.proofs.explain.explain_files.Goals as goal

pub returns-in_err-told-clause-memory : goal.returns-in_err-told-clause-memory
returns-in_err-told-clause-memory g c =
    let fails : c.from_residual-in_err-told.result ≡ Err c.in_err-told.field-0.0 = search rules in
    rw fails
    (λ short. cut_read _ _ _ _ _ _ _ c.in_ok-read.field-0 _ _ c.in_ok-read.ensures
    (rw c.as_slice-5.ensures.value at (c.in_err-told.ensures.memory short)))

pub returns-in_err-said-clause-memory : goal.returns-in_err-said-clause-memory
returns-in_err-said-clause-memory g c =
    let fails : c.from_residual-in_err-said.result ≡ Err OutOfMemory = search rules in
    rw fails (λ short. cut_named _ _ _ _ _ _ _ g.O.Sink.taken _ _ _ c.in_err-said.ensures.none c.in_ok-told.ensures.held)

pub returns-clause-said : goal.returns-clause-said
returns-clause-said g c =
    rw c.bytes_in.ensures
    (explained_of _ _ _ c.args.asked.options (search_of c.args.asked.search) _ _ _ _ c.in_ok-read.field-0 _ _ _ _ _ _ c.in_ok-read.ensures
    (rw (c.as_slice-2.ensures.value, c.as_slice-3.ensures.value) at c.in_ok-add_refused.ensures)
    (coded_as _ _ c.codes_in.ensures)
    (rw (c.as_slice-5.ensures.value, c.as_slice-6.ensures.value) at c.in_ok-told.ensures.told)
    c.in_ok-said.ensures.said)

pub returns-clause-unread : goal.returns-clause-unread
returns-clause-unread g c =
    unread_of_said _ _ _ _ _ (rw c.as_slice-4.ensures.value at c.in_ok-remark.ensures) c.in_ok-said.ensures.said

pub returns-clause-sent : goal.returns-clause-sent
returns-clause-sent g c =
    sent_of_said g.O.Sink.taken _ _ _ _ _ _ _ c.in_ok-told.ensures.sent c.in_ok-told.ensures.held c.in_ok-said.ensures.said
