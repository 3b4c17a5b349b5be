use Rattle.std.proofs.Common.{rules, ◌≡◌, Err, IfErr, subst, sym}
use Rattle.flt_model.specs.Program.{filters_of}
use Rattle.flt_stack_prepare.proofs.Answered.{all_certified, all_covered, filters_fail}
use Rattle.flt_stack_prepare.specs.Texts.{FiltersFail}
use Rattle.flt_stack_prepare.proofs.certified.certify_all.Goals as goal

pub returns-clause-covered : goal.returns-clause-covered
returns-clause-covered g c =
    all_covered _ c.in_ok-answers.answers.items _ (rw c.as_slice.ensures.value at c.in_ok-answers.ensures)
    c.in_ok-certificates.ensures.ok

pub returns-clause-certificates : goal.returns-clause-certificates
returns-clause-certificates g c =
    all_certified _ c.in_ok-answers.answers.items _ (rw c.as_slice.ensures.value at c.in_ok-answers.ensures)
    c.in_ok-certificates.ensures.ok

pub returns-in_err-certificates-clause-err : goal.returns-in_err-certificates-clause-err
returns-in_err-certificates-clause-err g c =
    let filters = filters_of c.args.trees.now in
    let fails : c.from_residual-in_err-certificates.result ≡ Err c.in_err-certificates.field-0.0 = search rules in
    subst (λ r. IfErr r (FiltersFail filters)) (sym fails)
    (filters_fail filters c.in_ok-graphs.graphs.items c.in_ok-answers.answers.items c.in_err-certificates.field-0.0 c.in_ok-graphs.ensures
    (rw c.as_slice.ensures.value at c.in_ok-answers.ensures) c.in_err-certificates.ensures.err)
