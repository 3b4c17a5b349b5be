use Rattle.std.proofs.Common.{◌≡◌, length, sym, ap, ◌∙◌, arith}
use Rattle.flt_cert.specs.Thin.{Thin}
use Rattle.flt_check.proofs.Thin.Accepted.{first_differs, has_more, counts_agree, none_differs_to}
use Rattle.flt_check.proofs.thin_checker.count_fault.Goals as goal

pub returns-then-differs-clause-some : goal.returns-then-differs-clause-some
returns-then-differs-clause-some c =
    first_differs c.args.graph.now c.args.thin.now c.loop-callback.callback (omega arith)
    (sym c.differs.ensures ∙ c.if-differs.true) c.loop-callback.invariant

pub returns-then-callbacks-clause-some : goal.returns-then-callbacks-clause-some
returns-then-callbacks-clause-some c =
    let long : length c.callbacks-2.result.now ≡ length c.args.thin.now = ap (λ (t : Thin). length t) c.callbacks-2.ensures.value in
    has_more c.args.graph.now c.args.thin.now c.saturating_sub.result (omega arith) (omega arith)
    (none_differs_to c.args.graph.now c.args.thin.now c.loop-callback.callback (omega arith) c.loop-callback.invariant)

pub returns-else-callbacks-clause-none : goal.returns-else-callbacks-clause-none
returns-else-callbacks-clause-none c =
    let long : length c.callbacks-2.result.now ≡ length c.args.thin.now = ap (λ (t : Thin). length t) c.callbacks-2.ensures.value in
    counts_agree c.args.graph.now c.args.thin.now (omega arith)
    (none_differs_to c.args.graph.now c.args.thin.now c.loop-callback.callback (omega arith) c.loop-callback.invariant)
