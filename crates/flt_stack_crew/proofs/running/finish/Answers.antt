use Rattle.std.proofs.Common.{◌≡◌, ◌+◌, ◌<◌, ◌∙◌, sum_by, subst, sym}
use Rattle.std.specs.Prelude.{IsPermutation}
use Rattle.flt_stack_core.specs.Receipts.{receipts_in}
use Rattle.flt_stack_crew.proofs.Endings.{alone, ends_apart, ends_full, ends_refused, ends_whole, sum_of_one}
use Rattle.flt_stack_crew.proofs.running.finish.Goals as goal

pub returns-in-Err-clause-ended : goal.returns-in-Err-clause-ended
returns-in-Err-clause-ended g c =
    let one = c.in_ok-callers.ensures in
    let seats = c.in_ok-callers.callers.items in
    let caller = c.args.followed.caller in
    λ commands followed.
    ends_apart commands c.in-Err.field-0.0 _ _ _ _ _ _ _ _ followed
    (c.in-Err.ensures.callers (sum_of_one seats caller one (λ seat. seat.receipts.share.parts) ∙ c.requires.caller)
    ∙ sum_of_one seats caller one (λ seat. seat.receipts.share.amount))
    (c.in-Err.ensures.others c.requires.workers)
    (λ same. c.in-Err.ensures.differ
    (subst (IsPermutation (receipts_in c.in-Err.field-0.0)) (sym (alone seats caller one (λ seat. seat.receipts.list.items))) same))

pub returns-then-is_full-clause-ended : goal.returns-then-is_full-clause-ended
returns-then-is_full-clause-ended g c =
    let one = c.in_ok-callers.ensures in
    let seats = c.in_ok-callers.callers.items in
    let caller = c.args.followed.caller in
    λ commands followed.
    ends_full commands c.in-Ok.journal _ _ _ _ _ _ _ _ followed
    (c.in-Ok.ensures.callers (sum_of_one seats caller one (λ seat. seat.receipts.share.parts) ∙ c.requires.caller)
    ∙ sum_of_one seats caller one (λ seat. seat.receipts.share.amount))
    (c.in-Ok.ensures.others c.requires.workers)
    (c.in-Ok.ensures.full (subst (λ n. 0 < n + sum_by (λ seat. seat.fulls.amount) c.args.followed.workers.items)
    (sym (sum_of_one seats caller one (λ seat. seat.fulls.amount))) (followed.full c.if-is_full.true)))
    (subst (IsPermutation (receipts_in c.in-Ok.journal)) (alone seats caller one (λ seat. seat.receipts.list.items)) c.in-Ok.ensures.agree)

pub returns-then-is_refused-clause-ended : goal.returns-then-is_refused-clause-ended
returns-then-is_refused-clause-ended g c =
    let one = c.in_ok-callers.ensures in
    let seats = c.in_ok-callers.callers.items in
    let caller = c.args.followed.caller in
    λ commands followed.
    ends_refused commands c.in-Ok.journal _ _ _ _ _ _ _ _ followed
    (c.in-Ok.ensures.callers (sum_of_one seats caller one (λ seat. seat.receipts.share.parts) ∙ c.requires.caller)
    ∙ sum_of_one seats caller one (λ seat. seat.receipts.share.amount))
    (c.in-Ok.ensures.others c.requires.workers)
    c.if-is_refused.true
    (subst (IsPermutation (receipts_in c.in-Ok.journal)) (alone seats caller one (λ seat. seat.receipts.list.items)) c.in-Ok.ensures.agree)

pub returns-clause-ended : goal.returns-clause-ended
returns-clause-ended g c =
    let one = c.in_ok-callers.ensures in
    let seats = c.in_ok-callers.callers.items in
    let caller = c.args.followed.caller in
    λ commands followed.
    ends_whole commands c.in-Ok.journal _ _ _ _ _ _ _ _ followed
    (c.in-Ok.ensures.callers (sum_of_one seats caller one (λ seat. seat.receipts.share.parts) ∙ c.requires.caller)
    ∙ sum_of_one seats caller one (λ seat. seat.receipts.share.amount))
    (c.in-Ok.ensures.others c.requires.workers)
    c.if-is_full.false c.if-is_refused.false c.is_countable.ensures
    (subst (IsPermutation (receipts_in c.in-Ok.journal)) (alone seats caller one (λ seat. seat.receipts.list.items)) c.in-Ok.ensures.agree)
