use Rattle.std.proofs.Common.{◌≡◌, ℕ, ◌∙◌, ap, false, [], replicate, arith}
use Rattle.flt_cbdq.specs.Kept.{entries_of}
use Rattle.flt_cbdq.proofs.Entries.{entries_none}
use Rattle.flt_cbdq.proofs.Noted.{empty_kept}
use Rattle.flt_cbdq.proofs.queues.Queues.new.Goals as goal

pub invariant_of-result : goal.invariant_of-result
invariant_of-result c = empty_kept c.loop.queues.items c.new-2.result.items c.loop.lists c.loop.counter c.loop.invariant.count
    c.loop.invariant.lists c.loop.invariant.unnoted

pub returns-clause-empty : goal.returns-clause-empty
returns-clause-empty c =
    let all : c.loop.counter ≡ c.args.filters = omega arith in
    λ i. record {
      queues = (ap (entries_of c.new-2.result.items) c.loop.invariant.lists ∙ entries_none c.new-2.result.items c.loop.counter
          ∙ ap (λ (n : ℕ). replicate n []) all) i;
      disabled = (c.loop.invariant.enabled ∙ ap (λ (n : ℕ). replicate n false) all) i;
    }
