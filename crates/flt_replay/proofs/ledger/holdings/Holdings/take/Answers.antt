-- One context that is held is held once less; one that isn't held stays as it is.
use Rattle.std.proofs.Common.{◌≡◌, ◌+◌, ◌<◌, ℕ, subst, arith}
use Rattle.flt_model.specs.Trace.{one_if, of_actor}
use Rattle.flt_replay.specs.Holdings.{times_held}
use Rattle.flt_replay.specs.Rows.{Counted, count_of}
use Rattle.flt_replay.proofs.Counting.Totals.{less}
use Rattle.flt_replay.proofs.ledger.holdings.Holdings.take.Goals as goal

pub returns-then-count-eq0 : goal.returns-then-count-eq0
unfolding times_held
returns-then-count-eq0 c =
    subst (λ (was : Counted). 0 < count_of was c.args.context c.args.activation → (a x : ℕ) →
    count_of was x a ≡ count_of was x a + of_actor c.args.activation a (one_if c.args.context x)) c.self.view_is
    (λ some. absurd (omega (arith, some, c.count.ensures, c.if-count-eq0.true)))

pub invariant_of-self : goal.invariant_of-self
invariant_of-self c =
    let some : 0 < count_of c.self.inside.rows c.args.context c.args.activation = omega (arith, c.count.ensures, c.if-count-eq0.false) in
    less c.self.inside.rows c.take.new.self c.self.inside.totals c.take-2.new.self c.self.inside.known c.args.activation c.args.context
    c.self.invariant some (c.take.ensures some) c.take-2.ensures
