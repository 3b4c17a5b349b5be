-- One context more is held, or none where memory is refused.
use Rattle.std.proofs.Common.{rules, ◌≡◌, ◌+◌, ℕ, subst}
use Rattle.flt_model.specs.Trace.{one_if, of_actor}
use Rattle.flt_replay.specs.Holdings.{times_held}
use Rattle.flt_replay.specs.Rows.{Counted}
use Rattle.flt_replay.proofs.Counting.Totals.{times_more, more, given_back}
use Rattle.flt_replay.proofs.ledger.holdings.Holdings.add.Goals as goal

pub invariant_of-self-in-Err : goal.invariant_of-self-in-Err
invariant_of-self-in-Err c =
    given_back c.self.inside.rows c.add-2.new.self c.self.inside.totals c.add.new.self c.take.new.self c.self.inside.known c.args.activation
    c.self.invariant c.in-Err.ensures.err c.in_ok-add.ensures.ok c.take.ensures

pub invariant_of-self-then-self-context : goal.invariant_of-self-then-self-context
invariant_of-self-then-self-context c =
    more c.self.inside.rows c.add-2.new.self c.self.inside.totals c.add.new.self c.self.inside.known c.in-Some.known c.args.activation
    c.args.context c.self.invariant (search rules) (search rules) c.in_default-add.ensures.ok c.in_ok-add.ensures.ok

pub invariant_of-self-else-self-context : goal.invariant_of-self-else-self-context
invariant_of-self-else-self-context c =
    more c.self.inside.rows c.add-2.new.self c.self.inside.totals c.add.new.self c.self.inside.known c.self.inside.known c.args.activation
    c.args.context c.self.invariant (search rules) (search rules) c.in_default-add.ensures.ok c.in_ok-add.ensures.ok

pub returns-then-self-context : goal.returns-then-self-context
returns-then-self-context c =
    subst (λ (was : Counted). (a x : ℕ) → times_held c.add-2.new.self a x ≡ times_held was a x + of_actor c.args.activation a
    (one_if c.args.context x)) c.self.view_is
    (times_more c.self.inside.rows c.add-2.new.self c.args.activation c.args.context c.in_default-add.ensures.ok)

pub returns-else-self-context : goal.returns-else-self-context
returns-else-self-context c =
    subst (λ (was : Counted). (a x : ℕ) → times_held c.add-2.new.self a x ≡ times_held was a x + of_actor c.args.activation a
    (one_if c.args.context x)) c.self.view_is
    (times_more c.self.inside.rows c.add-2.new.self c.args.activation c.args.context c.in_default-add.ensures.ok)
