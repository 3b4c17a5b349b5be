use Rattle.std.proofs.Common.{arith, sym, ◌∙◌, ◌≤◌, ◌-◌, subst}
use Rattle.flt_explain_origins.proofs.Searched.{all_followed, fewer_left, followed_more, nothing_left}
use Rattle.flt_explain_origins.proofs.path.reach.Goals as goal

pub returns-in_default-clause-none : goal.returns-in_default-clause-none
returns-in_default-clause-none c =
    λ e. nothing_left c.args.graph.now c.args.callback c.args.fact c.args.point c.loop-number.search
    c.loop-number.number c.loop-number.invariant (sym c.in_default.ensures.value)

pub returns-then-is_sought-clause-found : goal.returns-then-is_sought-clause-found
returns-then-is_sought-clause-found c = record {
  arrivals = c.loop-number.invariant.arrivals;
  one = c.in-Some.from.now;
  there = sym c.in-Some.ensures.value;
  sought = sym c.is_sought.ensures ∙ c.if-is_sought.true;
}

pub loop-number-smaller : goal.loop-number-smaller
loop-number-smaller c =
    let less = fewer_left c.args.graph.now c.args.callback c.args.fact c.loop-number.search c.loop-number.number c.in-Some.from.now
    c.go_on.new.search (sym c.in-Some.ensures.value) c.in_ok-go_on.ensures in
    omega (arith, less)

pub loop-number-preserved : goal.loop-number-preserved
loop-number-preserved c =
    followed_more c.args.graph.now c.args.callback c.args.fact c.args.point c.loop-number.search c.loop-number.number c.in-Some.from.now
    c.go_on.new.search c.loop-number.invariant (sym c.in-Some.ensures.value) (sym c.is_sought.ensures ∙ c.if-is_sought.false)
    c.in_ok-go_on.ensures

pub returns-clause-none : goal.returns-clause-none
returns-clause-none c =
    λ e. all_followed c.args.graph.now c.args.callback c.args.fact c.args.point c.loop-number.search
    c.loop-number.number c.loop-number.invariant (subst (λ n. n ≤ c.loop-number.number) c.len.ensures c.loop-number-test.false)
