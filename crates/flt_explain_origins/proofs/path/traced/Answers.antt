use Rattle.std.proofs.Common.{sym, ◌∙◌}
use Rattle.flt_explain_origins.proofs.FollowedBack.{arrival_before, entry_origin, made_origin, nothing_traced, traced_back}
use Rattle.flt_explain_origins.proofs.path.traced.Goals as goal

pub returns-in_default-arrival : goal.returns-in_default-arrival
returns-in_default-arrival c = λ p h.
    entry_origin c.args.graph.now c.args.callback c.args.fact c.args.found.now c.requires p c.loop-one.number c.loop-one.later.items
    (c.loop-one.invariant p h) c.in-Some.one.now (sym c.in-Some.ensures.value) c.origin_back.result
    c.in_default-arrival.is c.origin_back.ensures

pub returns-then-is_made_by : goal.returns-then-is_made_by
returns-then-is_made_by c = λ p h.
    made_origin c.args.graph.now c.args.callback c.args.fact c.args.found.now c.requires p c.loop-one.number c.loop-one.later.items
    (c.loop-one.invariant p h) c.in-Some.one.now (sym c.in-Some.ensures.value) c.in-Some-arrival.from c.in-Some-arrival.step
    c.origin_back-then-is_made_by.result c.in-Some-arrival.is (sym c.is_made_by.ensures ∙ c.if-is_made_by.true)
    c.origin_back-then-is_made_by.ensures

pub loop-one-smaller : goal.loop-one-smaller
loop-one-smaller c =
    arrival_before c.args.graph.now c.args.callback c.args.fact c.args.found.now c.loop-one.number c.in-Some-arrival.from c.in-Some.one.now
    c.in-Some-arrival.step c.requires (sym c.in-Some.ensures.value) c.in-Some-arrival.is

pub loop-one-preserved : goal.loop-one-preserved
loop-one-preserved c = λ p h.
    traced_back c.args.graph.now c.args.callback c.args.fact c.args.found.now c.requires p c.loop-one.number c.loop-one.later.items
    (c.loop-one.invariant p h) c.in-Some.one.now (sym c.in-Some.ensures.value) c.in-Some-arrival.from c.in-Some-arrival.step
    c.push.new.self.items c.in-Some-arrival.is (sym c.is_made_by.ensures ∙ c.if-is_made_by.false) c.in_ok-push.ensures.items

pub returns : goal.returns
returns c = λ p h.
    nothing_traced c.args.graph.now c.args.callback c.args.fact c.args.found.now p c.loop-one.number
    c.loop-one.later.items c.origin_back-2.result (sym c.in_default.ensures.value) (c.loop-one.invariant p h)
