use Rattle.std.proofs.Common.{◌<◌, ◌∙◌, length, subst, sym}
use Rattle.std.specs.List.{AllZip}
use Rattle.flt_explain_ways.specs.Told.{IsAnswer}
use Rattle.flt_explain_ways.specs.Tracing.{IsShown}
use Rattle.flt_explain_ways.proofs.MoreShown.{next_one, next_within, split_all, split_first, split_last, split_more}
use Rattle.flt_explain_ways.proofs.tracing.trace_all.Goals as goal

pub loop-answer-init : goal.loop-answer-init
loop-answer-init c =
    split_first (IsAnswer c.args.graph.now) (IsShown c.args.graph.now) c.args.found.now c.in_ok-answers.answers c.new-all.result.items
    c.new-all.ensures.items c.in_ok-answers.ensures

pub finding_at-finding-requires : goal.finding_at-finding-requires
finding_at-finding-requires c =
    let next = split_last (IsAnswer c.args.graph.now) (IsShown c.args.graph.now) c.args.found.now c.pop.new.self c.loop-answer.answers
    c.in-Some.answer c.loop-answer.all.items c.in-Some.ensures c.loop-answer.invariant in
    let within = next_within (IsAnswer c.args.graph.now) (IsShown c.args.graph.now) c.args.found.now c.pop.new.self c.in-Some.answer
    c.loop-answer.all.items next in
    subst (λ n. n < length c.args.found.now) (sym c.len-number.ensures) within

pub shown_by-requires : goal.shown_by-requires
shown_by-requires c =
    let next = split_last (IsAnswer c.args.graph.now) (IsShown c.args.graph.now) c.args.found.now c.pop.new.self c.loop-answer.answers
    c.in-Some.answer c.loop-answer.all.items c.in-Some.ensures c.loop-answer.invariant in
    next_one (IsAnswer c.args.graph.now) (IsShown c.args.graph.now) c.args.found.now c.pop.new.self c.in-Some.answer c.loop-answer.all.items
    c.len-number.result c.finding_at-finding.result.now c.len-number.ensures c.finding_at-finding.ensures next

pub loop-answer-preserved : goal.loop-answer-preserved
loop-answer-preserved c =
    let next = split_last (IsAnswer c.args.graph.now) (IsShown c.args.graph.now) c.args.found.now c.pop.new.self c.loop-answer.answers
    c.in-Some.answer c.loop-answer.all.items c.in-Some.ensures c.loop-answer.invariant in
    split_more (IsAnswer c.args.graph.now) (IsShown c.args.graph.now) c.args.found.now c.pop.new.self
    c.in-Some.answer c.loop-answer.all.items
    c.push.new.self.items c.in_ok-shown_by.field-0 c.len-number.result c.finding_at-finding.result.now c.len-number.ensures
    c.finding_at-finding.ensures next c.in_ok-shown_by.ensures c.in_ok-push.ensures.items

pub returns : goal.returns
returns c =
    subst (AllZip (IsShown c.args.graph.now) c.args.found.now) (sym (c.from_vec.ensures ∙ c.reverse.ensures.items))
    (split_all (IsAnswer c.args.graph.now) (IsShown c.args.graph.now) c.args.found.now c.loop-answer.answers c.loop-answer.all.items
    c.in_default.ensures.0 c.loop-answer.invariant)
