use Rattle.std.proofs.Common.{[], ◌∷◌, ◌++◌, length, sym, ap, ◌∙◌}
use Rattle.flt_syntax.specs.Cursor.{Input}
use Rattle.flt_syntax.proofs.Cut.{init_step, feed_spaces_step, blank_step, less_by_spaces, comment_step, less_by_comment}
use Rattle.flt_syntax.proofs.Cut.{token_here, token_spaces_step, less_by_token, fault_step, end_step}
use Rattle.flt_syntax.proofs.lex.tokens.Goals as goal

pub loop-rest-init : goal.loop-rest-init
loop-rest-init c =
    init_step c.args.text.now c.reserve.new.self.items c.place-end.result (c.in_ok-reserve.ensures.items ∙ c.new-found.ensures.items)
    c.place-end.ensures

pub loop-rest-smaller-then-b-eq10 : goal.loop-rest-smaller-then-b-eq10
loop-rest-smaller-then-b-eq10 c =
    less_by_spaces c.loop-rest.rest.now c.after_spaces-rest.result.now c.in-len1-up.len_at_least c.after_spaces-rest.ensures

pub loop-rest-preserved-then-b-eq10 : goal.loop-rest-preserved-then-b-eq10
loop-rest-preserved-then-b-eq10 c =
    feed_spaces_step c.args.text.now c.loop-rest.found.items c.loop-rest.number c.loop-rest.from c.loop-rest.end
    c.place-end-then-b-eq10.result
    c.loop-rest.rest.now c.after_spaces-rest.result.now c.loop-rest.invariant c.in-len1-up.len_at_least c.if-b-eq10.true
    c.place-end-then-b-eq10.ensures c.after_spaces-rest.ensures

pub loop-rest-smaller-then-is_blank : goal.loop-rest-smaller-then-is_blank
loop-rest-smaller-then-is_blank c =
    less_by_spaces c.loop-rest.rest.now c.after_spaces-rest-then-is_blank.result.now c.in-len1-up.len_at_least
    c.after_spaces-rest-then-is_blank.ensures

pub loop-rest-preserved-then-is_blank : goal.loop-rest-preserved-then-is_blank
loop-rest-preserved-then-is_blank c =
    blank_step c.args.text.now c.loop-rest.found.items c.loop-rest.number c.loop-rest.from c.loop-rest.end
    c.loop-rest.rest.now c.after_spaces-rest-then-is_blank.result.now c.loop-rest.invariant c.in-len1-up.len_at_least c.if-b-eq10.false
    (sym c.is_blank.ensures ∙ c.if-is_blank.true) c.after_spaces-rest-then-is_blank.ensures

pub loop-rest-smaller-then-b-eq35 : goal.loop-rest-smaller-then-b-eq35
loop-rest-smaller-then-b-eq35 c =
    less_by_comment c.loop-rest.rest.now c.after_comment-rest.result.now c.in-len1-up.len_at_least c.after_comment-rest.ensures

pub loop-rest-preserved-then-b-eq35 : goal.loop-rest-preserved-then-b-eq35
loop-rest-preserved-then-b-eq35 c =
    comment_step c.args.text.now c.loop-rest.found.items c.loop-rest.number c.loop-rest.from c.loop-rest.end
    c.loop-rest.rest.now c.after_comment-rest.result.now c.loop-rest.invariant c.in-len1-up.len_at_least c.if-b-eq35.true
    c.after_comment-rest.ensures

pub returns-then-len-eq0 : goal.returns-then-len-eq0
returns-then-len-eq0 c =
    c.from_vec.ensures
    ∙ fault_step c.args.text.now c.loop-rest.found.items c.token-len.new.found.items c.loop-rest.number c.loop-rest.from c.loop-rest.end
    c.loop-rest.rest.now c.token-len.result c.loop-rest.invariant c.in-len1-up.len_at_least
    (sym c.is_blank.ensures ∙ c.if-is_blank.false) c.if-b-eq35.false
    (c.token-len.ensures.found
    ∙ ap (λ i. i ++ token_here c.args.text.now c.loop-rest.number c.loop-rest.from c.loop-rest.rest.now ∷ [])
    c.in_ok-reserve-2.ensures.items) c.token-len.ensures.step c.if-len-eq0.true c.token-len.ensures.within

pub loop-rest-smaller : goal.loop-rest-smaller
loop-rest-smaller c =
    less_by_token c.loop-rest.rest.now c.after_spaces-rest-in-len1-up.result.now c.token-len.result c.token-len.ensures.step
    c.if-len-eq0.false c.token-len.ensures.within c.after_spaces-rest-in-len1-up.ensures

pub loop-rest-preserved : goal.loop-rest-preserved
loop-rest-preserved c =
    token_spaces_step c.args.text.now c.loop-rest.found.items c.token-len.new.found.items c.loop-rest.number
    c.loop-rest.from c.loop-rest.end
    c.loop-rest.rest.now c.after_spaces-rest-in-len1-up.result.now c.token-len.result c.loop-rest.invariant c.in-len1-up.len_at_least
    (sym c.is_blank.ensures ∙ c.if-is_blank.false) c.if-b-eq35.false
    (c.token-len.ensures.found
    ∙ ap (λ i. i ++ token_here c.args.text.now c.loop-rest.number c.loop-rest.from c.loop-rest.rest.now ∷ [])
    c.in_ok-reserve-2.ensures.items)
    c.token-len.ensures.step c.if-len-eq0.false c.token-len.ensures.within c.after_spaces-rest-in-len1-up.ensures

pub returns : goal.returns
returns c =
    c.from_vec-2.ensures
    ∙ end_step c.args.text.now c.loop-rest.found.items c.push_reserved.new.self.items c.loop-rest.number c.loop-rest.from c.loop-rest.end
    c.end_of.result
    c.loop-rest.rest.now c.word.result c.loop-rest.invariant c.in_default.len_below c.word.ensures c.end_of.ensures
    (c.push_reserved.ensures.items
    ∙ ap (λ (i : Input). i ++
    record { word = c.word.result; position = c.end_of.result; start = length c.args.text.now; end = length c.args.text.now } ∷ [])
    c.in_ok-reserve-3.ensures.items)
