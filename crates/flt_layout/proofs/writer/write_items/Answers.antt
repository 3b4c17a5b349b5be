use Rattle.std.proofs.Common.{◌-◌, length, take, drop, sym, ap, ◌∙◌}
use Rattle.flt_layout.proofs.Steps.{begun_by, comment_by, gap_by, token_by, smaller_by}
use Rattle.flt_layout.proofs.writer.write_items.Goals as goal

pub loop-rest-init : goal.loop-rest-init
loop-rest-init c = begun_by c.args.text.now c.new-out.result.items c.args.tokens.now c.new-out.ensures.items c.requires.tokens

pub loop-rest-smaller-then-b-eq35 : goal.loop-rest-smaller-then-b-eq35
loop-rest-smaller-then-b-eq35 c =
    smaller_by c.loop-rest.rest.now c.after_comment-rest.result.now c.in-len1-up.len_at_least c.after_comment-rest.ensures

pub loop-rest-preserved-then-b-eq35 : goal.loop-rest-preserved-then-b-eq35
loop-rest-preserved-then-b-eq35 c =
    comment_by c.args.text.now c.loop-rest.out.items c.gap.new.out.items c.extend_from_slice.new.self.items c.loop-rest.state
    c.past_comment-state.result c.loop-rest.space
    c.loop-rest.rest.now c.comment.result.now c.after_comment-rest.result.now c.loop-rest.left.now c.loop-rest.invariant
    c.in-len1-up.len_at_least c.if-b-eq35.true
    c.in_ok-gap.ensures c.comment.ensures c.in_ok-extend_from_slice.ensures.items c.past_comment-state.ensures c.after_comment-rest.ensures

pub loop-rest-preserved : goal.loop-rest-preserved
loop-rest-preserved c =
    let kd = c.next_token-kind.result.0 in
    token_by c.args.text.now c.loop-rest.out.items c.gap-in-len1-up.new.out.items c.extend_from_slice-in-len1-up.new.self.items
    c.loop-rest.state c.past_token-state.result c.loop-rest.space c.loop-rest.rest.now c.front.result.now c.after_front-rest.result.now
    c.loop-rest.left.now c.after_token-left.result.now kd c.next_token-kind.result.1 c.loop-rest.invariant c.in-len1-up.len_at_least
    c.if-b-eq35.false (sym c.is_blank.ensures ∙ c.if-is_blank.false) c.next_token-kind.ensures.kind c.next_token-kind.ensures.len
    (sym c.is_fault.ensures ∙ c.if-is_fault.false)
    (gap_by c.loop-rest.out.items c.gap-in-len1-up.new.out.items c.loop-rest.state c.loop-rest.space c.placed.result kd c.depth.result
    c.in_ok-gap-2.ensures c.placed.ensures c.depth.ensures)
    c.front.ensures c.in_ok-extend_from_slice-2.ensures.items c.past_token-state.ensures
    (c.after_front-rest.ensures
    ∙ ap (λ n. drop n (take (length c.loop-rest.rest.now - 1) (drop 1 c.loop-rest.rest.now))) c.saturating_sub.ensures)
    c.after_token-left.ensures
