use Rattle.std.proofs.Common.{◌≡◌, Some, ap, sym, ◌∙◌, option_map}
use Rattle.flt_machine.specs.Situations.{frame_of, standing_of}
use Rattle.flt_stack_core.proofs.Gone.{commit_goes_on, has_ended, has_gone, has_waited, is_fresh}
use Rattle.flt_stack_core.proofs.one.go_on.Goals as goal

pub returns-in_default-clause-gone : goal.returns-in_default-clause-gone
returns-in_default-clause-gone c =
    has_ended c.args.loaded.now c.args.board.now c.args.choices.now c.args.activation c.alone.result.stays
    c.alone.result.next.items (sym c.checkout.ensures.frame ∙ c.in_default.is) c.alone.ensures.stays c.alone.ensures.next

pub returns-in-Committed-clause-gone : goal.returns-in-Committed-clause-gone
returns-in-Committed-clause-gone c =
    let b = c.args.board.now in
    let taken : option_map (frame_of b c.args.activation) (standing_of b c.args.activation) ≡ Some c.advance-advanced.result.frame =
    sym c.checkout.ensures.frame ∙ c.in-Some.is ∙ ap Some (sym c.advance-advanced.ensures.frame) in
    has_gone c.args.loaded.now b c.commit.new.self c.args.choices.now c.count.new.self c.args.activation
    c.advance-advanced.result c.next.result c.in-Committed.events.list c.in-Committed.events.next.items
    (record { taken = taken; advances = record { few = c.advance-advanced.ensures.few; advance = c.advance-advanced.ensures.advance } })
    c.next.ensures (c.commit.ensures.committed c.in-Committed.events c.in-Committed.is) c.count.ensures
    (c.commit.ensures.next c.in-Committed.events c.in-Committed.is)

pub returns-in-Stale-clause-gone : goal.returns-in-Stale-clause-gone
returns-in-Stale-clause-gone c =
    let b = c.args.board.now in
    let taken : option_map (frame_of b c.args.activation) (standing_of b c.args.activation) ≡ Some c.advance-advanced.result.frame =
    sym c.checkout.ensures.frame ∙ c.in-Some.is ∙ ap Some (sym c.advance-advanced.ensures.frame) in
    absurd (c.commit.ensures.stale.0 c.in-Stale.is (is_fresh b c.args.activation c.advance-advanced.result taken))

pub returns-in-Blocked-clause-gone : goal.returns-in-Blocked-clause-gone
returns-in-Blocked-clause-gone c =
    let b = c.args.board.now in
    let taken : option_map (frame_of b c.args.activation) (standing_of b c.args.activation) ≡ Some c.advance-advanced.result.frame =
    sym c.checkout.ensures.frame ∙ c.in-Some.is ∙ ap Some (sym c.advance-advanced.ensures.frame) in
    let blocked = c.in-Blocked.is in
    has_waited c.args.loaded.now b c.commit.new.self c.args.choices.now c.args.activation c.advance-advanced.result c.next.result
    c.alone-in-Blocked.result.stays c.alone-in-Blocked.result.next.items
    (record { taken = taken; advances = record { few = c.advance-advanced.ensures.few; advance = c.advance-advanced.ensures.advance } })
    c.next.ensures (c.commit.ensures.blocked.0 blocked).1 (c.commit.ensures.refused (λ events same. absurd (cc)))
    c.alone-in-Blocked.ensures.stays c.alone-in-Blocked.ensures.next

pub returns-in-Committed-clause-entries : goal.returns-in-Committed-clause-entries
returns-in-Committed-clause-entries c =
    commit_goes_on c.args.loaded.now c.args.board.now c.commit.new.self c.advance-advanced.result c.next.result c.in-Committed.events.list
    c.requires.own
    (c.commit.ensures.committed c.in-Committed.events c.in-Committed.is)
