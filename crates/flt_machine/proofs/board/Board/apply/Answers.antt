-- There is a decision exactly where the move is enabled; and what is made of it is the move.
use Rattle.std.proofs.Common.{rules, ◌≡◌, Err, Some, None, refl}
use Rattle.flt_machine.specs.declared.fault.ApplyFault.TheVariants as fault
use Rattle.flt_machine.proofs.Decided.{decided_now, disabled_now, not_disabled, makes_now, own_now}
use Rattle.flt_machine.proofs.Given.{moved_next}
use Rattle.flt_machine.proofs.board.Board.apply.Goals as goal

pub returns-in_default-clause-full : goal.returns-in_default-clause-full
returns-in_default-clause-full c =
    let decides =
    decided_now c.args.loaded.now _ c.args.self.now c.args.step c.is_active_for-active.result None c.self.view_is
    c.is_active_for-active.ensures c.in_default.ensures.decided in
    (λ same. absurd (cc), λ both. absurd (both.0 (disabled_now c.args.loaded.now c.args.self.now c.args.step decides)))

pub returns-then-is_full_for-clause-disabled : goal.returns-then-is_full_for-clause-disabled
returns-then-is_full_for-clause-disabled c =
    let decides =
    decided_now c.args.loaded.now _ c.args.self.now c.args.step c.is_active_for-active.result
    (Some c.in-Some.decision) c.self.view_is c.is_active_for-active.ensures
    c.in-Some.ensures.decided in (
      λ same. absurd (cc),
      λ disabled. absurd (not_disabled c.args.loaded.now c.args.self.now c.args.step c.in-Some.decision c.requires.own decides disabled),
    )

pub returns-then-is_full_for-clause-full : goal.returns-then-is_full_for-clause-full
returns-then-is_full_for-clause-full c =
    let decides =
    decided_now c.args.loaded.now _ c.args.self.now c.args.step c.is_active_for-active.result
    (Some c.in-Some.decision) c.self.view_is c.is_active_for-active.ensures
    c.in-Some.ensures.decided in (
      λ _. (
        not_disabled c.args.loaded.now c.args.self.now c.args.step c.in-Some.decision c.requires.own decides,
        c.is_full_for.ensures.0 c.if-is_full_for.true,
      ),
      λ _. refl,
    )

pub returns-in_err-events-clause-disabled : goal.returns-in_err-events-clause-disabled
returns-in_err-events-clause-disabled c =
    let decides =
    decided_now c.args.loaded.now _ c.args.self.now c.args.step c.is_active_for-active.result
    (Some c.in-Some.decision) c.self.view_is c.is_active_for-active.ensures
    c.in-Some.ensures.decided in
    let fails : c.from_residual.result ≡ Err fault.OutOfMemory = search rules in (
      λ same. absurd (cc),
      λ disabled. absurd (not_disabled c.args.loaded.now c.args.self.now c.args.step c.in-Some.decision c.requires.own decides disabled),
    )

pub returns-clause-own : goal.returns-clause-own
returns-clause-own c =
    let decides =
    decided_now c.args.loaded.now _ c.args.self.now c.args.step c.is_active_for-active.result
    (Some c.in-Some.decision) c.self.view_is c.is_active_for-active.ensures
    c.in-Some.ensures.decided in
    own_now c.args.loaded.now c.args.self.now _ c.args.step c.in-Some.decision decides c.in_ok-events.ensures.made

pub returns-clause-made : goal.returns-clause-made
returns-clause-made c =
    let decides =
    decided_now c.args.loaded.now _ c.args.self.now c.args.step c.is_active_for-active.result
    (Some c.in-Some.decision) c.self.view_is c.is_active_for-active.ensures
    c.in-Some.ensures.decided in
    makes_now c.args.loaded.now c.args.self.now _ c.args.step c.in-Some.decision decides c.in_ok-events.ensures.made
    c.in_ok-events.events.list c.in_ok-events.ensures.events

pub returns-clause-disabled : goal.returns-clause-disabled
returns-clause-disabled c =
    let decides =
    decided_now c.args.loaded.now _ c.args.self.now c.args.step c.is_active_for-active.result
    (Some c.in-Some.decision) c.self.view_is c.is_active_for-active.ensures
    c.in-Some.ensures.decided in (
      λ same. absurd (cc),
      λ disabled. absurd (not_disabled c.args.loaded.now c.args.self.now c.args.step c.in-Some.decision c.requires.own decides disabled),
    )

pub returns-clause-next : goal.returns-clause-next
returns-clause-next c =
    moved_next c.args.loaded.now.altitudes c.args.self.now _ c.args.step c.in-Some.decision c.in_ok-events.events.next.items
    c.in_ok-events.ensures.made c.in_ok-events.ensures.next
