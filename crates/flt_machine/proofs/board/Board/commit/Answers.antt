use Rattle.std.proofs.Common.{refl}
use Rattle.flt_machine.proofs.Going.{all_entries, is_blocked_so, not_blocked}
use Rattle.flt_machine.proofs.Stepped.{commits_own}
use Rattle.flt_machine.proofs.board.Board.commit.Goals as goal

pub returns-then-is_blocked-clause-blocked : goal.returns-then-is_blocked-clause-blocked
returns-then-is_blocked-clause-blocked c = (
  λ same. (
    (c.is_fresh.ensures.0 c.if-not-is_fresh.false),
    (is_blocked_so c.args.loaded.now c.args.self.now c.args.advanced.now c.args.grant c.caller-caller.result
        c.instruction-instruction.result c.standings_have_points.ensures.told c.requires.own c.requires.advance
        (c.is_fresh.ensures.0 c.if-not-is_fresh.false) c.caller-caller.ensures c.instruction-instruction.ensures c.if-is_blocked.ensures),
  ),
  λ h. refl,
)

pub returns-then-is_blocked-clause-full : goal.returns-then-is_blocked-clause-full
returns-then-is_blocked-clause-full c = (
  λ same. absurd (cc),
  λ h. absurd (h.1.0
      (is_blocked_so c.args.loaded.now c.args.self.now c.args.advanced.now c.args.grant c.caller-caller.result
      c.instruction-instruction.result c.standings_have_points.ensures.told c.requires.own c.requires.advance
      (c.is_fresh.ensures.0 c.if-not-is_fresh.false) c.caller-caller.ensures c.instruction-instruction.ensures c.if-is_blocked.ensures)),
)

pub returns-then-len-ge-MAX_ENTRIES-clause-blocked : goal.returns-then-len-ge-MAX_ENTRIES-clause-blocked
returns-then-len-ge-MAX_ENTRIES-clause-blocked c = (
  λ same. absurd (cc),
  λ h. absurd
      (not_blocked c.args.loaded.now c.args.self.now c.args.advanced.now c.args.grant c.caller-caller.result
      c.instruction-instruction.result c.standings_have_points.ensures.told c.requires.own c.requires.advance
      (c.is_fresh.ensures.0 c.if-not-is_fresh.false) c.caller-caller.ensures c.instruction-instruction.ensures c.if-is_blocked.ensures h.1),
)

pub returns-then-len-ge-MAX_ENTRIES-clause-full : goal.returns-then-len-ge-MAX_ENTRIES-clause-full
returns-then-len-ge-MAX_ENTRIES-clause-full c = (
  λ same. (
    (c.is_fresh.ensures.0 c.if-not-is_fresh.false),
    (
      (not_blocked c.args.loaded.now c.args.self.now c.args.advanced.now c.args.grant c.caller-caller.result
          c.instruction-instruction.result c.standings_have_points.ensures.told c.requires.own c.requires.advance
          (c.is_fresh.ensures.0 c.if-not-is_fresh.false) c.caller-caller.ensures c.instruction-instruction.ensures c.if-is_blocked.ensures),
      all_entries c.args.self.now _ c.len.result c.self.view_is c.self.invariant.bounded c.len.ensures c.if-len-ge-MAX_ENTRIES.true,
    ),
  ),
  λ h. refl,
)

pub returns-in-Ok-clause-own : goal.returns-in-Ok-clause-own
returns-in-Ok-clause-own c =
    λ p loaded own. commits_own p c.args.self.now c.go_on.new.self c.args.advanced.now c.args.grant c.in-Ok.events.list own
    (c.in-Ok.ensures.committed p loaded own.moment own.at)

pub returns-in-Ok-clause-blocked : goal.returns-in-Ok-clause-blocked
returns-in-Ok-clause-blocked c = (
  λ same. absurd (cc),
  λ h. absurd
      (not_blocked c.args.loaded.now c.args.self.now c.args.advanced.now c.args.grant c.caller-caller.result
      c.instruction-instruction.result c.standings_have_points.ensures.told c.requires.own c.requires.advance
      (c.is_fresh.ensures.0 c.if-not-is_fresh.false) c.caller-caller.ensures c.instruction-instruction.ensures c.if-is_blocked.ensures h.1),
)

pub returns-in-Ok-clause-refused : goal.returns-in-Ok-clause-refused
returns-in-Ok-clause-refused c =
    λ differs. absurd (differs c.in-Ok.events refl)

pub returns-in-Err-clause-blocked : goal.returns-in-Err-clause-blocked
returns-in-Err-clause-blocked c = (
  λ same. absurd (cc),
  λ h. absurd
      (not_blocked c.args.loaded.now c.args.self.now c.args.advanced.now c.args.grant c.caller-caller.result
      c.instruction-instruction.result c.standings_have_points.ensures.told c.requires.own c.requires.advance
      (c.is_fresh.ensures.0 c.if-not-is_fresh.false) c.caller-caller.ensures c.instruction-instruction.ensures c.if-is_blocked.ensures h.1),
)
