use Rattle.std.proofs.Common.{◌+◌, true, false, length, ap, sym, subst, ◌∙◌, arith}
use Rattle.flt_stack_core.specs.Guarded.{Guarded}
use Rattle.flt_stack_core.specs.Turning.{HasCommitted}
use Rattle.flt_stack_core.proofs.Counted.{counted_step}
use Rattle.flt_stack_core.proofs.Filled.{commit_full}
use Rattle.flt_stack_core.proofs.Outcomes.{stale_is, waits_is, went_is}
use Rattle.flt_stack_core.proofs.board.Core.go_on.Goals as goal

pub invariant_of-self : goal.invariant_of-self
invariant_of-self g c =
    let trees = g.N.StackName.trees in
    let counted = counted_step trees c.args.loaded.now c.self.inside.board c.commit.new.self c.args.advanced.now c.next-grant.result
    c.in-Committed.events.list c.requires.loaded c.self.invariant.0
    (c.commit.ensures.committed c.in-Committed.events c.in-Committed.is) in (
      c.commit.ensures.own trees c.requires.loaded c.self.invariant.0,
      c.self.invariant.1 ∙ sym counted.0,
      omega (arith, c.add.ensures.total, c.self.invariant.2, counted.1),
      λ some. commit_full trees c.args.loaded.now c.self.inside.board c.commit.new.self c.args.advanced.now c.next-grant.result
          c.in-Committed.events.list c.commit.result c.in-Committed.events _ _ c.in-Committed.is c.commit.ensures.stale
          c.commit.ensures.blocked c.commit.ensures.full c.requires.loaded c.self.invariant.0
          (c.commit.ensures.committed c.in-Committed.events c.in-Committed.is) (c.self.invariant.3 some),
    )

pub returns-in-Committed-clause-gone : goal.returns-in-Committed-clause-gone
returns-in-Committed-clause-gone g c =
    subst (λ (v : Guarded). HasCommitted c.args.loaded.now v.board c.commit.new.self v.choices c.count.new.self c.args.advanced.now true
    false c.in-Committed.events.next.items) c.self.view_is
    (went_is c.args.loaded.now c.self.inside.board c.self.inside.choices c.args.advanced.now c.next-grant.result c.commit.new.self
    c.count.new.self c.in-Committed.events.list c.in-Committed.events.next.items c.next-grant.ensures
    (c.commit.ensures.committed c.in-Committed.events c.in-Committed.is) c.count.ensures
    (c.commit.ensures.next c.in-Committed.events c.in-Committed.is))

pub returns-in-Committed-clause-entries : goal.returns-in-Committed-clause-entries
returns-in-Committed-clause-entries g c =
    (counted_step g.N.StackName.trees c.args.loaded.now c.self.inside.board c.commit.new.self c.args.advanced.now c.next-grant.result
    c.in-Committed.events.list c.requires.loaded c.self.invariant.0
    (c.commit.ensures.committed c.in-Committed.events c.in-Committed.is)).2
    ∙ ap (λ (v : Guarded). length v.board.entries + 1) c.self.view_is

pub returns-in-Stale-clause-gone : goal.returns-in-Stale-clause-gone
returns-in-Stale-clause-gone g c =
    subst (λ (v : Guarded). HasCommitted c.args.loaded.now v.board c.commit.new.self v.choices c.self.inside.choices c.args.advanced.now
    c.unmade.result.made c.unmade.result.stays c.unmade.result.next.items) c.self.view_is
    (stale_is c.args.loaded.now c.self.inside.board c.self.inside.choices c.args.advanced.now c.unmade.result.stays c.unmade.result.made
    c.commit.new.self c.unmade.result.next.items (c.commit.ensures.stale.0 c.in-Stale.is)
    (c.commit.ensures.refused (λ events same. absurd (cc))) c.unmade.ensures.stays c.unmade.ensures.made c.unmade.ensures.next)

pub returns-in-Blocked-clause-gone : goal.returns-in-Blocked-clause-gone
returns-in-Blocked-clause-gone g c =
    let blocked = c.commit.ensures.blocked.0 c.in-Blocked.is in
    subst (λ (v : Guarded). HasCommitted c.args.loaded.now v.board c.commit.new.self v.choices c.self.inside.choices c.args.advanced.now
    c.unmade-in-Blocked.result.made c.unmade-in-Blocked.result.stays c.unmade-in-Blocked.result.next.items) c.self.view_is
    (waits_is c.args.loaded.now c.self.inside.board c.self.inside.choices c.args.advanced.now c.unmade-in-Blocked.result.stays
    c.unmade-in-Blocked.result.made c.next-grant.result c.commit.new.self c.unmade-in-Blocked.result.next.items c.next-grant.ensures
    blocked.0 blocked.1 (c.commit.ensures.refused (λ events same. absurd (cc))) c.unmade-in-Blocked.ensures.stays
    c.unmade-in-Blocked.ensures.made c.unmade-in-Blocked.ensures.next)
