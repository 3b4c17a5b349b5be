use Rattle.std.proofs.Common.{length, not, ◌||◌, subst, refl}
use Rattle.flt_machine.specs.Calls.{leaves_choice_at}
use Rattle.flt_machine.specs.Counted.{IsBounded}
use Rattle.flt_machine.specs.Situations.{Situation}
use Rattle.flt_machine_calls.specs.Plans.{PlansStep}
use Rattle.flt_machine.proofs.Going.{commits_to, goes_on, small_after, small_before, small_ever, takes_free}
use Rattle.flt_machine.proofs.board.Board.go_on.Goals as goal

pub standing_after-later-requires-clause-leads : goal.standing_after-later-requires-clause-leads
standing_after-later-requires-clause-leads c =
    goes_on c.args.loaded.now c.args.self.now c.args.advanced.now c.args.grant c.args.caller.now c.args.instruction
    c.standings_have_points.ensures.told c.requires.own c.requires.advance c.requires.fresh
    c.requires.caller c.requires.instruction c.in_ok-plan.plan
    (record {
      free = c.requires.free;
      planned = subst (λ (b : Situation). PlansStep c.args.loaded.now b.store c.args.caller.now c.args.grant c.in_ok-plan.plan)
          c.self.view_is c.in_ok-plan.ensures.planned;
      ends = c.in_ok-plan.ensures.ends;
      takes = c.in_ok-plan.ensures.takes;
      own = c.in_ok-plan.ensures.own;
    })

pub standing_after-later-requires-clause-free : goal.standing_after-later-requires-clause-free
standing_after-later-requires-clause-free c =
    takes_free c.args.loaded.now c.args.self.now c.args.advanced.now c.args.grant c.args.caller.now c.args.instruction
    c.standings_have_points.ensures.told c.requires.own c.requires.advance c.requires.fresh
    c.requires.caller c.requires.instruction c.in_ok-plan.plan
    (record {
      free = c.requires.free;
      planned = subst (λ (b : Situation). PlansStep c.args.loaded.now b.store c.args.caller.now c.args.grant c.in_ok-plan.plan)
          c.self.view_is c.in_ok-plan.ensures.planned;
      ends = c.in_ok-plan.ensures.ends;
      takes = c.in_ok-plan.ensures.takes;
      own = c.in_ok-plan.ensures.own;
    })

pub standing_after-later-requires-clause-small : goal.standing_after-later-requires-clause-small
standing_after-later-requires-clause-small c =
    small_ever c.args.loaded.now c.args.self.now c.args.advanced.now c.args.grant c.args.caller.now c.args.instruction
    c.standings_have_points.ensures.told c.requires.own c.requires.advance c.requires.fresh
    c.requires.caller c.requires.instruction (subst (λ (b : Situation). IsBounded b) c.self.view_is c.self.invariant.bounded)

pub put-requires-clause-small : goal.put-requires-clause-small
put-requires-clause-small c =
    small_after c.args.self.now c.write_down.new.self _ c.entry_of.result c.standing_after-later.result c.in_ok-write_down.ensures.ok
    (c.standing_after-later.ensures.small (length c.args.self.now.entries)
    (small_before c.args.loaded.now c.args.self.now c.args.advanced.now c.args.grant c.args.caller.now c.args.instruction
    c.standings_have_points.ensures.told c.requires.own c.requires.advance c.requires.fresh
    c.requires.caller c.requires.instruction (subst (λ (b : Situation). IsBounded b) c.self.view_is c.self.invariant.bounded)))

pub returns-clause-committed : goal.returns-clause-committed
returns-clause-committed c =
    commits_to c.args.loaded.now c.args.self.now c.args.advanced.now c.args.grant c.args.caller.now c.args.instruction
    c.standings_have_points.ensures.told c.requires.own c.requires.advance c.requires.fresh
    c.requires.caller c.requires.instruction c.in_ok-plan.plan
    (record {
      free = c.requires.free;
      planned = subst (λ (b : Situation). PlansStep c.args.loaded.now b.store c.args.caller.now c.args.grant c.in_ok-plan.plan)
          c.self.view_is c.in_ok-plan.ensures.planned;
      ends = c.in_ok-plan.ensures.ends;
      takes = c.in_ok-plan.ensures.takes;
      own = c.in_ok-plan.ensures.own;
    })
    c.standing_after-later.result (c.args.grant || not (leaves_choice_at c.args.instruction)) refl c.standing_after-later.ensures.later
    c.entry_of.result c.write_down.new.self c.put.new.self c.entry_of.ensures c.in_ok-write_down.ensures.ok c.put.ensures
