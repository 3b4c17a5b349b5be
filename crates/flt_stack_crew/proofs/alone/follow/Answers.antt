use Rattle.std.proofs.Common.{rules, ◌≡◌, ◌≤◌, ◌∙◌, length, ap, refl, sym, arith}
use Rattle.flt_stack_crew.proofs.Sums.{sum_more}
use Rattle.flt_stack_crew.proofs.Commands.{given_so_far, given_still, made_more, made_none, stops_here}
use Rattle.flt_stack_crew.proofs.alone.follow.Goals as goal

pub loop-command-init : goal.loop-command-init
loop-command-init g c = record {
  caller = c.requires.caller;
  worker = c.requires.worker;
  given = made_none c.commands-commands.result.now _ _ c.requires.fresh.0 c.requires.fresh.1;
  callers = c.requires.shares.0 ∙ sym (ap length c.requires.fresh.0);
  others = (omega (arith, c.requires.made), λ _. c.requires.made ∙ sym c.requires.shares.1);
  callers_parts = refl;
  others_parts = refl;
}

pub returns-in_err-given-clause-given : goal.returns-in_err-given-clause-given
returns-in_err-given-clause-given g c =
    given_still c.args.script.now c.commands-commands.result.now c.loop-command.command-index _ _ _ _ c.commands-commands.ensures.value
    c.loop-command.invariant.given c.in_err-given.ensures.refused.0 (ap (λ v. v.asked) c.in_err-given.ensures.refused.1)

pub returns-in_err-given-clause-refused : goal.returns-in_err-given-clause-refused
returns-in_err-given-clause-refused g c = λ is.
    stops_here c.args.script.now c.commands-commands.result.now c.loop-command.command-index _ _ _ _ _ c.commands-commands.ensures.value
    c.loop-command-test.true (c.in_err-given.ensures.already (search rules)) c.loop-command.invariant.given
    c.in_err-given.ensures.refused.0 (ap (λ v. v.asked) c.in_err-given.ensures.refused.1)

pub returns-in_err-more-clause-given : goal.returns-in_err-more-clause-given
returns-in_err-more-clause-given g c =
    let commands = c.commands-commands.result.now in
    given_so_far c.args.script.now commands _ _ _ c.commands-commands.ensures.value
    (made_more commands c.loop-command.command-index _ _ _ _ _ c.loop-command-test.true c.loop-command.invariant.given
    c.in_ok-given.ensures.made c.in_ok-given.ensures.asked)

pub loop-command-preserved : goal.loop-command-preserved
loop-command-preserved g c = record {
  caller = c.in_ok-given.ensures.seat;
  worker = c.in_ok-more.ensures.worked.seat;
  given = made_more c.commands-commands.result.now c.loop-command.command-index _ _ _ _ _ c.loop-command-test.true
      c.loop-command.invariant.given c.in_ok-given.ensures.made c.in_ok-given.ensures.asked;
  callers = c.in_ok-given.ensures.counted;
  others = sum_more _ _ _ _ _ c.loop-command.invariant.others c.saturating_add.ensures c.in_ok-more.ensures.worked.share;
  callers_parts = c.in_ok-given.ensures.parts ∙ c.loop-command.invariant.callers_parts;
  others_parts = c.in_ok-more.ensures.worked.parts ∙ c.loop-command.invariant.others_parts;
}
