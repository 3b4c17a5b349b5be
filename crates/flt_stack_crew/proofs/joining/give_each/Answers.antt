use Rattle.std.proofs.Common.{rules, ◌≡◌, ◌∙◌, length, ap, refl, sym}
use Rattle.flt_stack_crew.proofs.Commands.{given_still, made_more, made_none, stops_here}
use Rattle.flt_stack_crew.proofs.joining.give_each.Goals as goal

pub loop-command-init : goal.loop-command-init
loop-command-init g c = record {
  seat = c.requires.seat;
  given = made_none c.commands-commands.result.now _ _ c.requires.fresh.0 c.requires.fresh.1;
  counted = c.requires.share ∙ sym (ap length c.requires.fresh.0);
  parts = refl;
}

pub returns-in_err-made-clause-given : goal.returns-in_err-made-clause-given
returns-in_err-made-clause-given g c =
    given_still c.args.script.now c.commands-commands.result.now c.loop-command.command-index _ _ _ _ c.commands-commands.ensures.value
    c.loop-command.invariant.given c.in_err-made.ensures.refused.0 (ap (λ v. v.asked) c.in_err-made.ensures.refused.1)

pub returns-in_err-made-clause-refused : goal.returns-in_err-made-clause-refused
returns-in_err-made-clause-refused g c = λ is.
    stops_here c.args.script.now c.commands-commands.result.now c.loop-command.command-index _ _ _ _ _ c.commands-commands.ensures.value
    c.loop-command-test.true (c.in_err-made.ensures.already (search rules)) c.loop-command.invariant.given
    c.in_err-made.ensures.refused.0 (ap (λ v. v.asked) c.in_err-made.ensures.refused.1)

pub loop-command-preserved : goal.loop-command-preserved
loop-command-preserved g c = record {
  seat = c.in_ok-made.ensures.seat;
  given = made_more c.commands-commands.result.now c.loop-command.command-index _ _ _ _ _ c.loop-command-test.true
      c.loop-command.invariant.given c.in_ok-made.ensures.made c.in_ok-made.ensures.asked;
  counted = c.in_ok-made.ensures.counted;
  parts = c.in_ok-made.ensures.parts ∙ c.loop-command.invariant.parts;
}
