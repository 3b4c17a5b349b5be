use Rattle.flt_machine.proofs.Small.{counts_on, goes, has_room, written_small}
use Rattle.flt_machine.proofs.committing.standing_after.Goals as goal

pub continued-requires : goal.continued-requires
continued-requires c = record {
  room = has_room c.args.caller.now.standing c.args.plan.now.write c.requires.free c.requires.small.locks;
  gained = counts_on c.args.caller.now.standing.gained c.requires.small.gained;
  lost = counts_on c.args.caller.now.standing.lost c.requires.small.lost;
  few = c.requires.few;
}

pub returns-in_default : goal.returns-in_default
returns-in_default c =
    let on = goes c.args.plan.now.write c.in_default.not-End in record {
      later = λ cs a rest remains own.
          (on, (c.continued.ensures.written cs rest on (c.requires.leads on) remains, c.continued.ensures.counted a own));
      small = λ entries small. written_small entries c.args.plan.now.write c.args.caller.now.standing c.continued.result on c.requires.free
          (c.continued.ensures.variables on) c.continued.ensures.few_gained c.continued.ensures.few_lost small;
    }
