use Rattle.flt_commands_texts.proofs.format.file_outcome.Goals as goal

pub returns-clause-is : goal.returns-clause-is
returns-clause-is g c = record {
  comes = c.in_ok-outcome-2.ensures.comes c.args.input.now c.in_ok-outcome.ensures.comes;
  fits = c.in_ok-outcome-2.ensures.fits;
}
