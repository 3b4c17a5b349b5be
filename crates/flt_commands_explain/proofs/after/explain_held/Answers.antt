use Rattle.flt_commands_explain.proofs.after.explain_held.Goals as goal

pub returns-clause-told : goal.returns-clause-told
returns-clause-told g c = record {
  own = c.in_ok-own.own;
  told = record {
    told = c.in_ok-own.ensures.told;
    noted = c.in_ok-own.ensures.noted;
    notes = c.in_ok-own.ensures.notes;
    print = c.in_ok-own.ensures.print;
  };
  after = rw (c.in_ok-first.ensures, c.drift_status-worth.ensures) at c.in_ok-told.ensures.after;
}
