use Rattle.flt_sound.proofs.laws.accepted_journals_break_nothing.Goals as goal
use Rattle.flt_sound.proofs.run.Journals.{accepted_by_altitude, never_broken}

pub returns : goal.returns
returns c = record {
  ordered = accepted_by_altitude;
  verdicts = λ filters entries v n ok is. never_broken c.accepted_runs_break_nothing.ensures filters entries v n ok
      ((c.first_faults_are_told.ensures.broken filters entries v n).0 is);
}
