use Rattle.flt_cert.proofs.fields.+locks_from.Given as goal

abbrev pub decreases-locks_from : goal.decreases-locks_from
decreases-locks_from l = l.left
