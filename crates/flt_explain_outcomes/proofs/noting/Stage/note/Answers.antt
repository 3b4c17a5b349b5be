use Rattle.flt_explain_outcomes.proofs.Runs.{get_within}
use Rattle.flt_explain_outcomes.proofs.noting.Stage.note.Goals as goal

pub finding_at-finding-requires : goal.finding_at-finding-requires
finding_at-finding-requires c =
    record { within = get_within c.args.known.found.now c.args.reported.number c.requires.outcome.finding c.requires.outcome.numbered }
