use Rattle.std.proofs.Common.{refl}
use Rattle.flt_explain_outcomes.proofs.Studied.{with_unread}
use Rattle.flt_explain_outcomes.specs.declared.readings.Reading.TheVariants.{Other}
use Rattle.flt_explain_outcomes.specs.declared.readings.StudiedText.{StudiedText}
use Rattle.flt_explain_outcomes.proofs.readings.Readings.add_other.Goals as goal

pub returns-clause-new : goal.returns-clause-new
returns-clause-new c =
    let s : StudiedText = record { source = c.args.source; reading = Other c.args.kind } in
    with_unread _ c.requires.old s _ _ c.requires.other.unread c.requires.other tt refl refl c.in_ok-push.ensures.items
