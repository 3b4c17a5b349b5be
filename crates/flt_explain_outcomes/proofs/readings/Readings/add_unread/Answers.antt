use Rattle.std.proofs.Common.{refl}
use Rattle.flt_explain_outcomes.proofs.Studied.{with_unread}
use Rattle.flt_explain_outcomes.specs.declared.readings.Reading.TheVariants.{Unread}
use Rattle.flt_explain_outcomes.specs.declared.readings.StudiedText.{StudiedText}
use Rattle.flt_explain_outcomes.proofs.readings.Readings.add_unread.Goals as goal

pub returns-clause-new : goal.returns-clause-new
returns-clause-new c =
    let s : StudiedText = record { source = c.args.source; reading = Unread c.args.fault } in
    with_unread _ c.requires.old s _ _ c.requires.fault.fault c.requires.fault tt refl refl c.in_ok-push.ensures.items
