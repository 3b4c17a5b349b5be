use Rattle.std.proofs.Common.{refl, sym, ◌∙◌}
use Rattle.flt_explain_outcomes.proofs.Studied.{get_last, with_known}
use Rattle.flt_explain_outcomes.specs.declared.readings.Reading.TheVariants.{Known}
use Rattle.flt_explain_outcomes.specs.declared.readings.StudiedText.{StudiedText}
use Rattle.flt_explain_outcomes.proofs.readings.Readings.add_known.Goals as goal

pub returns-clause-new : goal.returns-clause-new
returns-clause-new c =
    let s : StudiedText = record { source = c.args.source; reading = Known c.len.result } in
    with_known _ c.requires.old s _ c.args.tree c.requires.spelled
    (record { tree = c.args.tree; own = rw c.len.ensures (get_last c.args.self.now.trees c.args.tree); spelled = c.requires.spelled })
    (c.len.ensures ∙ sym c.requires.old.many) refl c.in_ok-push.ensures.ok c.in_ok-push-2.ensures.items
