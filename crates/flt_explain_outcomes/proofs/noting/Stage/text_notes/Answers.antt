use Rattle.std.proofs.lemmas.List.{reverse-reverse}
use Rattle.flt_explain_outcomes.proofs.Notes.{setting_for}
use Rattle.flt_explain_outcomes.proofs.noting.Stage.text_notes.Goals as goal

pub each_note-requires-clause-outcomes : goal.each_note-requires-clause-outcomes
each_note-requires-clause-outcomes g c =
    rw (c.reverse.ensures.items, reverse-reverse c.in_ok-outcomes.outcomes.items) c.in_ok-outcomes.ensures

pub returns : goal.returns
returns g c = record {
  noted = c.in_ok-each.ensures.noted;
  reported = c.in_ok-each.ensures.reported;
  setting = setting_for _ c.args.known.found.now _ _ c.in_ok-setting.ensures c.in_ok-each.ensures.none;
}
