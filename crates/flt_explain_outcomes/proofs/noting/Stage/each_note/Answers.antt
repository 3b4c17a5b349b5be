use Rattle.std.proofs.Common.{◌≡◌, None, get_or, refl, rules}
use Rattle.std.proofs.lemmas.List.Elements.{All-nil}
use Rattle.flt_explain_outcomes.specs.Noted.{no_note}
use Rattle.flt_explain_outcomes.specs.declared.noted.Note.{Note}
use Rattle.flt_explain_outcomes.proofs.Notes.{all_more, next_reported, notes_more}
use Rattle.flt_explain_outcomes.proofs.Runs.{next_outcome, some_left, unreported}
use Rattle.flt_explain_outcomes.proofs.noting.Stage.each_note.Goals as goal

pub last_of-outcome-requires : goal.last_of-outcome-requires
last_of-outcome-requires c = record {
  some = some_left c.args.self.now.search.is_stack c.args.self.now.trees.now c.args.known c.args.reported.now c.loop-next.next-index
      c.loop-next.outcomes.items
      c.loop-next-test.true c.loop-next.invariant.outcomes;
}

pub note-requires-clause-outcome : goal.note-requires-clause-outcome
note-requires-clause-outcome c =
    (next_outcome c.args.self.now.search.is_stack c.args.self.now.trees.now c.args.known c.args.reported.now c.loop-next.next-index
    (get_or c.args.reported.now c.loop-next.next-index unreported)
    c.loop-next.outcomes.items c.last_of-outcome.new.outcomes.items c.last_of-outcome.result c.loop-next-test.true (search rules)
    c.loop-next.invariant.outcomes c.last_of-outcome.ensures).0

pub loop-next-init : goal.loop-next-init
loop-next-init c = record {
  outcomes = c.requires.outcomes;
  noted = rw c.new-each.ensures no_note;
  reported = rw c.new-each.ensures refl;
  none = λ h. rw c.new-each.ensures (All-nil (λ (n : Note). n.again ≡ None));
}

pub loop-next-preserved : goal.loop-next-preserved
loop-next-preserved c =
    let i = c.loop-next.next-index in
    let one = get_or c.args.reported.now i unreported in
    let added = c.in_ok-push.ensures.ok in
    record {
      outcomes = (next_outcome c.args.self.now.search.is_stack c.args.self.now.trees.now c.args.known c.args.reported.now i one
          c.loop-next.outcomes.items
          c.last_of-outcome.new.outcomes.items c.last_of-outcome.result c.loop-next-test.true (search rules)
          c.loop-next.invariant.outcomes c.last_of-outcome.ensures).1;
      noted = notes_more _ _ c.args.known c.loop-next.each c.push.new.self c.in_ok-note.note c.loop-next.invariant.noted
          (rw c.as_slice.ensures at c.in_ok-note.ensures.noted) added;
      reported = next_reported c.args.reported.now i one c.loop-next.each c.push.new.self c.in_ok-note.note c.loop-next-test.true
          (search rules) c.loop-next.invariant.reported c.in_ok-note.ensures.reported added;
      none = λ h. all_more (λ (n : Note). n.again ≡ None) c.loop-next.each c.push.new.self c.in_ok-note.note
          (c.loop-next.invariant.none h) (c.in_ok-note.ensures.none h) added;
    }
