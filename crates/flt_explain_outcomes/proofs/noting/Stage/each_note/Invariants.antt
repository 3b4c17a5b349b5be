use Rattle.std.proofs.Common.{◌≡◌, All, None, drop, map, reverse, take}
use Rattle.std.specs.List.{AllZip}
use Rattle.flt_explain_outcomes.specs.Noted.{reported_in}
use Rattle.flt_explain_outcomes.specs.Noting.{HasNotes, IsOutcomeOf}
use Rattle.flt_explain_outcomes.specs.declared.noted.Note.{Note}
use Rattle.flt_explain_outcomes.proofs.noting.Stage.each_note.Given as goal

abbrev pub invariant-loop-next : goal.invariant-loop-next
invariant-loop-next l = record {
  outcomes : AllZip (IsOutcomeOf l.self.search.is_stack l.self.trees.now l.known) (drop l.next-index l.reported) (reverse l.outcomes.items);
  noted : HasNotes l.self.search.is_stack l.self.trees.now l.known l.each;
  reported : map reported_in l.each ≡ take l.next-index l.reported;
  none : l.setting ≡ None → All (λ (n : Note). n.again ≡ None) l.each;
}
