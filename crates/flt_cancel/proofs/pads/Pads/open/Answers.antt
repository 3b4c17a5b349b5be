use Rattle.std.proofs.Common.{◌≡◌, ◌++◌, ◌∷◌, [], ℕ, List, All, rules, arith, refl, sym, subst}
use Rattle.std.proofs.lemmas.Grind.{common_steps}
use Rattle.std.proofs.lemmas.List.Elements.{All-nil, All-cons, All-append}
use Rattle.flt_cancel.specs.Seats.{marks, view}
use Rattle.flt_cancel.specs.Steps.{newcomer}
use Rattle.flt_cancel.specs.declared.seat.Seat.{Seat}
use Rattle.flt_cancel.proofs.Steps.{begins, splits}
use Rattle.flt_cancel.proofs.pads.Pads.open.Goals as goal

-- what holds of all seats and of one more
one_more : (P : Seat → Type 0) (before now : List Seat) (seat : Seat) → now ≡ before ++ seat ∷ [] → All P before → P seat → All P now
one_more P before now seat e each here =
    subst (All P) (sym e) (All-append P before (seat ∷ []) each (All-cons P seat [] here (All-nil P)))

pub of_words-requires : goal.of_words-requires
of_words-requires c = begins _ refl

pub of_words-requires-2 : goal.of_words-requires-2
of_words-requires-2 c = begins _ refl

pub split_seat-token-requires : goal.split_seat-token-requires
split_seat-token-requires c = (search rules, search rules, splits _ _)

pub split_seat-mark-requires : goal.split_seat-mark-requires
split_seat-mark-requires c = (search rules, search rules, splits _ _)

pub loop-preserved : goal.loop-preserved
loop-preserved c = record {
  counted = grind (arith, common_steps);
  as_long = grind (arith, common_steps);
  within = omega arith;
  room = omega arith;
  first_here = search rules;
  first_new = search rules;
  mark_here = search rules;
  mark_new = search rules;
  seats_made =
      one_more (λ seat. ((seat.token.table_id ≡ c.in_ok-table.table.shared.table_id)
      × (seat.mark.table_id ≡ c.in_ok-marks.marks.shared.table_id)) × (view seat ≡ newcomer)) _ _ _
      c.push_reserved.ensures.items c.loop.invariant.seats_made ((search rules, search rules), search rules);
  marks_made =
      one_more (λ seat. marks seat ≡ newcomer) _ _ _ c.push_reserved.ensures.items c.loop.invariant.marks_made (search rules);
}

pub returns-clause-seats : goal.returns-clause-seats
returns-clause-seats c =
    one_more (λ seat. ((seat.token.table_id ≡ c.in_ok-table.table.shared.table_id)
    × (seat.mark.table_id ≡ c.in_ok-marks.marks.shared.table_id)) × (view seat ≡ newcomer)) _ _ _
    c.push_reserved-2.ensures.items c.loop.invariant.seats_made ((search rules, search rules), search rules)

pub returns-clause-marks : goal.returns-clause-marks
returns-clause-marks c =
    one_more (λ seat. marks seat ≡ newcomer) _ _ _ c.push_reserved-2.ensures.items c.loop.invariant.marks_made (search rules)
