use Rattle.std.proofs.Common.{rules, ◌≡◌, ℕ, ◌++◌, refl, sym, ap, ◌∙◌, arith}
use Rattle.std.proofs.lemmas.List.{append-nil}
use Rattle.flt_cancel.specs.Serials.{serials_below}
use Rattle.flt_stack_threads.specs.Places.{marks_by}
use Rattle.flt_stack_threads.proofs.Bits.{is_clear}
use Rattle.flt_stack_threads.proofs.Sweeping.{no_more_mark, one_more_mark}
use Rattle.flt_stack_threads.proofs.stack.Stack.mark_again.Goals as goal

pub loop-group-init : goal.loop-group-init
loop-group-init g c = record {
  seat = c.requires;
  marked = sym (append-nil _);
  unmarked = refl;
  requests = refl;
  tickets = refl;
  waiting = refl;
  left = refl;
  share = refl;
  fulls = refl;
}

pub loop-group-preserved-then-not-has_bit : goal.loop-group-preserved-then-not-has_bit
loop-group-preserved-then-not-has_bit g c = record {
  seat = search rules;
  marked = no_more_mark c.loop-group.group c.args.groups _ _
      (λ one. let clear = is_clear c.has_bit.result c.args.groups c.loop-group.group c.has_bit.ensures c.if-not-has_bit.true in
      omega (arith, one, clear)) c.loop-group.invariant.marked;
  unmarked = search rules;
  requests = search rules;
  tickets = search rules;
  waiting = search rules;
  left = search rules;
  share = search rules;
  fulls = search rules;
}

pub loop-group-preserved : goal.loop-group-preserved
loop-group-preserved g c = record {
  seat = search rules;
  marked = c.mark.ensures.marked
      ∙ one_more_mark c.loop-group.group c.args.groups _ _ (c.has_bit.ensures.0 c.if-not-has_bit.false) c.loop-group.invariant.marked;
  unmarked = search rules;
  requests = search rules;
  tickets = search rules;
  waiting = search rules;
  left = search rules;
  share = search rules;
  fulls = search rules;
}

pub returns-clause-marked : goal.returns-clause-marked
returns-clause-marked g c =
    let all : c.loop-group.group ≡ 64 = omega arith in
    c.loop-group.invariant.marked
    ∙ ap (λ (n : ℕ). (marks_by c.args.seat.now.place).asked ++ serials_below n 0 c.args.groups) all
