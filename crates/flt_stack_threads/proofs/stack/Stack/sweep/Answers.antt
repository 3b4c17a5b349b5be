use Rattle.std.proofs.Common.{rules, refl, arith}
use Rattle.flt_stack_threads.proofs.Bits.{is_clear}
use Rattle.flt_stack_threads.proofs.Sweeping.{swept_up_to}
use Rattle.flt_stack_threads.specs.Requests.AreSwept.{none, passed, swept}
use Rattle.flt_stack_threads.proofs.stack.Stack.sweep.Goals as goal

pub loop-group-init : goal.loop-group-init
loop-group-init g c = record {
  seat = c.requires.seat;
  waiting = c.requires.waiting;
  tried = c.requires.requests;
  swept = swept_up_to c.args.groups 0 c.lowest_bit-group.result _ _ (none _) (omega arith)
      (λ k _ below. c.lowest_bit-group.ensures.below k below);
  marks = refl;
  share = search rules;
  few = search rules;
  parts = refl;
  fulls = refl;
  fulls_parts = refl;
}

pub loop-group-preserved-then-not-has_bit : goal.loop-group-preserved-then-not-has_bit
loop-group-preserved-then-not-has_bit g c = record {
  seat = search rules;
  waiting = search rules;
  tried = search rules;
  swept = passed c.loop-group.group _ _ c.loop-group.invariant.swept
      (is_clear c.has_bit.result c.args.groups c.loop-group.group c.has_bit.ensures c.if-not-has_bit.true);
  marks = search rules;
  share = search rules;
  few = search rules;
  parts = search rules;
  fulls = search rules;
  fulls_parts = search rules;
}

pub loop-group-preserved : goal.loop-group-preserved
loop-group-preserved g c = record {
  seat = search rules;
  waiting = search rules;
  tried = search rules;
  swept = swept c.loop-group.group _ _ _ c.loop-group.invariant.swept (c.has_bit.ensures.0 c.if-not-has_bit.false)
      c.in_ok-made.ensures.swept;
  marks = search rules;
  share = search rules;
  few = search rules;
  parts = search rules;
  fulls = search rules;
  fulls_parts = search rules;
}

pub returns-then-has_none_from-clause-swept : goal.returns-then-has_none_from-clause-swept
returns-then-has_none_from-clause-swept g c =
    swept_up_to c.args.groups c.loop-group.group 64 _ _ c.loop-group.invariant.swept (omega arith)
    (λ k from _. c.has_none_from.ensures c.if-has_none_from.true k from)
