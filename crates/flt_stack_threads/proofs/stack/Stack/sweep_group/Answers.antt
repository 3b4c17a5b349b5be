use Rattle.std.proofs.Common.{rules, ◌+◌, ◌*◌, refl, sym, subst}
use Rattle.flt_cancel.specs.Seats.{view}
use Rattle.flt_cancel.specs.declared.seat.Seat.{Seat}
use Rattle.flt_stack_threads.specs.Places.{collected_by}
use Rattle.flt_stack_threads.specs.Requests.{AreCollected}
use Rattle.flt_stack_threads.specs.Requests.AreCollected.{none, one_more}
use Rattle.flt_stack_threads.proofs.stack.Stack.sweep_group.Goals as goal

pub loop-k-init : goal.loop-k-init
loop-k-init g c = record {
  seat = c.requires.seat;
  waiting = c.requires.waiting;
  tried = c.requires.requests;
  swept = none (collected_by c.args.seat.now.place).seen;
  marks = refl;
  share = search rules;
  few = search rules;
  parts = refl;
  fulls = refl;
  fulls_parts = refl;
}

pub loop-k-preserved-then-requests-eq0 : goal.loop-k-preserved-then-requests-eq0
loop-k-preserved-then-requests-eq0 g c =
    let step = c.collect-requests.ensures.step in
    record {
      seat = search rules;
      waiting = search rules;
      tried = search rules;
      swept = one_more c.loop-k.k (collected_by c.args.seat.now.place).seen _ _ step.0 c.collect-requests.result.bits
          c.loop-k.invariant.swept step.1;
      marks = search rules;
      share = search rules;
      few = search rules;
      parts = search rules;
      fulls = search rules;
      fulls_parts = search rules;
    }

pub loop-k-preserved : goal.loop-k-preserved
loop-k-preserved g c =
    let before = (collected_by c.args.seat.now.place).seen in
    let step = c.collect-requests.ensures.step in
    record {
      seat = search rules;
      waiting = search rules;
      tried = search rules;
      swept = subst (λ (s : Seat). AreCollected (16 * c.args.group) (c.loop-k.k + 1) before (view s).seen) (sym c.in_ok-made.ensures.pads)
          (one_more c.loop-k.k before _ _ step.0 c.collect-requests.result.bits c.loop-k.invariant.swept step.1);
      marks = search rules;
      share = search rules;
      few = search rules;
      parts = search rules;
      fulls = search rules;
      fulls_parts = search rules;
    }
