use Rattle.std.proofs.Common.{◌≡◌, ◌++◌, ◌∷◌, [], ◌+◌, length, sym, ap, arith, ◌∙◌, length-append, Ok, Some}
use Rattle.flt_model.specs.JournalTextReading.{begun, byte, operation_from}
use Rattle.flt_model.proofs.OperationSteps.{one_further, goes_further}
use Rattle.flt_model.proofs.lines.operation_by_bytes.Goals as goal

pub loop-next-preserved : goal.loop-next-preserved
loop-next-preserved g c =
    let front = c.loop-next.front.now in
    let next = c.in_ok-next.next in
    let found : begun (front ++ next ∷ []) ≡ Some c.in-Some.operation = sym c.begun.ensures ∙ c.in-Some.is in
    let step = one_further c.in-Some.operation c.as_bytes-name.result.now front next (c.as_bytes-name.ensures.value ∙ c.name.ensures) found
    c.if-front-name.false in
    let read : byte (g.R.Source.coming c.loop-next.reader) ≡ Ok (next, g.R.Source.coming c.byte.new.reader) = c.in_ok-next.ensures.read in
    let count : length (front ++ next ∷ []) ≡ length front + 1 = length-append front (next ∷ []) in
    record {
      read = c.loop-next.invariant.read
          ∙ goes_further c.in-Some.operation front (g.R.Source.coming c.loop-next.reader) (g.R.Source.coming c.byte.new.reader) next read
          found step.1.1
          ∙ ap (λ t. operation_from t (g.R.Source.coming c.byte.new.reader)) (sym step.0);
      short = rw (step.0, count) step.1.0;
      fine = c.in_ok-next.ensures.fails ∙ c.loop-next.invariant.fine;
      reads = rw (step.0, count) (omega (arith, c.in_ok-next.ensures.reads, c.loop-next.invariant.reads));
    }
