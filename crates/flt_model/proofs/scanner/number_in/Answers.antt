use Rattle.std.proofs.Common.{◌<◌, length, sym, arith, ◌∙◌}
use Rattle.std.proofs.lemmas.Bool.{ltb-true, eq-eqb, ne_eqb}
use Rattle.flt_model.proofs.ReadingSteps.{first_within, number_begins, number_ends, number_goes_on}
use Rattle.flt_model.proofs.scanner.number_in.Goals as goal

pub loop-at-init : goal.loop-at-init
loop-at-init c = record {
  within = first_within c.args.bytes.now c.in_ok-first.field-0.now (sym c.in_ok-first.ensures.value);
  read = λ left. number_begins c.args.bytes.now left c.args.end c.in_ok-first.field-0.now c.in_ok-number.number
      (sym c.in_ok-first.ensures.value) (ne_eqb c.in_ok-first.field-0.now 48 c.if-first-eq48.false)
      (sym c.with_digit.ensures ∙ c.in_ok-number.was);
}

pub returns-then-next-end : goal.returns-then-next-end
returns-then-next-end c =
    let low : c.loop-at.at < length c.args.bytes.now =
    ltb-true c.loop-at.at (length c.args.bytes.now) (sym c.in_ok-next.ensures.lookup.0) in (
      omega (arith, low),
      λ left. c.loop-at.invariant.read left ∙ number_ends c.args.bytes.now left c.loop-at.at c.args.end c.loop-at.number
          c.in_ok-next.field-0.now low c.in_ok-next.ensures.lookup.1 (eq-eqb c.in_ok-next.field-0.now c.args.end c.if-next-end.true),
    )

pub loop-at-preserved : goal.loop-at-preserved
loop-at-preserved c =
    let low : c.loop-at.at < length c.args.bytes.now =
    ltb-true c.loop-at.at (length c.args.bytes.now) (sym c.in_ok-next.ensures.lookup.0) in
    record {
      within = omega (arith, low);
      read = λ left. c.loop-at.invariant.read left ∙ number_goes_on c.args.bytes.now left c.loop-at.at c.args.end c.loop-at.number
          c.in_ok-next.field-0.now c.in_ok-number-2.number (omega (arith, c.loop-at-test.true)) low c.in_ok-next.ensures.lookup.1
          (ne_eqb c.in_ok-next.field-0.now c.args.end c.if-next-end.false)
          (sym c.with_digit-in-loop-at.ensures ∙ c.in_ok-number-2.was);
    }
