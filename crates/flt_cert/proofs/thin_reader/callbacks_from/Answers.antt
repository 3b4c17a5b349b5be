use Rattle.std.proofs.Common.{◌≡◌, ◌-◌, [], ◌∷◌, ◌++◌, length, sym, subst, ◌∙◌, length-append, refl, Ok, true, false}
use Rattle.flt_cert.specs.Reading as reading
use Rattle.flt_cert.specs.Thin.{Thin}
use Rattle.flt_cert.specs.ThinReading as spec
use Rattle.flt_cert.proofs.ThinReadLaws.{last_callback, next_callback}
use Rattle.flt_cert.proofs.thin_reader.callbacks_from.Goals as goal

pub returns-then-is_last : goal.returns-then-is_last
returns-then-is_last c =
    let text = c.loop-number.line.now in
    let last : spec.is_thin_end c.loop-number.found text ≡ true = cc (c.is_last.ensures, c.if-is_last.true) in
    let same = sym c.loop-number.invariant.read
    ∙ last_callback (16 - c.loop-number.number) c.loop-number.found text c.loop-number.lines last in
    let P : reading.Outcome Thin → Type 0 = λ o. reading.Reads o c.finish.result c.loop-number.lines in
    subst P (sym same) c.finish.ensures

pub loop-number-preserved : goal.loop-number-preserved
loop-number-preserved c =
    let i = c.loop-number.number in
    let text = c.loop-number.line.now in
    let last : spec.is_thin_end c.loop-number.found text ≡ false = cc (c.is_last.ensures, c.if-is_last.false) in
    let called : spec.thin_callback i text c.loop-number.lines ≡
    Ok ((c.in_ok-slots.slots, c.in_ok-slots.after.now), c.callback.new.lines) = cc (c.in_ok-slots.ensures) in
    let pushed : c.push.new.self ≡ c.loop-number.found ++ c.in_ok-slots.slots ∷ [] = cc (c.in_ok-push.ensures.ok) in
    let count : length c.loop-number.found ≡ i = c.loop-number.invariant.count in
    let step = next_callback 16 i c.loop-number.found text c.in_ok-slots.after.now c.in_ok-slots.slots c.loop-number.lines
    c.callback.new.lines c.loop-number-test.true count last called in
    record {
      count = rw (pushed, length-append, count) refl;
      read = rw pushed (sym step ∙ c.loop-number.invariant.read);
    }

pub returns-then-is_last-2 : goal.returns-then-is_last-2
returns-then-is_last-2 c =
    let text = c.loop-number.line.now in
    let last : spec.is_thin_end c.loop-number.found text ≡ true = cc (c.is_last-2.ensures, c.if-is_last-2.true) in
    let same = sym c.loop-number.invariant.read
    ∙ last_callback (16 - c.loop-number.number) c.loop-number.found text c.loop-number.lines last in
    let P : reading.Outcome Thin → Type 0 = λ o. reading.Reads o c.finish-then-is_last-2.result c.loop-number.lines in
    subst P (sym same) c.finish-then-is_last-2.ensures
