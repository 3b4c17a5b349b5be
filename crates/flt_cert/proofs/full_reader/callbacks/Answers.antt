use Rattle.std.proofs.Common.{◌≡◌, ◌-◌, [], ◌∷◌, ◌++◌, length, sym, subst, ◌∙◌, length-append, refl, Ok, true, false}
use Rattle.flt_cert.specs.Format.{Certificate}
use Rattle.flt_cert.specs.Reading as spec
use Rattle.flt_cert.proofs.ReadLaws.{last_callback, next_callback}
use Rattle.flt_cert.proofs.full_reader.callbacks.Goals as goal

pub returns-then-is_last : goal.returns-then-is_last
returns-then-is_last c =
    let read : spec.line c.loop-number.lines ≡ Ok (c.in_ok-line.line.now, c.next.new.self) = cc (c.in_ok-line.ensures) in
    let last : spec.is_last c.loop-number.found c.in_ok-line.line.now ≡ true = cc (c.is_last.ensures, c.if-is_last.true) in
    let same = sym c.loop-number.invariant.read
    ∙ last_callback (16 - c.loop-number.number) c.loop-number.found c.in_ok-line.line.now c.loop-number.lines c.next.new.self read last in
    let P : spec.Outcome Certificate → Type 0 = λ o. spec.Reads o c.finish.result c.next.new.self in
    subst P (sym same) c.finish.ensures

pub loop-number-preserved : goal.loop-number-preserved
loop-number-preserved c =
    let i = c.loop-number.number in
    let read : spec.line c.loop-number.lines ≡ Ok (c.in_ok-line.line.now, c.next.new.self) = cc (c.in_ok-line.ensures) in
    let last : spec.is_last c.loop-number.found c.in_ok-line.line.now ≡ false = cc (c.is_last.ensures, c.if-is_last.false) in
    let called : spec.callback i c.in_ok-line.line.now c.next.new.self ≡ Ok (c.in_ok-points.points, c.callback.new.lines) =
    cc (c.in_ok-points.ensures) in
    let pushed : c.push.new.self ≡ c.loop-number.found ++ c.in_ok-points.points ∷ [] = cc (c.in_ok-push.ensures.ok) in
    let count : length c.loop-number.found ≡ i = c.loop-number.invariant.count in
    let step = next_callback 16 i c.loop-number.found c.in_ok-line.line.now c.in_ok-points.points c.loop-number.lines
    c.next.new.self c.callback.new.lines c.loop-number-test.true count read last called in
    record {
      count = rw (pushed, length-append, count) refl;
      read = rw pushed (sym step ∙ c.loop-number.invariant.read);
    }

pub returns-then-is_last-2 : goal.returns-then-is_last-2
returns-then-is_last-2 c =
    let read : spec.line c.loop-number.lines ≡ Ok (c.in_ok-line-2.line.now, c.next-2.new.self) = cc (c.in_ok-line-2.ensures) in
    let last : spec.is_last c.loop-number.found c.in_ok-line-2.line.now ≡ true = cc (c.is_last-2.ensures, c.if-is_last-2.true) in
    let same = sym c.loop-number.invariant.read
    ∙ last_callback (16 - c.loop-number.number) c.loop-number.found c.in_ok-line-2.line.now c.loop-number.lines
    c.next-2.new.self read last in
    let P : spec.Outcome Certificate → Type 0 = λ o. spec.Reads o c.finish-then-is_last-2.result c.next-2.new.self in
    subst P (sym same) c.finish-then-is_last-2.ensures
