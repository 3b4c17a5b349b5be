use Rattle.std.proofs.Common.{◌≡◌, [], ◌∷◌, ◌++◌, length, sym, ap, ◌∙◌, length-append, refl, Some, Ok}
use Rattle.flt_cert.specs.Reading as spec
use Rattle.flt_cert.proofs.ReadLaws.{points_step}
use Rattle.flt_cert.proofs.full_reader.points.Goals as goal

pub loop-number-preserved : goal.loop-number-preserved
loop-number-preserved c =
    let i = c.loop-number.number in
    let left : c.state.new.self ≡ c.loop-number.lines = c.in_default.ensures.left refl in
    let read : spec.point i c.state.new.self ≡ Ok (c.in_ok-point.point, c.point.new.lines) = cc (c.in_ok-point.ensures) in
    let pushed : c.push_reserved-in-loop-number.new.self.items ≡ c.loop-number.found.items ++ c.in_ok-point.point ∷ [] =
    c.push_reserved-in-loop-number.ensures.items ∙ ap (λ l. l ++ c.in_ok-point.point ∷ []) c.in_ok-reserve-2.ensures.items in
    let step = points_step c.args.count i c.loop-number.found.items c.in_ok-point.point c.loop-number.lines c.point.new.lines
    c.loop-number-test.true c.loop-number.invariant.count (ap (spec.point i) (sym left) ∙ read) in
    let count : length c.loop-number.found.items ≡ i = c.loop-number.invariant.count in
    record {
      count = rw (pushed, length-append, count) refl;
      read = rw pushed (sym step ∙ c.loop-number.invariant.read);
    }

pub loop-number-preserved-in-Some : goal.loop-number-preserved-in-Some
loop-number-preserved-in-Some c =
    let i = c.loop-number.number in
    let read : spec.point i c.loop-number.lines ≡ Ok (Some c.in-Some.state, c.state.new.self) = c.in-Some.ensures.read in
    let pushed : c.push_reserved.new.self.items ≡ c.loop-number.found.items ++ Some c.in-Some.state ∷ [] =
    c.push_reserved.ensures.items ∙ ap (λ l. l ++ Some c.in-Some.state ∷ []) c.in_ok-reserve-2.ensures.items in
    let step = points_step c.args.count i c.loop-number.found.items (Some c.in-Some.state) c.loop-number.lines c.state.new.self
    c.loop-number-test.true c.loop-number.invariant.count read in
    let count : length c.loop-number.found.items ≡ i = c.loop-number.invariant.count in
    record {
      count = rw (pushed, length-append, count) refl;
      read = rw pushed (sym step ∙ c.loop-number.invariant.read);
    }
