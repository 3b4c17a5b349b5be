use Rattle.std.proofs.Common.{◌≡◌, ◌<◌, List, [], ◌∷◌, ◌++◌, take, length, get_or, true, sym, ap, subst, ◌∙◌, arith}
use Rattle.flt_cert.specs.Format.{Point, Certificate}
use Rattle.flt_cert.specs.Thin.{Slot, Thin, thin_points, thin, is_thin}
use Rattle.flt_cert.proofs.Slots.{thin_is_thin}
use Rattle.flt_cert.proofs.Slots.{callbacks_more, callbacks_all}
use Rattle.flt_cert.proofs.thinning.thin_full.Goals as goal

pub loop-callback-preserved : goal.loop-callback-preserved
loop-callback-preserved c =
    let g = c.args.graph.now in
    let k = c.args.full.now in
    let n = c.loop-callback.callback in
    let long : length c.callbacks-callback-end.result.now ≡ length k =
    ap (λ (l : Certificate). length l) c.callbacks-callback-end.ensures.value in
    let within : n < length k = omega arith in
    let slots : c.in_ok-thin_points.field-0 ≡ thin_points g n 0 (get_or k n []) =
    c.in_ok-thin_points.ensures ∙ ap (λ (points : List Point). thin_points g n 0 points) c.points.ensures in
    c.in_ok-push.ensures.ok
    ∙ (ap (λ (l : Thin). l ++ c.in_ok-thin_points.field-0 ∷ []) c.loop-callback.invariant
    ∙ (ap (λ (s : List Slot). thin g (take n k) ++ s ∷ []) slots
    ∙ sym (callbacks_more g n k within)))

pub unwrap-requires : goal.unwrap-requires
unwrap-requires c =
    let g = c.args.graph.now in
    let k = c.args.full.now in
    let long : length c.callbacks-callback-end.result.now ≡ length k =
    ap (λ (l : Certificate). length l) c.callbacks-callback-end.ensures.value in
    c.new.ensures.known.1 (subst (λ (t : Thin). is_thin t ≡ true)
    (sym (c.loop-callback.invariant ∙ callbacks_all g c.loop-callback.callback k (omega arith)))
    (thin_is_thin g k c.callbacks-callback-end.ensures.certificate))
