use Rattle.std.proofs.Common.{◌≡◌, ◌<◌, List, [], ◌∷◌, ◌++◌, take, length, get_or, true, sym, ap, subst, ◌∙◌, arith}
use Rattle.flt_cert.specs.Format.{Point, Certificate, is_certificate}
use Rattle.flt_cert.specs.Thin.{Slot, Thin}
use Rattle.flt_check.specs.Full.{full_points, full}
use Rattle.flt_check.proofs.Thin.Filling.{callbacks_more, callbacks_all}
use Rattle.flt_check.proofs.filling.fill.Goals as goal

pub loop-callback-preserved : goal.loop-callback-preserved
loop-callback-preserved c =
    let g = c.args.graph.now in
    let t = c.args.thin.now in
    let n = c.loop-callback.callback in
    let long : length c.callbacks-callback-end.result.now ≡ length t =
    ap (λ (l : Thin). length l) c.callbacks-callback-end.ensures.value in
    let within : n < length t = omega arith in
    let points : c.in_ok-fill_points.field-0 ≡ full_points g n (get_or t n []) =
    c.in_ok-fill_points.ensures ∙ ap (λ (s : List Slot). full_points g n s) c.slots.ensures in
    c.in_ok-push.ensures.ok
    ∙ (ap (λ (l : Certificate). l ++ c.in_ok-fill_points.field-0 ∷ []) c.loop-callback.invariant
    ∙ (ap (λ (x : List Point). full g (take n t) ++ x ∷ []) points ∙ sym (callbacks_more g n t within)))

pub unwrap-requires : goal.unwrap-requires
unwrap-requires c =
    let g = c.args.graph.now in
    let t = c.args.thin.now in
    let long : length c.callbacks-callback-end.result.now ≡ length t =
    ap (λ (l : Thin). length l) c.callbacks-callback-end.ensures.value in
    c.new.ensures.known.1 (subst (λ (k : Certificate). is_certificate k ≡ true)
    (sym (c.loop-callback.invariant ∙ callbacks_all g c.loop-callback.callback t (omega arith)))
    (c.thin_certificates_fill_up.ensures.certificate g t c.callbacks-callback-end.ensures.thin))

pub returns : goal.returns
returns c =
    let g = c.args.graph.now in
    let t = c.args.thin.now in
    let long : length c.callbacks-callback-end.result.now ≡ length t =
    ap (λ (l : Thin). length l) c.callbacks-callback-end.ensures.value in
    let same : c.unwrap.result ≡ c.loop-callback.callbacks = rw c.unwrap.ensures at c.new.ensures.value in
    same ∙ (c.loop-callback.invariant ∙ callbacks_all g c.loop-callback.callback t (omega arith))
