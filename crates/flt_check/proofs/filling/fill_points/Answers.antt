use Rattle.std.proofs.Common.{◌≡◌, ◌<◌, List, [], ◌∷◌, ◌++◌, take, length, get_or, None, sym, ap, ◌∙◌, arith}
use Rattle.std.proofs.lemmas.List.{get_or_read}
use Rattle.flt_cert.specs.Format.{Point}
use Rattle.flt_cert.specs.Thin.{Slot}
use Rattle.flt_check.specs.Full.{filled_in, full_points}
use Rattle.flt_check.proofs.Thin.Filling.{points_more}
use Rattle.flt_check.proofs.filling.fill_points.Goals as goal

pub loop-place-preserved : goal.loop-place-preserved
loop-place-preserved c =
    let g = c.args.graph.now in
    let callback = c.args.callback in
    let slots = c.args.slots.now in
    let n = c.loop-place.place in
    let within : n < length slots = omega arith in
    let read : c.index-slots-place.result ≡ get_or slots n None =
    get_or_read slots n c.index-slots-place.result within c.index-slots-place.is None in
    let before : List Point = full_points g callback (take n slots) in
    let point : c.filled_in-point.result ≡ filled_in g callback before (get_or slots n None) =
    c.filled_in-point.ensures
    ∙ (ap (λ (l : List Point). filled_in g callback l c.index-slots-place.result) (c.as_slice.ensures ∙ c.loop-place.invariant)
    ∙ ap (λ (s : Slot). filled_in g callback before s) read) in
    c.in_ok-push.ensures.ok
    ∙ (ap (λ (l : List Point). l ++ c.filled_in-point.result ∷ []) c.loop-place.invariant
    ∙ (ap (λ (x : Point). before ++ x ∷ []) point ∙ sym (points_more g callback n slots within)))
