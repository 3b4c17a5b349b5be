use Rattle.std.proofs.Common.{◌≡◌, ◌<◌, List, [], ◌∷◌, ◌++◌, take, length, get_or, None, Bool, false, sym, ap, ◌∙◌, arith}
use Rattle.std.proofs.lemmas.List.{get_or_read}
use Rattle.flt_cert.specs.Format.{Point}
use Rattle.flt_graph.specs.Kept.{is_kept}
use Rattle.flt_cert.specs.Thin.{Slot, slot_of, thin_points}
use Rattle.flt_cert.proofs.Slots.{slots_more}
use Rattle.flt_cert.proofs.thinning.thin_points.Goals as goal

pub loop-number-preserved : goal.loop-number-preserved
loop-number-preserved c =
    let g = c.args.graph.now in
    let points = c.args.points.now in
    let n = c.loop-number.number in
    let within : n < length points = omega arith in
    let read : c.index-points-number.result ≡ get_or points n None =
    get_or_read points n c.index-points-number.result within c.index-points-number.is None in
    let few : n < 512 = (let count = c.requires in omega arith) in
    let is : get_or c.kept_points-kept.result n false ≡ is_kept g c.args.callback n = c.kept_points-kept.ensures.kept n few in
    let slot : c.slot_of.result ≡ slot_of (is_kept g c.args.callback n) (get_or points n None) =
    c.slot_of.ensures
    ∙ (ap (λ (b : Bool). slot_of b c.index-points-number.result) is
    ∙ ap (λ (x : Point). slot_of (is_kept g c.args.callback n) x) read) in
    c.push_reserved.ensures.items
    ∙ (ap (λ (l : List Slot). l ++ c.slot_of.result ∷ []) (c.in_ok-reserve-2.ensures.items ∙ c.loop-number.invariant)
    ∙ (ap (λ (s : Slot). thin_points g c.args.callback 0 (take n points) ++ s ∷ []) slot
    ∙ sym (slots_more g c.args.callback n points within)))
