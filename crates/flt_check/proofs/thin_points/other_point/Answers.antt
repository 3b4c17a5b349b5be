use Rattle.std.proofs.Common.{◌≡◌, ◌<◌, length, get_or, None, sym, ap, ◌∙◌, arith, below_more}
use Rattle.std.specs.Prelude.{is_some}
use Rattle.std.proofs.lemmas.List.{get_or_read}
use Rattle.flt_graph.specs.Kept.{is_kept}
use Rattle.flt_cert.specs.Thin.{Slot}
use Rattle.flt_check.proofs.thin_points.other_point.Goals as goal

pub loop-point-preserved : goal.loop-point-preserved
loop-point-preserved c =
    let slots = c.args.slots.now in
    let n = c.loop-point.point in
    let within : n < length slots = omega arith in
    let read : c.index-slots-point.result ≡ get_or slots n None =
    get_or_read slots n c.index-slots-point.result within c.index-slots-point.is None in
    let few : n < 512 = (let count = c.requires in omega arith) in
    below_more (λ p. is_some (get_or slots p None) ≡ is_kept c.args.graph.now c.args.callback p) n c.loop-point.invariant
    (ap (λ (s : Slot). is_some s) (sym read) ∙ (c.is_other.ensures.0 c.if-is_other.false ∙ c.kept_points-kept.ensures.kept n few))
