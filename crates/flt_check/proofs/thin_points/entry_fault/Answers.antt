use Rattle.std.proofs.Common.{◌≡◌, None, get_or, sym, ap, ◌∙◌}
use Rattle.std.proofs.lemmas.List.{get_or_read}
use Rattle.std.proofs.lemmas.Option.{same_Some}
use Rattle.std.specs.Option.{option_copied}
use Rattle.flt_rules.specs.declared.place.Place.{Place}
use Rattle.flt_graph.specs.Graph.{place_at}
use Rattle.flt_cert.specs.Format.{Point}
use Rattle.flt_check.specs.Checker.{entry_by}
use Rattle.flt_check.specs.Full.{full_points}
use Rattle.flt_check.proofs.Thin.Looked.{first_is}
use Rattle.flt_check.proofs.thin_points.entry_fault.Goals as goal

pub returns-in-Some : goal.returns-in-Some
returns-in-Some c =
    let g = c.args.graph.now in
    let points = full_points g c.args.callback c.args.slots.now in
    let read : c.index-slots-0.result ≡ get_or c.args.slots.now 0 None =
    get_or_read c.args.slots.now 0 c.index-slots-0.result c.requires.some c.index-slots-0.is None in
    let same : c.in-Some.given ≡ get_or points 0 None =
    same_Some c.in-Some.given (get_or points 0 None)
    (sym c.in-Some.is ∙ (read ∙ first_is g c.args.callback c.args.slots.now c.requires.given c.requires.some)) in
    c.entry_by.ensures
    ∙ (ap (λ (at : Place). entry_by at (option_copied c.as_ref.result)) c.place.ensures
    ∙ ap (λ (x : Point). entry_by (place_at g c.args.callback) x) (c.as_ref.ensures.value ∙ same))
