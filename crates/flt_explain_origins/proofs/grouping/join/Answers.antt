use Rattle.std.proofs.Common.{◌<◌, ap, sym, refl, subst, ◌∙◌, slice_set}
use Rattle.std.proofs.lemmas.Bool.{false≢true}
use Rattle.std.proofs.lemmas.Result.{on_ok_weaker}
use Rattle.flt_explain_origins.specs.Grouping.{group}
use Rattle.flt_explain_origins.proofs.Gathering.{written, outside}
use Rattle.flt_explain_origins.proofs.grouping.join.Goals as goal

pub returns-in-Some : goal.returns-in-Some
returns-in-Some c =
    let gs = c.args.groups.now.items in
    let g = c.in-Some.group.now in
    on_ok_weaker c.push.result
    (λ e. ap (λ os. slice_set gs c.args.place (group g.first os)) e
    ∙ written gs c.args.place g c.args.traced (subst (λ n. c.args.place < n) c.args.groups.now.ok.0 (c.in-Some.ensures.variant.0 refl))
    c.in-Some.ensures.value) c.push.ensures.ok

pub returns-in-None : goal.returns-in-None
returns-in-None c =
    outside c.args.groups.now.items c.args.place c.args.traced
    (λ w. false≢true (c.in-None.ensures.variant.1 (subst (λ n. c.args.place < n) (sym c.args.groups.now.ok.0) w)))
