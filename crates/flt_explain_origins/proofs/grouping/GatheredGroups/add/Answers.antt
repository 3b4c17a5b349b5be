use Rattle.std.proofs.Common.{ap, sym, ◌∙◌, Some}
use Rattle.std.specs.Prelude.{if◌then◌else◌}
use Rattle.std.proofs.lemmas.Result.{on_ok_weaker}
use Rattle.flt_explain_origins.specs.Gathering.{same, place_in}
use Rattle.flt_explain_origins.proofs.Gathering.{unknown, joins, begins, stay, stay_behind, one_more}
use Rattle.flt_explain_origins.proofs.grouping.GatheredGroups.add.Goals as goal

pub returns-in_default-clause-places : goal.returns-in_default-clause-places
returns-in_default-clause-places c =
    on_ok_weaker c.begin.result
    (λ e k. c.requires.places k ∙ sym (stay_behind k c.args.traced c.args.self.now.groups.items (sym c.in_default.ensures))
    ∙ sym (ap (place_in k) e))
    c.begin.ensures

pub returns-in_default-clause-groups : goal.returns-in_default-clause-groups
returns-in_default-clause-groups c =
    on_ok_weaker c.begin.result (λ e. e ∙ sym (unknown c.args.traced c.args.self.now.groups.items (sym c.in_default.ensures)))
    c.begin.ensures

pub returns-in-Some-get-clause-places : goal.returns-in-Some-get-clause-places
returns-in-Some-get-clause-places c =
    on_ok_weaker c.join.result
    (λ e k. c.requires.places k ∙ sym (stay k c.args.self.now.groups.items c.in-Some-get.place.now c.args.traced)
    ∙ sym (ap (place_in k) e))
    c.join.ensures

pub returns-in-Some-get-clause-groups : goal.returns-in-Some-get-clause-groups
returns-in-Some-get-clause-groups c =
    let gs = c.args.self.now.groups.items in
    let k = c.in-Some.common in
    let place = sym (c.requires.places k) ∙ sym c.in-Some-get.ensures.value in
    on_ok_weaker c.join.result
    (λ e. e ∙ sym (joins c.args.traced k (sym c.in-Some.ensures) gs c.in-Some-get.place.now place)) c.join.ensures

pub returns-clause-places : goal.returns-clause-places
returns-clause-places c = λ q.
    let gs = c.args.self.now.groups.items in
    let k = c.in-Some.common in
    let none = sym (c.requires.places k) ∙ sym c.in_default-get.ensures.value in
    c.in_ok-insert.ensures.updates.0 q
    ∙ ap (λ o. if same k q then Some c.len-place.result else o) (c.requires.places q)
    ∙ ap (λ n. if same k q then Some n else place_in q gs) (c.len-place.ensures ∙ c.args.self.now.groups.ok.0)
    ∙ sym (one_more q c.args.traced k gs (sym c.in-Some.ensures) none)
    ∙ sym (ap (place_in q) c.in_ok-begin.ensures)

pub returns-clause-groups : goal.returns-clause-groups
returns-clause-groups c =
    let gs = c.args.self.now.groups.items in
    let k = c.in-Some.common in
    let none = sym (c.requires.places k) ∙ sym c.in_default-get.ensures.value in
    c.in_ok-begin.ensures ∙ sym (begins c.args.traced k (sym c.in-Some.ensures) gs none)
