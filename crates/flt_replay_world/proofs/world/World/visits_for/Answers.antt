use Rattle.std.proofs.Common.{◌≡◌, ℕ, ◌==◌, nat_eq, map, ap, ◌∙◌}
use Rattle.std.specs.Prelude.{filter}
use Rattle.std.specs.List.{list_any}
use Rattle.std.proofs.lemmas.Result.{IfOk-weaker}
use Rattle.flt_model.specs.declared.parts.Entry.{Entry}
use Rattle.flt_model.specs.World.{World, visit_at, queue_at}
use Rattle.flt_replay_records.specs.Unsettled.{is_visit_of}
use Rattle.flt_replay_world.proofs.EntryVisits.{among_own, of_operation}
use Rattle.flt_replay_world.proofs.world.World.visits_for.Goals as goal

pub returns-in_ok-visits : goal.returns-in_ok-visits
returns-in_ok-visits c =
    let f = λ (v : ℕ). (visit_at c.args.self.now.store v).operation == c.args.operation in
    let queue = ap (λ (w : World). queue_at w.store c.args.filter) c.self.view_is in
    let own = c.as_slice.ensures.value ∙ c.in_ok-visits.ensures ∙ ap (map (λ (e : Entry). e.visit)) queue in
    IfOk-weaker c.visits_among.result (λ vs. vs.items ≡ filter f c.as_slice.result.now) _
    (λ vs is. among_own c.args.self.now.store c.args.operation (queue_at c.args.self.now.store c.args.filter) vs.items
    (is ∙ ap (filter f) own))
    c.visits_among.ensures

pub returns-else-operation-eq0 : goal.returns-else-operation-eq0
returns-else-operation-eq0 c =
    IfOk-weaker c.of.result (λ vs. (v : ℕ) → list_any (nat_eq v) vs.items ≡ is_visit_of c.args.operation c.self.inside.visits.0 v) _
    (λ vs are. of_operation c.args.self.now.store c.args.operation
    (queue_at c.args.self.now.store c.args.filter) vs.items c.if-operation-eq0.false
    (λ v. are v ∙ ap (λ (w : World). is_visit_of c.args.operation w.store.visits v) c.self.view_is))
    c.of.ensures
