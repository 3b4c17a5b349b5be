use Rattle.std.proofs.Common.{◌≡◌, List, [], All, refl, subst, sym, ◌∙◌}
use Rattle.flt_tree.specs.declared.filter.Filter.{Filter}
use Rattle.flt_stack_threads.specs.Places.{IsCallerOf, IsFreshCaller}
use Rattle.flt_stack_crew.specs.Giving.{IsAimed}
use Rattle.flt_stack_crew.proofs.Driving.{driven, ended_by}
use Rattle.flt_stack_crew.proofs.Elements.{of_popped, sum_of_ones}
use Rattle.flt_stack_crew.proofs.running.drive.Goals as goal

pub follow-requires-clause-script : goal.follow-requires-clause-script
follow-requires-clause-script g c κs within =
    subst (λ (filters : List Filter). All (IsAimed filters) c.args.script.now) c.requires.filters c.requires.script

pub follow-requires-clause-caller : goal.follow-requires-clause-caller
follow-requires-clause-caller g c κs within =
    let caller = c.unwrap-caller.result in
    let places : IsCallerOf c.in_ok-stack.stack.exchange caller.place × IsFreshCaller caller.place =
    of_popped c.in_ok-stack.callers.items c.pop.new.self.items c.pop.result caller c.unwrap-caller.ensures c.pop.ensures.items
    (λ seat. IsCallerOf c.in_ok-stack.stack.exchange seat.place × IsFreshCaller seat.place) c.in_ok-stack.ensures.callers in
    places.0

pub follow-requires-clause-fresh : goal.follow-requires-clause-fresh
follow-requires-clause-fresh g c κs within =
    let caller = c.unwrap-caller.result in
    let places : IsCallerOf c.in_ok-stack.stack.exchange caller.place × IsFreshCaller caller.place =
    of_popped c.in_ok-stack.callers.items c.pop.new.self.items c.pop.result caller c.unwrap-caller.ensures c.pop.ensures.items
    (λ seat. IsCallerOf c.in_ok-stack.stack.exchange seat.place × IsFreshCaller seat.place) c.in_ok-stack.ensures.callers in
    let receipts : caller.receipts.list.items ≡ [] =
    of_popped c.in_ok-stack.callers.items c.pop.new.self.items c.pop.result caller c.unwrap-caller.ensures c.pop.ensures.items
    (λ seat. seat.receipts.list.items ≡ []) c.in_ok-stack.ensures.receipts in
    (receipts, rw places.1.1 refl)

pub follow-requires-clause-share : goal.follow-requires-clause-share
follow-requires-clause-share g c κs within =
    let caller = c.unwrap-caller.result in
    let shares : (caller.receipts.share.parts ≡ 1) × (caller.receipts.share.amount ≡ 0) =
    of_popped c.in_ok-stack.callers.items c.pop.new.self.items c.pop.result caller c.unwrap-caller.ensures c.pop.ensures.items
    (λ seat. (seat.receipts.share.parts ≡ 1) × (seat.receipts.share.amount ≡ 0)) c.in_ok-stack.ensures.callers_shares in
    shares.1

pub follow-requires-clause-workers : goal.follow-requires-clause-workers
follow-requires-clause-workers g c κs within = λ k d here. (
  (c.in_ok-stack.ensures.workers k d here).0,
  (c.in_ok-stack.ensures.others_shares k d here).0,
  (c.in_ok-stack.ensures.others_shares k d here).1,
)

pub finish-requires-clause-caller : goal.finish-requires-clause-caller
finish-requires-clause-caller g c =
    let caller = c.unwrap-caller.result in
    let shares : (caller.receipts.share.parts ≡ 1) × (caller.receipts.share.amount ≡ 0) =
    of_popped c.in_ok-stack.callers.items c.pop.new.self.items c.pop.result caller c.unwrap-caller.ensures c.pop.ensures.items
    (λ seat. (seat.receipts.share.parts ≡ 1) × (seat.receipts.share.amount ≡ 0)) c.in_ok-stack.ensures.callers_shares in
    c.in_ok-followed.ensures.parts ∙ (shares.0 ∙ sym c.requires.callers_parts.1)

pub finish-requires-clause-workers : goal.finish-requires-clause-workers
finish-requires-clause-workers g c =
    sum_of_ones _ c.in_ok-followed.followed.workers.items c.in_ok-followed.ensures.workers
    ∙ (c.in_ok-followed.ensures.count ∙ (c.in_ok-stack.ensures.counts.1 ∙ sym c.requires.others_parts.1))

pub returns : goal.returns
returns g c =
    driven c.args.loaded g.N.StackName.trees c.requires.filters c.filters.ensures.ordered c.breaks_nothing.ensures
    c.legal_journals_are_clean_runs.ensures.law c.args.script.now c.finish.result c.finish.ensures.clean
    (ended_by c.args.script.now c.finish.result _ c.in_ok-followed.ensures.followed c.finish.ensures.ended)
