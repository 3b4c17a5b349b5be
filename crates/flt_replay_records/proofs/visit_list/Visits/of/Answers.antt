use Rattle.std.proofs.Common.{◌≡◌, ℕ, true, List, Option, None, get_or, ap, ◌∙◌}
use Rattle.flt_replay_records.specs.Unsettled.{is_visit_of, IsLatest}
use Rattle.flt_replay_records.proofs.VisitLinks.{latest_before, latest_is, listed_more}
use Rattle.flt_replay_records.proofs.visit_list.Visits.of.Goals as goal

pub loop-latest-preserved-in-Some-get : goal.loop-latest-preserved-in-Some-get
loop-latest-preserved-in-Some-get c =
    let visits = c.self.inside.visits.items in
    let o = c.args.operation in
    let n = c.in-Some.number in
    let here : is_visit_of o visits n ≡ true = rw c.in-Some.is at c.loop-latest.invariant.there in
    let next = c.get-latest-in-Some-get.result in
    let is : next ≡ get_or c.self.inside.before.items n None =
    c.get-latest-in-Some-get.ensures ∙ c.in-Some-get.ensures.lookup.3.1 None ∙
    ap (λ (xs : List (Option ℕ)). get_or xs n None) c.deref.ensures.value in
    let latest : IsLatest visits o n next =
    rw is (latest_before visits c.self.inside.settled.items c.self.inside.before.items c.self.inside.last c.self.inside.unsettled o n
    c.self.invariant here) in
    record {
      there = latest_is visits o n next latest;
      so_far = rw c.in_ok-push.ensures.items (listed_more visits o n next c.loop-latest.numbers.items latest here
          (rw c.in-Some.is at c.loop-latest.invariant.so_far));
    }
