use Rattle.std.proofs.Common.{◌≡◌, ◌+◌, ◌∷◌, [], ◌++◌, ap, sym, ◌∙◌}
use Rattle.crossbeam_deque.specs.Handles.{stealer_deque, worker_deque, worker_view}
use Rattle.flt_pool.specs.Hands.{newcomer}
use Rattle.flt_pool.specs.declared.deque.Deque.{Deque}
use Rattle.flt_pool.proofs.Pushes.{longer, all_more, map_more}
use Rattle.flt_pool.proofs.opening.empty_deques.Goals as goal

pub loop-preserved : goal.loop-preserved
loop-preserved c =
    let more = c.in_ok-push_back.ensures.items in (
      longer _ _ _ more ∙ ap (λ n. n + 1) c.loop.invariant.0,
      all_more _ _ _ more (λ (deque : Deque). worker_view deque.owner ≡ newcomer) c.loop.invariant.1 c.in_ok-deque.ensures,
      map_more _ _ _ c.in_ok-push.ensures.items stealer_deque ∙ (λ i. c.loop.invariant.2 i ++ c.in_ok-thief.ensures i ∷ [])
          ∙ sym (map_more _ _ _ more (λ (deque : Deque). worker_deque deque.owner)),
    )
