use Rattle.std.proofs.Common.{◌≡◌, ◌∙◌, List, Option, Some, None, IfSome, refl, subst}
use Rattle.std.specs.Prelude.{All, Contains}
use Rattle.flt_explain_waits.specs.declared.waits.BlockedActivation.{BlockedActivation}
use Rattle.flt_replay_world.specs.Filters.{filters_of}
use Rattle.flt_search_deadlocks.specs.Deadlocks.{IsHeldAmong}
use Rattle.flt_search_deadlocks.proofs.Deadlocked.{deadlock}
use Rattle.flt_search_deadlocks.proofs.judging.deadlock_at.Goals as goal

some_of : {A : Type 0} (P : A → Type 0) (o : Option A) (a : A) → o ≡ Some a → IfSome o P → P a
some_of P None a is holds = absurd (cc)
some_of P (Some b) a is holds = let same : b ≡ a = cc (is) in subst P same holds

pub returns : goal.returns
returns c =
    let round = c.in-Some.round.items in
    let found = some_of _ c.in_ok-round.field-0 c.in-Some.round c.in-Some.is c.in_ok-round.ensures in
    let chosen : All (Contains c.in_ok-waits.waits.items) round =
    subst (λ (w : List BlockedActivation). All (Contains w) round) c.as_slice.ensures.value found.0 in
    let judged = c.if-not-is_round.ensures refl in
    let held : All (IsHeldAmong round) round = subst (λ (r : List BlockedActivation). All (IsHeldAmong r) r)
    c.as_slice-2.ensures.value judged.1 in
    deadlock (filters_of c.args.trees.now) c.args.number c.args.circle.now _ c.in_ok-waits.waits.items c.local_steps_are_runs.ensures
    c.what_waits_is_stuck.ensures chosen found.1 held (λ none. judged.0 (c.as_slice-2.ensures.value ∙ none)) c.in_ok-waits.ensures
