-- A journal leads to a deadlock where those that wait after it do so for locks of one another.
use Rattle.std.proofs.Common.{◌≡◌, ◌∷◌, [], ℕ, List, Option, Some, None, length, get_or, refl, sym, subst, arith}
use Rattle.std.specs.List.{AllZip}
use Rattle.std.specs.Prelude.{All, Contains, MatchOption}
use Rattle.std.proofs.lemmas.List.Elements.{All-contains}
use Rattle.flt_tree.specs.declared.filter.Filter.{Filter}
use Rattle.flt_model.specs.Program.{by_altitude}
use Rattle.flt_model.specs.Runs.{Moment, start}
use Rattle.flt_model.specs.World.{World}
use Rattle.flt_order.specs.declared.order.Acquisition.{Acquisition}
use Rattle.flt_replay.specs.Lesser.{moment_after}
use Rattle.flt_explain_waits.specs.Stuck.{IsStuck, LocalStepsAreRuns, WhatWaitsIsStuck}
use Rattle.flt_explain_waits.specs.Waiting.{AreSettled, AreWaits, waits_at}
use Rattle.flt_explain_waits.specs.declared.waits.BlockedActivation.{BlockedActivation}
use Rattle.flt_search_deadlocks.specs.Deadlocks.{IsDeadlockIn, IsHeldAmong, WaitsAt}
use Rattle.flt_search_deadlocks.specs.declared.judging.Deadlock.{Deadlock}
use Rattle.flt_search_deadlocks.proofs.Legal.{legal}

-- where nothing waits, nothing is chosen of it
none_chosen : (round : List BlockedActivation) → All (Contains []) round → (round ≡ [] → ⊥) → ⊥
none_chosen [] chosen some = some refl
none_chosen (b ∷ rest) chosen some = let first = chosen 0 b (omega arith) in elim first.1 [ ]

-- those that are chosen of what waits are stuck
chosen_stuck : (p : List Filter) (m : Moment) (waits round : List BlockedActivation) → WhatWaitsIsStuck →
    waits ≡ waits_at m.world (length m.world.activations) → All (Contains waits) round → All (IsStuck p m) round
chosen_stuck p m waits round law are chosen k d less =
    let whole : All (IsStuck p m) waits = subst (All (IsStuck p m)) (sym are) (law p m (length m.world.activations)) in
    All-contains (IsStuck p m) waits (get_or round k d) whole (chosen k d less)

module _ (filters : List Filter) (number : ℕ) (circle : List Acquisition) (d : Deadlock) (waits : List BlockedActivation)
    (runs : LocalStepsAreRuns) (law : WhatWaitsIsStuck) (chosen : All (Contains waits) d.waits.items)
    (zipped : AllZip (WaitsAt number) circle d.waits.items) (held : All (IsHeldAmong d.waits.items) d.waits.items)
    (some : d.waits.items ≡ [] → ⊥) where
  abbrev p : List Filter
  p = by_altitude filters

  by_waits : (m : Moment) (u : World) → moment_after p (start p) d.journal ≡ Some m → AreSettled m.world (length m.world.activations) u →
      waits ≡ waits_at u (length u.activations) → IsDeadlockIn filters number circle d
  by_waits m u reached settled are =
      let led = runs p m (length m.world.activations) u settled in
      record {
        legal = legal p (start p) m 0 d.journal reached;
        moment = m;
        reached = reached;
        steps = led.0;
        last = record { world = u; trace = m.trace };
        led = led.1;
        some = some;
        waits = zipped;
        stuck = chosen_stuck p (record { world = u; trace = m.trace }) waits d.waits.items law are chosen;
        held = held;
      }

  by_moment : (o : Option Moment) → moment_after p (start p) d.journal ≡ o →
      MatchOption o (waits ≡ []) (λ m. (u : World) × AreWaits m.world u waits) → IsDeadlockIn filters number circle d
  by_moment None reached none =
      absurd (none_chosen d.waits.items (subst (λ (w : List BlockedActivation). All (Contains w) d.waits.items) none chosen) some)
  by_moment (Some m) reached (u, (settled, are)) = by_waits m u reached settled are

  -- where those that wait after a journal wait for locks of one another, it leads to a deadlock
  pub deadlock : MatchOption (moment_after p (start p) d.journal) (waits ≡ []) (λ m. (u : World) × AreWaits m.world u waits) →
      IsDeadlockIn filters number circle d
  deadlock are = by_moment (moment_after p (start p) d.journal) refl are
