-- Local steps of an entry, one after another.
use Rattle.std.proofs.Common.{◌≡◌, ◌<◌, ◌+◌, ℕ, zero, suc, Bool, true, List, [], Some, None, add-one, ap, arith, sym, ◌∙◌}
use Rattle.std.specs.Prelude.{is_some, option_and_then}
use Rattle.flt_tree.specs.declared.filter.Filter.{Filter}
use Rattle.flt_model.specs.Steps.{local}
use Rattle.flt_model.specs.World.{World}
use Rattle.flt_replay_steps.specs.Unseen.{unseen}
use Rattle.flt_explain_timeline.specs.Course.{Stays, go_from, seen, unless_seen}
use Rattle.flt_explain_timeline.specs.declared.refusal.Refusal.TheVariants.{IsSeen}

some_same : {A : Type 0} (x y : A) → Some x ≡ Some y → x ≡ y
some_same x y e = cc

module _ (p : List Filter) (a : ℕ) (grant : Bool) (filter end : ℕ) where
  -- all steps but the last are local
  pub all_local : (steps made : ℕ) (w u : World) → unseen steps w a ≡ Some u →
      go_from p a grant filter end made steps w ≡ seen p a grant filter end u
  unfolding go_from
  all_local zero made w u e = ap (seen p a grant filter end) (some_same w u e)
  all_local (suc steps) made w u e =
      elim (local [] [] w a)
      as (λ x. option_and_then (λ s. unseen steps s.world a) x ≡ Some u →
      unless_seen p a grant filter end made (go_from p a grant filter end (made + 1) steps) x ≡ seen p a grant filter end u)
      [ None ↦ (λ h. absurd (cc)) | Some s ↦ (λ h. all_local steps (made + 1) s.world u h) ] e

  seen_early : (steps made more t : ℕ) (w : World) → more < steps → is_some (unseen more w a) ≡ true → unseen (suc more) w a ≡ None →
      t ≡ made + more + 1 → go_from p a grant filter end made steps w ≡ Stays (IsSeen t)
  unfolding go_from
  seen_early zero made more t w less some none at = absurd (omega (arith, less))
  seen_early (suc steps) made zero t w less some none at =
      elim (local [] [] w a)
      as (λ x. option_and_then (λ s. Some s.world) x ≡ None →
      unless_seen p a grant filter end made (go_from p a grant filter end (made + 1) steps) x ≡ Stays (IsSeen t))
      [ None ↦ (λ h. ap (λ n. Stays (IsSeen n)) (omega (arith, at))) | Some s ↦ (λ h. absurd (cc)) ] none
  seen_early (suc steps) made (suc more) t w less some none at =
      elim (local [] [] w a)
      as (λ x. is_some (option_and_then (λ s. unseen more s.world a) x) ≡ true →
      option_and_then (λ s. unseen (suc more) s.world a) x ≡ None →
      unless_seen p a grant filter end made (go_from p a grant filter end (made + 1) steps) x ≡ Stays (IsSeen t)) [
        | None ↦ (λ g h. absurd (cc))
        | Some s ↦ (λ g h. seen_early steps (made + 1) more t s.world (omega (arith, less)) g h (omega (arith, at)))
      ]
      some none

  -- one before the last isn't
  pub one_seen : (steps more : ℕ) (w : World) → more < steps → is_some (unseen more w a) ≡ true → unseen (more + 1) w a ≡ None →
      go_from p a grant filter end 0 steps w ≡ Stays (IsSeen (more + 1))
  one_seen steps more w less some none =
      let e : unseen (suc more) w a ≡ None = ap (λ (n : ℕ). unseen n w a) (sym (add-one more)) ∙ none in
      seen_early steps 0 more (more + 1) w less some e (omega arith)
