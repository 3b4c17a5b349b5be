-- A step that others see, and steps before it.
use Rattle.std.proofs.Common.{◌≡◌, ◌+◌, ℕ, zero, suc, Bool, true, false, [], List, Some, None, ap, arith, sym, ◌∙◌}
use Rattle.std.specs.Prelude.{if◌then◌else◌}
use Rattle.flt_tree.specs.declared.filter.Filter.{Filter}
use Rattle.flt_tree.specs.declared.filter.Span.{Span}
use Rattle.flt_replay_course.specs.Leading.{LeadsTo, after_step}
use Rattle.flt_model.specs.Steps.{Board}
use Rattle.flt_model.specs.World.{World, activation_at}
use Rattle.flt_replay_steps.specs.Unseen.{unseen}
use Rattle.flt_explain_flows.specs.Running.{Comes, Stays, after_unseen, go, gone_by, next_span, seen}

module _ (p : List Filter) (a : ℕ) (grant : Bool) (end : Span) where
  -- it isn't enabled
  pub not_made : (w v x : World) (made : Bool) → v ≡ w → LeadsTo (after_step p v [] (Board a grant)) made x → made ≡ false →
      seen p a grant end w ≡ Stays
  not_made w v x made same leads isnt =
      ap (λ (u : World). gone_by p a grant end w (after_step p u [] (Board a grant))) (sym same)
      ∙ ap (gone_by p a grant end w) (leads ∙ ap (λ (b : Bool). if b then Some x else None) isnt)

  -- it was made
  pub was_made : (w v x : World) (made : Bool) (span : Span) → v ≡ w → LeadsTo (after_step p v [] (Board a grant)) made x → made ≡ true →
      span ≡ next_span end (activation_at w a).rest → seen p a grant end w ≡ Comes span x
  was_made w v x made span same leads does at =
      ap (λ (u : World). gone_by p a grant end w (after_step p u [] (Board a grant))) (sym same)
      ∙ ap (gone_by p a grant end w) (leads ∙ ap (λ (b : Bool). if b then Some x else None) does)
      ∙ ap (λ (l : Span). Comes l x) (sym at)

  -- one step at least
  pub going : (steps n : ℕ) (w : World) → n + 1 ≡ steps → go p a grant end steps w ≡ after_unseen p a grant end (unseen n w a)
  going zero n w is = absurd (omega (arith, is))
  going (suc k) n w is = let same : k ≡ n = omega (arith, is) in ap (λ (j : ℕ). after_unseen p a grant end (unseen j w a)) same

  -- no step
  pub going_nowhere : (steps : ℕ) (w : World) → steps ≡ 0 → go p a grant end steps w ≡ Stays
  going_nowhere steps w is = ap (λ (n : ℕ). go p a grant end n w) is

  -- one of the steps that nobody else sees isn't enabled
  pub stays : (steps n : ℕ) (w x : World) (all : Bool) → n + 1 ≡ steps → unseen n w a ≡ (if all then Some x else None) → all ≡ false →
      go p a grant end steps w ≡ Stays
  stays steps n w x all is leads isnt =
      going steps n w is
      ∙ ap (after_unseen p a grant end) (leads ∙ ap (λ (b : Bool). if b then Some x else None) isnt)

  -- all of them were made
  pub unseen_made : (steps n : ℕ) (w x : World) (all : Bool) → n + 1 ≡ steps → unseen n w a ≡ (if all then Some x else None) → all ≡ true →
      go p a grant end steps w ≡ seen p a grant end x
  unseen_made steps n w x all is leads does =
      going steps n w is
      ∙ ap (after_unseen p a grant end) (leads ∙ ap (λ (b : Bool). if b then Some x else None) does)
