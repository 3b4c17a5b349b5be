-- A step that others see.
use Rattle.std.proofs.Common.{◌≡◌, ◌<◌, ◌-◌, ℕ, Bool, true, false, List, [], Option, Some, None, ap, arith, nat_eq, refl, sym, ◌∙◌}
use Rattle.std.specs.Prelude.{if◌then◌else◌, is_some, option_map}
use Rattle.flt_tree.specs.declared.filter.Filter.{Filter}
use Rattle.flt_replay_course.specs.Leading.{LeadsTo, after_step}
use Rattle.flt_model.specs.LocalSteps.{local_step}
use Rattle.flt_model.specs.Steps.{Board}
use Rattle.flt_model.specs.World.{World, activation_at, actor_at}
use Rattle.flt_explain_timeline.specs.Callbacks.{next_line}
use Rattle.flt_explain_timeline.specs.Course.{Comes, Stays, go, go_from, gone_by, seen}
use Rattle.flt_explain_timeline.specs.Outcomes.{shows, sign_of}
use Rattle.flt_explain_timeline.specs.Refusals.{of_step}
use Rattle.flt_explain_timeline.specs.declared.outcome.Sign.{Sign}
use Rattle.flt_explain_timeline.specs.declared.refusal.Refusal.{Refusal}
use Rattle.flt_explain_timeline.specs.declared.telling.Happening.TheVariants.{Runs}

some_steps : (steps : ℕ) → 0 < steps → nat_eq steps 0 ≡ false
some_steps steps h = grind arith

module _ (p : List Filter) (a : ℕ) (grant : Bool) (filter end : ℕ) where
  -- it isn't enabled
  pub not_made : (w v x : World) (made : Bool) (why : Refusal) → v ≡ w → LeadsTo (after_step p v [] (Board a grant)) made x → made ≡ false →
      why ≡ of_step (is_some (local_step (actor_at w a).draining (activation_at w a) (activation_at w a).rest)) grant →
      seen p a grant filter end w ≡ Stays why
  not_made w v x made why same leads isnt is =
      ap (λ (u : World). gone_by p a grant filter end w (after_step p u [] (Board a grant))) (sym same)
      ∙ ap (gone_by p a grant filter end w) (leads ∙ ap (λ (b : Bool). if b then Some x else None) isnt)
      ∙ ap Stays (sym is)

  -- it was made
  pub was_made : (w v x : World) (made : Bool) (line : ℕ) (sign : Option Sign) (outcome : Option Bool) → v ≡ w →
      LeadsTo (after_step p v [] (Board a grant)) made x → made ≡ true → line ≡ next_line end (activation_at w a).rest →
      sign ≡ sign_of w a grant (activation_at w a).rest → outcome ≡ option_map (shows x a) sign →
      seen p a grant filter end w ≡ Comes x (Runs filter line outcome)
  was_made w v x made line sign outcome same leads does at looked is =
      ap (λ (u : World). gone_by p a grant filter end w (after_step p u [] (Board a grant))) (sym same)
      ∙ ap (gone_by p a grant filter end w) (leads ∙ ap (λ (b : Bool). if b then Some x else None) does)
      ∙ ap (λ (l : ℕ). Comes x (Runs filter l (option_map (shows x a) (sign_of w a grant (activation_at w a).rest)))) (sym at)
      ∙ ap (λ (s : Option Sign). Comes x (Runs filter line (option_map (shows x a) s))) (sym looked)
      ∙ ap (λ (o : Option Bool). Comes x (Runs filter line o)) (sym is)

  -- steps of an activation that hasn't ended
  pub going : (steps : ℕ) (w : World) (ended : Bool) → ended ≡ (activation_at w a).ended → ended ≡ false → 0 < steps →
      go p a grant filter end steps w ≡ go_from p a grant filter end 0 (steps - 1) w
  going steps w ended is isnt some =
      let e : (activation_at w a).ended ≡ false = sym is ∙ isnt in
      let f : nat_eq steps 0 ≡ false = some_steps steps some in
      rw (e, f) refl
