-- A move of an entry.
use Rattle.std.proofs.Common.{◌≡◌, ◌<◌, ◌≤◌, ℕ, Bool, true, false, List, [], Option, Some, None, ap, arith, length, refl, sym, ◌∙◌}
use Rattle.std.specs.Prelude.{if◌then◌else◌, nat_lt}
use Rattle.flt_tree.specs.declared.filter.Filter.{Filter}
use Rattle.flt_replay_course.specs.Leading.{LeadsTo, after_step}
use Rattle.flt_model.specs.declared.moves.Move.{Move}
use Rattle.flt_model.specs.Steps.{Make}
use Rattle.flt_model.specs.World.{World}
use Rattle.flt_explain_timeline.specs.Course.{Stops, after_move, after_start, after_system, entered_by, move_entry, routine_of}
use Rattle.flt_explain_timeline.specs.Refusals.{of_move}
use Rattle.flt_explain_timeline.specs.declared.refusal.Refusal.{Refusal}
use Rattle.flt_explain_timeline.specs.declared.running.Scene.{Scene}

less : (m n : ℕ) → m < n → nat_lt m n ≡ true
less m n h = grind arith

not_less : (m n : ℕ) → n ≤ m → nat_lt m n ≡ false
not_less m n h = grind arith

module _ (p : List Filter) (s : Scene) (m : Move) where
  -- it isn't enabled
  pub not_moved : (x : World) (made : Bool) (why : Refusal) → LeadsTo (after_step p s.world [] (Make m)) made x → made ≡ false →
      why ≡ of_move p s.world.store m → move_entry p s m ≡ Stops why
  not_moved x made why leads isnt is =
      ap (entered_by (of_move p s.world.store m) (after_move p s m)) (leads ∙ ap (λ (b : Bool). if b then Some x else None) isnt)
      ∙ ap Stops (sym is)

  -- it was made
  pub moved : (x : World) (made : Bool) → LeadsTo (after_step p s.world [] (Make m)) made x → made ≡ true →
      move_entry p s m ≡ after_move p s m x
  moved x made leads does =
      ap (entered_by (of_move p s.world.store m) (after_move p s m)) (leads ∙ ap (λ (b : Bool). if b then Some x else None) does)

  -- a callback has started
  pub starts : (x : World) (before : ℕ) (routine : Option ℕ) → before ≡ length s.world.activations → routine ≡ routine_of s.world.store m →
      before < length x.activations → after_move p s m x ≡ after_start p x s.columns s.runs before routine
  starts x before routine at is more =
      let h : length s.world.activations < length x.activations = omega (arith, at, more) in
      let e : nat_lt (length s.world.activations) (length x.activations) ≡ true = less _ _ h in
      rw e (ap (λ (n : ℕ). after_start p x s.columns s.runs n (routine_of s.world.store m)) (sym at)
      ∙ ap (after_start p x s.columns s.runs before) (sym is))

  -- none has
  pub starts_none : (x : World) (before : ℕ) → before ≡ length s.world.activations → length x.activations ≤ before →
      after_move p s m x ≡ after_system s m x
  starts_none x before at none =
      let h : length x.activations ≤ length s.world.activations = omega (arith, at, none) in
      let e : nat_lt (length s.world.activations) (length x.activations) ≡ false = not_less _ _ h in
      rw e refl
