-- What a turn came to.
use Rattle.std.proofs.Common.{◌≡◌, ℕ, Bool, true, false, List, [], Some, is_some, length, refl, sym, subst, inl, inr}
use Rattle.flt_stack_core.specs.Turning.{HasCommitted, IsCancel}
use Rattle.flt_stack_core.specs.Turning.HasCommitted.{stale, waits, went}
use Rattle.flt_stack_core.specs.Turning.IsCancel.{cancelled, disabled}
use Rattle.flt_machine_frames.specs.declared.frame.Advanced.{Advanced}
use Rattle.flt_machine_frames.specs.declared.loaded.Loaded.{Loaded}
use Rattle.flt_machine.specs.Calls.{Commits, IsBlocked, IsDisabled, IsFresh, IsFullFor, instruction_for, leaves_choice_at}
use Rattle.flt_machine.specs.Situations.{Situation, Now, standing_of}
use Rattle.flt_machine.specs.Tickets.{after_go}
use Rattle.flt_model.specs.declared.event.Event.{Event}
use Rattle.flt_model.specs.declared.moves.Move.TheVariants.{Cancel}
use Rattle.flt_model.specs.declared.subject.Subject.{Subject}
use Rattle.flt_stack_core.specs.Turns.{HasMade, counted, is_granted, named_by}
use Rattle.flt_stack_core.specs.declared.choices.Choices.{Choices}
use Rattle.flt_rules.specs.Limits.{max_entries}

module _ (l : Loaded) (b : Situation) (c : Choices) (advanced : Advanced) where
  abbrev Had : Situation → Choices → Bool → Bool → List Subject → Type 0
  Had later d made stays named = HasCommitted l b later c d advanced made stays named

  -- where nothing is named, nothing was made and the ticket stays or goes
  unmade_is : (stays stays' made : Bool) (later : Situation) (named : List Subject) → Had b c false stays [] → later ≡ b →
      stays' ≡ stays → made ≡ false → named ≡ [] → Had later c made stays' named
  unmade_is stays stays' made later named had same keeps unmade none =
      subst (λ n. Had later c made stays' n) (sym none)
      (subst (λ m. Had later c m stays' []) (sym unmade)
      (subst (λ s. Had later c false s []) (sym keeps)
      (subst (λ x. Had x c false stays []) (sym same) had)))

  -- a turn of a frame that isn't fresh changes nothing
  pub stale_is : (stays made : Bool) (later : Situation) (named : List Subject) → (IsFresh b advanced → ⊥) → later ≡ b →
      stays ≡ false → made ≡ false → named ≡ [] → Had later c made stays named
  stale_is stays made later named old = unmade_is false stays made later named (stale old refl refl)

  -- a turn that is blocked changes nothing and is taken again
  pub waits_is : (stays made grant : Bool) (later : Situation) (named : List Subject) → grant ≡ is_granted c → IsFresh b advanced →
      IsBlocked l b advanced grant → later ≡ b → stays ≡ true → made ≡ false → named ≡ [] → Had later c made stays named
  waits_is stays made grant later named same fresh blocked =
      unmade_is true stays made later named (waits fresh (subst (IsBlocked l b advanced) same blocked) refl refl)

  -- a turn that commits a step leads to the board after it
  pub went_is : (grant : Bool) (later : Situation) (d : Choices) (events : List Event) (named : List Subject) → grant ≡ is_granted c →
      Now l b (λ p m. Commits p b later advanced grant events m) → d ≡ counted c (leaves_choice_at (instruction_for l advanced)) →
      named ≡ after_go l.altitudes b.store later.store advanced.frame.activation
      (is_some (standing_of later advanced.frame.activation)) → Had later d true false named
  went_is grant later d events named same commits counts names =
      subst (λ n. Had later d true false n) (sym names)
      (went (events, subst (λ (g : Bool). Now l b (λ p m. Commits p b later advanced g events m)) same commits) counts)

module _ (l : Loaded) (b : Situation) (serial : ℕ) where
  -- a cancellation that is made is one move
  pub cancelled_is : (later : Situation) (named : List Subject) → HasMade l b later (Some (Cancel serial)) →
      named ≡ named_by l b later (Some (Cancel serial)) → IsCancel l b later serial true false named
  cancelled_is later named made names = subst (λ n. IsCancel l b later serial true false n) (sym names) (cancelled made)

  -- a cancellation that isn't enabled changes nothing
  pub disabled_is_cancel : (stays made : Bool) (later : Situation) (named : List Subject) → IsDisabled l b (Cancel serial) → later ≡ b →
      stays ≡ false → made ≡ false → named ≡ [] → IsCancel l b later serial made stays named
  disabled_is_cancel stays made later named off same goes unmade none =
      subst (λ n. IsCancel l b later serial made stays n) (sym none)
      (subst (λ m. IsCancel l b later serial m stays []) (sym unmade)
      (subst (λ s. IsCancel l b later serial false s []) (sym goes) (disabled off same)))

  -- a cancel finds the board full only where the journal is
  pub full_for_cancel : IsFullFor b (Cancel serial) → length b.entries ≡ max_entries
  full_for_cancel (inl entries) = entries
  full_for_cancel (inr arrives) = absurd (let e = arrives.0 in cc)
