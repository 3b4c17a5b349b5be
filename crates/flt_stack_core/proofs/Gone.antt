-- What came of an activation's turn.
use Rattle.std.proofs.Common.{◌≡◌, ◌∙◌, ℕ, Bool, true, false, List, [], Option, Some, None, is_some, option_map, inr, ap, sym, subst, refl}
use Rattle.flt_machine_frames.specs.declared.frame.Advanced.{Advanced}
use Rattle.flt_machine_frames.specs.declared.frame.Frame.{Frame}
use Rattle.flt_machine_frames.specs.declared.loaded.Loaded.{Loaded}
use Rattle.flt_machine_frames.specs.declared.standing.Standing.{Standing}
use Rattle.flt_machine.specs.Calls.{Commits, IsBlocked, IsFresh, instruction_for, leaves_choice_at}
use Rattle.flt_machine.specs.Situations.{Situation, IsOwn, Now, actor_of, frame_of, standing_of}
use Rattle.flt_machine.specs.Tickets.{after_go}
use Rattle.flt_model.specs.declared.event.Event.{Event}
use Rattle.flt_model.specs.declared.subject.Subject.{Subject}
use Rattle.flt_stack_core.specs.Turns.{GoesOn, HasGone, Takes, counted, is_granted, named_by_step}
use Rattle.flt_stack_core.specs.Turns.HasGone.{ended, waits, went}
use Rattle.flt_stack_core.specs.declared.choices.Choices.{Choices}

-- an activation that can't be taken has ended
no_standing : (b : Situation) (a : ℕ) (o : Option Standing) → option_map (frame_of b a) o ≡ None → o ≡ None
no_standing b a None same = refl
no_standing b a (Some s) same = absurd (cc)

-- the turn of an activation that has no standing ends, and changes nothing
pub has_ended : (l : Loaded) (b : Situation) (c : Choices) (a : ℕ) (stays : Bool) (named : List Subject) →
    option_map (frame_of b a) (standing_of b a) ≡ None → stays ≡ false → named ≡ [] → HasGone l b b c c a stays named
has_ended l b c a stays named none goes nothing =
    subst (λ (n : List Subject). HasGone l b b c c a stays n) (sym nothing)
    (subst (λ (s : Bool). HasGone l b b c c a s []) (sym goes) (ended (no_standing b a (standing_of b a) none) refl refl))

-- one that was taken just now is fresh
module _ (b : Situation) (a : ℕ) (advanced : Advanced) where
  as_taken : (o : Option Standing) → standing_of b a ≡ o → option_map (frame_of b a) o ≡ Some advanced.frame → IsFresh b advanced
  as_taken None is same = absurd (cc)
  as_taken (Some s) is same =
      let frame : frame_of b a s ≡ advanced.frame = cc in record {
        standing = subst (λ (f : Frame). standing_of b f.activation ≡ Some f.standing) frame is;
        filter = subst (λ (f : Frame). (actor_of b f.activation).filter ≡ f.filter) frame refl;
        draining = subst (λ (f : Frame). (actor_of b f.activation).draining ≡ f.draining) frame refl;
      }

  -- a frame that was just taken is fresh
  pub is_fresh : option_map (frame_of b a) (standing_of b a) ≡ Some advanced.frame → IsFresh b advanced
  is_fresh same = as_taken (standing_of b a) refl same

-- it is the activation that was asked for
number_of : (b : Situation) (a : ℕ) (advanced : Advanced) (o : Option Standing) → option_map (frame_of b a) o ≡ Some advanced.frame →
    advanced.frame.activation ≡ a
number_of b a advanced None same = absurd (cc)
number_of b a advanced (Some s) same =
    let frame : frame_of b a s ≡ advanced.frame = cc in subst (λ (f : Frame). f.activation ≡ a) frame refl

-- a turn that commits a step leads to the board after it, and names what follows
pub has_gone : (l : Loaded) (b later : Situation) (c d : Choices) (a : ℕ) (advanced : Advanced) (grant : Bool) (events : List Event)
    (named : List Subject) → Takes l b a advanced → grant ≡ is_granted c → Now l b (λ p m. Commits p b later advanced grant events m) →
    d ≡ counted c (leaves_choice_at (instruction_for l advanced)) → named ≡ after_go l.altitudes b.store later.store
    advanced.frame.activation (is_some (standing_of later advanced.frame.activation)) → HasGone l b later c d a false named
has_gone l b later c d a advanced grant events named takes same commits counts names =
    let number = number_of b a advanced (standing_of b a) takes.taken in
    subst (λ (n : List Subject). HasGone l b later c d a false n) (sym (names ∙ ap (λ (n : ℕ). named_by_step l b later n) number))
    (went advanced takes (events, subst (λ (g : Bool). Now l b (λ p m. Commits p b later advanced g events m)) same commits) counts)

-- a turn that is blocked changes nothing and is taken again
pub has_waited : (l : Loaded) (b later : Situation) (c : Choices) (a : ℕ) (advanced : Advanced) (grant stays : Bool)
    (named : List Subject) → Takes l b a advanced → grant ≡ is_granted c → IsBlocked l b advanced grant → later ≡ b → stays ≡ true →
    named ≡ [] → HasGone l b later c c a stays named
has_waited l b later c a advanced grant stays named takes same blocked unchanged goes nothing =
    subst (λ (n : List Subject). HasGone l b later c c a stays n) (sym nothing)
    (subst (λ (s : Bool). HasGone l b later c c a s []) (sym goes)
    (waits advanced takes (subst (λ (g : Bool). IsBlocked l b advanced g) same blocked) unchanged refl))

-- a commit adds an entry
pub commit_goes_on : (l : Loaded) (b later : Situation) (advanced : Advanced) (grant : Bool) (events : List Event) → IsOwn l b →
    Now l b (λ p m. Commits p b later advanced grant events m) → GoesOn b later
commit_goes_on l b later advanced grant events own commits =
    inr (_, (commits own.filters own.loaded own.board.moment own.board.at).written)
