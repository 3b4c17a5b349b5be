-- Frames of which one is taken out: the last, or the first of a filter.
use Rattle.std.proofs.Common.{◌≡◌, ◌≤◌, ◌<◌, ◌+◌, ℕ, Bool, true, false, ◌||◌, ◌==◌, List, [], ◌∷◌, ◌++◌, length}
use Rattle.std.proofs.Common.{get_or, find, Option, Some, None, inl, inr, cond, refl, sym, ap, ◌∙◌, arith}
use Rattle.std.specs.List.{list_any, position_or_len, before_first, after_first}
use Rattle.std.proofs.lemmas.Bool.{cases_eq, cases_lt}
use Rattle.std.proofs.lemmas.Bool.Decides.{nat_tests}
use Rattle.std.proofs.lemmas.List.{take_all, drop_all, append-nil}
use Rattle.std.proofs.lemmas.List.Folds.{list_any-append}
use Rattle.std.proofs.lemmas.List.Sums.{split_at_first, passes_at_first}
use Rattle.flt_model.specs.Moves.{has_frame, is_frame_of, last_frame, without_last, other_frames}
use Rattle.flt_model.specs.declared.settling.Way.TheVariants.{Passes, Frames, Ends, Rises, Stays}
use Rattle.flt_model.specs.declared.settling.Way.{Way}
use Rattle.flt_model.specs.Settling.{led}
use Rattle.flt_model.specs.World.{Frame, Route}
use Rattle.flt_ops.specs.Kept.{IsWithin}

either_left : (a b : Bool) → a ≡ true → (a || b) ≡ true
either_left a b e = rw e refl

either_right : (a b : Bool) → b ≡ true → (a || b) ≡ true
either_right true b e = refl
either_right false b e = e

left_or : (a b c d : Bool) → (b ≡ true → d ≡ true) → (a || b) ≡ true → (a || d) ≡ true
left_or true b c d h e = refl
left_or false b c d h e = h e

is_one : (f g : ℕ) → (f == g) ≡ true → f ≡ g
is_one f g h = grind (arith, nat_tests)

is_another : (f g : ℕ) → (f ≡ g → ⊥) → (f == g) ≡ false
is_another f g d = grind (arith, nat_tests)

itself : (f : ℕ) → (f == f) ≡ true
itself f = grind (arith, nat_tests)

-- ---- the last one

-- what is of a filter among the others is so among all
pub any_front : (f : ℕ) (frames : List Frame) → list_any (is_frame_of f) (without_last frames) ≡ true →
    list_any (is_frame_of f) frames ≡ true
any_front f [] h = h
any_front f (g ∷ []) h = absurd (cc)
any_front f (g ∷ k ∷ frames) h =
    left_or (is_frame_of f g) (list_any (is_frame_of f) (without_last (k ∷ frames))) true (list_any (is_frame_of f) (k ∷ frames))
    (any_front f (k ∷ frames)) h

-- the last frame is one of them
pub any_last : (frames : List Frame) (frame : Frame) → last_frame frames ≡ Some frame → list_any (is_frame_of frame.filter) frames ≡ true
any_last [] frame h = absurd (cc)
any_last (g ∷ []) frame h =
    let e : g ≡ frame = cc in
    either_left (is_frame_of frame.filter g) false (ap (λ (k : Frame). k.filter == frame.filter) e ∙ itself frame.filter)
any_last (g ∷ k ∷ frames) frame h =
    either_right (is_frame_of frame.filter g) (list_any (is_frame_of frame.filter) (k ∷ frames)) (any_last (k ∷ frames) frame h)

-- with a last frame of another filter more, as many filters as without
pub any_pushed : (f : ℕ) (frames : List Frame) (frame : Frame) → (f ≡ frame.filter → ⊥) →
    list_any (is_frame_of f) (frames ++ frame ∷ []) ≡ list_any (is_frame_of f) frames
any_pushed f frames frame d =
    list_any-append (is_frame_of f) frames (frame ∷ [])
    ∙ none_more (list_any (is_frame_of f) frames) (is_frame_of f frame) (is_another frame.filter f (λ e. d (sym e)))
  where
    none_more : (a b : Bool) → b ≡ false → (a || (b || false)) ≡ a
    none_more true b e = refl
    none_more false b e = rw e refl

-- a last frame is of its filter
pub any_pushed_own : (frames : List Frame) (frame : Frame) → list_any (is_frame_of frame.filter) (frames ++ frame ∷ []) ≡ true
any_pushed_own frames frame =
    list_any-append (is_frame_of frame.filter) frames (frame ∷ [])
    ∙ either_right (list_any (is_frame_of frame.filter) frames) (is_frame_of frame.filter frame || false)
    (either_left (is_frame_of frame.filter frame) false (itself frame.filter))

-- ---- the first of a filter

-- a frame that isn't there
abbrev no_frame : Frame
no_frame = record { filter = 0; context = None }

module _ (g : ℕ) (frames : List Frame) where
  none_goes : length frames ≤ position_or_len (is_frame_of g) frames → other_frames g frames ≡ frames
  none_goes l =
      let front = take_all (position_or_len (is_frame_of g) frames) frames l in
      let back = drop_all (position_or_len (is_frame_of g) frames + 1) frames (omega arith) in
      rw (front, back) (append-nil frames)

  middle : (a t b : Bool) → t ≡ false → (a || b) ≡ (a || (t || b))
  middle a t b e = rw e refl

  middle_more : (a t b : Bool) → (a || b) ≡ true → (a || (t || b)) ≡ true
  middle_more true t b h = refl
  middle_more false true b h = refl
  middle_more false false b h = h

  module _ (d : Frame) (l : position_or_len (is_frame_of g) frames < length frames) where
    split : (f : ℕ) → list_any (is_frame_of f) frames ≡
        (list_any (is_frame_of f) (before_first (is_frame_of g) frames)
        || (is_frame_of f (get_or frames (position_or_len (is_frame_of g) frames) d)
        || list_any (is_frame_of f) (after_first (is_frame_of g) frames)))
    split f =
        ap (list_any (is_frame_of f)) (split_at_first (is_frame_of g) frames d l)
        ∙ list_any-append (is_frame_of f) (before_first (is_frame_of g) frames)
        (get_or frames (position_or_len (is_frame_of g) frames) d ∷ after_first (is_frame_of g) frames)

    not_of : (f : ℕ) → (f ≡ g → ⊥) → is_frame_of f (get_or frames (position_or_len (is_frame_of g) frames) d) ≡ false
    not_of f differs =
        let e = is_one (get_or frames (position_or_len (is_frame_of g) frames) d).filter g (passes_at_first (is_frame_of g) frames d l) in
        is_another (get_or frames (position_or_len (is_frame_of g) frames) d).filter f (λ h. differs (sym h ∙ e))

  -- of each other filter there are frames as before
  pub any_other : (f : ℕ) → (f ≡ g → ⊥) → list_any (is_frame_of f) (other_frames g frames) ≡ list_any (is_frame_of f) frames
  any_other f differs =
      elim (cases_lt (position_or_len (is_frame_of g) frames) (length frames)) [
        | inl l ↦
            list_any-append (is_frame_of f) (before_first (is_frame_of g) frames) (after_first (is_frame_of g) frames)
            ∙ middle (list_any (is_frame_of f) (before_first (is_frame_of g) frames))
            (is_frame_of f (get_or frames (position_or_len (is_frame_of g) frames) no_frame))
            (list_any (is_frame_of f) (after_first (is_frame_of g) frames)) (not_of no_frame l f differs)
            ∙ sym (split no_frame l f)
        | inr l ↦ ap (list_any (is_frame_of f)) (none_goes l)
      ]

  -- what is of a filter among the others is so among all
  pub any_left : (f : ℕ) → list_any (is_frame_of f) (other_frames g frames) ≡ true → list_any (is_frame_of f) frames ≡ true
  any_left f h =
      elim (cases_lt (position_or_len (is_frame_of g) frames) (length frames)) [
        | inl l ↦
            split no_frame l f
            ∙ middle_more (list_any (is_frame_of f) (before_first (is_frame_of g) frames))
            (is_frame_of f (get_or frames (position_or_len (is_frame_of g) frames) no_frame))
            (list_any (is_frame_of f) (after_first (is_frame_of g) frames))
            (sym (list_any-append (is_frame_of f) (before_first (is_frame_of g) frames) (after_first (is_frame_of g) frames)) ∙ h)
        | inr l ↦ ap (list_any (is_frame_of f)) (sym (none_goes l)) ∙ h
      ]

found_here : (g : ℕ) (k : Frame) (frames : List Frame) (frame : Frame) →
    ((find (is_frame_of g) frames ≡ Some frame) → (frame.filter ≡ g) × (list_any (is_frame_of g) frames ≡ true)) → (b : Bool) →
    is_frame_of g k ≡ b → cond b (Some k) (find (is_frame_of g) frames) ≡ Some frame → (frame.filter ≡ g)
    × (list_any (is_frame_of g) (k ∷ frames) ≡ true)
found_here g k frames frame rest true e h =
    let found : Some k ≡ Some frame = h in
    let same : k ≡ frame = cc in (
      is_one frame.filter g (ap (λ (q : Frame). q.filter == g) (sym same) ∙ e),
      either_left (is_frame_of g k) (list_any (is_frame_of g) frames) e,
    )
found_here g k frames frame rest false e h =
    let others = rest h in
    (others.0, either_right (is_frame_of g k) (list_any (is_frame_of g) frames) others.1)

-- a frame that is found is of the filter, and is one of them
pub found_of : (g : ℕ) (frames : List Frame) (frame : Frame) → find (is_frame_of g) frames ≡ Some frame → (frame.filter ≡ g)
    × (list_any (is_frame_of g) frames ≡ true)
found_of g [] frame h = absurd (cc)
found_of g (k ∷ frames) frame h = found_here g k frames frame (found_of g frames frame) (is_frame_of g k) refl h

-- ---- an operation is led from a filter

-- it is still at a filter, or right below the last
pub led_within : (n f : ℕ) (x : Option ℕ) (way : Way) (r : Route) → f < n → IsWithin n r.position → IsWithin n (led f x way r).position
led_within n f x Passes r l h = omega arith
led_within n f x Frames r l h = omega arith
led_within n f x (Ends outcome) r l h = tt
led_within n f x Rises r l h = tt
led_within n f x Stays r l h = h

-- its frames are of filters that there are
pub led_framed : (n f : ℕ) (x : Option ℕ) (way : Way) (r : Route) → f < n → ((g : ℕ) → has_frame g r ≡ true → g < n) → (g : ℕ) →
    has_frame g (led f x way r) ≡ true → g < n
led_framed n f x Passes r l h g e = h g e
led_framed n f x Frames r l h g e =
    elim (cases_eq g f) [
      | inl same ↦ omega arith
      | inr differs ↦ h g (sym (any_pushed g r.frames (record { filter = f; context = x }) differs) ∙ e)
    ]
led_framed n f x (Ends outcome) r l h g e = h g e
led_framed n f x Rises r l h g e = h g e
led_framed n f x Stays r l h g e = h g e
