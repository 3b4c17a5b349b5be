-- The set of frames, as routes change.
use Rattle.std.proofs.Common.{◌≡◌, ◌≤◌, ◌<◌, ◌-◌, ℕ, suc, Bool, true, false, not, ◌&&◌, ◌||◌, ◌==◌, List, [], ◌∷◌, ◌++◌, length, get_or}
use Rattle.std.proofs.Common.{set, Option, Some, None, position, inl, inr, ⊎_elim, refl, sym, ap, ◌∙◌, arith, length-append}
use Rattle.std.specs.BTreeSet.{BTreeSet}
use Rattle.std.specs.List.{list_any, slice_get}
use Rattle.std.specs.Option.{MatchOption}
use Rattle.std.proofs.lemmas.Bool.{cases_eq, cases_lt, lt-ltb}
use Rattle.std.proofs.lemmas.Bool.Decides.{nat_tests}
use Rattle.std.proofs.lemmas.List.{get_or_past, get_or-set_same, get_or-set_other, get_or_append_left, get_or_push}
use Rattle.std.proofs.lemmas.List.Folds.{list_any-append}
use Rattle.std.proofs.lemmas.List.Sums.{position_or_len_is}
use Rattle.flt_model.specs.Moves.{has_frame, is_frame_of, last_frame, without_last, other_frames}
use Rattle.flt_model.specs.World.{Frame, Route, no_route}
use Rattle.pair_set.specs.Pairs.{has, is_pair}
use Rattle.flt_ops.specs.Kept.{AreFramed}
use Rattle.flt_ops.proofs.OtherFrames.{any_pushed, any_pushed_own, any_other, any_left}

-- ---- the last of some frames

-- it is what stands at the end
pub last_is : (frames : List Frame) → last_frame frames ≡ slice_get frames (length frames - 1)
last_is [] = refl
last_is (f ∷ []) = refl
last_is (f ∷ g ∷ frames) =
    let e : length (f ∷ g ∷ frames) - 1 ≡ suc (length (g ∷ frames) - 1) = omega arith in rw e (last_is (g ∷ frames))

-- the frames are the others and it
pub last_split : (frames : List Frame) (f : Frame) → last_frame frames ≡ Some f → frames ≡ without_last frames ++ f ∷ []
last_split [] f h = absurd (cc)
last_split (g ∷ []) f h = let found : Some g ≡ Some f = h in let same : g ≡ f = cc in ap (λ (k : Frame). k ∷ []) same
last_split (g ∷ k ∷ frames) f h = ap (λ (l : List Frame). g ∷ l) (last_split (k ∷ frames) f h)

none_before : (frames : List Frame) → last_frame frames ≡ None → without_last frames ≡ frames
none_before [] h = refl
none_before (g ∷ []) h = absurd (cc)
none_before (g ∷ k ∷ frames) h = ap (λ (l : List Frame). g ∷ l) (none_before (k ∷ frames) h)

-- ---- tests of pairs

itself : (o : ℕ) → (o == o) ≡ true
itself o = grind (arith, nat_tests)

other : (o u : ℕ) → (u ≡ o → ⊥) → (o == u) ≡ false
other o u d = grind (arith, nat_tests)

alike : (g f : ℕ) → f ≡ g → (g == f) ≡ true
alike g f e = grind (arith, nat_tests)

apart : (g f : ℕ) → (f ≡ g → ⊥) → (g == f) ≡ false
apart g f d = grind (arith, nat_tests)

own_pair : (b at was : Bool) → at ≡ true → ((b && at) || was) ≡ (was || (b || false))
own_pair true true true e = refl
own_pair true true false e = refl
own_pair false true true e = refl
own_pair false true false e = refl
own_pair b false was e = absurd (cc)

other_pair : (b at was : Bool) → at ≡ false → ((b && at) || was) ≡ was
other_pair true at was e = rw e refl
other_pair false at was e = refl

gone : (b at was : Bool) → b ≡ true → at ≡ true → (not (b && at) && was) ≡ false
gone b at was e f = rw (e, f) refl

stays_left : (b at was : Bool) → b ≡ false → (not (b && at) && was) ≡ was
stays_left b at was e = rw e refl

stays_right : (b at was : Bool) → at ≡ false → (not (b && at) && was) ≡ was
stays_right true at was e = rw e refl
stays_right false at was e = refl

-- ---- one route of many is changed

module _ (rs : List Route) (s : BTreeSet (ℕ × ℕ)) (was : AreFramed rs s) where
  -- the set follows where it has the frames of the new route, and others as before
  pub framed_set : (o : ℕ) (r : Route) (t : BTreeSet (ℕ × ℕ)) → o < length rs → ((f : ℕ) → has t f o ≡ has_frame f r) →
      ((f u : ℕ) → (u ≡ o → ⊥) → has t f u ≡ has s f u) → AreFramed (set rs o r) t
  framed_set o r t here own others = record {
    each = λ f u.
        elim (cases_eq u o) [
          | inl e ↦ ap (has t f) e ∙ own f ∙ ap (has_frame f) (sym (get_or-set_same rs o r no_route here))
              ∙ ap (λ (w : ℕ). has_frame f (get_or (set rs o r) w no_route)) (sym e)
          | inr d ↦ others f u d ∙ was.each f u ∙ ap (has_frame f) (sym (get_or-set_other rs o u r no_route d))
        ];
  }

  -- it stays where the frames stay
  pub framed_kept : (o : ℕ) (r : Route) → o < length rs → r.frames ≡ (get_or rs o no_route).frames → AreFramed (set rs o r) s
  framed_kept o r here same =
      framed_set o r s here (λ f. was.each f o ∙ ap (list_any (is_frame_of f)) (sym same)) (λ f u d. refl)

  -- a frame more of a filter
  pub framed_more : (o : ℕ) (r : Route) (t : BTreeSet (ℕ × ℕ)) (frame : Frame) → o < length rs →
      r.frames ≡ (get_or rs o no_route).frames ++ frame ∷ [] →
      ((f u : ℕ) → has t f u ≡ (is_pair frame.filter o f u || has s f u)) → AreFramed (set rs o r) t
  framed_more o r t frame here same more =
      framed_set o r t here
      (λ f.
      let pushed = list_any-append (is_frame_of f) (get_or rs o no_route).frames (frame ∷ []) in
      let old = was.each f o in
      more f o ∙ ap (λ (b : Bool). is_pair frame.filter o f o || b) old
      ∙ own_pair (frame.filter == f) (o == o) (has_frame f (get_or rs o no_route)) (itself o) ∙ sym pushed
      ∙ ap (list_any (is_frame_of f)) (sym same))
      (λ f u d. more f u ∙ other_pair (frame.filter == f) (o == u) (has s f u) (other o u d))

  -- a frame less of a filter, of which none is left
  pub framed_less : (o g : ℕ) (r : Route) (t : BTreeSet (ℕ × ℕ)) → o < length rs → has_frame g r ≡ false →
      ((f : ℕ) → (f ≡ g → ⊥) → has_frame f r ≡ has_frame f (get_or rs o no_route)) →
      ((f u : ℕ) → has t f u ≡ (not (is_pair g o f u) && has s f u)) → AreFramed (set rs o r) t
  framed_less o g r t here none same less =
      framed_set o r t here
      (λ f. elim (cases_eq f g) [
        | inl e ↦ less f o ∙ gone (g == f) (o == o) (has s f o) (alike g f e) (itself o) ∙ sym none ∙ ap (λ (h : ℕ). has_frame h r) (sym e)
        | inr d ↦ less f o ∙ stays_left (g == f) (o == o) (has s f o) (apart g f d) ∙ was.each f o ∙ sym (same f d)
      ])
      (λ f u d. less f u ∙ stays_right (g == f) (o == u) (has s f u) (other o u d))

  -- a frame less of a filter, of which another is left
  pub framed_still : (o g : ℕ) (r : Route) → o < length rs → has_frame g r ≡ true → has_frame g (get_or rs o no_route) ≡ true →
      ((f : ℕ) → (f ≡ g → ⊥) → has_frame f r ≡ has_frame f (get_or rs o no_route)) → AreFramed (set rs o r) s
  framed_still o g r here left there same =
      framed_set o r s here
      (λ f. elim (cases_eq f g) [
        | inl e ↦ was.each f o ∙ ap (λ (h : ℕ). has_frame h (get_or rs o no_route)) e ∙ there ∙ sym left
            ∙ ap (λ (h : ℕ). has_frame h r) (sym e)
        | inr d ↦ was.each f o ∙ sym (same f d)
      ])
      (λ f u d. refl)

-- ---- a frame is taken out

module _ (rs : List Route) (s : BTreeSet (ℕ × ℕ)) (was : AreFramed rs s) (o : ℕ) (here : o < length rs) (r : Route) where
  others_popped : (frame : Frame) → last_frame (get_or rs o no_route).frames ≡ Some frame →
      r.frames ≡ without_last (get_or rs o no_route).frames → (f : ℕ) → (f ≡ frame.filter → ⊥) →
      has_frame f r ≡ has_frame f (get_or rs o no_route)
  others_popped frame last others f d =
      ap (list_any (is_frame_of f)) others
      ∙ sym (any_pushed f (without_last (get_or rs o no_route).frames) frame d)
      ∙ ap (list_any (is_frame_of f)) (sym (last_split (get_or rs o no_route).frames frame last))

  -- the last one, of a filter of which none is left
  pub popped_last : (frame : Frame) (t : BTreeSet (ℕ × ℕ)) → last_frame (get_or rs o no_route).frames ≡ Some frame →
      r.frames ≡ without_last (get_or rs o no_route).frames → has_frame frame.filter r ≡ false →
      ((f u : ℕ) → has t f u ≡ (not (is_pair frame.filter o f u) && has s f u)) → AreFramed (set rs o r) t
  popped_last frame t last others none less = framed_less rs s was o frame.filter r t here none (others_popped frame last others) less

  -- the last one, of a filter of which another is left
  pub popped_one : (frame : Frame) → last_frame (get_or rs o no_route).frames ≡ Some frame →
      r.frames ≡ without_last (get_or rs o no_route).frames → has_frame frame.filter r ≡ true → AreFramed (set rs o r) s
  popped_one frame last others left =
      framed_still rs s was o frame.filter r here left
      (ap (list_any (is_frame_of frame.filter)) (last_split (get_or rs o no_route).frames frame last)
      ∙ any_pushed_own (without_last (get_or rs o no_route).frames) frame)
      (others_popped frame last others)

  -- there is none to take off
  pub popped_none : last_frame (get_or rs o no_route).frames ≡ None → r.frames ≡ without_last (get_or rs o no_route).frames →
      AreFramed (set rs o r) s
  popped_none none others = framed_kept rs s was o r here (others ∙ none_before (get_or rs o no_route).frames none)

  -- the first of a filter, of which none is left
  pub taken_last : (g : ℕ) (t : BTreeSet (ℕ × ℕ)) → r.frames ≡ other_frames g (get_or rs o no_route).frames →
      has_frame g r ≡ false → ((f u : ℕ) → has t f u ≡ (not (is_pair g o f u) && has s f u)) → AreFramed (set rs o r) t
  taken_last g t others none less =
      framed_less rs s was o g r t here none
      (λ f e. ap (list_any (is_frame_of f)) others ∙ any_other g (get_or rs o no_route).frames f e) less

  -- the first of a filter, of which another is left
  pub taken_one : (g : ℕ) → r.frames ≡ other_frames g (get_or rs o no_route).frames → has_frame g r ≡ true → AreFramed (set rs o r) s
  taken_one g others left =
      framed_still rs s was o g r here left
      (any_left g (get_or rs o no_route).frames g (ap (list_any (is_frame_of g)) (sym others) ∙ left))
      (λ f e. ap (list_any (is_frame_of f)) others ∙ any_other g (get_or rs o no_route).frames f e)

-- ---- no frames at all, and one more operation

past_push : (rs : List Route) (r : Route) (u : ℕ) → (u ≡ length rs → ⊥) → length rs ≤ u → length (rs ++ r ∷ []) ≤ u
past_push rs r u d l = let k = length-append rs (r ∷ []) in omega arith

-- a new operation has no frame
pub framed_push : (rs : List Route) (s : BTreeSet (ℕ × ℕ)) (r : Route) → AreFramed rs s → r.frames ≡ [] → AreFramed (rs ++ r ∷ []) s
framed_push rs s r was none = record {
  each = λ f u.
      was.each f u ∙ elim (cases_lt u (length rs)) [
        | inl l ↦ ap (has_frame f) (sym (get_or_append_left rs (r ∷ []) no_route u l))
        | inr l ↦ ap (has_frame f) (get_or_past rs u no_route l) ∙ sym (past_pushed f u l)
      ];
}
  where
    past_pushed : (f u : ℕ) → length rs ≤ u → has_frame f (get_or (rs ++ r ∷ []) u no_route) ≡ false
    past_pushed f u l =
        elim (cases_eq u (length rs)) [
          | inl e ↦ ap (has_frame f) (get_or_push rs r no_route u (sym e)) ∙ ap (list_any (is_frame_of f)) none
          | inr d ↦ ap (has_frame f) (get_or_past (rs ++ r ∷ []) u no_route (past_push rs r u d l))
        ]

-- ---- the least operation with a frame of a filter

module _ (f : ℕ) (rs : List Route) where
  within : (k : ℕ) → has_frame f (get_or rs k no_route) ≡ true → k < length rs
  within k here = ⊎_elim (λ l. l) (λ l. absurd (let e = get_or_past rs k no_route l in cc)) (cases_lt k (length rs))

  least_is : (k : ℕ) → has_frame f (get_or rs k no_route) ≡ true →
      ((c : ℕ) → c < k → has_frame f (get_or rs c no_route) ≡ false) → position (has_frame f) rs ≡ Some k
  least_is k here before =
      let l = within k here in
      let e = position_or_len_is (has_frame f) rs k no_route (omega arith) before (λ _. here) in
      rw (e, lt-ltb k (length rs) l) refl

  nowhere : ((c : ℕ) → has_frame f (get_or rs c no_route) ≡ false) → position (has_frame f) rs ≡ None
  nowhere none =
      let e = position_or_len_is (has_frame f) rs (length rs) no_route (omega arith) (λ k l. none k) (λ l. absurd (omega arith)) in
      rw e (grind (arith, nat_tests))

  -- what the set says of a filter is said of the routes
  pub least_framed : (s : BTreeSet (ℕ × ℕ)) (r : Option ℕ) → AreFramed rs s →
      MatchOption r ((c : ℕ) → has s f c ≡ false) (λ k. (has s f k ≡ true) × ((c : ℕ) → c < k → has s f c ≡ false)) →
      r ≡ position (has_frame f) rs
  least_framed s None are h = sym (nowhere (λ c. sym (are.each f c) ∙ h c))
  least_framed s (Some k) are h = sym (least_is k (sym (are.each f k) ∙ h.0) (λ c less. sym (are.each f c) ∙ h.1 c less))
