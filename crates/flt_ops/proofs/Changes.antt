-- What is so of operations, after each kind of change.
use Rattle.std.proofs.Common.{◌≡◌, ◌≤◌, ◌<◌, ℕ, Bool, true, false, not, ◌&&◌, find, List, [], ◌∷◌, ◌++◌, length, get_or}
use Rattle.std.proofs.Common.{set, Some, Option, inl, inr, ⊎_elim, refl, sym, ap, subst, ◌∙◌, arith, length-append}
use Rattle.std.specs.List.{list_any}
use Rattle.std.proofs.lemmas.Bool.{cases_eq, cases_lt}
use Rattle.std.proofs.lemmas.List.{get_or_past, get_or-set_same, get_or-set_other, get_or_append_left, get_or_push, length-set, set_past}
use Rattle.flt_model.specs.Moves.{has_frame, is_frame_of, last_frame, without_last, other_frames}
use Rattle.flt_model.specs.declared.settling.Way.{Way}
use Rattle.flt_model.specs.Settling.{led}
use Rattle.flt_model.specs.declared.parts.Arrival.{Arrival}
use Rattle.flt_model.specs.declared.parts.Outcome.{Outcome}
use Rattle.flt_model.specs.declared.parts.Position.{Position}
use Rattle.flt_model.specs.declared.parts.Position.TheVariants.{Down, Visiting, Up}
use Rattle.flt_model.specs.World.{Frame, Route, Visit, no_route, no_visit}
use Rattle.flt_ops.specs.Kept.{AreOperations, IsWithin}
use Rattle.flt_ops.specs.Operating.{frame_in}
use Rattle.flt_ops.specs.Unsettled.{VisitRows}
use Rattle.flt_ops.proofs.OtherFrames.{any_front, any_left, any_last, found_of, led_within, led_framed}
use Rattle.flt_rules.specs.Limits.{max_operations}

-- one that isn't there is up, so what isn't up is there
pub is_there : (rs : List Route) (o : ℕ) → ((get_or rs o no_route).position ≡ Up → ⊥) → o < length rs
is_there rs o down = ⊎_elim (λ l. l) (λ l. absurd (down (ap (λ (r : Route). r.position) (get_or_past rs o no_route l))))
    (cases_lt o (length rs))

-- a next frame is the last one
pub is_last : (frames : List Frame) (p : Position) (frame : Frame) → frame_in frames p ≡ Some frame → last_frame frames ≡ Some frame
is_last frames (Down f) frame h = absurd (cc)
is_last frames Visiting frame h = absurd (cc)
is_last frames Up frame h = h

both_right : (a b : Bool) → (not a && not b) ≡ true → b ≡ false
both_right true b h = absurd (cc)
both_right false true h = absurd (cc)
both_right false false h = refl

-- a visit that doesn't drain is there
pub is_seen : (visits : List Visit) (v : ℕ) → (get_or visits v no_visit).draining ≡ false → v < length visits
is_seen visits v h = ⊎_elim (λ l. l)
    (λ l. absurd (let e = ap (λ (x : Visit). x.draining) (get_or_past visits v no_visit l) in cc)) (cases_lt v (length visits))

past_push : (rs : List Route) (r : Route) (u : ℕ) → (u ≡ length rs → ⊥) → length rs ≤ u → length (rs ++ r ∷ []) ≤ u
past_push rs r u d l = let k = length-append rs (r ∷ []) in omega arith

module _ (n : ℕ) (arrivals : List Arrival) (rs : List Route) (seen : VisitRows) (was : AreOperations n arrivals rs seen) where
  set_there : (o : ℕ) (r : Route) (P : Route → Type 0) → P r → ((u : ℕ) → P (get_or rs u no_route)) → (u : ℕ) →
      P (get_or (set rs o r) u no_route)
  set_there o r P new old u =
      elim (cases_eq u o) [
        | inl e ↦ elim (cases_lt o (length rs)) [
          | inl l ↦ subst P (sym (ap (λ (k : ℕ). get_or (set rs o r) k no_route) e ∙ get_or-set_same rs o r no_route l)) new
          | inr l ↦ subst P (sym (ap (λ (rows : List Route). get_or rows u no_route) (set_past rs o r l))) (old u)
        ]
        | inr d ↦ subst P (sym (get_or-set_other rs o u r no_route d)) (old u)
      ]

  -- a route is another one, at a place that there is
  pub with_route_set : (o : ℕ) (r : Route) → IsWithin n r.position → ((f : ℕ) → has_frame f r ≡ true → f < n) →
      AreOperations n arrivals (set rs o r) seen
  with_route_set o r within frames = record {
    as_many = was.as_many ∙ sym (length-set rs o r);
    few = let l = length-set rs o r in let few = was.few in omega arith;
    room = let l = length-set rs o r in let room = was.room in omega arith;
    down = set_there o r (λ (q : Route). IsWithin n q.position) within was.down;
    framed = λ f. set_there o r (λ (q : Route). has_frame f q ≡ true → f < n) (frames f) (was.framed f);
    visited = was.visited;
  }

  -- a visit more, at a filter
  pub with_visit_pushed : (x : Visit) (settled : List Bool) → x.filter < n →
      AreOperations n arrivals rs (record { room = seen.room; visits = seen.visits ++ x ∷ []; settled = settled })
  with_visit_pushed x settled here = record {
    as_many = was.as_many;
    few = was.few;
    room = was.room;
    down = was.down;
    framed = was.framed;
    visited = λ v l.
        elim (cases_eq v (length seen.visits)) [
          | inl e ↦ rw (get_or_push seen.visits x no_visit v (sym e)) here
          | inr d ↦ let less : v < length seen.visits = before v l d in
              rw (get_or_append_left seen.visits (x ∷ []) no_visit v less) (was.visited v less)
        ];
  }
    where
      before : (v : ℕ) → v < length (seen.visits ++ x ∷ []) → (v ≡ length seen.visits → ⊥) → v < length seen.visits
      before v l d = let k = length-append seen.visits (x ∷ []) in omega arith

  -- a visit is settled
  pub with_settled : (settled : List Bool) →
      AreOperations n arrivals rs (record { room = seen.room; visits = seen.visits; settled = settled })
  with_settled settled = record {
    as_many = was.as_many;
    few = was.few;
    room = was.room;
    down = was.down;
    framed = was.framed;
    visited = was.visited;
  }

  -- an operation more, where there is room for it and its visits
  pub with_arrival_pushed : (a : Arrival) (r : Route) (room : ℕ) → length arrivals < max_operations → length arrivals < room →
      seen.room ≤ room → IsWithin n r.position → r.frames ≡ [] →
      AreOperations n (arrivals ++ a ∷ []) (rs ++ r ∷ []) (record { room = room; visits = seen.visits; settled = seen.settled })
  with_arrival_pushed a r room few here more within none = record {
    as_many = let l = length-append arrivals (a ∷ []) in let k = length-append rs (r ∷ []) in let e = was.as_many in omega arith;
    few = let k = length-append rs (r ∷ []) in let e = was.as_many in omega arith;
    room = let k = length-append rs (r ∷ []) in let e = was.as_many in omega arith;
    down = pushed (λ (q : Route). IsWithin n q.position) within was.down;
    framed = λ f. pushed (λ (q : Route). has_frame f q ≡ true → f < n)
        (λ e. absurd (let g = ap (list_any (is_frame_of f)) none in cc)) (was.framed f);
    visited = was.visited;
  }
    where
      pushed : (P : Route → Type 0) → P r → ((u : ℕ) → P (get_or rs u no_route)) → (u : ℕ) → P (get_or (rs ++ r ∷ []) u no_route)
      pushed P new old u =
          elim (cases_eq u (length rs)) [
            | inl e ↦ subst P (sym (get_or_push rs r no_route u (sym e))) new
            | inr d ↦ elim (cases_lt u (length rs)) [
              | inl l ↦ subst P (sym (get_or_append_left rs (r ∷ []) no_route u l)) (old u)
              | inr l ↦ subst P (get_or_past rs u no_route l ∙ sym (get_or_past (rs ++ r ∷ []) u no_route (past_push rs r u d l))) (old u)
            ]
          ]

  -- more room for visits alone
  pub with_room : (room : ℕ) → seen.room ≤ room →
      AreOperations n arrivals rs (record { room = room; visits = seen.visits; settled = seen.settled })
  with_room room more = record {
    as_many = was.as_many;
    few = was.few;
    room = let here = was.room in omega arith;
    down = was.down;
    framed = was.framed;
    visited = was.visited;
  }

-- ---- the calls, each with its changes together

module _ (n : ℕ) (arrivals : List Arrival) (rs : List Route) (seen : VisitRows) (was : AreOperations n arrivals rs seen) (o : ℕ) where
  -- the operation stands elsewhere
  pub position_kept : (p : Position) → IsWithin n p →
      AreOperations n arrivals (set rs o (record (get_or rs o no_route) { position = p })) seen
  position_kept p within = with_route_set n arrivals rs seen was o (record (get_or rs o no_route) { position = p }) within
      (λ f. was.framed f o)

  -- it ends, with an outcome
  pub end_kept : (outcome : Option Outcome) →
      AreOperations n arrivals (set rs o (record (get_or rs o no_route) { position = Up; outcome = outcome })) seen
  end_kept outcome = with_route_set n arrivals rs seen was o
      (record (get_or rs o no_route) { position = Up; outcome = outcome }) tt (λ f. was.framed f o)

  -- it is cancelled
  pub cancel_kept : AreOperations n arrivals (set rs o (record (get_or rs o no_route) { cancelled = true })) seen
  cancel_kept = with_route_set n arrivals rs seen was o (record (get_or rs o no_route) { cancelled = true }) (was.down o)
      (λ f. was.framed f o)

  -- it is led from a filter
  pub lead_kept : (f : ℕ) (x : Option ℕ) (way : Way) → f < n → AreOperations n arrivals (set rs o (led f x way (get_or rs o no_route))) seen
  lead_kept f x way l =
      with_route_set n arrivals rs seen was o (led f x way (get_or rs o no_route))
      (led_within n f x way (get_or rs o no_route) l (was.down o)) (led_framed n f x way (get_or rs o no_route) l (λ g. was.framed g o))

  -- a visit before the filters below begins
  pub pre_kept : (x : Visit) (settled : List Bool) → x.filter < n →
      AreOperations n arrivals (set rs o (record (get_or rs o no_route) { position = Visiting }))
      (record { room = seen.room; visits = seen.visits ++ x ∷ []; settled = settled })
  pre_kept x settled l =
      with_route_set n arrivals rs (record { room = seen.room; visits = seen.visits ++ x ∷ []; settled = settled })
      (with_visit_pushed n arrivals rs seen was x settled l) o (record (get_or rs o no_route) { position = Visiting }) tt
      (λ f. was.framed f o)

  -- a visit after them begins
  pub post_kept : (x : Visit) (settled : List Bool) → x.filter < n →
      AreOperations n arrivals (set rs o (record
      (get_or rs o no_route) { position = Visiting; frames = without_last (get_or rs o no_route).frames }))
      (record { room = seen.room; visits = seen.visits ++ x ∷ []; settled = settled })
  post_kept x settled l =
      with_route_set n arrivals rs (record { room = seen.room; visits = seen.visits ++ x ∷ []; settled = settled })
      (with_visit_pushed n arrivals rs seen was x settled l) o
      (record (get_or rs o no_route) { position = Visiting; frames = without_last (get_or rs o no_route).frames }) tt
      (λ f e. was.framed f o (any_front f (get_or rs o no_route).frames e))

  -- a draining visit begins
  pub drain_kept : (g : ℕ) (x : Visit) (settled : List Bool) → x.filter < n →
      AreOperations n arrivals (set rs o (record
      (get_or rs o no_route) { frames = other_frames g (get_or rs o no_route).frames }))
      (record { room = seen.room; visits = seen.visits ++ x ∷ []; settled = settled })
  drain_kept g x settled l =
      with_route_set n arrivals rs (record { room = seen.room; visits = seen.visits ++ x ∷ []; settled = settled })
      (with_visit_pushed n arrivals rs seen was x settled l) o
      (record (get_or rs o no_route) { frames = other_frames g (get_or rs o no_route).frames }) (was.down o)
      (λ f e. was.framed f o (any_left g (get_or rs o no_route).frames f e))

  -- a frame that is next is of a filter that there is
  pub next_filter : (frame : Frame) → frame_in (get_or rs o no_route).frames (get_or rs o no_route).position ≡ Some frame → frame.filter < n
  next_filter frame next =
      was.framed frame.filter o (any_last (get_or rs o no_route).frames frame
      (is_last (get_or rs o no_route).frames (get_or rs o no_route).position frame next))

  -- and so is one that is found
  pub found_filter : (g : ℕ) (frame : Frame) → find (is_frame_of g) (get_or rs o no_route).frames ≡ Some frame → frame.filter < n
  found_filter g frame found =
      let facts = found_of g (get_or rs o no_route).frames frame found in
      let there = was.framed g o facts.1 in
      let same = facts.0 in
      omega arith

  -- and a visit that moves its operation
  pub led_filter : (v : ℕ) → (not (get_or seen.settled v true) && not (get_or seen.visits v no_visit).draining) ≡ true →
      (get_or seen.visits v no_visit).filter < n
  led_filter v moves = was.visited v (is_seen seen.visits v
      (both_right (get_or seen.settled v true) (get_or seen.visits v no_visit).draining moves))
