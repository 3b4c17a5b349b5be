-- One callback: where points cover it, what follows from the kept ones alone covers it too, and is below them.
use Rattle.std.proofs.Common.{◌≡◌, ◌<◌, ◌≤◌, ℕ, zero, suc, true, false, List, [], ◌∷◌, length, take, get_or}
use Rattle.std.proofs.Common.{Option, Some, None, Result, Ok, Err, refl, sym, ap, ◌∙◌, subst, arith, inl, inr}
use Rattle.std.specs.Prelude.{◌⊎◌}
use Rattle.std.specs.List.{list_all}
use Rattle.std.proofs.lemmas.Bool.{cases_lt, cases_Bool, and_parts, true≢false}
use Rattle.std.proofs.lemmas.List.{get_or-take, length-take-le, get_or_past}
use Rattle.std.proofs.lemmas.Option.{none-some, same_Some}
use Rattle.flt_rules.specs.declared.rule.Rule.{Rule}
use Rattle.flt_graph.specs.Graph.{points_at, instruction_at}
use Rattle.flt_graph.specs.declared.graph.Graph.{Graph}
use Rattle.flt_abs.specs.State.{State, is_below, is_proper}
use Rattle.flt_abs.specs.Step.{transfer, IsSuccessorBelow, AreBelow, IsOutcomeBelow}
use Rattle.flt_abs.specs.declared.step.Successor.{Successor}
use Rattle.flt_abs.specs.declared.step.Successors.{Successors}
use Rattle.flt_cert.specs.Format.{Point, is_point}
use Rattle.flt_abs.specs.Proper.{IsSuccessorProper}
use Rattle.flt_check.specs.Covering.{IsPointBelow, ArePointsBelow, IsLedIn, StepsIn, IsCovered}
use Rattle.flt_graph.specs.Kept.{edges_of, is_kept, IsRising}
use Rattle.flt_cert.specs.Thin.{slot_of, thin_points}
use Rattle.flt_check.specs.Full.{reached_by, reached_from, followed, filled_in, full_points}
use Rattle.flt_check.proofs.Thin.Known.{Laws}
use Rattle.flt_check.proofs.Thin.Sides.{sides_of, one_hit, reached_first, reached_second, reached_is}
use Rattle.flt_check.proofs.Thin.Edges.{alone, own_edges, other_of, followed_at, Source, source}
use Rattle.flt_check.proofs.Thin.Filled.{length-full, full_at, length-thin, thin_at}

-- a point is below another, and its state has no empty set
abbrev Good : Point → Point → Type 0
Good (Some x) (Some y) = (is_below x y ≡ true) × (is_proper x ≡ true)
Good (Some x) None = ⊥
Good None b = Unit {0}

-- where it is reached, so is the other, with a state above
record Above (x : State) (b : Point) : Type 0 where
  state : State
  there : b ≡ Some state
  below : is_below x state ≡ true
  proper : is_proper x ≡ true

above : (a b : Point) (x : State) → Good a b → a ≡ Some x → Above x b
above (Some y) (Some z) x h e =
    let same : y ≡ x = same_Some y x e in
    record {
      state = z;
      there = refl;
      below = subst (λ s. is_below s z ≡ true) same h.0;
      proper = subst (λ s. is_proper s ≡ true) same h.1;
    }
above (Some y) None x h e = absurd h
above None b x h e = absurd (none-some x e)

good_from : (x y : State) (b : Point) → b ≡ Some y → is_below x y ≡ true → is_proper x ≡ true → Good (Some x) b
good_from x y b e h k = subst (λ c. Good (Some x) c) (sym e) (h, k)

point_below : (a b : Point) → Good a b → IsPointBelow a b
point_below (Some x) (Some y) h = h.0
point_below (Some x) None h = absurd h
point_below None b h = tt

-- the state at a point has no empty set
pub proper_at : (points : List Point) (p : ℕ) (x : State) → list_all is_point points ≡ true → get_or points p None ≡ Some x →
    is_proper x ≡ true
proper_at [] p x h e = absurd (none-some x e)
proper_at (q ∷ points) zero x h e = subst (λ c. is_point c ≡ true) e (and_parts (is_point q) (list_all is_point points) h).0
proper_at (q ∷ points) (suc p) x h e = proper_at points p x (and_parts (is_point q) (list_all is_point points) h).1 e

within_points : (points : List Point) (p : ℕ) (x : State) → get_or points p None ≡ Some x → p < length points
within_points points p x e = by (cases_lt p (length points))
  where
    by : ((p < length points) ⊎ (length points ≤ p)) → p < length points
    by (inl l) = l
    by (inr past) = absurd (none-some x (sym (get_or_past points p None past) ∙ e))

-- ---- where a state below leads

ok_below : (a b : Result Successors Rule) (up : Successors) → IsOutcomeBelow a b → b ≡ Ok up → (next : Successors) × (a ≡ Ok next)
ok_below a b up h e = by a refl (subst (λ r. IsOutcomeBelow a r) e h)
  where
    by : (r : Result Successors Rule) → a ≡ r → IsOutcomeBelow r (Ok up) → (next : Successors) × (a ≡ Ok next)
    by (Ok next) is k = (next, is)
    by (Err r) is k = absurd k

below_ok : (a b : Result Successors Rule) (next up : Successors) → IsOutcomeBelow a b → a ≡ Ok next → b ≡ Ok up → AreBelow next up
below_ok a b next up h e k = subst (λ r. IsOutcomeBelow r (Ok up)) e (subst (λ r. IsOutcomeBelow a r) k h)

-- a successor below one that is led is led there too
record Led (points : List Point) (s : Successor) : Type 0 where
  state : State
  there : get_or points s.point None ≡ Some state
  below : is_below s.state state ≡ true

led_below : (laws : Laws) (points : List Point) (s : Successor) (o : Option Successor) → IsSuccessorBelow (Some s) o → IsLedIn points o →
    Led points s
led_below laws points s (Some t) h k =
    record {
      state = k.0;
      there = ap (λ p. get_or points p None) h.0 ∙ k.1;
      below = laws.transitive s.state t.state k.0 h.1 k.2;
    }
led_below laws points s None h k = absurd h

-- nor has that of a successor
pub proper_of : (s : Successor) (o : Option Successor) → IsSuccessorProper o → o ≡ Some s → is_proper s.state ≡ true
proper_of s o h e = subst (λ q. IsSuccessorProper q) e h

-- ---- one callback

-- the points that follow from the kept ones
abbrev pub again : Graph → ℕ → List Point → List Point
again g callback points = full_points g callback (thin_points g callback 0 points)

-- as many points
pub length-again : (g : Graph) (callback : ℕ) (points : List Point) → length (again g callback points) ≡ length points
length-again g callback points = length-full g callback (thin_points g callback 0 points) ∙ length-thin g callback 0 points

again_at : (g : Graph) (callback : ℕ) (points : List Point) (p : ℕ) → p < length points →
    get_or (again g callback points) p None ≡
    filled_in g callback (take p (again g callback points)) (slot_of (is_kept g callback p) (get_or points p None))
again_at g callback points p h =
    let long = length-thin g callback 0 points in
    full_at g callback (thin_points g callback 0 points) p (omega arith)
    ∙ ap (λ s. filled_in g callback (take p (again g callback points)) s) (thin_at g callback 0 points p p (omega arith) h)

-- a kept point stays
pub kept_at : (g : Graph) (callback : ℕ) (points : List Point) (p : ℕ) → p < length points → is_kept g callback p ≡ true →
    get_or (again g callback points) p None ≡ get_or points p None
kept_at g callback points p h k =
    again_at g callback points p h
    ∙ ap (λ b. filled_in g callback (take p (again g callback points)) (slot_of b (get_or points p None))) k

-- another follows from those before it
other_at : (g : Graph) (callback : ℕ) (points : List Point) (p : ℕ) → p < length points → is_kept g callback p ≡ false →
    get_or (again g callback points) p None ≡ followed g callback p 0 (take p (again g callback points))
other_at g callback points p h k =
    let long = length-again g callback points in
    again_at g callback points p h
    ∙ (ap (λ b. filled_in g callback (take p (again g callback points)) (slot_of b (get_or points p None))) k
    ∙ ap (λ n. followed g callback n 0 (take p (again g callback points))) (length-take-le p (again g callback points) (omega arith)))

module _ (laws : Laws) (g : Graph) (callback : ℕ) (points : List Point) (covered : IsCovered g callback points)
    (proper : list_all is_point points ≡ true) where
  own_good : (b : Point) → ((x : State) → b ≡ Some x → is_proper x ≡ true) → Good b b
  own_good (Some x) h = (laws.reflexive x, h x refl)
  own_good None h = tt

  -- a point that follows is below, where those before it are
  source_good : (p : ℕ) (x : State) → p < length points →
      ((q : ℕ) → q < p → Good (get_or (again g callback points) q None) (get_or points q None)) →
      Source g callback p 0 (take p (again g callback points)) x → Good (Some x) (get_or points p None)
  source_good p x within before s =
      let long = length-again g callback points in
      let front : length (take p (again g callback points)) ≡ p = length-take-le p (again g callback points) (omega arith) in
      let less : s.place < p = (let a = s.within in omega arith) in
      let same : s.number ≡ s.place = (let a = s.counted in omega arith) in
      let here : get_or (again g callback points) s.place None ≡ Some s.state =
      sym (get_or-take p (again g callback points) s.place None less) ∙ s.there in
      let up = above (get_or (again g callback points) s.place None) (get_or points s.place None) s.state (before s.place less) here in
      let count = covered.count in
      let steps = covered.steps s.place up.state (omega arith) up.there in
      let reached : reached_by p (transfer g callback s.place s.state) ≡ Some x =
      subst (λ m. reached_by p (transfer g callback m s.state) ≡ Some x) same s.reached in
      let by_one = reached_is p (transfer g callback s.place s.state) x reached in
      let under : AreBelow by_one.0 steps.0 = below_ok (transfer g callback s.place s.state)
      (transfer g callback s.place up.state) by_one.0 steps.0
      (laws.monotone g callback s.place s.state up.state up.proper up.below) by_one.1 steps.1 in
      let both_proper = laws.proper g callback s.place s.state by_one.0 up.proper by_one.1 in
      let side = by_one.2.side in
      let done : Led points side → is_proper side.state ≡ true → Good (Some x) (get_or points p None) =
      λ l k. subst (λ y. Good (Some y) (get_or points p None)) by_one.2.state
      (good_from side.state l.state (get_or points p None)
      (ap (λ q. get_or points q None) (sym by_one.2.point) ∙ l.there) l.below k) in
      elim by_one.2.which [
        | inl e ↦ done
            (led_below laws points side steps.0.first (subst (λ o. IsSuccessorBelow o steps.0.first) e under.first) steps.2)
            (proper_of side by_one.0.first both_proper.first e)
        | inr e ↦ done
            (led_below laws points side steps.0.second (subst (λ o. IsSuccessorBelow o steps.0.second) e under.second) steps.3)
            (proper_of side by_one.0.second both_proper.second e)
      ]

  point_good : (p : ℕ) → ((q : ℕ) → q < p → Good (get_or (again g callback points) q None) (get_or points q None)) →
      Good (get_or (again g callback points) p None) (get_or points p None)
  point_good p before = by_place (cases_lt p (length points))
    where
      followed_good : p < length points → (o : Point) → followed g callback p 0 (take p (again g callback points)) ≡ o →
          Good o (get_or points p None)
      followed_good within None e = tt
      followed_good within (Some x) e = source_good p x within before (source g callback p 0 (take p (again g callback points)) x e)

      by_kept : p < length points → ((is_kept g callback p ≡ true) ⊎ (is_kept g callback p ≡ false)) →
          Good (get_or (again g callback points) p None) (get_or points p None)
      by_kept within (inl k) = subst (λ a. Good a (get_or points p None)) (sym (kept_at g callback points p within k))
          (own_good (get_or points p None) (λ x e. proper_at points p x proper e))
      by_kept within (inr k) = subst (λ a. Good a (get_or points p None)) (sym (other_at g callback points p within k))
          (followed_good within (followed g callback p 0 (take p (again g callback points))) refl)

      by_place : ((p < length points) ⊎ (length points ≤ p)) → Good (get_or (again g callback points) p None) (get_or points p None)
      by_place (inl within) = by_kept within (cases_Bool (is_kept g callback p))
      by_place (inr past) =
          let long = length-again g callback points in
          subst (λ a. Good a (get_or points p None)) (sym (get_or_past (again g callback points) p None (omega arith))) tt

  good_below : (n p : ℕ) → p < n → Good (get_or (again g callback points) p None) (get_or points p None)
  good_below zero p h = absurd (omega arith)
  good_below (suc n) p h = by (cases_lt p n) (λ q less. good_below n q less)
    where
      by : ((p < n) ⊎ (n ≤ p)) → ((q : ℕ) → q < n → Good (get_or (again g callback points) q None) (get_or points q None)) →
          Good (get_or (again g callback points) p None) (get_or points p None)
      by (inl l) before = before p l
      by (inr m) before = point_good p (λ q less. before q (omega arith))

  good : (p : ℕ) → Good (get_or (again g callback points) p None) (get_or points p None)
  good p = good_below (suc p) p (omega arith)

  -- what follows from the kept points is below the points
  pub again_below : ArePointsBelow (again g callback points) points
  again_below p = point_below (get_or (again g callback points) p None) (get_or points p None) (good p)

  -- ---- what follows covers

  module _ (rising : IsRising g) where
    -- a point that isn't kept has the state with which its one predecessor leads to it
    led_other : (p : ℕ) (x : State) (next : Successors) (s : Successor) → get_or (again g callback points) p None ≡ Some x →
        transfer g callback p x ≡ Ok next → ((next.first ≡ Some s) ⊎ (next.second ≡ Some s)) → s.point < length points →
        is_kept g callback s.point ≡ false →
        get_or (again g callback points) s.point None ≡ Some s.state
    led_other p x next s here gone which within k =
        let other = other_of g callback s.point k in
        let few = other.few in
        let most = sides_of g callback p x next s.point gone in
        let own = own_edges g callback p s.point in
        let has : 0 < edges_of (instruction_at g callback p) s.point = elim which [
          | inl e ↦ (let one = one_hit s.point next.first s e refl in omega arith)
          | inr e ↦ (let one = one_hit s.point next.second s e refl in omega arith)
        ] in
        let onwards : p < s.point = elim (rising callback p s.point has) [
          | inl l ↦ l
          | inr turn ↦ absurd (true≢false (sym turn ∙ other.plain))
        ] in
        let long = length-again g callback points in
        let front : length (take s.point (again g callback points)) ≡ s.point =
        length-take-le s.point (again g callback points) (omega arith) in
        let first = followed_at g callback s.point 0 (take s.point (again g callback points)) p p (omega arith) (omega arith) has
        (λ m low high. alone g callback s.point p m few has (λ e. omega arith)) in
        let state : get_or (take s.point (again g callback points)) p None ≡ Some x =
        get_or-take s.point (again g callback points) p None onwards ∙ here in
        let by_next : reached_by s.point (Ok next) ≡ Some s.state = elim which [
          | inl e ↦ reached_first s.point next s e refl
          | inr e ↦ reached_second s.point next s e refl (omega arith)
        ] in
        other_at g callback points s.point within k
        ∙ (first ∙ (ap (λ o. reached_from g callback p s.point o) state
        ∙ (ap (λ r. reached_by s.point r) gone ∙ by_next)))

    led_again : (p : ℕ) (x : State) (next : Successors) → get_or (again g callback points) p None ≡ Some x →
        transfer g callback p x ≡ Ok next → (o other : Option Successor) → ((next.first ≡ o) ⊎ (next.second ≡ o)) →
        IsSuccessorBelow o other → IsLedIn points other → IsLedIn (again g callback points) o
    led_again p x next here gone None other which h k = tt
    led_again p x next here gone (Some s) other which h k =
        let l = led_below laws points s other h k in
        let within = within_points points s.point l.state l.there in
        elim (cases_Bool (is_kept g callback s.point)) [
          | inl kept ↦ (l.state, kept_at g callback points s.point within kept ∙ l.there, l.below)
          | inr apart ↦ (s.state, led_other p x next s here gone which within apart, laws.reflexive s.state)
        ]

    steps_again : (p : ℕ) (x : State) → p < points_at g callback → get_or (again g callback points) p None ≡ Some x →
        StepsIn g callback p x (again g callback points)
    steps_again p x within here =
        let up = above (get_or (again g callback points) p None) (get_or points p None) x (good p) here in
        let steps = covered.steps p up.state within up.there in
        let under = laws.monotone g callback p x up.state up.proper up.below in
        let low = ok_below (transfer g callback p x) (transfer g callback p up.state) steps.0 under steps.1 in
        let both = below_ok (transfer g callback p x) (transfer g callback p up.state) low.0 steps.0 under low.1 steps.1 in (
          low.0,
          low.1,
          led_again p x low.0 here low.1 low.0.first steps.0.first (inl refl) both.first steps.2,
          led_again p x low.0 here low.1 low.0.second steps.0.second (inr refl) both.second steps.3,
        )

    -- where points cover a callback, what follows from the kept ones covers it
    pub again_covered : IsCovered g callback (again g callback points)
    again_covered =
        let long = length-again g callback points in
        let entered = covered.entered in
        record {
          count = covered.count ∙ sym long;
          entered = (
            entered.0,
            kept_at g callback points 0 (within_points points 0 entered.0 entered.1) refl ∙ entered.1,
            entered.2,
          );
          steps = steps_again;
        }
