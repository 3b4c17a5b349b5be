-- What each look of a walk keeps, and what its end and its stop mean.
use Rattle.std.proofs.Common.{◌≡◌, ◌<◌, ◌≤◌, ◌+◌, ◌-◌, ℕ, Bool, true, false, List, length, get_or, nat_lt}
use Rattle.std.proofs.Common.{Option, Some, None, Result, Ok, Err, refl, sym, ap, ◌∙◌, arith, inl, inr}
use Rattle.std.proofs.Math.Path.{subst}
use Rattle.std.proofs.Math.ListN.{get_or-eq_default}
use Rattle.std.specs.Prelude.{◌⊎◌, if◌then◌else◌}
use Rattle.flt_rules.specs.Held.{same_locks}
use Rattle.std.proofs.lemmas.Bool.{and_parts, cases_eq, ltb-true, ltb-false, true≢false}
use Rattle.std.proofs.lemmas.List.{get_or-set_same, get_or-set_other, length-set}
use Rattle.flt_abs.specs.LockLaws.{same_locks_decides}
use Rattle.std.proofs.lemmas.Option.{none-some, same_Some}
use Rattle.flt_rules.specs.declared.rule.Rule.{Rule}
use Rattle.flt_rules.specs.declared.rule.Rule.TheVariants.{R12, R14}
use Rattle.flt_graph.specs.Graph.{points_at}
use Rattle.flt_graph.specs.declared.graph.Graph.{Graph}
use Rattle.flt_abs.specs.State.{State, is_below, is_proper, join_of}
use Rattle.flt_abs.specs.Step.{transfer, IsOutcomeBelow, IsSuccessorBelow}
use Rattle.flt_abs.specs.declared.step.Successor.{Successor}
use Rattle.flt_abs.specs.declared.step.Successors.{Successors}
use Rattle.flt_cert.specs.Format.{Point}
use Rattle.flt_analyse.specs.Columns.{ProperNext, ProperSteps}
use Rattle.flt_check.specs.Covering.{IsLedIn, StepsIn, IsCovered}
use Rattle.flt_analyse.specs.Walk.{arrived, reach_at, reach, then_reach, spread}
use Rattle.flt_analyse.specs.declared.walk.Walk.{Walk}
use Rattle.flt_analyse.proofs.Order.{Laws}
use Rattle.flt_analyse.proofs.Sizes.{bit, bit_one, size, size_least, size_most, join_grows}

-- ---- what stands at a point

abbrev pub found : Walk → ℕ → Option State
found w q = get_or w.points q None

abbrev pub flagged : Walk → ℕ → Bool
flagged w q = get_or w.pending q false

-- how often a point can still grow, and one more where it has never been reached
pub left : Option State → ℕ
left None = 31
left (Some x) = 46 - size x

-- how often a point can still be looked at
abbrev pub due : Walk → ℕ → ℕ
due w q = left (found w q) + bit (flagged w q)

abbrev pub AllProper : Walk → Type 0
AllProper w = (q : ℕ) (x : State) → found w q ≡ Some x → is_proper x ≡ true

abbrev pub IsAwake : Walk → Type 0
IsAwake w = (q : ℕ) → flagged w q ≡ true → (x : State) × (found w q ≡ Some x)

-- what was found is below what others have
abbrev pub Below : Walk → List Point → Type 0
Below w ys = (q : ℕ) (x : State) → found w q ≡ Some x → (y : State) × (get_or ys q None ≡ Some y) × (is_below x y ≡ true)

-- ---- one stage and a later one

pub record Kept (w v : Walk) : Type 0 where
  pub grown : (q : ℕ) (y : State) → found w q ≡ Some y → (z : State) × (found v q ≡ Some z) × (is_below y z ≡ true)
  pub quiet : (q : ℕ) → flagged v q ≡ false → (found v q ≡ found w q) × (flagged w q ≡ false)
  pub proper : AllProper w → AllProper v
  pub awake : IsAwake w → IsAwake v
  pub count : length v.points ≡ length w.points
  pub flags : length v.pending ≡ length w.pending
  pub cheaper : AllProper w → (q : ℕ) → due v q ≤ due w q

kept_same : Laws → (w : Walk) → Kept w w
kept_same laws w = record {
  grown = λ q y e. (y, e, laws.reflexive y);
  quiet = λ q e. (refl, e);
  proper = λ p. p;
  awake = λ p. p;
  count = refl;
  flags = refl;
  cheaper = λ p q. omega arith;
}

kept_then : Laws → (w v u : Walk) → Kept w v → Kept v u → Kept w u
kept_then laws w v u a b = record {
  grown = λ q y e.
      let one = a.grown q y e in
      let two = b.grown q one.0 one.1 in
      (two.0, two.1, laws.transitive y one.0 two.0 one.2 two.2);
  quiet = λ q e.
      let two = b.quiet q e in
      let one = a.quiet q two.1 in
      (two.0 ∙ one.0, one.1);
  proper = λ p. b.proper (a.proper p);
  awake = λ p. b.awake (a.awake p);
  count = b.count ∙ a.count;
  flags = b.flags ∙ a.flags;
  cheaper = λ p q. let one = a.cheaper p q in let two = b.cheaper (a.proper p) q in omega arith;
}

found_same : (w : Walk) (p : ℕ) (x : State) → p < length w.points → found (arrived w p x) p ≡ Some x
found_same w p x h = get_or-set_same w.points p (Some x) None h

found_other : (w : Walk) (p q : ℕ) (x : State) → (q ≡ p → ⊥) → found (arrived w p x) q ≡ found w q
found_other w p q x h = get_or-set_other w.points p q (Some x) None h

flagged_same : (w : Walk) (p : ℕ) (x : State) → p < length w.pending → flagged (arrived w p x) p ≡ true
flagged_same w p x h = get_or-set_same w.pending p true false h

flagged_other : (w : Walk) (p q : ℕ) (x : State) → (q ≡ p → ⊥) → flagged (arrived w p x) q ≡ flagged w q
flagged_other w p q x h = get_or-set_other w.pending p q true false h

-- what arrives at a point is above what was found there, and there is less to grow
pub record Improves (old : Option State) (x : State) : Type 0 where
  pub above : (y : State) → old ≡ Some y → is_below y x ≡ true
  pub proper : is_proper x ≡ true
  pub less : left (Some x) + 1 ≤ left old

kept_arrived : Laws → (w : Walk) (p : ℕ) (x : State) → p < length w.points → p < length w.pending →
    (AllProper w → Improves (found w p) x) → ((y : State) → found w p ≡ Some y → is_below y x ≡ true) →
    (is_proper x ≡ true) → Kept w (arrived w p x)
kept_arrived laws w p x h k better above good = record {
  grown = λ q y e. grown q y e (cases_eq q p);
  quiet = λ q e. quiet q e (cases_eq q p);
  proper = λ all q y e. proper all q y e (cases_eq q p);
  awake = λ all q e. awake all q e (cases_eq q p);
  count = length-set w.points p (Some x);
  flags = length-set w.pending p true;
  cheaper = λ all q. cheaper (better all) q (cases_eq q p);
}
  where
    grown : (q : ℕ) (y : State) → found w q ≡ Some y → ((q ≡ p) ⊎ (q ≡ p → ⊥)) → (z : State) × (found (arrived w p x) q ≡ Some z)
        × (is_below y z ≡ true)
    grown q y e (inl s) = (x, ap (λ i. found (arrived w p x) i) s ∙ found_same w p x h, above y (sym (ap (λ i. found w i) s) ∙ e))
    grown q y e (inr s) = (y, found_other w p q x s ∙ e, laws.reflexive y)

    quiet : (q : ℕ) → flagged (arrived w p x) q ≡ false → ((q ≡ p) ⊎ (q ≡ p → ⊥)) → (found (arrived w p x) q ≡ found w q)
        × (flagged w q ≡ false)
    quiet q e (inl s) = absurd (true≢false (sym (flagged_same w p x k) ∙ (sym (ap (λ i. flagged (arrived w p x) i) s) ∙ e)))
    quiet q e (inr s) = (found_other w p q x s, sym (flagged_other w p q x s) ∙ e)

    proper : AllProper w → (q : ℕ) (y : State) → found (arrived w p x) q ≡ Some y → ((q ≡ p) ⊎ (q ≡ p → ⊥)) → is_proper y ≡ true
    proper all q y e (inl s) = sym (ap is_proper
        (same_Some x y (sym (found_same w p x h) ∙ (sym (ap (λ i. found (arrived w p x) i) s) ∙ e)))) ∙ good
    proper all q y e (inr s) = all q y (sym (found_other w p q x s) ∙ e)

    awake : IsAwake w → (q : ℕ) → flagged (arrived w p x) q ≡ true → ((q ≡ p) ⊎ (q ≡ p → ⊥)) → (y : State)
        × (found (arrived w p x) q ≡ Some y)
    awake all q e (inl s) = (x, ap (λ i. found (arrived w p x) i) s ∙ found_same w p x h)
    awake all q e (inr s) = let one = all q (sym (flagged_other w p q x s) ∙ e) in (one.0, found_other w p q x s ∙ one.1)

    cheaper : Improves (found w p) x → (q : ℕ) → ((q ≡ p) ⊎ (q ≡ p → ⊥)) → due (arrived w p x) q ≤ due w q
    cheaper better q (inl s) =
        let l : left (found (arrived w p x) q) ≡ left (Some x) = ap left (ap (λ i. found (arrived w p x) i) s ∙ found_same w p x h) in
        let b : bit (flagged (arrived w p x) q) ≡ 1 = ap bit (ap (λ i. flagged (arrived w p x) i) s ∙ flagged_same w p x k) ∙ bit_one in
        let m : left (found w q) ≡ left (found w p) = ap (λ i. left (found w i)) s in
        let n = better.less in omega arith
    cheaper better q (inr s) =
        let l : left (found (arrived w p x) q) ≡ left (found w q) = ap left (found_other w p q x s) in
        let b : bit (flagged (arrived w p x) q) ≡ bit (flagged w q) = ap bit (flagged_other w p q x s) in omega arith

-- ---- a state leads to a point

pub record Reached (w v : Walk) (s : Option Successor) : Type 0 where
  pub kept : Kept w v
  pub led : IsLedIn v.points s
  pub below : (ys : List Point) → Below w ys → IsLedIn ys s → Below v ys

-- what becomes of a stage where a state leads to a point; where it can't, nothing covers
abbrev pub Leading : Walk → Option Successor → Result Walk Rule → Type 0
Leading w s (Ok v) = Reached w v s
Leading w s (Err r) = (ys : List Point) → length ys ≡ length w.points → Below w ys → IsLedIn ys s → ⊥

either_way : (P : Result Walk Rule → Type 0) (b : Bool) (m n : Result Walk Rule) → (b ≡ true → P m) → (b ≡ false → P n) →
    P (if b then m else n)
either_way P true m n f h = f refl
either_way P false m n f h = h refl

below_arrived : Laws → (w : Walk) (p : ℕ) (x : State) (ys : List Point) → p < length w.points → Below w ys →
    ((y : State) × (get_or ys p None ≡ Some y) × (is_below x y ≡ true)) → Below (arrived w p x) ys
below_arrived laws w p x ys h all one q z e = by_point (cases_eq q p)
  where
    by_point : ((q ≡ p) ⊎ (q ≡ p → ⊥)) → (y : State) × (get_or ys q None ≡ Some y) × (is_below z y ≡ true)
    by_point (inl s) =
        let same : x ≡ z = same_Some x z (sym (found_same w p x h) ∙ (sym (ap (λ i. found (arrived w p x) i) s) ∙ e)) in
        (one.0, ap (λ i. get_or ys i None) s ∙ one.1, sym (ap (λ k. is_below k one.0) same) ∙ one.2)
    by_point (inr s) = all q z (sym (found_other w p q x s) ∙ e)

less_first : (x : State) → is_proper x ≡ true → left (Some x) + 1 ≤ left None
unfolding left
less_first x p = let a = size_least x p in let b = size_most x p in omega arith

-- at a point without a state 31 transfers are left
pub left_none : left None ≡ 31
unfolding left
left_none = refl

-- at a point with a proper state at most 30 are left
pub left_some : (x : State) → is_proper x ≡ true → left (Some x) ≤ 30
unfolding left
left_some x p = let a = size_least x p in omega arith

less_join : (x y : State) → is_proper x ≡ true → is_proper (join_of y x) ≡ true → is_proper y ≡ true →
    same_locks y.locks x.locks ≡ true → is_below x y ≡ false → left (Some (join_of y x)) + 1 ≤ left (Some y)
unfolding left
less_join x y p j q e h = let a = join_grows y x q p e h in let b = size_most (join_of y x) j in omega arith

lead_at : Laws → (w : Walk) (next : Successor) (old : Option State) → found w next.point ≡ old → next.point < length w.points →
    length w.points ≤ length w.pending → AllProper w → is_proper next.state ≡ true →
    Leading w (Some next) (reach_at w next old)
lead_at laws w next None e h k all good = record {
  kept = kept_arrived laws w next.point next.state h (omega arith)
      (λ p. record {
        above = λ y s. absurd (none-some y (sym e ∙ s));
        proper = good;
        less = subst (λ o. left (Some next.state) + 1 ≤ left o) (sym e) (less_first next.state good);
      })
      (λ y s. absurd (none-some y (sym e ∙ s))) good;
  led = (next.state, found_same w next.point next.state h, laws.reflexive next.state);
  below = λ ys b one. below_arrived laws w next.point next.state ys h b one;
}
lead_at laws w next (Some y) e h k all good =
    let proper : is_proper y ≡ true = all next.point y e in
    either_way (Leading w (Some next)) (is_below next.state y) (Ok w) _
    (λ s. record { kept = kept_same laws w; led = (y, e, s); below = λ ys b one. b })
    (λ s. either_way (Leading w (Some next)) (same_locks y.locks next.state.locks)
    (Ok (arrived w next.point (join_of y next.state))) (Err R12)
    (λ t. joined proper s t) (λ t. λ ys count b one. parted t ys b one))
  where
    joined : is_proper y ≡ true → is_below next.state y ≡ false → same_locks y.locks next.state.locks ≡ true →
        Reached w (arrived w next.point (join_of y next.state)) (Some next)
    joined proper s t =
        let both = laws.proper y next.state proper in
        let same : y.locks ≡ next.state.locks = (same_locks_decides y.locks next.state.locks).0 t in
        let above = laws.left y next.state proper good in
        let less = less_join next.state y good both proper t s in
        record {
          kept = kept_arrived laws w next.point (join_of y next.state) h (omega arith)
              (λ p. record {
                above = λ z m. ap (λ i. is_below i (join_of y next.state)) (same_Some z y (sym m ∙ e)) ∙ above;
                proper = both;
                less = subst (λ o. left (Some (join_of y next.state)) + 1 ≤ left o) (sym e) less;
              })
              (λ z m. ap (λ i. is_below i (join_of y next.state)) (same_Some z y (sym m ∙ e)) ∙ above) both;
          led = (join_of y next.state, found_same w next.point (join_of y next.state) h, laws.right y next.state proper good same);
          below = λ ys b one.
              let mine = b next.point y e in
              let there : one.0 ≡ mine.0 = same_Some one.0 mine.0 (sym one.1 ∙ mine.1) in
              let own : is_below next.state mine.0 ≡ true = sym (ap (λ i. is_below next.state i) there) ∙ one.2 in
              below_arrived laws w next.point (join_of y next.state) ys h b (mine.0, mine.1, laws.least y next.state mine.0 mine.2 own);
        }

    parted : same_locks y.locks next.state.locks ≡ false → (ys : List Point) → Below w ys → IsLedIn ys (Some next) → ⊥
    parted t ys b one =
        let mine = b next.point y e in
        let there : one.0 ≡ mine.0 = same_Some one.0 mine.0 (sym one.1 ∙ mine.1) in
        let first : y.locks ≡ mine.0.locks =
        (same_locks_decides y.locks mine.0.locks).0 (and_parts (same_locks y.locks mine.0.locks) _ mine.2).0 in
        let second : next.state.locks ≡ one.0.locks =
        (same_locks_decides next.state.locks one.0.locks).0 (and_parts (same_locks next.state.locks one.0.locks) _ one.2).0 in
        let same : y.locks ≡ next.state.locks = first ∙ (sym (ap (λ (i : State). i.locks) there) ∙ sym second) in
        true≢false (sym ((same_locks_decides y.locks next.state.locks).1 same) ∙ t)

pub lead : Laws → (w : Walk) (s : Option Successor) → length w.points ≤ length w.pending → AllProper w → ProperNext s →
    Leading w s (reach w s)
lead laws w None k all good = record { kept = kept_same laws w; led = tt; below = λ ys b one. b }
lead laws w (Some next) k all good =
    either_way (Leading w (Some next)) (nat_lt next.point (length w.points)) (reach_at w next (found w next.point)) (Err R14)
    (λ e. lead_at laws w next (found w next.point) refl (ltb-true _ _ e) k all good)
    (λ e. λ ys count b one.
    let past : length ys ≤ next.point = (let l = ltb-false next.point (length w.points) e in omega arith) in
    none-some one.0 (sym (get_or-eq_default ys None past) ∙ one.1))

-- ---- a point is looked at

pub record Looked (g : Graph) (callback point : ℕ) (x : State) (w v : Walk) : Type 0 where
  pub kept : Kept w v
  pub steps : StepsIn g callback point x v.points
  pub below : (ys : List Point) → IsCovered g callback ys → Below w ys → Below v ys

abbrev pub Looking : Graph → ℕ → ℕ → State → Walk → Result Walk Rule → Type 0
Looking g callback point x w (Ok v) = Looked g callback point x w v
Looking g callback point x w (Err r) = (ys : List Point) → IsCovered g callback ys → Below w ys → ⊥

led_below : Laws → (ys : List Point) (a b : Option Successor) → IsSuccessorBelow a b → IsLedIn ys b → IsLedIn ys a
led_below laws ys None b h e = tt
led_below laws ys (Some a) None h e = elim h [ ]
led_below laws ys (Some a) (Some b) h e = (e.0, ap (λ i. get_or ys i None) h.0 ∙ e.1, laws.transitive a.state b.state e.0 h.1 e.2)

-- where a successor's state has been led to, it is so still in a later walk
pub led_later : Laws → (w v : Walk) (s : Option Successor) → Kept w v → IsLedIn w.points s → IsLedIn v.points s
led_later laws w v None k h = tt
led_later laws w v (Some next) k h =
    let later = k.grown next.point h.0 h.1 in (later.0, later.1, laws.transitive next.state h.0 later.0 h.2 later.2)

-- what a covering column says of the outcome at a state that is below its own
outcome_led : Laws → (g : Graph) (callback point : ℕ) (x : State) (w : Walk) (ys : List Point) (r : Result Successors Rule) →
    transfer g callback point x ≡ r →
    is_proper x ≡ true → found w point ≡ Some x → point < points_at g callback → IsCovered g callback ys → Below w ys →
    (b : Successors) × IsOutcomeBelow r (Ok b) × IsLedIn ys b.first × IsLedIn ys b.second
outcome_led laws g callback point x w ys r e good at within c b =
    let mine = b point x at in
    let steps = c.steps point mine.0 within mine.1 in
    let low = laws.monotone g callback point x mine.0 good mine.2 in (
      steps.0,
      subst (λ o. IsOutcomeBelow r o) steps.1 (subst (λ o. IsOutcomeBelow o (transfer g callback point mine.0)) e low),
      steps.2,
      steps.3,
    )

second_look : Laws → (g : Graph) (callback point : ℕ) (x : State) (w : Walk) (next : Successors) (m : Result Walk Rule) →
    transfer g callback point x ≡ Ok next →
    is_proper x ≡ true → found w point ≡ Some x → point < points_at g callback → length w.points ≡ points_at g callback →
    length w.points ≤ length w.pending → AllProper w → ProperNext next.second →
    Leading w next.first m → Looking g callback point x w (then_reach m next.second)
second_look laws g callback point x w next (Err r) e good at within count k all p h = λ ys c b.
    let o = outcome_led laws g callback point x w ys (Ok next) e good at within c b in
    h ys (sym c.count ∙ sym count) b (led_below laws ys next.first o.0.first o.1.first o.2)
second_look laws g callback point x w next (Ok v) e good at within count k all p h =
    second_done (reach v next.second) (lead laws v next.second (let a = h.kept.count in let b = h.kept.flags in omega arith)
    (h.kept.proper all) p)
  where
    second_done : (m : Result Walk Rule) → Leading v next.second m → Looking g callback point x w m
    second_done (Ok u) l = record {
      kept = kept_then laws w v u h.kept l.kept;
      steps = (next, e, led_later laws v u next.first l.kept h.led, l.led);
      below = λ ys c b.
          let o = outcome_led laws g callback point x w ys (Ok next) e good at within c b in
          l.below ys (h.below ys b (led_below laws ys next.first o.0.first o.1.first o.2))
          (led_below laws ys next.second o.0.second o.1.second o.3);
    }
    second_done (Err r) l = λ ys c b.
        let o = outcome_led laws g callback point x w ys (Ok next) e good at within c b in
        l ys (sym c.count ∙ (sym count ∙ sym h.kept.count)) (h.below ys b (led_below laws ys next.first o.0.first o.1.first o.2))
        (led_below laws ys next.second o.0.second o.1.second o.3)

-- a look that spreads a point's successors leads to all of them and stays below what covers, or says that nothing does
pub spread_looking : Laws → (g : Graph) (callback point : ℕ) (x : State) (w : Walk) (r : Result Successors Rule) →
    transfer g callback point x ≡ r →
    is_proper x ≡ true → found w point ≡ Some x → point < points_at g callback → length w.points ≡ points_at g callback →
    length w.points ≤ length w.pending → AllProper w → ProperSteps r →
    Looking g callback point x w (spread w r)
spread_looking laws g callback point x w (Err r) e good at within count k all p = λ ys c b.
    (outcome_led laws g callback point x w ys (Err r) e good at within c b).1
spread_looking laws g callback point x w (Ok next) e good at within count k all p =
    second_look laws g callback point x w next (reach w next.first) e good at within count k all p.1 (lead laws w next.first k all p.0)
