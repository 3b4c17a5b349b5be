-- Whole walks: what holds at each stage, and what it means where a walk ends or stops.
use Rattle.std.proofs.Common.{◌≡◌, ◌<◌, ◌≤◌, ◌+◌, ℕ, zero, suc, Bool, true, false, List, [], ◌∷◌, ◌++◌, length}
use Rattle.std.proofs.Common.{get_or, Option, Some, None, Result, Ok, Err, refl, sym, ap, ◌∙◌, arith, inl, inr}
use Rattle.std.proofs.Math.Path.{subst}
use Rattle.std.proofs.Math.ListN.{set, get_or-eq_default}
use Rattle.std.specs.Prelude.{◌⊎◌}
use Rattle.std.specs.List.{list_all}
use Rattle.std.proofs.lemmas.Bool.{and_from, cases_eq, cases_lt, true≢false}
use Rattle.std.proofs.lemmas.List.{get_or-set_same, get_or-set_other, length-set}
use Rattle.std.proofs.lemmas.Option.{same_Some, none-some}
use Rattle.flt_rules.specs.declared.rule.Rule.{Rule}
use Rattle.flt_rules.specs.declared.place.Operation.TheVariants.{Read, Write}
use Rattle.flt_rules.specs.declared.place.Place.{Place}
use Rattle.flt_rules.specs.declared.place.Place.TheVariants.{Pre, Post, Generic}
use Rattle.flt_graph.specs.Graph.{place_at, points_at}
use Rattle.flt_graph.specs.declared.graph.Graph.{Graph}
use Rattle.flt_abs.specs.Entry.{entry}
use Rattle.flt_abs.specs.State.{State, is_below, is_proper}
use Rattle.flt_abs.specs.Step.{transfer}
use Rattle.flt_cert.specs.Format.{Point, is_point}
use Rattle.flt_analyse.specs.Columns.{ProperSteps}
use Rattle.flt_check.specs.Covering.{StepsIn, IsCovered, IsPointBelow, ArePointsBelow}
use Rattle.flt_analyse.specs.Pending.{least, least_from, no_flags}
use Rattle.flt_analyse.specs.Walk.{look, taken, nones, opening, outcome_at, spread}
use Rattle.flt_analyse.specs.declared.walk.Walk.{Walk}
use Rattle.flt_analyse.proofs.Order.{Laws}
use Rattle.flt_analyse.proofs.Sizes.{bit, bit_one, bit_none}
use Rattle.flt_analyse.proofs.Stages.{found, flagged, left, due, AllProper, IsAwake, Below, Kept, Looked}
use Rattle.flt_analyse.proofs.Stages.{Looking, spread_looking, led_later, left_none, left_some}

-- ---- the least flag

least_from_is : (i : ℕ) (set : List Bool) (p : ℕ) → least_from i set ≡ Some p → (q : ℕ) × (p ≡ i + q)
    × (get_or set q false ≡ true) × (q < length set)
least_from_is i [] p e = cc
least_from_is i (true ∷ set) p e = let s : i ≡ p = cc in (0, omega arith, refl, omega arith)
least_from_is i (false ∷ set) p e =
    let one = least_from_is (suc i) set p e in
    let s = one.1 in let l = one.3 in (suc one.0, omega arith, one.2, omega arith)

-- the least flag is up, and is there
pub least_is : (set : List Bool) (p : ℕ) → least set ≡ Some p → (get_or set p false ≡ true) × (p < length set)
least_is set p e =
    let one = least_from_is 0 set p e in
    let s : p ≡ one.0 = (let a = one.1 in omega arith) in
    (ap (λ i. get_or set i false) s ∙ one.2, (let l = one.3 in omega arith))

least_from_none : (i : ℕ) (set : List Bool) → least_from i set ≡ None → (q : ℕ) → get_or set q false ≡ false
least_from_none i [] e q = refl
least_from_none i (true ∷ set) e q = cc
least_from_none i (false ∷ set) e zero = refl
least_from_none i (false ∷ set) e (suc q) = least_from_none (suc i) set e q

pub least_none : (set : List Bool) → least set ≡ None → (q : ℕ) → get_or set q false ≡ false
least_none set e q = least_from_none 0 set e q

-- ---- what holds at each stage

pub record Stage (g : Graph) (callback : ℕ) (w : Walk) : Type 0 where
  pub count : length w.points ≡ points_at g callback
  pub few : points_at g callback ≤ 512
  pub flags : length w.pending ≡ 512
  pub entered : (y : State) × (found w 0 ≡ Some y) × (is_below (entry (place_at g callback)) y ≡ true)
  pub proper : AllProper w
  pub awake : IsAwake w
  pub settled : (q : ℕ) (x : State) → found w q ≡ Some x → flagged w q ≡ false → StepsIn g callback q x w.points
  pub below : (ys : List Point) → IsCovered g callback ys → Below w ys

length-nones : (n : ℕ) → length (nones n) ≡ n
length-nones zero = refl
length-nones (suc n) = ap suc (length-nones n)

one_none_more : (n : ℕ) → nones n ++ None ∷ [] ≡ nones (suc n)
one_none_more zero = refl
one_none_more (suc n) = ap (λ xs. None ∷ xs) (one_none_more n)

-- one point more without a state makes the list of such points longer by one
pub nones_more : (n : ℕ) → nones n ++ None ∷ [] ≡ nones (n + 1)
nones_more n = one_none_more n ∙ ap nones (let a : suc n ≡ n + 1 = omega arith in a)

none_at : (n q : ℕ) → get_or (nones n) q None ≡ None
none_at zero q = refl
none_at (suc n) zero = refl
none_at (suc n) (suc q) = none_at n q

length-no_flags : (n : ℕ) → length (no_flags n) ≡ n
length-no_flags zero = refl
length-no_flags (suc n) = ap suc (length-no_flags n)

no_flag_at : (n q : ℕ) → get_or (no_flags n) q false ≡ false
no_flag_at zero q = refl
no_flag_at (suc n) zero = refl
no_flag_at (suc n) (suc q) = no_flag_at n q

pub entry_proper : (place : Place) → is_proper (entry place) ≡ true
entry_proper (Pre Read) = refl
entry_proper (Pre Write) = refl
entry_proper (Pre o) = refl
entry_proper (Post Read) = refl
entry_proper (Post Write) = refl
entry_proper (Post o) = refl
entry_proper Generic = refl
entry_proper place = refl

opening_first : (g : Graph) (callback : ℕ) → 0 < points_at g callback → found (opening g callback) 0 ≡ Some (entry (place_at g callback))
opening_first g callback h = get_or-set_same (nones (points_at g callback)) 0 (Some (entry (place_at g callback))) None
    (let a = length-nones (points_at g callback) in omega arith)

opening_later : (g : Graph) (callback q : ℕ) → (q ≡ 0 → ⊥) → found (opening g callback) q ≡ None
opening_later g callback q h = get_or-set_other (nones (points_at g callback)) 0 q (Some (entry (place_at g callback))) None h
    ∙ none_at (points_at g callback) q

opening_flag : (g : Graph) (callback : ℕ) → flagged (opening g callback) 0 ≡ true
opening_flag g callback = get_or-set_same (no_flags 512) 0 true false (let a = length-no_flags 512 in omega arith)

opening_flags : (g : Graph) (callback q : ℕ) → (q ≡ 0 → ⊥) → flagged (opening g callback) q ≡ false
opening_flags g callback q h = get_or-set_other (no_flags 512) 0 q true false h ∙ no_flag_at 512 q

-- a walk begins at a stage where all that is kept holds
pub begins : Laws → (g : Graph) (callback : ℕ) → 0 < points_at g callback → points_at g callback ≤ 512 →
    Stage g callback (opening g callback)
begins laws g callback some few = record {
  count = length-set (nones (points_at g callback)) 0 (Some (entry (place_at g callback))) ∙ length-nones (points_at g callback);
  few = few;
  flags = length-set (no_flags 512) 0 true ∙ length-no_flags 512;
  entered = (entry (place_at g callback), opening_first g callback some, laws.reflexive (entry (place_at g callback)));
  proper = λ q x e. proper q x e (cases_eq q 0);
  awake = λ q e. awake q e (cases_eq q 0);
  settled = λ q x e f. settled q x e f (cases_eq q 0);
  below = λ ys c q x e. below ys c q x e (cases_eq q 0);
}
  where
    first_is : (q : ℕ) (x : State) → found (opening g callback) q ≡ Some x → q ≡ 0 → entry (place_at g callback) ≡ x
    first_is q x e s = same_Some _ x (sym (opening_first g callback some) ∙ (sym (ap (λ i. found (opening g callback) i) s) ∙ e))

    proper : (q : ℕ) (x : State) → found (opening g callback) q ≡ Some x → ((q ≡ 0) ⊎ (q ≡ 0 → ⊥)) → is_proper x ≡ true
    proper q x e (inl s) = sym (ap is_proper (first_is q x e s)) ∙ entry_proper (place_at g callback)
    proper q x e (inr s) = absurd (none-some x (sym (opening_later g callback q s) ∙ e))

    awake : (q : ℕ) → flagged (opening g callback) q ≡ true → ((q ≡ 0) ⊎ (q ≡ 0 → ⊥)) → (x : State)
        × (found (opening g callback) q ≡ Some x)
    awake q e (inl s) = (entry (place_at g callback), ap (λ i. found (opening g callback) i) s ∙ opening_first g callback some)
    awake q e (inr s) = absurd (true≢false (sym e ∙ opening_flags g callback q s))

    settled : (q : ℕ) (x : State) → found (opening g callback) q ≡ Some x → flagged (opening g callback) q ≡ false →
        ((q ≡ 0) ⊎ (q ≡ 0 → ⊥)) → StepsIn g callback q x (opening g callback).points
    settled q x e f (inl s) = absurd (true≢false (sym (ap (λ i. flagged (opening g callback) i) s ∙ opening_flag g callback) ∙ f))
    settled q x e f (inr s) = absurd (none-some x (sym (opening_later g callback q s) ∙ e))

    below : (ys : List Point) → IsCovered g callback ys → (q : ℕ) (x : State) → found (opening g callback) q ≡ Some x →
        ((q ≡ 0) ⊎ (q ≡ 0 → ⊥)) → (y : State) × (get_or ys q None ≡ Some y) × (is_below x y ≡ true)
    below ys c q x e (inl s) =
        let one = c.entered in
        (one.0, ap (λ i. get_or ys i None) s ∙ one.1, sym (ap (λ i. is_below i one.0) (first_is q x e s)) ∙ one.2)
    below ys c q x e (inr s) = absurd (none-some x (sym (opening_later g callback q s) ∙ e))

-- ---- a point is taken

taken_flag : (w : Walk) (p : ℕ) → p < length w.pending → flagged (taken w p) p ≡ false
taken_flag w p h = get_or-set_same w.pending p false false h

taken_flags : (w : Walk) (p q : ℕ) → (q ≡ p → ⊥) → flagged (taken w p) q ≡ flagged w q
taken_flags w p q h = get_or-set_other w.pending p q false false h

-- the point that is taken has a state
pub taken_found : (g : Graph) (callback : ℕ) (w : Walk) (p : ℕ) → Stage g callback w → least w.pending ≡ Some p → (x : State)
    × (found w p ≡ Some x)
taken_found g callback w p s e = s.awake p (least_is w.pending p e).0

-- the point that is looked at next is one of the callback's
pub taken_within : (g : Graph) (callback : ℕ) (w : Walk) (p : ℕ) → Stage g callback w → least w.pending ≡ Some p → p < points_at g callback
taken_within g callback w p s e = by_length (cases_lt p (length w.points))
  where
    one : (x : State) × (found w p ≡ Some x)
    one = taken_found g callback w p s e

    by_length : ((p < length w.points) ⊎ (length w.points ≤ p)) → p < points_at g callback
    by_length (inl l) = let a = s.count in omega arith
    by_length (inr l) = absurd (none-some one.0 (sym (get_or-eq_default w.points None l) ∙ one.1))

-- what a look makes of a stage
pub looking : Laws → (g : Graph) (callback : ℕ) (w : Walk) (p : ℕ) → Stage g callback w → least w.pending ≡ Some p →
    ProperSteps (outcome_at g callback p (found w p)) →
    (x : State) × (found w p ≡ Some x) × Looking g callback p x (taken w p) (look g callback p (taken w p))
looking laws g callback w p s e ok =
    let one = taken_found g callback w p s e in
    let steps : ProperSteps (transfer g callback p one.0) = subst (λ o. ProperSteps (outcome_at g callback p o)) one.1 ok in
    let done : Looking g callback p one.0 (taken w p) (spread (taken w p) (transfer g callback p one.0)) =
    spread_looking laws g callback p one.0 (taken w p) (transfer g callback p one.0) refl (s.proper p one.0 one.1) one.1
    (taken_within g callback w p s e) s.count
    (let a = s.count in let b = s.few in let c = s.flags in let d = length-set w.pending p false in omega arith) s.proper steps in
    (one.0, one.1, subst (λ o. Looking g callback p one.0 (taken w p) (spread (taken w p) (outcome_at g callback p o))) (sym one.1) done)

kept_stage : Laws → (g : Graph) (callback : ℕ) (w v : Walk) (p : ℕ) (x : State) → Stage g callback w → least w.pending ≡ Some p →
    found w p ≡ Some x → Looked g callback p x (taken w p) v → Stage g callback v
kept_stage laws g callback w v p x s e at l = record {
  count = l.kept.count ∙ s.count;
  few = s.few;
  flags = l.kept.flags ∙ (length-set w.pending p false ∙ s.flags);
  entered =
      let one = s.entered in
      let later = l.kept.grown 0 one.0 one.1 in
      (later.0, later.1, laws.transitive (entry (place_at g callback)) one.0 later.0 one.2 later.2);
  proper = l.kept.proper s.proper;
  awake = l.kept.awake (λ q f. awake q f (cases_eq q p));
  settled = λ q y f h. settled q y f h (cases_eq q p);
  below = λ ys c. l.below ys c (s.below ys c);
}
  where
    here : p < length w.pending
    here = (least_is w.pending p e).1

    awake : (q : ℕ) → flagged (taken w p) q ≡ true → ((q ≡ p) ⊎ (q ≡ p → ⊥)) → (y : State) × (found w q ≡ Some y)
    awake q f (inl k) = absurd (true≢false (sym f ∙ (ap (λ i. flagged (taken w p) i) k ∙ taken_flag w p here)))
    awake q f (inr k) = s.awake q (sym (taken_flags w p q k) ∙ f)

    settled : (q : ℕ) (y : State) → found v q ≡ Some y → flagged v q ≡ false → ((q ≡ p) ⊎ (q ≡ p → ⊥)) → StepsIn g callback q y v.points
    settled q y f h (inl k) =
        let same : x ≡ y = same_Some x y (sym at ∙ (sym (ap (λ i. found w i) k) ∙ (sym (l.kept.quiet q h).0 ∙ f))) in
        let steps = l.steps in
        (steps.0, ap (λ i. transfer g callback i y) k ∙ (sym (ap (λ i. transfer g callback p i) same) ∙ steps.1), steps.2, steps.3)
    settled q y f h (inr k) =
        let quiet = l.kept.quiet q h in
        let steps = s.settled q y (sym quiet.0 ∙ f) (sym (taken_flags w p q k) ∙ quiet.1) in (
          steps.0,
          steps.1,
          led_later laws (taken w p) v steps.0.first l.kept steps.2,
          led_later laws (taken w p) v steps.0.second l.kept steps.3,
        )

-- ---- from a stage to the next one

looked : (g : Graph) (callback p : ℕ) (x : State) (w v : Walk) (m : Result Walk Rule) → m ≡ Ok v → Looking g callback p x w m →
    Looked g callback p x w v
looked g callback p x w v m e l = subst (λ i. Looking g callback p x w i) e l

-- where a look succeeds, it leads to a stage again
pub goes_on : Laws → (g : Graph) (callback : ℕ) (w v : Walk) (p : ℕ) → Stage g callback w → least w.pending ≡ Some p →
    ProperSteps (outcome_at g callback p (found w p)) →
    look g callback p (taken w p) ≡ Ok v → Stage g callback v
goes_on laws g callback w v p s e ok h =
    let l = looking laws g callback w p s e ok in
    kept_stage laws g callback w v p l.0 s e l.1 (looked g callback p l.0 (taken w p) v _ h l.2)

-- a point that is looked at can be looked at once less, and no other one more often
pub falls_due : Laws → (g : Graph) (callback : ℕ) (w v : Walk) (p : ℕ) → Stage g callback w → least w.pending ≡ Some p →
    ProperSteps (outcome_at g callback p (found w p)) →
    look g callback p (taken w p) ≡ Ok v → ((q : ℕ) → due v q ≤ due w q) × (due v p + 1 ≤ due w p)
falls_due laws g callback w v p s e ok h = ((λ q. others q (cases_eq q p)), own)
  where
    kept : Kept (taken w p) v
    kept = (let l = looking laws g callback w p s e ok in looked g callback p l.0 (taken w p) v _ h l.2).kept

    own : due v p + 1 ≤ due w p
    own =
        let a = kept.cheaper s.proper p in
        let b : bit (flagged (taken w p) p) ≡ 0 = ap bit (taken_flag w p (least_is w.pending p e).1) ∙ bit_none in
        let d : bit (flagged w p) ≡ 1 = ap bit (least_is w.pending p e).0 ∙ bit_one in omega arith

    others : (q : ℕ) → ((q ≡ p) ⊎ (q ≡ p → ⊥)) → due v q ≤ due w q
    others q (inl k) = subst (λ i. due v i ≤ due w i) (sym k) (let a = own in omega arith)
    others q (inr k) =
        let a = kept.cheaper s.proper q in
        let b : bit (flagged (taken w p) q) ≡ bit (flagged w q) = ap bit (taken_flags w p q k) in omega arith

-- where a walk stops nothing covers
pub stops_all : Laws → (g : Graph) (callback : ℕ) (w : Walk) (p : ℕ) (r : Rule) → Stage g callback w → least w.pending ≡ Some p →
    ProperSteps (outcome_at g callback p (found w p)) →
    look g callback p (taken w p) ≡ Err r → (ys : List Point) → IsCovered g callback ys → ⊥
stops_all laws g callback w p r s e ok h ys c =
    let l = looking laws g callback w p s e ok in
    (subst (λ i. Looking g callback p l.0 (taken w p) i) h l.2) ys c (s.below ys c)

-- where it ends its points are covered
pub covered : (g : Graph) (callback : ℕ) (w : Walk) → Stage g callback w → least w.pending ≡ None → IsCovered g callback w.points
covered g callback w s e = record {
  count = sym s.count;
  entered = s.entered;
  steps = λ q x within at. s.settled q x at (least_none w.pending e q);
}

-- and are below all that cover
pub below_all : (g : Graph) (callback : ℕ) (w : Walk) → Stage g callback w → (ys : List Point) → IsCovered g callback ys →
    ArePointsBelow w.points ys
below_all g callback w s ys c q = by_state (found w q) refl
  where
    by_other : (x : State) (o : Option State) → ((y : State) × (o ≡ Some y) × (is_below x y ≡ true)) → IsPointBelow (Some x) o
    by_other x (Some z) h = ap (λ i. is_below x i) (same_Some z h.0 h.1) ∙ h.2
    by_other x None h = absurd (none-some h.0 h.1)

    by_state : (o : Option State) → found w q ≡ o → IsPointBelow o (get_or ys q None)
    by_state (Some x) e = by_other x (get_or ys q None) (s.below ys c q x e)
    by_state None e = tt

-- points whose states are proper are points of a certificate
pub all_points : (xs : List Point) → ((q : ℕ) (x : State) → get_or xs q None ≡ Some x → is_proper x ≡ true) → list_all is_point xs ≡ true
all_points [] h = refl
all_points (None ∷ xs) h = all_points xs (λ q. h (suc q))
all_points (Some x ∷ xs) h = and_from _ _ (h 0 x refl) (all_points xs (λ q. h (suc q)))

-- ---- the measure

total : (ℕ → ℕ) → ℕ → ℕ
total f zero = 0
total f (suc n) = total f n + f n

total_falls : (f h : ℕ → ℕ) (n : ℕ) → ((q : ℕ) → f q ≤ h q) → total f n ≤ total h n
unfolding total
total_falls f h zero k = omega arith
total_falls f h (suc n) k = let a = total_falls f h n k in let b = k n in omega arith

total_less : (f h : ℕ → ℕ) (n p : ℕ) → p < n → ((q : ℕ) → f q ≤ h q) → f p + 1 ≤ h p → total f n < total h n
unfolding total
total_less f h zero p l k m = absurd (omega arith)
total_less f h (suc n) p l k m = by_place (cases_lt p n) (λ d. total_less f h n p d k m)
  where
    by_place : ((p < n) ⊎ (n ≤ p)) → (p < n → total f n < total h n) → total f n + f n < total h n + h n
    by_place (inl d) less = let a = less d in let b = k n in omega arith
    by_place (inr d) less =
        let same : p ≡ n = omega arith in
        let a = total_falls f h n k in
        let b : f n + 1 ≤ h n = subst (λ i. f i + 1 ≤ h i) same m in omega arith

-- how many looks a walk can still take
pub room : Graph → ℕ → Walk → ℕ
room g callback w = total (due w) (points_at g callback)

-- each look leaves less room, so a walk ends
pub room_falls : Laws → (g : Graph) (callback : ℕ) (w v : Walk) (p : ℕ) → Stage g callback w → least w.pending ≡ Some p →
    ProperSteps (outcome_at g callback p (found w p)) →
    look g callback p (taken w p) ≡ Ok v → room g callback v < room g callback w
unfolding room
room_falls laws g callback w v p s e ok h =
    let d = falls_due laws g callback w v p s e ok h in
    total_less (due v) (due w) (points_at g callback) p (taken_within g callback w p s e) d.0 d.1

-- at the opening no point can be looked at more than 31 times
pub opening_due : (g : Graph) (callback q : ℕ) → 0 < points_at g callback → due (opening g callback) q ≤ 31
opening_due g callback q h = by_place (cases_eq q 0)
  where
    by_place : ((q ≡ 0) ⊎ (q ≡ 0 → ⊥)) → due (opening g callback) q ≤ 31
    by_place (inl s) = subst (λ i. due (opening g callback) i ≤ 31) (sym s) first
      where
        first : due (opening g callback) 0 ≤ 31
        first =
            let a : left (found (opening g callback) 0) ≡ left (Some (entry (place_at g callback))) =
            ap left (opening_first g callback h) in
            let b : bit (flagged (opening g callback) 0) ≡ 1 = ap bit (opening_flag g callback) ∙ bit_one in
            let d = left_some (entry (place_at g callback)) (entry_proper (place_at g callback)) in omega arith
    by_place (inr s) =
        let a : left (found (opening g callback) q) ≡ left None = ap left (opening_later g callback q s) in
        let d = left_none in
        let b : bit (flagged (opening g callback) q) ≡ 0 = ap bit (opening_flags g callback q s) ∙ bit_none in omega arith
