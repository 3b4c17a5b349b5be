-- One more look of a walk, and one more walk.
use Rattle.std.proofs.Common.{◌≡◌, ℕ, zero, suc, ◌+◌, ◌-◌, ◌<◌, ◌≤◌, false, List, Option, Some, None, refl, sym, ap, ◌∙◌, arith}
use Rattle.std.specs.Prelude.{is_some}
use Rattle.flt_graph.specs.declared.graph.Graph.{Graph}
use Rattle.flt_explain.specs.Sight.{past}
use Rattle.flt_explain.specs.Walk.{progress, known, wrong, faults_told, led, looked_at, looked}
use Rattle.flt_explain.specs.Walk.{first_pending, step_at, step, steps, walked, walked_from}
use Rattle.flt_explain.specs.declared.finding.Fault.{Fault}
use Rattle.flt_explain.specs.declared.finding.Finding.{Finding}
use Rattle.flt_explain.specs.declared.sight.Sight.{Sight}
use Rattle.flt_explain.specs.declared.tell.Spot.{Spot}
use Rattle.flt_explain.specs.declared.walk.Walk.{Walk}

-- ---- a look

-- a look at a point is telling what is wrong there, and following both ways
pub looked_by : (g : Graph) (s : Spot) (w v : Walk) (a : Sight) (faults told_of past_of : List Fault) (found more all : List Finding) →
    known w s.point ≡ Some a → faults ≡ wrong g s a.state → told_of ≡ faults → past_of ≡ faults → more ≡ faults_told s a told_of found →
    progress v all ≡ led s (past g s.callback s.point past_of a) (progress w more) → progress v all ≡ looked g s (progress w found)
unfolding looked
looked_by g s w v a faults told_of past_of found more all e f t p m l =
    l ∙ ap (λ xs. led s (past g s.callback s.point past_of a) (progress w xs)) m
    ∙ ap (λ ts. led s (past g s.callback s.point past_of a) (progress w (faults_told s a ts found))) (t ∙ f)
    ∙ ap (λ ps. led s (past g s.callback s.point ps a) (progress w (faults_told s a (wrong g s a.state) found))) (p ∙ f)
    ∙ sym (ap (λ o. looked_at g s o (progress w found)) e)

-- ---- looks

nothing : (o : Option ℕ) → is_some o ≡ false → o ≡ None
nothing None e = refl
nothing (Some n) e = absurd (cc)

-- where nothing is pending no look changes anything
stands : (g : Graph) (callback : ℕ) (w : Walk) (found : List Finding) → is_some (first_pending w) ≡ false →
    step g callback (progress w found) ≡ progress w found
unfolding step
stands g callback w found e = ap (λ o. step_at g callback (progress w found) o) (nothing (first_pending w) e)

all_stand : (g : Graph) (callback n : ℕ) (w : Walk) (found : List Finding) → is_some (first_pending w) ≡ false →
    steps g callback n (progress w found) ≡ progress w found
unfolding steps
all_stand g callback zero w found e = refl
all_stand g callback (suc n) w found e =
    ap (λ x. steps g callback n x) (stands g callback w found e) ∙ all_stand g callback n w found e

-- so the looks that are left find what is found
pub no_look : (g : Graph) (callback n : ℕ) (w : Walk) (found : List Finding) → is_some (first_pending w) ≡ false →
    (steps g callback n (progress w found)).found ≡ (step g callback (progress w found)).found
no_look g callback n w found e = ap (λ x. x.found) (all_stand g callback n w found e ∙ sym (stands g callback w found e))

-- a look leaves one look less
pub one_look : (g : Graph) (callback i end : ℕ) (w : Walk) (found : List Finding) → i < end →
    (steps g callback (end - (i + 1)) (progress (step g callback (progress w found)).walk (step g callback (progress w found)).found)).found
    ≡ (steps g callback (end - i) (progress w found)).found
unfolding steps
one_look g callback i end w found h =
    let less : end - i ≡ suc (end - (i + 1)) = omega arith in
    sym (ap (λ n. (steps g callback n (progress w found)).found) less)

-- where no look is left nothing changes
pub no_more : (g : Graph) (callback i end : ℕ) (w : Walk) (found : List Finding) → end ≤ i →
    (steps g callback (end - i) (progress w found)).found ≡ found
unfolding steps
no_more g callback i end w found h =
    let none : end - i ≡ 0 = omega arith in ap (λ n. (steps g callback n (progress w found)).found) none

-- ---- walks

-- the walk of one callback leaves one less
pub one_walk : (g : Graph) (i end : ℕ) (found more : List Finding) → i < end → more ≡ walked g i found →
    walked_from g (i + 1) (end - (i + 1)) more ≡ walked_from g i (end - i) found
unfolding walked_from
one_walk g i end found more h e =
    let less : end - i ≡ suc (end - (i + 1)) = omega arith in
    ap (λ fs. walked_from g (i + 1) (end - (i + 1)) fs) e ∙ ap (λ n. walked_from g i n found) (sym less)

-- where all callbacks were walked, nothing more is found
pub no_more_walks : (g : Graph) (i end : ℕ) (found : List Finding) → end ≤ i → walked_from g i (end - i) found ≡ found
unfolding walked_from
no_more_walks g i end found h = let none : end - i ≡ 0 = omega arith in ap (λ n. walked_from g i n found) none
