-- Where among the hands of a seat a ticket was taken.
use Rattle.std.proofs.Common.{◌≡◌, ℕ, zero, suc, ◌<◌, List, [], ◌∷◌, length, set, get_or, refl, ap, arith}
use Rattle.std.specs.Prelude.{IfSome, Option, Some, None}
use Rattle.crossbeam_deque.specs.Handles.{view}
use Rattle.flt_model.specs.declared.subject.Subject.{Subject}
use Rattle.flt_pool.specs.Hands.{having_taken}
use Rattle.flt_pool.specs.Seats.{hands_of_ways, IsTakenOf}
use Rattle.flt_pool.specs.declared.hand.Hand.{Hand}
use Rattle.flt_pool.specs.declared.way.Way.{Way}

-- it was taken through the first one
pub at_first : (t : Subject) (v w : Hand) (others : List Hand) → w ≡ having_taken t v → IsTakenOf t (v ∷ others) (w ∷ others)
at_first t v w others e = ([], others, v, refl, ap (λ (u : Hand). u ∷ others) e)

-- it was taken through another, and the first one is as it was
pub at_another : (t : Subject) (v w : Hand) (before after : List Hand) → w ≡ v → IsTakenOf t before after
    → IsTakenOf t (v ∷ before) (w ∷ after)
at_another t v w before after e h = (v ∷ h.0, h.1, h.2, ap (λ (us : List Hand). v ∷ us) h.3, λ i. e i ∷ h.4 i)

-- it was taken by this way
pub at_way : (t : Subject) (ways : List Way) (k : ℕ) (w d : Way) → k < length ways
    → view w.pass ≡ having_taken t (view (get_or ways k d).pass) → IsTakenOf t (hands_of_ways ways) (hands_of_ways (set ways k w))
at_way t [] k w d lt e = absurd (omega arith)
at_way t (x ∷ xs) zero w d lt e = at_first t (view x.pass) (view w.pass) (hands_of_ways xs) e
at_way t (x ∷ xs) (suc k) w d lt e =
    at_another t (view x.pass) (view x.pass) (hands_of_ways xs) (hands_of_ways (set xs k w)) refl
    (at_way t xs k w d (omega arith) e)

-- if one was taken by a way of those, it was taken among all the hands, where the first two are as they were
pub if_taken : (found : Option Subject) (v w x y : Hand) (before after : List Hand) → w ≡ v → y ≡ x
    → IfSome found (λ t. IsTakenOf t before after)
    → IfSome found (λ t. IsTakenOf t (v ∷ x ∷ before) (w ∷ y ∷ after))
if_taken None v w x y before after e f h = h
if_taken (Some t) v w x y before after e f h = at_another t v w (x ∷ before) (y ∷ after) e (at_another t x y before after f h)
