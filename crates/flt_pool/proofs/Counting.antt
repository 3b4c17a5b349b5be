-- How often a ticket stands in a list is a weight of the list; and when two tickets are the same.
use Rattle.std.proofs.Common.{◌≡◌, ℕ, ◌+◌, ◌==◌, Bool, true, false, List, [], ◌∷◌, refl, sym, ap, ◌∙◌, subst, arith}
use Rattle.std.proofs.lemmas.Bool.{eq-eqb, eqb-true, true≢false}
use Rattle.std.specs.Prelude.{◌&&◌, if◌then◌else◌}
use Rattle.flt_model.specs.declared.subject.Subject.{Subject}
use Rattle.flt_model.specs.declared.subject.Subject.TheVariants.{Operation, Activation, Item, Entry, Detach}
use Rattle.flt_pool.specs.Laws.{is_same, times, times_put, times_taken, NoneIsTakenTwice, SameMeansEqual}
use Rattle.flt_pool.specs.Rule.{weigh, weigh_put, weigh_taken}
use Rattle.flt_pool.specs.declared.hand.Hand.{Hand}

-- the weight of a ticket that is 1 for this one and else 0
abbrev one_for : Subject → Subject → ℕ
one_for ticket other = if is_same other ticket then 1 else 0

times_weigh : (ticket : Subject) (xs : List Subject) → times ticket xs ≡ weigh (one_for ticket) xs
times_weigh ticket [] = refl
times_weigh ticket (x ∷ xs) = ap (λ (n : ℕ). one_for ticket x + n) (times_weigh ticket xs)

put_weigh : (ticket : Subject) (views : List Hand) → times_put ticket views ≡ weigh_put (one_for ticket) views
put_weigh ticket [] = refl
put_weigh ticket (v ∷ views) = omega (arith, times_weigh ticket v.put, put_weigh ticket views)

taken_weigh : (ticket : Subject) (views : List Hand) → times_taken ticket views ≡ weigh_taken (one_for ticket) views
taken_weigh ticket [] = refl
taken_weigh ticket (v ∷ views) = omega (arith, times_weigh ticket v.taken, taken_weigh ticket views)

-- no ticket is taken twice
pub none_taken_twice : NoneIsTakenTwice
none_taken_twice left hands balanced ticket =
    omega (arith, put_weigh ticket hands, taken_weigh ticket hands, times_weigh ticket left, balanced (one_for ticket))

both : (a b : Bool) → (a && b) ≡ true → (a ≡ true) × (b ≡ true)
both true b e = (refl, e)
both false b e = absurd (true≢false (sym e))

same_number : (n : ℕ) → (n == n) ≡ true
same_number n = eq-eqb n n refl

same_is_equal : (a b : Subject) → is_same a b ≡ true → a ≡ b
same_is_equal (Operation m) (Operation n) e = ap Operation (eqb-true m n e)
same_is_equal (Operation m) (Activation n) e = cc
same_is_equal (Operation m) (Item n) e = cc
same_is_equal (Operation m) (Entry n j) e = cc
same_is_equal (Operation m) (Detach n) e = cc
same_is_equal (Activation m) (Operation n) e = cc
same_is_equal (Activation m) (Activation n) e = ap Activation (eqb-true m n e)
same_is_equal (Activation m) (Item n) e = cc
same_is_equal (Activation m) (Entry n j) e = cc
same_is_equal (Activation m) (Detach n) e = cc
same_is_equal (Item m) (Operation n) e = cc
same_is_equal (Item m) (Activation n) e = cc
same_is_equal (Item m) (Item n) e = ap Item (eqb-true m n e)
same_is_equal (Item m) (Entry n j) e = cc
same_is_equal (Item m) (Detach n) e = cc
same_is_equal (Entry m i) (Operation n) e = cc
same_is_equal (Entry m i) (Activation n) e = cc
same_is_equal (Entry m i) (Item n) e = cc
same_is_equal (Entry m i) (Entry n j) e = let h = both (m == n) (i == j) e in λ x. Entry (eqb-true m n h.0 x) (eqb-true i j h.1 x)
same_is_equal (Entry m i) (Detach n) e = cc
same_is_equal (Detach m) (Operation n) e = cc
same_is_equal (Detach m) (Activation n) e = cc
same_is_equal (Detach m) (Item n) e = cc
same_is_equal (Detach m) (Entry n j) e = cc
same_is_equal (Detach m) (Detach n) e = ap Detach (eqb-true m n e)

same_itself : (a : Subject) → is_same a a ≡ true
same_itself (Operation m) = same_number m
same_itself (Activation m) = same_number m
same_itself (Item m) = same_number m
same_itself (Entry m i) = (λ x. same_number m x && (i == i)) ∙ same_number i
same_itself (Detach m) = same_number m

-- tickets that are the same are equal
pub same_means_equal : SameMeansEqual
same_means_equal a b = (same_is_equal a b, λ e. subst (λ (c : Subject). is_same a c ≡ true) e (same_itself a))
