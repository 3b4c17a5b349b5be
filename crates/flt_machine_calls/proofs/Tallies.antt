-- What the events of one activation count.
use Rattle.std.proofs.Common.{◌≡◌, ◌==◌, ℕ, ◌+◌, ◌-◌, ◌<◌, ◌≤◌, take, drop, length, slice_index_or, arith}
use Rattle.std.proofs.Common.{Bool, true, if◌then◌else◌, List, [], ◌∷◌, refl, ap, sym, ◌∙◌, subst}
use Rattle.std.proofs.lemmas.Cmp.{nat_eq_equiv}
use Rattle.std.proofs.lemmas.List.{take_all}
use Rattle.std.proofs.lemmas.List.Sums.{sum_by-cons}
use Rattle.flt_model.specs.Trace.{of_actor, gain, lose, gains, loses}
use Rattle.flt_model.specs.declared.event.Event.{Event}
use Rattle.flt_model.specs.declared.event.Object.{Object}
use Rattle.flt_machine_calls.specs.Own.{AreOf, IsOf}

same : (n : ℕ) → (n == n) ≡ true
same n = nat_eq_equiv.refl n

-- what an activation has is counted for itself
pub own_count : (a b n : ℕ) → b ≡ a → n ≡ of_actor b a n
unfolding of_actor
own_count a b n is = ap (λ (c : Bool). if c then n else 0) (sym (ap (λ (d : ℕ). d == a) is ∙ same a))

-- of no events nothing is counted
pub none_gained : (a : ℕ) (o : Object) (es : List Event) → length es < 1 → 0 ≡ gains es a o
unfolding gains
none_gained a o [] is = refl
none_gained a o (e ∷ es) is = absurd (omega (arith, is))

-- no events lose nothing
pub none_lost : (a : ℕ) (o : Object) (es : List Event) → length es < 1 → 0 ≡ loses es a o
unfolding loses
none_lost a o [] is = refl
none_lost a o (e ∷ es) is = absurd (omega (arith, is))

-- the events behind the first, as code has them
abbrev behind : List Event → List Event
behind es = take (length es - 1) (drop 1 es)

behind_is : (e : Event) (es : List Event) → behind (e ∷ es) ≡ es
behind_is e es = take_all (length (e ∷ es) - 1) es (omega arith)

-- what the first event counts, and what those behind it count
pub more_gained : (a : ℕ) (o : Object) (es : List Event) (no_event : Event) (m n : ℕ) → 1 ≤ length es → AreOf a es →
    (IsOf a (slice_index_or es 0 no_event) → m ≡ gain a o (slice_index_or es 0 no_event)) →
    (AreOf a (take (length es - 1) (drop 1 es)) → n ≡ gains (take (length es - 1) (drop 1 es)) a o) → m + n ≡ gains es a o
unfolding gains
more_gained a o [] no_event m n is own first others = absurd (omega (arith, is))
more_gained a o (e ∷ es) no_event m n is own first others =
    let here : m ≡ gain a o e = first own.0 in
    let rest : n ≡ gains es a o = subst (λ (l : List Event). AreOf a l → n ≡ gains l a o) (behind_is e es) others own.1 in
    ap (λ (k : ℕ). k + n) here ∙ ap (λ (k : ℕ). gain a o e + k) rest ∙ sym (sum_by-cons (gain a o) e es)

-- what the first event loses, and what the others lose, is what all lose
pub more_lost : (a : ℕ) (o : Object) (es : List Event) (no_event : Event) (m n : ℕ) → 1 ≤ length es → AreOf a es →
    (IsOf a (slice_index_or es 0 no_event) → m ≡ lose a o (slice_index_or es 0 no_event)) →
    (AreOf a (take (length es - 1) (drop 1 es)) → n ≡ loses (take (length es - 1) (drop 1 es)) a o) → m + n ≡ loses es a o
unfolding loses
more_lost a o [] no_event m n is own first others = absurd (omega (arith, is))
more_lost a o (e ∷ es) no_event m n is own first others =
    let here : m ≡ lose a o e = first own.0 in
    let rest : n ≡ loses es a o = subst (λ (l : List Event). AreOf a l → n ≡ loses l a o) (behind_is e es) others own.1 in
    ap (λ (k : ℕ). k + n) here ∙ ap (λ (k : ℕ). lose a o e + k) rest ∙ sym (sum_by-cons (lose a o) e es)
