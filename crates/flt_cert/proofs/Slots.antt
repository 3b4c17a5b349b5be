-- Slots and thin certificates, made one after the other; and what is left of a certificate is a thin one.
use Rattle.std.proofs.Common.{◌≡◌, ◌<◌, ◌≤◌, ◌+◌, ℕ, zero, suc, Bool, true, false, List, [], ◌∷◌, ◌++◌}
use Rattle.std.proofs.Common.{length, take, get_or, Some, None, refl, ap, ◌∙◌, arith, take_all}
use Rattle.std.specs.Prelude.{slice_get, is_some, nat_lt}
use Rattle.std.specs.List.{list_all}
use Rattle.std.proofs.lemmas.Bool.{and_parts, and_from, ltb-true}
use Rattle.std.proofs.lemmas.List.{take_more, length-take-le}
use Rattle.flt_graph.specs.declared.graph.Graph.{Graph}
use Rattle.flt_graph.specs.Kept.{is_kept}
use Rattle.flt_cert.specs.Format.{Point, Certificate, is_point, is_callback, is_certificate}
use Rattle.flt_cert.specs.Thin.{Slot, Thin, is_slot, begins, is_thin_callback, is_thin, slot_of, thin_points, thin_from, thin}

-- there are no slots where there is no callback
pub no_slots : (t : Thin) (k : ℕ) → slice_get t k ≡ None → get_or t k [] ≡ []
no_slots [] k h = refl
no_slots (slots ∷ t) zero h = cc
no_slots (slots ∷ t) (suc k) h = no_slots t k h

-- whether the first point is given
pub given_first : (slots : List Slot) (s : Slot) → slice_get slots 0 ≡ Some s → begins slots ≡ is_some s
given_first [] s h = cc
given_first (x ∷ slots) s h = let same : x ≡ s = cc in ap is_some same

-- it isn't, where there is none
pub none_first : (slots : List Slot) → slice_get slots 0 ≡ None → begins slots ≡ false
none_first [] h = refl
none_first (x ∷ slots) h = cc

slots_push : (g : Graph) (callback p n : ℕ) (points : List Point) (x : Point) → n ≡ p + length points →
    thin_points g callback p (points ++ x ∷ []) ≡ thin_points g callback p points ++ slot_of (is_kept g callback n) x ∷ []
slots_push g callback p n [] x e =
    let same : p ≡ n = omega arith in ap (λ m. slot_of (is_kept g callback m) x ∷ []) same
slots_push g callback p n (y ∷ points) x e =
    ap (λ (l : List Slot). slot_of (is_kept g callback p) y ∷ l) (slots_push g callback (suc p) n points x (omega arith))

-- the slots of one point more
pub slots_more : (g : Graph) (callback n : ℕ) (points : List Point) → n < length points →
    thin_points g callback 0 (take (n + 1) points) ≡
    thin_points g callback 0 (take n points) ++ slot_of (is_kept g callback n) (get_or points n None) ∷ []
slots_more g callback n points h =
    let front : length (take n points) ≡ n = length-take-le n points (omega arith) in
    ap (thin_points g callback 0) (take_more points n None h)
    ∙ slots_push g callback 0 n (take n points) (get_or points n None) (omega arith)

-- those of all points
pub slots_all : (g : Graph) (callback n : ℕ) (points : List Point) → length points ≤ n →
    thin_points g callback 0 (take n points) ≡ thin_points g callback 0 points
slots_all g callback n points h = ap (thin_points g callback 0) (take_all n points h)

callbacks_push : (g : Graph) (i n : ℕ) (k : Certificate) (x : List Point) → n ≡ i + length k →
    thin_from g i (k ++ x ∷ []) ≡ thin_from g i k ++ thin_points g n 0 x ∷ []
callbacks_push g i n [] x e = let same : i ≡ n = omega arith in ap (λ m. thin_points g m 0 x ∷ []) same
callbacks_push g i n (y ∷ k) x e =
    ap (λ (l : Thin). thin_points g i 0 y ∷ l) (callbacks_push g (suc i) n k x (omega arith))

-- the slots of one callback more
pub callbacks_more : (g : Graph) (n : ℕ) (k : Certificate) → n < length k →
    thin g (take (n + 1) k) ≡ thin g (take n k) ++ thin_points g n 0 (get_or k n []) ∷ []
callbacks_more g n k h =
    let front : length (take n k) ≡ n = length-take-le n k (omega arith) in
    ap (thin g) (take_more k n [] h) ∙ callbacks_push g 0 n (take n k) (get_or k n []) (omega arith)

-- those of all callbacks
pub callbacks_all : (g : Graph) (n : ℕ) (k : Certificate) → length k ≤ n → thin g (take n k) ≡ thin g k
callbacks_all g n k h = ap (thin g) (take_all n k h)

-- ---- what is left of a certificate is a thin one

length-thin : (g : Graph) (callback p : ℕ) (points : List Point) → length (thin_points g callback p points) ≡ length points
length-thin g callback p [] = refl
length-thin g callback p (x ∷ points) = ap suc (length-thin g callback (suc p) points)

length-thin_from : (g : Graph) (i : ℕ) (k : Certificate) → length (thin_from g i k) ≡ length k
length-thin_from g i [] = refl
length-thin_from g i (points ∷ k) = ap suc (length-thin_from g (suc i) k)

slot_proper : (b : Bool) (x : Point) → is_point x ≡ true → is_slot (slot_of b x) ≡ true
slot_proper true x h = h
slot_proper false x h = refl

slots_proper : (g : Graph) (callback p : ℕ) (points : List Point) → list_all is_point points ≡ true →
    list_all is_slot (thin_points g callback p points) ≡ true
slots_proper g callback p [] h = refl
slots_proper g callback p (x ∷ points) h =
    let parts = and_parts (is_point x) (list_all is_point points) h in
    and_from _ _ (slot_proper (is_kept g callback p) x parts.0) (slots_proper g callback (suc p) points parts.1)

first_given : (g : Graph) (callback : ℕ) (points : List Point) → 0 < length points → begins (thin_points g callback 0 points) ≡ true
first_given g callback [] h = absurd (omega arith)
first_given g callback (x ∷ points) h = refl

callback_left : (g : Graph) (callback : ℕ) (points : List Point) → is_callback points ≡ true →
    is_thin_callback (thin_points g callback 0 points) ≡ true
callback_left g callback points h =
    let first = and_parts (nat_lt 0 (length points)) _ h in
    let second = and_parts (nat_lt (length points) 513) _ first.1 in
    let long = length-thin g callback 0 points in
    and_from _ _ (first_given g callback points (ltb-true 0 (length points) first.0))
    (and_from _ _ (ap (λ n. nat_lt n 513) long ∙ second.0) (slots_proper g callback 0 points second.1))

callbacks_left : (g : Graph) (i : ℕ) (k : Certificate) → list_all is_callback k ≡ true → list_all is_thin_callback (thin_from g i k) ≡ true
callbacks_left g i [] h = refl
callbacks_left g i (points ∷ k) h =
    let parts = and_parts (is_callback points) (list_all is_callback k) h in
    and_from _ _ (callback_left g i points parts.0) (callbacks_left g (suc i) k parts.1)

-- what is left of a certificate is a thin one
pub thin_is_thin : (g : Graph) (k : Certificate) → is_certificate k ≡ true → is_thin (thin g k) ≡ true
thin_is_thin g k h =
    let some = and_parts (nat_lt 0 (length k)) _ h in
    let few = and_parts (nat_lt (length k) 17) _ some.1 in
    let long = length-thin_from g 0 k in
    and_from _ _ (ap (λ n. nat_lt 0 n) long ∙ some.0) (and_from _ _ (ap (λ n. nat_lt n 17) long ∙ few.0) (callbacks_left g 0 k few.1))
