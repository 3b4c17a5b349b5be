-- From callbacks to certificates: the laws.
use Rattle.std.proofs.Common.{◌≡◌, ◌<◌, ◌≤◌, ◌+◌, ℕ, zero, suc, Bool, true, false, List, [], ◌∷◌, ◌++◌}
use Rattle.std.proofs.Common.{length, get_or, Some, None, refl, sym, ap, ◌∙◌, subst, arith, inl, inr}
use Rattle.std.specs.Prelude.{◌⊎◌, nat_lt, is_some}
use Rattle.std.specs.List.{list_all}
use Rattle.std.proofs.lemmas.Bool.{and_parts, and_from, cases_lt, lt-ltb, ltb-true}
use Rattle.std.proofs.lemmas.List.Folds.{list_all-append}
use Rattle.std.proofs.lemmas.Option.{none-some}
use Rattle.flt_graph.specs.Graph.{points_at}
use Rattle.flt_graph.specs.declared.graph.Graph.{Graph}
use Rattle.flt_abs.specs.State.{is_proper}
use Rattle.flt_abs.specs.Step.{transfer}
use Rattle.flt_cert.specs.Format.{Point, Certificate, is_point, is_callback, is_certificate}
use Rattle.flt_check.specs.Covering.{Covers, state_at, IsCovered, IsPointBelow, IsCertificateBelow}
use Rattle.flt_graph.specs.Kept.{is_kept, IsRising}
use Rattle.flt_cert.specs.Thin.{Slot, Thin, is_slot, begins, is_thin_callback, is_thin, slot_of, thin_points, thin_from, thin}
use Rattle.flt_check.specs.Full.{followed, filled_in, filled, full_points, full_from, full}
use Rattle.flt_check.specs.ThinCovering.{GivesKept, CoversThin}
use Rattle.flt_check.proofs.Thin.Known.{Laws}
use Rattle.flt_check.proofs.Thin.Sides.{reached_is}
use Rattle.flt_check.proofs.Thin.Edges.{source}
use Rattle.flt_check.proofs.Thin.Filled.{thin_at, length-full}
use Rattle.flt_check.proofs.Thin.Columns.{again, again_covered, again_below, proper_at, proper_of}

-- ---- the columns of certificates

-- as many callbacks
pub length-full_from : (g : Graph) (i : ℕ) (t : Thin) → length (full_from g i t) ≡ length t
length-full_from g i [] = refl
length-full_from g i (slots ∷ t) = ap suc (length-full_from g (suc i) t)

length-thin_from : (g : Graph) (i : ℕ) (k : Certificate) → length (thin_from g i k) ≡ length k
length-thin_from g i [] = refl
length-thin_from g i (points ∷ k) = ap suc (length-thin_from g (suc i) k)

-- each callback of the full certificate follows from its own slots
pub full_column : (g : Graph) (i : ℕ) (t : Thin) (c n : ℕ) → n ≡ i + c → c < length t →
    get_or (full_from g i t) c [] ≡ full_points g n (get_or t c [])
full_column g i [] c n e h = absurd (omega arith)
full_column g i (slots ∷ t) zero n e h = let same : i ≡ n = omega arith in ap (λ m. full_points g m slots) same
full_column g i (slots ∷ t) (suc c) n e h = full_column g (suc i) t c n (omega arith) (omega arith)

thin_column : (g : Graph) (i : ℕ) (k : Certificate) (c n : ℕ) → n ≡ i + c → c < length k →
    get_or (thin_from g i k) c [] ≡ thin_points g n 0 (get_or k c [])
thin_column g i [] c n e h = absurd (omega arith)
thin_column g i (points ∷ k) zero n e h = let same : i ≡ n = omega arith in ap (λ m. thin_points g m 0 points) same
thin_column g i (points ∷ k) (suc c) n e h = thin_column g (suc i) k c n (omega arith) (omega arith)

again_column : (g : Graph) (k : Certificate) (c : ℕ) → c < length k → get_or (full g (thin g k)) c [] ≡ again g c (get_or k c [])
again_column g k c h =
    let long : length (thin g k) ≡ length k = length-thin_from g 0 k in
    full_column g 0 (thin g k) c c (omega arith) (omega arith)
    ∙ ap (λ (s : List Slot). full_points g c s) (thin_column g 0 k c c (omega arith) h)

callback_at : (k : Certificate) (c : ℕ) → list_all is_callback k ≡ true → c < length k → list_all is_point (get_or k c []) ≡ true
callback_at [] c h below = absurd (omega arith)
callback_at (points ∷ k) zero h below = (and_parts _ _ (and_parts _ _ (and_parts (is_callback points) (list_all is_callback k) h).0).1).1
callback_at (points ∷ k) (suc c) h below = callback_at k c (and_parts (is_callback points) (list_all is_callback k) h).1 (omega arith)

callbacks_of : (k : Certificate) → is_certificate k ≡ true → list_all is_callback k ≡ true
callbacks_of k h = (and_parts _ _ (and_parts _ _ h).1).1

column_of : (g : Graph) (k : Certificate) (c : ℕ) → Covers g k → c < length g.callbacks → IsCovered g c (get_or k c [])
column_of g k c h below = record {
  count = h.points c below;
  entered = h.entries c below;
  steps = λ p x within at. h.steps c p x below within at;
}

covers_from : (g : Graph) (k : Certificate) → length k ≡ length g.callbacks →
    ((c : ℕ) → c < length g.callbacks → IsCovered g c (get_or k c [])) → Covers g k
covers_from g k long each = record {
  callbacks = long;
  points = λ c below. (each c below).count;
  entries = λ c below. (each c below).entered;
  steps = λ c p x below within at. (each c below).steps p x within at;
}

-- ---- where a certificate covers, so does what is left of it

some_slot : (b : Bool) (x : Point) → is_some (slot_of b x) ≡ b
some_slot true x = refl
some_slot false x = refl

gives_kept : (g : Graph) (k : Certificate) → Covers g k → GivesKept g (thin g k)
gives_kept g k h c below p within =
    let long = h.callbacks in
    let count : points_at g c ≡ length (get_or k c []) = h.points c below in
    ap (λ (s : List Slot). is_some (get_or s p None)) (thin_column g 0 k c c (omega arith) (omega arith))
    ∙ (ap is_some (thin_at g c 0 (get_or k c []) p p (omega arith) (omega arith)) ∙ some_slot (is_kept g c p)
    (get_or (get_or k c []) p None))

again_covers : Laws → (g : Graph) (k : Certificate) → IsRising g → is_certificate k ≡ true → Covers g k → Covers g (full g (thin g k))
again_covers laws g k rising good h =
    let long = h.callbacks in
    let thinned : length (thin g k) ≡ length k = length-thin_from g 0 k in
    let filled_up : length (full g (thin g k)) ≡ length (thin g k) = length-full_from g 0 (thin g k) in
    covers_from g (full g (thin g k)) (omega arith) (λ c below.
    subst (λ (s : List Point). IsCovered g c s) (sym (again_column g k c (omega arith)))
    (again_covered laws g c (get_or k c []) (column_of g k c h below) (callback_at k c (callbacks_of k good) (omega arith)) rising))

-- where a certificate covers, what is left of it covers
pub thin_covers : Laws → (g : Graph) (k : Certificate) → IsRising g → is_certificate k ≡ true → Covers g k → CoversThin g (thin g k)
thin_covers laws g k rising good h = record { kept = gives_kept g k h; covers = again_covers laws g k rising good h }

-- ---- what follows from it is below

past : (xs : List (List Point)) (c p : ℕ) → length xs ≤ c → get_or (get_or xs c []) p None ≡ None
past [] c p h = refl
past (x ∷ xs) zero p h = absurd (omega arith)
past (x ∷ xs) (suc c) p h = past xs c p (omega arith)

below_none : (a b : Point) → a ≡ None → IsPointBelow a b
below_none None b e = tt
below_none (Some x) b e = absurd (none-some x (sym e))

-- what follows from what is left of a certificate is below it
pub again_certificate_below : Laws → (g : Graph) (k : Certificate) → is_certificate k ≡ true → Covers g k →
    IsCertificateBelow (full g (thin g k)) k
again_certificate_below laws g k good h c p = by (cases_lt c (length k))
  where
    by : ((c < length k) ⊎ (length k ≤ c)) → IsPointBelow (state_at (full g (thin g k)) c p) (state_at k c p)
    by (inl within) =
        let long = h.callbacks in
        subst (λ (s : List Point). IsPointBelow (get_or s p None) (get_or (get_or k c []) p None)) (sym (again_column g k c within))
        (again_below laws g c (get_or k c []) (column_of g k c h (omega arith)) (callback_at k c (callbacks_of k good) within) p)
    by (inr beyond) =
        let thinned : length (thin g k) ≡ length k = length-thin_from g 0 k in
        let filled_up : length (full g (thin g k)) ≡ length (thin g k) = length-full_from g 0 (thin g k) in
        below_none (state_at (full g (thin g k)) c p) (state_at k c p) (past (full g (thin g k)) c p (omega arith))

-- ---- what follows from a thin certificate is a certificate

followed_proper : Laws → (g : Graph) (callback to : ℕ) (before : List Point) (o : Point) → list_all is_point before ≡ true →
    followed g callback to 0 before ≡ o → is_point o ≡ true
followed_proper laws g callback to before None good e = refl
followed_proper laws g callback to before (Some x) good e =
    let s = source g callback to 0 before x e in
    let by_one = reached_is to (transfer g callback s.number s.state) x s.reached in
    let proper = proper_at before s.place s.state good s.there in
    let both = laws.proper g callback s.number s.state by_one.0 proper by_one.1 in
    let side = by_one.2.side in
    let own : is_proper side.state ≡ true = elim by_one.2.which [
      | inl w ↦ proper_of side by_one.0.first both.first w
      | inr w ↦ proper_of side by_one.0.second both.second w
    ] in
    subst (λ y. is_proper y ≡ true) by_one.2.state own

in_proper : Laws → (g : Graph) (callback : ℕ) (before : List Point) (s : Slot) → list_all is_point before ≡ true → is_slot s ≡ true →
    is_point (filled_in g callback before s) ≡ true
in_proper laws g callback before (Some point) good h = h
in_proper laws g callback before None good h =
    followed_proper laws g callback (length before) before (followed g callback (length before) 0 before) good refl

filled_proper : Laws → (g : Graph) (callback : ℕ) (found : List Point) (slots : List Slot) → list_all is_point found ≡ true →
    list_all is_slot slots ≡ true → list_all is_point (filled g callback found slots) ≡ true
filled_proper laws g callback found [] good h = good
filled_proper laws g callback found (s ∷ slots) good h =
    let parts = and_parts (is_slot s) (list_all is_slot slots) h in
    let x : Point = filled_in g callback found s in
    filled_proper laws g callback (found ++ x ∷ []) slots
    (list_all-append is_point found (x ∷ [])
    ∙ and_from _ _ good (and_from _ _ (in_proper laws g callback found s good parts.0) refl)) parts.1

some_slots : (slots : List Slot) → begins slots ≡ true → 0 < length slots
some_slots [] h = cc
some_slots (s ∷ slots) h = omega arith

callback_follows : Laws → (g : Graph) (callback : ℕ) (slots : List Slot) → is_thin_callback slots ≡ true →
    is_callback (full_points g callback slots) ≡ true
callback_follows laws g callback slots h =
    let first = and_parts (begins slots) _ h in
    let second = and_parts (nat_lt (length slots) 513) _ first.1 in
    let some = some_slots slots first.0 in
    let few = ltb-true (length slots) 513 second.0 in
    let long = length-full g callback slots in
    and_from _ _ (lt-ltb 0 (length (full_points g callback slots)) (omega arith))
    (and_from _ _ (lt-ltb (length (full_points g callback slots)) 513 (omega arith))
    (filled_proper laws g callback [] slots refl second.1))

callbacks_follow : Laws → (g : Graph) (i : ℕ) (t : Thin) → list_all is_thin_callback t ≡ true →
    list_all is_callback (full_from g i t) ≡ true
callbacks_follow laws g i [] h = refl
callbacks_follow laws g i (slots ∷ t) h =
    let parts = and_parts (is_thin_callback slots) (list_all is_thin_callback t) h in
    and_from _ _ (callback_follows laws g i slots parts.0) (callbacks_follow laws g (suc i) t parts.1)

-- what follows from a thin certificate is a certificate
pub full_is_certificate : Laws → (g : Graph) (t : Thin) → is_thin t ≡ true → is_certificate (full g t) ≡ true
full_is_certificate laws g t h =
    let some = and_parts (nat_lt 0 (length t)) _ h in
    let few = and_parts (nat_lt (length t) 17) _ some.1 in
    let long = length-full_from g 0 t in
    and_from _ _ (ap (λ n. nat_lt 0 n) long ∙ some.0) (and_from _ _ (ap (λ n. nat_lt n 17) long ∙ few.0)
    (callbacks_follow laws g 0 t few.1))
