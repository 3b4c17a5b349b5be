-- From the points of callbacks to whole certificates.
use Rattle.std.proofs.Common.{◌≡◌, ◌<◌, ◌≤◌, ◌+◌, ℕ, zero, suc, true, List, [], ◌∷◌, ◌++◌, length}
use Rattle.std.proofs.Common.{get_or, nat_lt, Option, Some, None, refl, sym, ◌∙◌, arith, inl, inr}
use Rattle.std.proofs.Math.Path.{subst}
use Rattle.std.proofs.Math.ListN.{get_or-append, get_or-eq_default}
use Rattle.std.specs.Prelude.{◌⊎◌, IfSome}
use Rattle.std.specs.List.{list_all}
use Rattle.std.proofs.lemmas.Bool.{and_parts, and_from, cases_lt, lt-ltb, ltb-true}
use Rattle.std.proofs.lemmas.List.{get_or_push, length-append}
use Rattle.flt_graph.specs.Graph.{points_at}
use Rattle.flt_graph.specs.declared.graph.Graph.{Graph}
use Rattle.flt_cert.specs.Format.{Certificate, Point, is_callback, is_certificate}
use Rattle.flt_check.specs.Covering.{Covers, state_at, IsCovered, IsPointBelow}
use Rattle.flt_analyse.specs.Least.{IsLeast, NoneCovers, HasRoom}
use Rattle.flt_analyse.specs.Columns.{Column}

-- the columns of the first callbacks
pub record Columns (g : Graph) (n : ℕ) (k : Certificate) : Type 0 where
  pub count : length k ≡ n
  pub each : (c : ℕ) → c < n → Column g c (get_or k c [])

-- one more callback's points extend the columns of those before it
pub one_more : (g : Graph) (n : ℕ) (k : Certificate) (points : List Point) → Columns g n k → Column g n points →
    Columns g (n + 1) (k ++ points ∷ [])
one_more g n k points h one = record {
  count = (let a = length-append k (points ∷ []) in let b = h.count in omega arith);
  each = λ c below. by_place c below (cases_lt c n);
}
  where
    by_place : (c : ℕ) → c < n + 1 → ((c < n) ⊎ (n ≤ c)) → Column g c (get_or (k ++ points ∷ []) c [])
    by_place c below (inl l) = subst (λ xs. Column g c xs)
        (sym (get_or-append k (points ∷ []) [] c (let b = h.count in omega arith))) (h.each c l)
    by_place c below (inr l) =
        let same : n ≡ c = omega arith in
        subst (λ i. Column g i (get_or (k ++ points ∷ []) i [])) same
        (subst (λ xs. Column g n xs) (sym (get_or_push k points [] n h.count)) one)

-- the points of a callback of what covers are covered
pub column_of : (g : Graph) (k : Certificate) (callback : ℕ) → Covers g k → callback < length g.callbacks →
    IsCovered g callback (get_or k callback [])
column_of g k callback c below = record {
  count = c.points callback below;
  entered = c.entries callback below;
  steps = λ point x within at. c.steps callback point x below within at;
}

pub covers_all : (g : Graph) (k : Certificate) → Columns g (length g.callbacks) k → Covers g k
covers_all g k h = record {
  callbacks = h.count;
  points = λ c below. (h.each c below).covered.count;
  entries = λ c below. (h.each c below).covered.entered;
  steps = λ c point x below within at. (h.each c below).covered.steps point x within at;
}

pub least_of_all : (g : Graph) (k : Certificate) → Columns g (length g.callbacks) k → IsLeast g k
least_of_all g k h other c callback point = by_place (cases_lt callback (length g.callbacks))
  where
    none_below : (xs : List Point) → xs ≡ [] → IsPointBelow (get_or xs point None) (state_at other callback point)
    none_below [] e = tt
    none_below (x ∷ xs) e = cc

    by_place : ((callback < length g.callbacks) ⊎ (length g.callbacks ≤ callback)) →
        IsPointBelow (state_at k callback point) (state_at other callback point)
    by_place (inl l) = (h.each callback l).least (get_or other callback []) (column_of g other callback c l) point
    by_place (inr l) = none_below (get_or k callback []) (get_or-eq_default k [] (let b = h.count in omega arith))

-- a callback that no points cover lets no certificate cover the graph
pub none_covers : (g : Graph) (callback : ℕ) → callback < length g.callbacks → ((ys : List Point) → IsCovered g callback ys → ⊥) →
    NoneCovers g
none_covers g callback below h k good c = h (get_or k callback []) (column_of g k callback c below)

-- ---- certificates have room

callbacks_at : (k : Certificate) (callback : ℕ) → list_all is_callback k ≡ true → callback < length k →
    is_callback (get_or k callback []) ≡ true
callbacks_at [] callback h below = absurd (omega arith)
callbacks_at (points ∷ k) zero h below = (and_parts _ _ h).0
callbacks_at (points ∷ k) (suc callback) h below =
    callbacks_at k callback (and_parts (is_callback points) (list_all is_callback k) h).1 (omega arith)

room_of : (g : Graph) (k : Certificate) → is_certificate k ≡ true → Covers g k → HasRoom g
room_of g k good c =
    let some = and_parts (nat_lt 0 (length k)) _ good in
    let few = and_parts (nat_lt (length k) 17) _ some.1 in
    let count = c.callbacks in
    let least = ltb-true 0 (length k) some.0 in
    let most = ltb-true (length k) 17 few.0 in
    record {
      some = omega arith;
      few = omega arith;
      points = λ callback below.
          let one = callbacks_at k callback few.1 (omega arith) in
          let parts = and_parts (nat_lt 0 (length (get_or k callback []))) _ one in
          let more = and_parts (nat_lt (length (get_or k callback [])) 513) _ parts.1 in
          let low = ltb-true 0 (length (get_or k callback [])) parts.0 in
          let high = ltb-true (length (get_or k callback [])) 513 more.0 in
          let same : points_at g callback ≡ length (get_or k callback []) = c.points callback below in
          (omega arith, omega arith);
    }

-- where a callback has more points than a certificate can have, none covers the graph
pub none_without_room : (g : Graph) → (HasRoom g → ⊥) → NoneCovers g
none_without_room g h k good c = h (room_of g k good c)

all_callbacks : (g : Graph) (i : ℕ) (k : Certificate) → ((c : ℕ) → c < length k → is_callback (get_or k c []) ≡ true) →
    list_all is_callback k ≡ true
all_callbacks g i [] h = refl
all_callbacks g i (points ∷ k) h = and_from _ _ (h 0 (omega arith)) (all_callbacks g (suc i) k (λ c below. h (suc c) (omega arith)))

-- columns for all callbacks are a certificate, where there is room
pub is_made : (g : Graph) (k : Certificate) → HasRoom g → Columns g (length g.callbacks) k → is_certificate k ≡ true
is_made g k room h =
    let count = h.count in
    let some = room.some in
    let few = room.few in
    and_from _ _ (lt-ltb 0 (length k) (omega arith)) (and_from _ _ (lt-ltb (length k) 17 (omega arith))
    (all_callbacks g 0 k (λ c below. made c (omega arith))))
  where
    made : (c : ℕ) → c < length g.callbacks → is_callback (get_or k c []) ≡ true
    made c below =
        let one = h.each c below in
        let same = one.covered.count in
        let points = room.points c below in
        let low = points.0 in
        let high = points.1 in
        and_from _ _ (lt-ltb 0 (length (get_or k c [])) (omega arith))
        (and_from _ _ (lt-ltb (length (get_or k c [])) 513 (omega arith)) one.proper)

-- the same, of a certificate that was made of these columns
made_same : (o : Option Certificate) (k made : Certificate) → IfSome o (λ i. i ≡ k) → o ≡ Some made → made ≡ k
made_same (Some i) k made h e = let same : i ≡ made = cc in sym same ∙ h
made_same None k made h e = cc

-- what is made of columns for all callbacks covers the graph
pub made_covers : (g : Graph) (k made : Certificate) (o : Option Certificate) → IfSome o (λ i. i ≡ k) → o ≡ Some made →
    Columns g (length g.callbacks) k → Covers g made
made_covers g k made o h e c = subst (λ i. Covers g i) (sym (made_same o k made h e)) (covers_all g k c)

-- what is made of columns for all callbacks is below every certificate that covers
pub made_least : (g : Graph) (k made : Certificate) (o : Option Certificate) → IfSome o (λ i. i ≡ k) → o ≡ Some made →
    Columns g (length g.callbacks) k → IsLeast g made
made_least g k made o h e c = subst (λ i. IsLeast g i) (sym (made_same o k made h e)) (least_of_all g k c)
