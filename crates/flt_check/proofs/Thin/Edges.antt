-- Into a point that isn't kept one edge leads at most, and what follows for it follows from the point that has that edge.
use Rattle.std.proofs.Common.{◌≡◌, ◌<◌, ◌≤◌, ◌+◌, ℕ, zero, suc, Bool, true, false, List, [], ◌∷◌, length}
use Rattle.std.proofs.Common.{take, get_or, Some, None, refl, sym, ap, ◌∙◌, subst, arith, inl, inr}
use Rattle.std.specs.Prelude.{◌⊎◌, ◌==◌, if◌then◌else◌, nat_lt, sum_by}
use Rattle.std.proofs.lemmas.Bool.{cond-true, cond-false, cases_lt, cases_eq, lt-ltb, le-ltb, ltb-false, or_parts}
use Rattle.std.proofs.lemmas.List.{get_or-take, length-take-le, get_or_past}
use Rattle.std.proofs.lemmas.List.Sums.{sum_by_more_le, get_or-le-sum_by}
use Rattle.std.proofs.lemmas.Option.{none-some}
use Rattle.flt_graph.specs.Graph.{callback_at, instruction_at, no_point}
use Rattle.flt_graph.specs.declared.graph.Graph.{Graph}
use Rattle.flt_graph.specs.declared.graph.Point.{Point as GraphPoint}
use Rattle.flt_abs.specs.State.{State}
use Rattle.flt_abs.specs.Step.{transfer}
use Rattle.flt_cert.specs.Format.{Point}
use Rattle.flt_graph.specs.Kept.{edges_of, edges_into, is_repeat, is_kept}
use Rattle.flt_check.specs.Full.{reached_by, reached_from, followed}

-- ---- how many edges lead into a point

-- two places of a list are within its sum
two_within : {X : Type 0} (f : X → ℕ) (xs : List X) (m n : ℕ) (d : X) → m < n → n < length xs →
    f (get_or xs m d) + f (get_or xs n d) ≤ sum_by f xs
two_within f xs m n d before within =
    let later = sum_by_more_le f xs n d within in
    let front : length (take n xs) ≡ n = length-take-le n xs (omega arith) in
    let first : f (get_or (take n xs) m d) ≤ sum_by f (take n xs) = get_or-le-sum_by f (take n xs) m d (omega arith) in
    let same : f (get_or (take n xs) m d) ≡ f (get_or xs m d) = ap f (get_or-take n xs m d before) in
    omega arith

abbrev into : ℕ → GraphPoint → ℕ
into to q = edges_of q.instruction to

-- a point that isn't there has no edge
within_callback : (g : Graph) (callback n to : ℕ) → 0 < edges_of (instruction_at g callback n) to →
    n < length (callback_at g callback).points
within_callback g callback n to h = by (cases_lt n (length (callback_at g callback).points))
  where
    by : ((n < length (callback_at g callback).points) ⊎ (length (callback_at g callback).points ≤ n)) →
        n < length (callback_at g callback).points
    by (inl l) = l
    by (inr past) =
        let none : edges_of (instruction_at g callback n) to ≡ 0 =
        ap (into to) (get_or_past (callback_at g callback).points n no_point past) in
        absurd (omega arith)

-- a point's own edges are among them
pub own_edges : (g : Graph) (callback n to : ℕ) → edges_of (instruction_at g callback n) to ≤ edges_into g callback to
own_edges g callback n to = by (cases_lt 0 (edges_of (instruction_at g callback n) to))
  where
    by : ((0 < edges_of (instruction_at g callback n) to) ⊎ (edges_of (instruction_at g callback n) to ≤ 0)) →
        edges_of (instruction_at g callback n) to ≤ edges_into g callback to
    by (inl some) = get_or-le-sum_by (into to) (callback_at g callback).points n no_point (within_callback g callback n to some)
    by (inr none) = omega arith

-- where one edge leads into a point at most and a point has it, no other has one
pub alone : (g : Graph) (callback to n m : ℕ) → edges_into g callback to ≤ 1 → 0 < edges_of (instruction_at g callback n) to →
    (m ≡ n → ⊥) → edges_of (instruction_at g callback m) to ≡ 0
alone g callback to n m few has other = by (cases_lt 0 (edges_of (instruction_at g callback m) to))
  where
    here : n < length (callback_at g callback).points
    here = within_callback g callback n to has

    by : ((0 < edges_of (instruction_at g callback m) to) ⊎ (edges_of (instruction_at g callback m) to ≤ 0)) →
        edges_of (instruction_at g callback m) to ≡ 0
    by (inr none) = omega arith
    by (inl some) = by_order (cases_lt m n)
      where
        by_order : ((m < n) ⊎ (n ≤ m)) → edges_of (instruction_at g callback m) to ≡ 0
        by_order (inl less) =
            let two : edges_of (instruction_at g callback m) to + edges_of (instruction_at g callback n) to ≤ edges_into g callback to =
            two_within (into to) (callback_at g callback).points m n no_point less here in
            absurd (omega arith)
        by_order (inr more) =
            let apart : n < m = by_apart (cases_eq m n) more in
            let two : edges_of (instruction_at g callback n) to + edges_of (instruction_at g callback m) to ≤ edges_into g callback to =
            two_within (into to) (callback_at g callback).points n m no_point apart (within_callback g callback m to some) in
            absurd (omega arith)
          where
            by_apart : ((m ≡ n) ⊎ (m ≡ n → ⊥)) → n ≤ m → n < m
            by_apart (inl e) h = absurd (other e)
            by_apart (inr e) h = omega arith

-- a point that isn't kept is no `repeat`, and has few edges
pub record IsOther (g : Graph) (callback point : ℕ) : Type 0 where
  pub later : (point == 0) ≡ false
  pub plain : is_repeat (instruction_at g callback point) ≡ false
  pub few : edges_into g callback point ≤ 1

-- what a point is that isn't kept
pub other_of : (g : Graph) (callback point : ℕ) → is_kept g callback point ≡ false → IsOther g callback point
other_of g callback point h =
    let first = or_parts (point == 0) _ h in
    let second = or_parts (is_repeat (instruction_at g callback point)) _ first.1 in
    record { later = first.0; plain = second.0; few = ltb-false 1 (edges_into g callback point) second.1 }

-- ---- what follows from the points before

-- it follows from the first point that has an edge
pub followed_at : (g : Graph) (callback to from : ℕ) (points : List Point) (i n : ℕ) → n ≡ from + i → i < length points →
    0 < edges_of (instruction_at g callback n) to →
    ((m : ℕ) → from ≤ m → m < n → edges_of (instruction_at g callback m) to ≡ 0) →
    followed g callback to from points ≡ reached_from g callback n to (get_or points i None)
followed_at g callback to from [] i n e within has before = absurd (omega arith)
followed_at g callback to from (x ∷ points) zero n e within has before =
    let same : n ≡ from = omega arith in
    let hit : 0 < edges_of (instruction_at g callback from) to = subst (λ m. 0 < edges_of (instruction_at g callback m) to) same has in
    cond-true (nat_lt 0 (edges_of (instruction_at g callback from) to)) (reached_from g callback from to x)
    (followed g callback to (suc from) points) (lt-ltb 0 (edges_of (instruction_at g callback from) to) hit)
    ∙ ap (λ m. reached_from g callback m to x) (sym same)
followed_at g callback to from (x ∷ points) (suc i) n e within has before =
    let miss : edges_of (instruction_at g callback from) to ≡ 0 = before from (omega arith) (omega arith) in
    cond-false (nat_lt 0 (edges_of (instruction_at g callback from) to)) (reached_from g callback from to x)
    (followed g callback to (suc from) points) (le-ltb 0 (edges_of (instruction_at g callback from) to) (omega arith))
    ∙ followed_at g callback to (suc from) points i n (omega arith) (omega arith) has (λ m low high. before m (omega arith) high)

-- nothing follows where none has one
pub followed_none : (g : Graph) (callback to from : ℕ) (points : List Point) →
    ((m : ℕ) → from ≤ m → m < from + length points → edges_of (instruction_at g callback m) to ≡ 0) →
    followed g callback to from points ≡ None
followed_none g callback to from [] before = refl
followed_none g callback to from (x ∷ points) before =
    let miss : edges_of (instruction_at g callback from) to ≡ 0 = before from (omega arith) (omega arith) in
    cond-false (nat_lt 0 (edges_of (instruction_at g callback from) to)) (reached_from g callback from to x)
    (followed g callback to (suc from) points) (le-ltb 0 (edges_of (instruction_at g callback from) to) (omega arith))
    ∙ followed_none g callback to (suc from) points (λ m low high. before m (omega arith) (omega arith))

-- what follows follows from some point before
pub record Source (g : Graph) (callback to from : ℕ) (points : List Point) (x : State) : Type 0 where
  pub place : ℕ
  pub number : ℕ
  pub counted : number ≡ from + place
  pub within : place < length points
  pub state : State
  pub there : get_or points place None ≡ Some state
  pub reached : reached_by to (transfer g callback number state) ≡ Some x

reached_some : (g : Graph) (callback n to : ℕ) (o : Point) (x : State) → reached_from g callback n to o ≡ Some x →
    (y : State) × (o ≡ Some y) × (reached_by to (transfer g callback n y) ≡ Some x)
reached_some g callback n to None x e = absurd (none-some x e)
reached_some g callback n to (Some y) x e = (y, refl, e)

-- where what follows comes from
pub source : (g : Graph) (callback to from : ℕ) (points : List Point) (x : State) → followed g callback to from points ≡ Some x →
    Source g callback to from points x
source g callback to from [] x e = absurd (none-some x e)
source g callback to from (p ∷ points) x e =
    by (nat_lt 0 (edges_of (instruction_at g callback from) to)) e (source g callback to (suc from) points x)
  where
    by : (b : Bool) → (if b then reached_from g callback from to p else followed g callback to (suc from) points) ≡ Some x →
        (followed g callback to (suc from) points ≡ Some x → Source g callback to (suc from) points x) →
        Source g callback to from (p ∷ points) x
    by true h rest =
        let one = reached_some g callback from to p x h in
        record {
          place = 0;
          number = from;
          counted = omega arith;
          within = omega arith;
          state = one.0;
          there = one.1;
          reached = one.2;
        }
    by false h rest =
        let s = rest h in
        record {
          place = suc s.place;
          number = s.number;
          counted = (let e = s.counted in omega arith);
          within = (let e = s.within in omega arith);
          state = s.state;
          there = s.there;
          reached = s.reached;
        }
