-- What follows from slots, made one point and one callback after the other.
use Rattle.std.proofs.Common.{◌≡◌, ◌<◌, ◌≤◌, ◌+◌, ℕ, zero, suc, true, false, List, [], ◌∷◌, ◌++◌}
use Rattle.std.proofs.Common.{length, take, drop, get_or, None, refl, ap, ◌∙◌, arith, take_all}
use Rattle.std.specs.Prelude.{nat_lt}
use Rattle.std.proofs.lemmas.List.{take_more, length-take-le}
use Rattle.flt_graph.specs.Graph.{instruction_at}
use Rattle.flt_graph.specs.Kept.{edges_of}
use Rattle.flt_graph.specs.declared.graph.Graph.{Graph}
use Rattle.flt_cert.specs.Format.{Point, Certificate}
use Rattle.flt_cert.specs.Thin.{Slot, Thin}
use Rattle.flt_check.specs.Full.{reached_from, followed, filled_in, filled, full_points, full_from, full}

-- ---- the point that has an edge

-- a point that has none is passed over
pub followed_later : (g : Graph) (callback to from : ℕ) (points : List Point) → from < length points →
    nat_lt 0 (edges_of (instruction_at g callback from) to) ≡ false →
    followed g callback to from (drop from points) ≡ followed g callback to (from + 1) (drop (from + 1) points)
followed_later g callback to from points h none =
    let next : suc from ≡ from + 1 = omega arith in
    later points from from h none ∙ ap (λ n. followed g callback to n (drop n points)) next
  where
    later : (points : List Point) (i n : ℕ) → i < length points → nat_lt 0 (edges_of (instruction_at g callback n) to) ≡ false →
        followed g callback to n (drop i points) ≡ followed g callback to (suc n) (drop (suc i) points)
    later [] i n h none = absurd (omega arith)
    later (x ∷ points) zero n h none = rw none refl
    later (x ∷ points) (suc i) n h none = later points i n (omega arith) none

-- the first one that has it is where it follows from
pub followed_here : (g : Graph) (callback to from : ℕ) (points : List Point) → from < length points →
    nat_lt 0 (edges_of (instruction_at g callback from) to) ≡ true →
    followed g callback to from (drop from points) ≡ reached_from g callback from to (get_or points from None)
followed_here g callback to from points h some = here points from from h some
  where
    here : (points : List Point) (i n : ℕ) → i < length points → nat_lt 0 (edges_of (instruction_at g callback n) to) ≡ true →
        followed g callback to n (drop i points) ≡ reached_from g callback n to (get_or points i None)
    here [] i n h some = absurd (omega arith)
    here (x ∷ points) zero n h some = rw some refl
    here (x ∷ points) (suc i) n h some = here points i n (omega arith) some

-- where none has it, nothing follows
pub followed_none : (g : Graph) (callback to from : ℕ) (points : List Point) → length points ≤ from →
    followed g callback to from (drop from points) ≡ None
followed_none g callback to from points h = past points from from h
  where
    past : (points : List Point) (i n : ℕ) → length points ≤ i → followed g callback to n (drop i points) ≡ None
    past [] zero n h = refl
    past [] (suc i) n h = refl
    past (x ∷ points) zero n h = absurd (omega arith)
    past (x ∷ points) (suc i) n h = past points i n (omega arith)

-- ---- points

filled_push : (g : Graph) (callback : ℕ) (found : List Point) (slots : List Slot) (s : Slot) →
    filled g callback found (slots ++ s ∷ []) ≡
    filled g callback found slots ++ filled_in g callback (filled g callback found slots) s ∷ []
filled_push g callback found [] s = refl
filled_push g callback found (r ∷ slots) s = filled_push g callback (found ++ filled_in g callback found r ∷ []) slots s

-- the points of one slot more
pub points_more : (g : Graph) (callback n : ℕ) (slots : List Slot) → n < length slots →
    full_points g callback (take (n + 1) slots) ≡
    full_points g callback (take n slots) ++ filled_in g callback (full_points g callback (take n slots)) (get_or slots n None) ∷ []
points_more g callback n slots h =
    ap (full_points g callback) (take_more slots n None h) ∙ filled_push g callback [] (take n slots) (get_or slots n None)

-- those of all slots
pub points_all : (g : Graph) (callback n : ℕ) (slots : List Slot) → length slots ≤ n →
    full_points g callback (take n slots) ≡ full_points g callback slots
points_all g callback n slots h = ap (full_points g callback) (take_all n slots h)

-- ---- callbacks

callbacks_push : (g : Graph) (i n : ℕ) (t : Thin) (s : List Slot) → n ≡ i + length t →
    full_from g i (t ++ s ∷ []) ≡ full_from g i t ++ full_points g n s ∷ []
callbacks_push g i n [] s e = let same : i ≡ n = omega arith in ap (λ m. full_points g m s ∷ []) same
callbacks_push g i n (r ∷ t) s e =
    ap (λ (l : Certificate). full_points g i r ∷ l) (callbacks_push g (suc i) n t s (omega arith))

-- the certificate of one callback more
pub callbacks_more : (g : Graph) (n : ℕ) (t : Thin) → n < length t →
    full g (take (n + 1) t) ≡ full g (take n t) ++ full_points g n (get_or t n []) ∷ []
callbacks_more g n t h =
    let front : length (take n t) ≡ n = length-take-le n t (omega arith) in
    ap (full g) (take_more t n [] h) ∙ callbacks_push g 0 n (take n t) (get_or t n []) (omega arith)

-- that of all callbacks
pub callbacks_all : (g : Graph) (n : ℕ) (t : Thin) → length t ≤ n → full g (take n t) ≡ full g t
callbacks_all g n t h = ap (full g) (take_all n t h)
