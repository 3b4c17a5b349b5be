-- From where on points are pending, at the earliest.
use Rattle.std.proofs.Common.{◌≡◌, ℕ, zero, suc, ◌+◌, ◌<◌, ◌≤◌, min, Bool, true, false, List, [], ◌∷◌, Option}
use Rattle.std.proofs.Common.{Some, None, length, get_or, set, refl, sym, ap, subst, ◌∙◌, arith, ⊎_elim}
use Rattle.std.proofs.lemmas.Bool.{cases_lt}
use Rattle.std.proofs.lemmas.List.{get_or-set_other}
use Rattle.flt_analyse.specs.Pending.{least, least_from}
use Rattle.flt_explain.specs.Pending.{IsClear, earliest}
use Rattle.flt_explain.specs.Walk.{Progress, progress, known, news, arrived_if, reached, led}
use Rattle.flt_explain.specs.declared.finding.Finding.{Finding}
use Rattle.flt_explain.specs.declared.sight.Sight.{Sight}
use Rattle.flt_explain.specs.declared.sight.Way.{Way}
use Rattle.flt_explain.specs.declared.sight.Ways.{Ways}
use Rattle.flt_explain.specs.declared.tell.Spot.{Spot}
use Rattle.flt_explain.specs.declared.walk.Walk.{Walk}

-- ---- the least flag

set_at : (bs : List Bool) (p k n : ℕ) → n ≡ k + p → ((q : ℕ) → q < p → get_or bs q false ≡ false) → get_or bs p false ≡ true →
    least_from k bs ≡ Some n
set_at [] p k n e c s = absurd (cc)
set_at (true ∷ bs) zero k n e c s = let same : k ≡ n = omega (arith, e) in ap (λ m. Some m) same
set_at (false ∷ bs) zero k n e c s = absurd (cc)
set_at (true ∷ bs) (suc p) k n e c s = let none : true ≡ false = c 0 (omega arith) in absurd (cc)
set_at (false ∷ bs) (suc p) k n e c s = set_at bs p (suc k) n (omega (arith, e)) (λ q l. c (suc q) (omega (arith, l))) s

-- a flag that is set is the least, where none before it is
pub first_set : (bs : List Bool) (p : ℕ) → IsClear p bs → get_or bs p false ≡ true → least bs ≡ Some p
first_set bs p c s = set_at bs p 0 p (omega arith) c.each s

none_from : (bs : List Bool) (k : ℕ) → ((q : ℕ) → q < length bs → get_or bs q false ≡ false) → least_from k bs ≡ None
none_from [] k c = refl
none_from (true ∷ bs) k c = let none : true ≡ false = c 0 (omega arith) in absurd (cc)
none_from (false ∷ bs) k c = none_from bs (suc k) (λ q l. c (suc q) (omega (arith, l)))

-- where none is set, there is no least
pub none_set : (bs : List Bool) (n : ℕ) → IsClear n bs → length bs ≤ n → least bs ≡ None
none_set bs n c l = none_from bs 0 (λ q within. c.each q (omega (arith, within, l)))

-- ---- where none is set

-- none is before the first
pub at_start : (bs : List Bool) → IsClear 0 bs
at_start bs = record { each = λ q less. absurd (omega (arith, less)) }

-- one more flag that isn't set
pub one_more : (bs : List Bool) (n : ℕ) → IsClear n bs → get_or bs n false ≡ false → IsClear (n + 1) bs
one_more bs n c s = record {
  each = λ q l. ⊎_elim (λ less. c.each q less)
      (λ more. let same : q ≡ n = omega (arith, l, more) in ap (λ i. get_or bs i false) same ∙ s) (cases_lt q n);
}

-- fewer flags
fewer : (bs : List Bool) (m n : ℕ) → m ≤ n → IsClear n bs → IsClear m bs
fewer bs m n l c = record { each = λ q less. c.each q (omega (arith, l, less)) }

-- a flag from there on says nothing of those before
pub still_clear : (bs : List Bool) (p m : ℕ) (b : Bool) → m ≤ p → IsClear m bs → IsClear m (set bs p b)
still_clear bs p m b l c = record {
  each = λ q less.
      get_or-set_other bs p q b false (λ e. absurd (omega (arith, l, less, e))) ∙ c.each q less;
}

-- ---- after a look

arrived_clear : (w : Walk) (point n : ℕ) (o : Option Sight) → n ≤ point → IsClear n w.pending → IsClear n (arrived_if w point o).pending
arrived_clear w point n None l c = c
arrived_clear w point n (Some a) l c = still_clear w.pending point n true l c

reached_clear : (w : Walk) (n : ℕ) (way : Option Way) → IsClear n w.pending → IsClear (earliest n way) (reached w way).pending
unfolding reached
reached_clear w n None c = c
reached_clear w n (Some y) c =
    arrived_clear w y.point (min n y.point) (news (known w y.point) y.sight) (omega arith)
    (fewer w.pending (min n y.point) n (omega arith) c)

led_clear : (s : Spot) (ways : Ways) (n : ℕ) (x : Progress) → IsClear n x.walk.pending →
    IsClear (earliest (earliest n ways.first) ways.second) (led s ways x).walk.pending
unfolding led
led_clear s ways n x c =
    reached_clear (reached x.walk ways.first) (earliest n ways.first) ways.second (reached_clear x.walk n ways.first c)

-- two ways lead to points that are pending, and others before them aren't
pub look_clear : (s : Spot) (ways : Ways) (w v : Walk) (found all : List Finding) (first second n : ℕ) → IsClear n w.pending →
    progress v all ≡ led s ways (progress w found) → first ≡ earliest n ways.first → second ≡ earliest first ways.second →
    IsClear second v.pending
look_clear s ways w v found all first second n c e f t =
    subst (λ (x : Progress). IsClear second x.walk.pending) (sym e)
    (subst (λ m. IsClear m (led s ways (progress w found)).walk.pending) (sym (t ∙ ap (λ m. earliest m ways.second) f))
    (led_clear s ways n (progress w found) c))
