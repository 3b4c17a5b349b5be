-- How often an activation holds contexts in all, with one of them more or less.
use Rattle.std.proofs.Common.{◌≡◌, ◌≢◌, ⊎_elim, subst, ℕ, zero, suc, ◌+◌, ◌-◌, ◌<◌, ◌≤◌, List, ap, sym, refl, ◌∙◌, arith}
use Rattle.std.proofs.lemmas.Bool.{cases_eq, cases_lt}
use Rattle.std.proofs.lemmas.Bool.Decides.{nat_tests}
use Rattle.std.specs.Prelude.{◌==◌, ◌↔◌, IsTrue}
use Rattle.flt_model.specs.Trace.{one_if, of_actor}
use Rattle.flt_replay_records.specs.Counts.{count}
use Rattle.flt_replay.specs.Rows.{Counted, count_of}
use Rattle.flt_replay.specs.Holdings.{times_held, sum_below, AreTotals}
use Rattle.flt_replay.proofs.Counting.Ones.{one_here, one_elsewhere, actor_here, actor_elsewhere, actor_none}

-- ---- sums

-- the same numbers have the same sum
same_sum : (n : ℕ) (f g : ℕ → ℕ) → ((x : ℕ) → f x ≡ g x) → sum_below n f ≡ sum_below n g
unfolding sum_below
same_sum zero f g h = refl
same_sum (suc n) f g h = omega (arith, h n, same_sum n f g h)

-- from a number on there is nothing more
sum_beyond : (n m : ℕ) (f : ℕ → ℕ) → ((x : ℕ) → n ≤ x → f x ≡ 0) → sum_below (m + n) f ≡ sum_below n f
unfolding sum_below
sum_beyond n zero f h =
    let e : 0 + n ≡ n = omega arith in
    ap (λ (k : ℕ). sum_below k f) e
sum_beyond n (suc m) f h =
    let none : f (m + n) ≡ 0 = h (m + n) (omega arith) in
    let e : suc m + n ≡ suc (m + n) = omega arith in
    let here : sum_below (suc (m + n)) f ≡ f (m + n) + sum_below (m + n) f = refl in
    let later : sum_below (m + n) f ≡ sum_below n f = sum_beyond n m f h in
    let whole : sum_below (suc (m + n)) f ≡ sum_below n f = omega (arith, here, none, later) in
    ap (λ (k : ℕ). sum_below k f) e ∙ whole

sum_to : (n m : ℕ) (f : ℕ → ℕ) → n ≤ m → ((x : ℕ) → n ≤ x → f x ≡ 0) → sum_below m f ≡ sum_below n f
sum_to n m f l h =
    let e : m ≡ (m - n) + n = omega (arith, l) in
    ap (λ (k : ℕ). sum_below k f) e ∙ sum_beyond n (m - n) f h

sum_unchanged : (n : ℕ) (f g : ℕ → ℕ) → ((x : ℕ) → x < n → g x ≡ f x) → sum_below n g ≡ sum_below n f
unfolding sum_below
sum_unchanged zero f g h = refl
sum_unchanged (suc n) f g h = omega (arith, h n (omega arith), sum_unchanged n f g (λ x less. h x (omega (arith, less))))

-- one number has one more
sum_more_at : (n k : ℕ) (f g : ℕ → ℕ) → k < n → g k ≡ f k + 1 → ((x : ℕ) → k ≢ x → g x ≡ f x) → sum_below n g ≡ sum_below n f + 1
unfolding sum_below
sum_more_at zero k f g l here other = absurd (omega (arith, l))
sum_more_at (suc n) k f g l here other =
    ⊎_elim (λ (e : k ≡ n). omega (
      arith,
      subst (λ (i : ℕ). g i ≡ f i + 1) e here,
      sum_unchanged n f g (λ x less. other x (λ is. omega (arith, is, e, less))),
    ))
    (λ (ne : k ≢ n). omega (arith, other n ne, sum_more_at n k f g (omega (arith, l, ne)) here other))
    (cases_eq k n)

-- a number is no more than the sum
sum_has : (n k : ℕ) (f : ℕ → ℕ) → k < n → f k ≤ sum_below n f
unfolding sum_below
sum_has zero k f l = absurd (omega (arith, l))
sum_has (suc n) k f l =
    ⊎_elim (λ (e : k ≡ n). subst (λ (i : ℕ). f i ≤ f n + sum_below n f) (sym e) (omega arith))
    (λ (ne : k ≢ n). omega (arith, sum_has n k f (omega (arith, l, ne))))
    (cases_eq k n)

sum_none : (n : ℕ) (f : ℕ → ℕ) → ((x : ℕ) → f x ≡ 0) → sum_below n f ≡ 0
unfolding sum_below
sum_none zero f h = refl
sum_none (suc n) f h = omega (arith, h n, sum_none n f h)

-- ---- how often each activation holds each context

-- by context and activation, or by activation and context
turned_round : (a b x y : ℕ) → of_actor x y (one_if a b) ≡ of_actor a b (one_if x y)
unfolding of_actor one_if
turned_round a b x y = grind (arith, nat_tests)

-- once more where it counts, and elsewhere as before
module _ (a x : ℕ) (f g : ℕ → ℕ → ℕ) (h : (b y : ℕ) → g b y ≡ f b y + of_actor a b (one_if x y)) where
  here : g a x ≡ f a x + 1
  here = omega (arith, h a x, actor_here a (one_if x x), one_here x)

  beside : (y : ℕ) → x ≢ y → g a y ≡ f a y
  beside y ne = omega (arith, h a y, actor_here a (one_if x y), one_elsewhere x y ne)

  of_another : (b y : ℕ) → a ≢ b → g b y ≡ f b y
  of_another b y ne = omega (arith, h b y, actor_elsewhere a b (one_if x y) ne)

  sum_of : (n b : ℕ) → x < n → sum_below n (g b) ≡ sum_below n (f b) + one_if a b
  sum_of n b l =
      ⊎_elim (λ (e : a ≡ b). subst (λ (i : ℕ). sum_below n (g i) ≡ sum_below n (f i) + one_if a i) e
      (omega (arith, sum_more_at n x (f a) (g a) l here beside, one_here a)))
      (λ (ne : a ≢ b). omega (arith, same_sum n (g b) (f b) (λ y. of_another b y ne), one_elsewhere a b ne))
      (cases_eq a b)

  nothing_beyond : (n : ℕ) → x < n → ((b y : ℕ) → n ≤ y → f b y ≡ 0) → (b y : ℕ) → n ≤ y → g b y ≡ 0
  nothing_beyond n l none b y beyond =
      omega (arith, h b y, none b y beyond, ap (of_actor a b) (one_elsewhere x y (λ e. omega (arith, e, l, beyond))), actor_none a b)

-- an activation that holds one context once more holds contexts once more in all
pub times_more : (c d : Counted) (a x : ℕ) → ((y b : ℕ) → count_of d y b ≡ count_of c y b + of_actor x y (one_if a b)) →
    (b y : ℕ) → times_held d b y ≡ times_held c b y + of_actor a b (one_if x y)
unfolding times_held
times_more c d a x h b y = omega (arith, h y b, turned_round a b x y)

-- ---- totals

-- where nothing is counted, the totals are right and nothing is known
pub none : (c : Counted) (totals : List ℕ) → ((x a : ℕ) → count_of c x a ≡ 0) → ((a : ℕ) → count totals a ≡ 0) → AreTotals c totals 0
unfolding times_held sum_below
none c totals h t = record { each = t; bounded = λ a x l. h x a }

-- an activation holds none exactly where its total is 0
pub none_held : (c : Counted) (totals : List ℕ) (known a : ℕ) → AreTotals c totals known →
    IsTrue (count totals a == 0) ↔ ((x : ℕ) → times_held c a x ≡ 0)
none_held c totals known a are = (
  λ e x. ⊎_elim (λ (l : x < known). grind (arith, nat_tests, e, are.each a, sum_has known x (times_held c a) l))
      (λ (l : known ≤ x). are.bounded a x l) (cases_lt x known),
  λ h. grind (arith, nat_tests, are.each a, sum_none known (times_held c a) h),
)

-- one context is held once more
pub more : (c d : Counted) (totals new : List ℕ) (known now a x : ℕ) → AreTotals c totals known → known ≤ now → x < now →
    ((y b : ℕ) → count_of d y b ≡ count_of c y b + of_actor x y (one_if a b)) →
    ((b : ℕ) → count new b ≡ count totals b + one_if a b) → AreTotals d new now
more c d totals new known now a x are up l h t = record {
  each = λ b. omega (
    arith,
    t b,
    are.each b,
    sum_to known now (times_held c b) up (are.bounded b),
    sum_of a x (times_held c) (times_held d) (times_more c d a x h) now b l,
  );
  bounded = nothing_beyond a x (times_held c) (times_held d) (times_more c d a x h) now l
      (λ b y beyond. are.bounded b y (omega (arith, up, beyond)));
}

-- one that is held is held once less
pub less : (c d : Counted) (totals new : List ℕ) (known a x : ℕ) → AreTotals c totals known → 0 < count_of c x a →
    ((y b : ℕ) → count_of c y b ≡ count_of d y b + of_actor x y (one_if a b)) →
    (0 < count totals a → (b : ℕ) → count totals b ≡ count new b + one_if a b) → AreTotals d new known
unfolding times_held
less c d totals new known a x are some h t =
    let within : x < known =
    ⊎_elim (λ (l : x < known). l) (λ (l : known ≤ x). absurd (omega (arith, are.bounded a x l, some))) (cases_lt x known) in
    let total : 0 < count totals a = omega (arith, are.each a, sum_has known x (times_held c a) within, some) in
    record {
      each = λ b. omega (arith, t total b, are.each b, sum_of a x (times_held d) (times_held c) (times_more d c a x h) known b within);
      bounded = λ b y beyond. omega (arith, h y b, are.bounded b y beyond);
    }

-- nothing changes
pub same : (c d : Counted) (totals new : List ℕ) (known : ℕ) → AreTotals c totals known → ((y b : ℕ) → count_of d y b ≡ count_of c y b) →
    ((b : ℕ) → count new b ≡ count totals b) → AreTotals d new known
unfolding times_held
same c d totals new known are h t = record {
  each = λ b. omega (arith, t b, are.each b, same_sum known (times_held d b) (times_held c b) (λ y. h y b));
  bounded = λ b y beyond. omega (arith, h y b, are.bounded b y beyond);
}

-- one more, which is taken back
pub given_back : (c d : Counted) (totals mid new : List ℕ) (known a : ℕ) → AreTotals c totals known →
    ((y b : ℕ) → count_of d y b ≡ count_of c y b) → ((b : ℕ) → count mid b ≡ count totals b + one_if a b) →
    (0 < count mid a → (b : ℕ) → count mid b ≡ count new b + one_if a b) → AreTotals d new known
given_back c d totals mid new known a are h t u =
    let some : 0 < count mid a = omega (arith, t a, one_here a) in
    same c d totals new known are h (λ b. omega (arith, t b, u some b))
