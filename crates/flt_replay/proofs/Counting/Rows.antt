-- What counts by activation say: of the number in place beside the others, and after one of them changes.
use Rattle.std.proofs.Common.{◌≡◌, ◌≢◌, ⊎_elim, subst, ℕ, zero, suc, ◌+◌, ◌-◌, ◌<◌, ◌≤◌}
use Rattle.std.proofs.Common.{List, [], ◌∷◌, ◌++◌, ap, sym, refl, ◌∙◌, arith, length, min}
use Rattle.std.proofs.Math.ListN.{set, get_or}
use Rattle.std.proofs.lemmas.Bool.{cases_eq}
use Rattle.std.proofs.lemmas.Bool.Decides.{nat_tests}
use Rattle.std.proofs.lemmas.Grind.{get_or-set_at}
use Rattle.std.proofs.lemmas.List.{get_or-set_other}
use Rattle.std.proofs.lemmas.List.Sums.{sum_by_push}
use Rattle.flt_model.specs.Trace.{one_if, of_actor}
use Rattle.flt_replay_records.specs.Counts.{count, occurs}
use Rattle.flt_replay.specs.Rows.{Counted, AreApart, blank, in_place, count_among, count_of}
use Rattle.flt_replay.specs.declared.ledger.rows.First.{First}
use Rattle.flt_replay.proofs.Counting.Ones.{one_elsewhere, actor_here, actor_elsewhere}

-- ---- the number in place

-- it counts itself
counts_itself : (f : First) → in_place f f.number ≡ f.times
unfolding in_place
counts_itself f = grind (arith, nat_tests)

-- and no other
counts_no_other : (f : First) (n : ℕ) → f.number ≢ n → in_place f n ≡ 0
unfolding in_place
counts_no_other f n ne = grind (arith, nat_tests)

-- once, where it counts
pub once : (f : First) (n : ℕ) → 0 < f.times → min 1 (in_place f n) ≡ one_if f.number n
unfolding in_place one_if
once f n some = grind (arith, nat_tests)

-- where nothing is in place, no number is counted there
pub never : (f : First) (n : ℕ) → f.times ≡ 0 → in_place f n ≡ 0
unfolding in_place
never f n none = grind (arith, nat_tests)

-- where what counts in place is counted, so is the number
pub some_holder_of : (f : First) (holders : List ℕ) → 0 < f.times → ((n : ℕ) → min 1 (in_place f n) ≤ count holders n) →
    0 < count holders f.number
some_holder_of f holders some fits = omega (arith, fits f.number, counts_itself f, some)

-- each number that an activation counts, once: the one in place and the others
pub once_each : (c : Counted) → AreApart c → (a n : ℕ) →
    min 1 (count_of c a n) ≡ min 1 (in_place (get_or c.firsts a blank) n) + min 1 (count_among c.others a n)
unfolding count_of
once_each c apart a n =
    let f : First = get_or c.firsts a blank in
    ⊎_elim (λ (e : f.number ≡ n). subst (λ (m : ℕ). min 1 (in_place f m + count_among c.others a m) ≡ min 1 (in_place f m) + min 1
    (count_among c.others a m)) e
    (omega (arith, apart a)))
    (λ (ne : f.number ≢ n). omega (arith, counts_no_other f n ne))
    (cases_eq f.number n)

-- a number is listed once more
pub listed_once_more : (numbers : List ℕ) (k n : ℕ) → occurs n (numbers ++ k ∷ []) ≡ occurs n numbers + one_if k n
listed_once_more numbers k n = sum_by_push (λ (i : ℕ). one_if i n) numbers k

-- ---- room for activations

-- one activation more, of which nothing counts
pub grown : (fs : List First) (a : ℕ) → get_or (fs ++ blank ∷ []) a blank ≡ get_or fs a blank
grown [] zero = refl
grown [] (suc a) = refl
grown (f ∷ fs) zero = refl
grown (f ∷ fs) (suc a) = grown fs a

-- ---- another number in place

here : (fs : List First) (a : ℕ) (f : First) → a < length fs → get_or (set fs a f) a blank ≡ f
here fs a f l = get_or-set_at fs a a f blank refl l

elsewhere : (fs : List First) (a b : ℕ) (f : First) → a ≢ b → get_or (set fs a f) b blank ≡ get_or fs b blank
elsewhere fs a b f ne = get_or-set_other fs a b f blank (λ e. ne (sym e))

-- it isn't one of the others
pub apart_in_place : (c : Counted) → AreApart c → (a : ℕ) (f : First) → a < length c.firsts → count_among c.others a f.number ≡ 0 →
    AreApart (record c { firsts = set c.firsts a f })
apart_in_place c apart a f l none b =
    ⊎_elim (λ (e : a ≡ b). subst (λ (i : ℕ). count_among c.others i (get_or (set c.firsts a f) i blank).number ≡ 0) e
    (ap (λ (g : First). count_among c.others a g.number) (here c.firsts a f l) ∙ none))
    (λ (ne : a ≢ b). ap (λ (g : First). count_among c.others b g.number) (elsewhere c.firsts a b f ne) ∙ apart b)
    (cases_eq a b)

-- two lists differ at one activation, where a number in place counts once more in the second
once_more : (fs gs : List First) (os : List (ℕ × List (ℕ × ℕ))) (a k : ℕ) →
    ((b : ℕ) → a ≢ b → get_or gs b blank ≡ get_or fs b blank) →
    ((n : ℕ) → in_place (get_or gs a blank) n ≡ in_place (get_or fs a blank) n + one_if k n) → (b n : ℕ) →
    count_of (record { firsts = gs; others = os }) b n ≡ count_of (record { firsts = fs; others = os }) b n + of_actor a b (one_if k n)
unfolding count_of
once_more fs gs os a k same more b n =
    ⊎_elim (λ (e : a ≡ b). subst (λ (i : ℕ). in_place (get_or gs i blank) n + count_among os i n ≡ in_place
    (get_or fs i blank) n + count_among os i n + of_actor a i (one_if k n)) e
    (omega (arith, more n, actor_here a (one_if k n))))
    (λ (ne : a ≢ b). omega (arith, ap (λ (f : First). in_place f n) (same b ne), actor_elsewhere a b (one_if k n) ne))
    (cases_eq a b)

-- one number counts once more in place
pub more_in_place : (c : Counted) (a k : ℕ) (f : First) → a < length c.firsts →
    ((n : ℕ) → in_place f n ≡ in_place (get_or c.firsts a blank) n + one_if k n) → (b n : ℕ) →
    count_of (record c { firsts = set c.firsts a f }) b n ≡ count_of c b n + of_actor a b (one_if k n)
more_in_place c a k f l more =
    once_more c.firsts (set c.firsts a f) c.others a k (λ b ne. elsewhere c.firsts a b f ne)
    (λ n. ap (λ (g : First). in_place g n) (here c.firsts a f l) ∙ more n)

-- the same number counts once more
pub again : (k t u : ℕ) → u ≡ t + 1 → (n : ℕ) →
    in_place (record { number = k; times = u }) n ≡ in_place (record { number = k; times = t }) n + one_if k n
unfolding in_place one_if
again k t u more n = grind (arith, nat_tests)

-- a number takes the place of one that counts 0
pub moved_in : (f : First) (k : ℕ) → f.times ≡ 0 → (n : ℕ) → in_place (record { number = k; times = 1 }) n ≡ in_place f n + one_if k n
unfolding in_place one_if
moved_in f k none n = grind (arith, nat_tests)

-- one number counts once less in place
less_in_place : (c : Counted) (a k : ℕ) (f : First) → a < length c.firsts →
    ((n : ℕ) → in_place (get_or c.firsts a blank) n ≡ in_place f n + one_if k n) → (b n : ℕ) →
    count_of c b n ≡ count_of (record c { firsts = set c.firsts a f }) b n + of_actor a b (one_if k n)
less_in_place c a k f l less =
    once_more (set c.firsts a f) c.firsts c.others a k (λ b ne. sym (elsewhere c.firsts a b f ne))
    (λ n. less n ∙ ap (λ (g : First). in_place g n + one_if k n) (sym (here c.firsts a f l)))

-- an activation with a number in place that counts has room
has_room : (fs : List First) (a : ℕ) → 0 < (get_or fs a blank).times → a < length fs
has_room [] zero some = absurd (omega (arith, some))
has_room [] (suc a) some = absurd (omega (arith, some))
has_room (f ∷ fs) zero some = omega arith
has_room (f ∷ fs) (suc a) some = omega (arith, has_room fs a some)

-- what is in place counts once less
pub taken_in_place : (c : Counted) → AreApart c → (a k t : ℕ) → k ≡ (get_or c.firsts a blank).number →
    t ≡ (get_or c.firsts a blank).times - 1 → 0 < count_of c a k → (b n : ℕ) →
    count_of c b n ≡ count_of
    (record c { firsts = set c.firsts a (record { number = (get_or c.firsts a blank).number; times = t }) }) b n + of_actor a b (one_if k n)
unfolding count_of
taken_in_place c apart a k t same less counts b n =
    let f : First = get_or c.firsts a blank in
    let at : 0 < in_place f f.number + count_among c.others a f.number =
    subst (λ (m : ℕ). 0 < in_place f m + count_among c.others a m) same counts in
    let some : 0 < f.times = omega (arith, at, counts_itself f, apart a) in
    subst (λ (m : ℕ). count_of c b n ≡ count_of
    (record c { firsts = set c.firsts a (record { number = f.number; times = t }) }) b n + of_actor a b (one_if m n)) (sym same)
    (less_in_place c a f.number (record { number = f.number; times = t }) (has_room c.firsts a some)
    (again f.number t f.times (omega (arith, less, some))) b n)

-- ---- the others change

-- a number that isn't in place and counts is one of them
pub some_among : (c : Counted) (a k : ℕ) → k ≢ (get_or c.firsts a blank).number → 0 < count_of c a k → 0 < count_among c.others a k
unfolding count_of
some_among c a k other counts =
    let f : First = get_or c.firsts a blank in
    omega (arith, counts, counts_no_other f k (λ e. other (sym e)))

-- no number in place is one of them still
pub apart_others : (fs : List First) (os new : List (ℕ × List (ℕ × ℕ))) → ((b : ℕ) → count_among os b (get_or fs b blank).number ≡ 0) →
    (a k : ℕ) → k ≢ (get_or fs a blank).number →
    ((b n : ℕ) → of_actor a b (one_if k n) ≡ 0 → count_among new b n ≡ count_among os b n) →
    (b : ℕ) → count_among new b (get_or fs b blank).number ≡ 0
apart_others fs os new apart a k other same b =
    let unchanged : of_actor a b (one_if k (get_or fs b blank).number) ≡ 0 =
    ⊎_elim (λ (e : a ≡ b). subst (λ (i : ℕ). of_actor a i (one_if k (get_or fs i blank).number) ≡ 0) e
    (actor_here a (one_if k (get_or fs a blank).number) ∙ one_elsewhere k (get_or fs a blank).number other))
    (λ (ne : a ≢ b). actor_elsewhere a b (one_if k (get_or fs b blank).number) ne)
    (cases_eq a b) in
    same b (get_or fs b blank).number unchanged ∙ apart b
