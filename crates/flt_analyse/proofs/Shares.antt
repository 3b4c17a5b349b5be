-- The answers of several workers, and how they come back into the order of the graphs.
use Rattle.std.proofs.Common.{◌≡◌, ◌≢◌, ℕ, zero, suc, ◌+◌, ◌*◌, ◌/◌, ◌<◌, ◌≤◌, ◌%◌, List, [], ◌∷◌, ◌++◌, Option, Some}
use Rattle.std.proofs.Common.{None, Result, length, map, drop, refl, sym, ap, ◌∙◌, arith, slice_get, slice_set}
use Rattle.std.proofs.Math.Path.{subst}
use Rattle.std.proofs.Math.Nat.{mod-add-div, mod-le, mod-eq_of_lt, add-mul-mod_self_left, lt_of_mul-lt-mul_left}
use Rattle.std.proofs.lemmas.Option.{slice_get_within, same_Some}
use Rattle.std.proofs.lemmas.List.{length-set, length_push}
use Rattle.std.specs.List.{AllZip}
use Rattle.std.specs.Prelude.{MatchOption, IsSome}
use Rattle.flt_graph.specs.declared.graph.Graph.{Graph}
use Rattle.flt_cert.specs.Format.{Certificate}
use Rattle.flt_rules.specs.declared.refusal.Refusal.{Refusal}
use Rattle.flt_analyse.specs.All.{IsAnswer, AreAnswers, IsShare, AreShares}
use mathlib.Core.Logic.{dite}
use native.Mathlib.Decide.{ℕ_discrete}

abbrev pub Answer : Type 0
Answer = Result Certificate Refusal

-- ---- lists

get_last : {X : Type 0} (xs : List X) (x : X) → slice_get (xs ++ x ∷ []) (length xs) ≡ Some x
get_last [] x = refl
get_last (y ∷ xs) x = get_last xs x

get_push : {X : Type 0} (xs : List X) (x y : X) (i : ℕ) → slice_get (xs ++ x ∷ []) i ≡ Some y → i ≢ length xs → slice_get xs i ≡ Some y
get_push [] x y zero at other = absurd (other refl)
get_push [] x y (suc i) at other = at
get_push (z ∷ xs) x y zero at other = at
get_push (z ∷ xs) x y (suc i) at other = get_push xs x y i at (λ e. other (ap suc e))

get_left : {X : Type 0} (xs : List X) (x y : X) (i : ℕ) → slice_get xs i ≡ Some y → slice_get (xs ++ x ∷ []) i ≡ Some y
get_left [] x y zero at = absurd (omega (arith, slice_get_within [] zero y at))
get_left [] x y (suc i) at = absurd (omega (arith, slice_get_within [] (suc i) y at))
get_left (z ∷ xs) x y zero at = at
get_left (z ∷ xs) x y (suc i) at = get_left xs x y i at

get_set_same : {X : Type 0} (xs : List X) (i : ℕ) (x : X) → i < length xs → slice_get (slice_set xs i x) i ≡ Some x
get_set_same [] i x within = absurd (omega arith)
get_set_same (y ∷ xs) zero x within = refl
get_set_same (y ∷ xs) (suc i) x within = get_set_same xs i x (omega arith)

get_set_other : {X : Type 0} (xs : List X) (i k : ℕ) (x : X) → i ≢ k → slice_get (slice_set xs k x) i ≡ slice_get xs i
get_set_other [] i k x other = refl
get_set_other (y ∷ xs) zero zero x other = absurd (other refl)
get_set_other (y ∷ xs) zero (suc k) x other = refl
get_set_other (y ∷ xs) (suc i) zero x other = refl
get_set_other (y ∷ xs) (suc i) (suc k) x other = get_set_other xs i k x (λ e. other (ap suc e))

-- ---- a share grows by its worker's turns

pub answers_none : (graphs : List Graph) (workers worker : ℕ) → AreAnswers graphs workers worker []
answers_none graphs workers worker turn g a at there = absurd (omega (arith, slice_get_within [] turn a at))

-- one more answer of a worker is that of its next graph
pub answers_more : (graphs : List Graph) (workers worker : ℕ) (answers : List Answer) (g : Graph) (a : Answer) →
    AreAnswers graphs workers worker answers
    → slice_get graphs (worker + workers * length answers) ≡ Some g → IsAnswer g a → AreAnswers graphs workers worker (answers ++ a ∷ [])
answers_more graphs workers worker answers g a before here answer turn h b at there = dite
    (ℕ_discrete turn (length answers))
    (λ same.
    let last = same_Some a b (sym (get_last answers a) ∙ ap (slice_get (answers ++ a ∷ [])) (sym same) ∙ at) in
    let graph = same_Some g h (sym here ∙ ap (λ n. slice_get graphs (worker + workers * n)) (sym same) ∙ there) in
    subst (λ x. IsAnswer x b) graph (subst (IsAnswer g) last answer))
    (λ other. before turn h b (get_push answers a b turn at other) there)

-- ---- the last place goes

-- the worker whose turn the last place is had it in its last turn
last_turn : (workers place turns : ℕ) → 0 < workers → suc place ≤ place % workers + workers * suc turns →
    place % workers + workers * suc turns < suc place + workers → place % workers + workers * turns ≡ place
last_turn workers place turns some all own =
    let whole : place % workers + workers * (place / workers) ≡ place = mod-add-div place workers in
    let more : workers * suc turns ≡ workers * turns + workers = grind arith in
    let far : workers * suc (place / workers) ≡ workers * (place / workers) + workers = grind arith in
    let below : workers * turns < workers * suc (place / workers) = omega (arith, whole, more, far) in
    let above : workers * (place / workers) < workers * suc turns = omega (arith, whole, more) in
    let less = lt_of_mul-lt-mul_left workers below in
    let least = lt_of_mul-lt-mul_left workers above in
    let same : turns ≡ place / workers = omega (arith, less, least) in
    subst (λ t. place % workers + workers * t ≡ place) (sym same) whole

-- a worker with no turn has no share of the last place
pub some_turn : (graphs : List Graph) (workers place : ℕ) → IsShare graphs workers (suc place) (place % workers) [] → ⊥
some_turn graphs workers place own =
    let below = mod-le place workers in
    let none : workers * 0 ≡ 0 = grind arith in
    absurd (omega (arith, own.all, below, none))

pub last_answer : (graphs : List Graph) (workers place : ℕ) (answers : List Answer) (a : Answer) (g : Graph) → 0 < workers
    → IsShare graphs workers (suc place) (place % workers) (answers ++ a ∷ []) → slice_get graphs place ≡ Some g → IsAnswer g a
last_answer graphs workers place answers a g some own there =
    let long : length (answers ++ a ∷ []) ≡ suc (length answers) = omega (arith, length_push answers a) in
    let at = last_turn workers place (length answers) some (subst (λ n. suc place ≤ place % workers + workers * n) long own.all)
    (subst (λ n. place % workers + workers * n < suc place + workers) long own.own) in
    own.each (length answers) g a (get_last answers a) (ap (slice_get graphs) at ∙ there)

-- the share of the worker whose turn it was, and those of the others
pub share_less : (graphs : List Graph) (workers place : ℕ) (answers : List Answer) (a : Answer) → 0 < workers
    → IsShare graphs workers (suc place) (place % workers) (answers ++ a ∷ []) → IsShare graphs workers place (place % workers) answers
share_less graphs workers place answers a some own =
    let long : length (answers ++ a ∷ []) ≡ suc (length answers) = omega (arith, length_push answers a) in
    let at = last_turn workers place (length answers) some (subst (λ n. suc place ≤ place % workers + workers * n) long own.all)
    (subst (λ n. place % workers + workers * n < suc place + workers) long own.own) in
    record {
      all = omega (arith, at);
      own = omega (arith, at, some);
      each = λ turn h b found there. own.each turn h b (get_left answers a b turn found) there;
    }

pub share_kept : (graphs : List Graph) (workers place worker : ℕ) (answers : List Answer) → worker < workers → worker ≢ place % workers
    → IsShare graphs workers (suc place) worker answers → IsShare graphs workers place worker answers
share_kept graphs workers place worker answers few other own = record {
  all = omega (arith, own.all);
  own = dite
      (ℕ_discrete (worker + workers * length answers) (place + workers))
      (λ same.
      let one : workers * 1 ≡ workers = grind arith in
      let here : (worker + workers * length answers) % workers ≡ worker = add-mul-mod_self_left worker workers (length answers)
      ∙ mod-eq_of_lt few in
      let there : (place + workers) % workers ≡ place % workers = ap (λ n. (place + n) % workers) (sym one)
      ∙ add-mul-mod_self_left place workers 1 in
      absurd (other (sym here ∙ ap (λ n. n % workers) same ∙ there)))
      (λ differ. omega (arith, own.own, differ));
  each = own.each;
}

-- ---- places in lists

-- an element of a list that is mapped is mapped where it is
pub get_map : {X Y : Type 0} (f : X → Y) (xs : List X) (x : X) (i : ℕ) → slice_get xs i ≡ Some x → slice_get (map f xs) i ≡ Some (f x)
get_map f [] x i at = absurd (omega (arith, slice_get_within [] i x at))
get_map f (y ∷ xs) x zero at = ap Some (ap f (same_Some y x at))
get_map f (y ∷ xs) x (suc i) at = get_map f xs x i at

-- a worker's next graph is as many places on as there are workers
pub next_turn : (workers worker turns : ℕ) → worker + workers * turns + workers ≡ worker + workers * suc turns
next_turn workers worker turns =
    let more : workers * suc turns ≡ workers * turns + workers = grind arith in
    omega (arith, more)

-- the shares where one of them is shorter
pub shares_less : (graphs : List Graph) (shares : List (List Answer)) (place : ℕ) (old new : List Answer) (a : Answer) → 0 < length shares
    → slice_get shares (place % length shares) ≡ Some old → old ≡ new ++ a ∷ [] → AreShares graphs (length shares) (suc place) shares
    → AreShares graphs (length (slice_set shares (place % length shares) new)) place (slice_set shares (place % length shares) new)
shares_less graphs shares place old new a some here popped before =
    subst (λ n. AreShares graphs n place (slice_set shares (place % length shares) new))
    (sym (length-set shares (place % length shares) new)) each
  where
    own : IsShare graphs (length shares) (suc place) (place % length shares) (new ++ a ∷ [])
    own = subst (λ xs. IsShare graphs (length shares) (suc place) (place % length shares) xs) popped
        (before (place % length shares) old here)

    each : AreShares graphs (length shares) place (slice_set shares (place % length shares) new)
    each worker answers at = dite
        (ℕ_discrete worker (place % length shares))
        (λ same.
        let there : slice_get (slice_set shares (place % length shares) new) (place % length shares) ≡ Some new =
        get_set_same shares (place % length shares) new (slice_get_within shares (place % length shares) old here) in
        let is : new ≡ answers = same_Some new answers
        (sym there ∙ ap (slice_get (slice_set shares (place % length shares) new)) (sym same) ∙ at) in
        subst (λ w. IsShare graphs (length shares) place w answers) (sym same)
        (subst (λ xs. IsShare graphs (length shares) place (place % length shares) xs) is
        (share_less graphs (length shares) place new a some own)))
        (λ other.
        let kept : slice_get shares worker ≡ Some answers = sym (get_set_other shares worker (place % length shares) new other) ∙ at in
        share_kept graphs (length shares) place worker answers (slice_get_within shares worker answers kept) other
        (before worker answers kept))

-- the worker whose turn the last place is has an answer left
pub some_popped : (graphs : List Graph) (shares : List (List Answer)) (place : ℕ) (old new : List Answer) (last : Option Answer) →
    AreShares graphs (length shares) (suc place) shares
    → slice_get shares (place % length shares) ≡ Some old →
    MatchOption last ((old ≡ []) × (new ≡ [])) (λ a. old ≡ new ++ a ∷ []) → IsSome last
some_popped graphs shares place old new (Some a) before here popped = refl
some_popped graphs shares place old new None before here popped =
    absurd (some_turn graphs (length shares) place
    (subst (λ xs. IsShare graphs (length shares) (suc place) (place % length shares) xs) popped.0
    (before (place % length shares) old here)))

-- what was taken is the answer for the last place
pub popped_answer : (graphs : List Graph) (shares : List (List Answer)) (place : ℕ) (old new : List Answer) (a : Answer)
    (g : Graph) → 0 < length shares → AreShares graphs (length shares) (suc place) shares
    → slice_get shares (place % length shares) ≡ Some old → old ≡ new ++ a ∷ [] → slice_get graphs place ≡ Some g → IsAnswer g a
popped_answer graphs shares place old new a g some before here popped there =
    last_answer graphs (length shares) place new a g some
    (subst (λ xs. IsShare graphs (length shares) (suc place) (place % length shares) xs) popped
    (before (place % length shares) old here)) there

-- one more answer in front
pub answers_longer : (graphs : List Graph) (place : ℕ) (answers : List Answer) (a : Answer) → place < length graphs →
    ((g : Graph) → slice_get graphs place ≡ Some g → IsAnswer g a)
    → AllZip IsAnswer (drop (suc place) graphs) answers → AllZip IsAnswer (drop place graphs) (a ∷ answers)
answers_longer [] place answers a within answer rest = absurd (omega arith)
answers_longer (g ∷ graphs) zero answers a within answer rest = (answer g refl, rest)
answers_longer (g ∷ graphs) (suc place) answers a within answer rest = answers_longer graphs place answers a (omega arith) answer rest
