-- What counts that are kept in order say: of none that all count 0, and how often each key stands among them.
use Rattle.std.proofs.Common.{◌≡◌, ◌≢◌, ⊎_elim, subst, ℕ, ◌+◌, ◌<◌, List, [], ◌∷◌, Option}
use Rattle.std.proofs.Common.{Some, None, ap, sym, refl, ◌∙◌, arith, length, min}
use Rattle.std.proofs.lemmas.Bool.{cases_eq, cond-true, cond-false}
use Rattle.std.proofs.lemmas.Bool.Decides.{nat_tests}
use Rattle.std.proofs.lemmas.List.Sums.{sum_by-cons}
use Rattle.std.specs.Prelude.{IfSome}
use Rattle.std.proofs.lemmas.Map.Keys.{sorted_head, sorted_tail}
use Rattle.std.specs.BTreeMap.{is_at}
use Rattle.std.specs.List.{AllByRecursion}
use Rattle.std.specs.List.Sorted.{IsStrictlySortedBy}
use Rattle.std.specs.Map.{lookup, keys_of}
use Rattle.std.specs.Option.{unwrap_or}
use Rattle.std.specs.Ordering.{nat_cmp}
use Rattle.std.specs.declared.cmp.Ordering.TheVariants.{Less}
use Rattle.flt_model.specs.Trace.{one_if}
use Rattle.flt_replay_records.specs.Counts.{count_in, occurs}
use Rattle.flt_replay_records.proofs.Keys.{at_self, at_other, at_later, less_is}

-- each count is at least one
abbrev pub IsPositive : List (ℕ × ℕ) → Type 0
IsPositive es = (n : ℕ) → IfSome (lookup (is_at (nat_cmp n)) es) (λ times. 0 < times)

-- where no key stands among the counts, each number counts 0
pub empty_from_length : (es : List (ℕ × ℕ)) → length es ≡ 0 → (n : ℕ) → count_in es n ≡ 0
unfolding count_in
empty_from_length [] h n = refl
empty_from_length (e ∷ es) h n = absurd (omega arith)

some_counts : (k v : ℕ) (es : List (ℕ × ℕ)) → IsPositive ((k, v) ∷ es) → 0 < count_in ((k, v) ∷ es) k
unfolding count_in
some_counts k v es h =
    let e : lookup (is_at (nat_cmp k)) ((k, v) ∷ es) ≡ Some v =
    cond-true (is_at (nat_cmp k) k) (Some v) (lookup (is_at (nat_cmp k)) es) (at_self k) in
    let p : 0 < v = subst (λ (o : Option ℕ). IfSome o (λ times. 0 < times)) e (h k) in
    subst (λ (o : Option ℕ). 0 < unwrap_or o 0) (sym e) p

-- where each number counts 0, no key stands among the counts
pub length_from_empty : (es : List (ℕ × ℕ)) → IsPositive es → ((n : ℕ) → count_in es n ≡ 0) → length es ≡ 0
length_from_empty [] h z = refl
length_from_empty ((k, v) ∷ es) h z = absurd (omega (arith, some_counts k v es h, z k))

absent : (k : ℕ) (es : List (ℕ × ℕ)) → AllByRecursion (λ y. nat_cmp k y ≡ Less) (keys_of es) → lookup (is_at (nat_cmp k)) es ≡ None
absent k [] h = refl
absent k ((m, v) ∷ es) h = cond-false (is_at (nat_cmp k) m) (Some v) (lookup (is_at (nat_cmp k)) es)
    (at_later k m (less_is k m h.0)) ∙ absent k es h.1

not_later : (k : ℕ) (es : List (ℕ × ℕ)) → AllByRecursion (λ y. nat_cmp k y ≡ Less) (keys_of es) → occurs k (keys_of es) ≡ 0
unfolding one_if
not_later k [] h = refl
not_later k ((m, v) ∷ es) h =
    let less : k < m = less_is k m h.0 in
    let here : one_if m k ≡ 0 = grind (arith, nat_tests) in
    omega (arith, sum_by-cons (λ (x : ℕ). one_if x k) m (keys_of es), here, not_later k es h.1)

-- the entries after the first
others_positive : (k v : ℕ) (es : List (ℕ × ℕ)) → AllByRecursion (λ y. nat_cmp k y ≡ Less) (keys_of es) →
    IsPositive ((k, v) ∷ es) → IsPositive es
others_positive k v es s h n =
    ⊎_elim (λ (e : k ≡ n). subst (λ (m : ℕ). IfSome (lookup (is_at (nat_cmp m)) es) (λ times. 0 < times)) e
    (subst (λ (o : Option ℕ). IfSome o (λ times. 0 < times)) (sym (absent k es s)) tt))
    (λ (ne : k ≢ n). subst (λ (o : Option ℕ). IfSome o (λ times. 0 < times))
    (cond-false (is_at (nat_cmp n) k) (Some v) (lookup (is_at (nat_cmp n)) es) (at_other n k ne)) (h n))
    (cases_eq k n)

-- each number that counts is a key, once
pub keys_counted : (es : List (ℕ × ℕ)) → IsStrictlySortedBy nat_cmp (keys_of es) → IsPositive es → (n : ℕ) →
    occurs n (keys_of es) ≡ min 1 (count_in es n)
unfolding count_in one_if
keys_counted [] s h n = refl
keys_counted ((k, v) ∷ es) s h n =
    let first : AllByRecursion (λ y. nat_cmp k y ≡ Less) (keys_of es) = sorted_head nat_cmp k (keys_of es) s in
    let step : occurs n (keys_of ((k, v) ∷ es)) ≡ one_if k n + occurs n (keys_of es) = sum_by-cons (λ (x : ℕ). one_if x n) k (keys_of es) in
    ⊎_elim (λ (e : k ≡ n).
    let later : occurs n (keys_of es) ≡ 0 = subst (λ (m : ℕ). occurs m (keys_of es) ≡ 0) e (not_later k es first) in
    let one : one_if k n ≡ 1 = grind (arith, nat_tests) in
    let positive : 0 < count_in ((k, v) ∷ es) n = subst (λ (m : ℕ). 0 < count_in ((k, v) ∷ es) m) e (some_counts k v es h) in
    omega arith)
    (λ (ne : k ≢ n).
    let rest : occurs n (keys_of es) ≡ min 1 (count_in es n) =
    keys_counted es (sorted_tail nat_cmp k (keys_of es) s) (others_positive k v es first h) n in
    let here : one_if k n ≡ 0 = grind (arith, nat_tests) in
    let same : count_in ((k, v) ∷ es) n ≡ count_in es n =
    ap (λ (o : Option ℕ). unwrap_or o 0) (cond-false (is_at (nat_cmp n) k) (Some v) (lookup (is_at (nat_cmp n)) es) (at_other n k ne)) in
    omega arith)
    (cases_eq k n)
