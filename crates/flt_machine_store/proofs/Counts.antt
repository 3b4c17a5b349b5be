-- The counts of the work items that wait, as items come and start.
use Rattle.std.proofs.Common.{◌≡◌, ◌≢◌, ℕ, zero, suc, ◌+◌, ◌-◌, ◌<◌, ◌≤◌, ◌||◌, Bool, true, false, List, [], ◌∷◌, ◌++◌, Option}
use Rattle.std.proofs.Common.{Some, None, length, get_or, set, replicate, if◌then◌else◌, inl, inr, ap, sym, refl, ◌∙◌, arith}
use Rattle.std.proofs.lemmas.Bool.{cases_eq, eq-eqb, ne_eqb}
use Rattle.std.proofs.lemmas.Bool.Decides.{nat_tests}
use Rattle.std.proofs.lemmas.List.{get_or-set_same, get_or-set_other, get_or-replicate, get_or_default, length-set, length-replicate}
use Rattle.std.specs.List.{list_any}
use Rattle.std.specs.Prelude.{nat_lt}
use Rattle.flt_model.specs.Moves.{is_item_of}
use Rattle.flt_model.specs.declared.parts.Item.{Item}
use Rattle.flt_machine_store.specs.Waiting.{counted, waiting_of, AreCounted}

-- ---- one count

-- an item at the end counts at its filter
count_pushed : (f : ℕ) (items : List (Option Item)) (x : Option Item) → waiting_of f (items ++ x ∷ []) ≡ waiting_of f items + counted f x
count_pushed f [] x = omega arith
count_pushed f (y ∷ items) x = let rest = count_pushed f items x in omega (arith, rest)

-- one that is gone counts no more
count_taken : (f : ℕ) (items : List (Option Item)) (i : ℕ) →
    waiting_of f (set items i None) + counted f (get_or items i None) ≡ waiting_of f items
count_taken f [] i = omega arith
count_taken f (y ∷ items) zero = omega arith
count_taken f (y ∷ items) (suc i) = let rest = count_taken f items i in omega (arith, rest)

at_most_one : (b : Bool) → (if b then 1 else 0) ≤ 1
at_most_one true = omega arith
at_most_one false = omega arith

-- no more are counted than there are
count_within : (f : ℕ) (items : List (Option Item)) → waiting_of f items ≤ length items
count_within f [] = omega arith
count_within f (y ∷ items) =
    let one = at_most_one (is_item_of f y) in
    let rest = count_within f items in
    omega arith

some_by : (b : Bool) (n : ℕ) (rest : Bool) → rest ≡ nat_lt 0 n → (b || rest) ≡ nat_lt 0 ((if b then 1 else 0) + n)
some_by true n rest is = grind (arith, nat_tests)
some_by false n rest is = grind (arith, nat_tests)

-- one waits exactly where the count isn't 0
pub some_counted : (f : ℕ) (items : List (Option Item)) → list_any (is_item_of f) items ≡ nat_lt 0 (waiting_of f items)
some_counted f [] = refl
some_counted f (y ∷ items) = some_by (is_item_of f y) (waiting_of f items) (list_any (is_item_of f) items) (some_counted f items)

-- ---- the counts that are kept

-- an item counts once at its filter
of_itself : (f : ℕ) (x : Item) → x.filter ≡ f → counted f (Some x) ≡ 1
of_itself f x is = ap (λ (b : Bool). if b then 1 else 0) (eq-eqb x.filter f is)

-- and not at another
of_another : (f : ℕ) (x : Item) → x.filter ≢ f → counted f (Some x) ≡ 0
of_another f x other = ap (λ (b : Bool). if b then 1 else 0) (ne_eqb x.filter f other)

-- where there is no item, each count is 0
pub none_counted : (items : List (Option Item)) (counts : List ℕ) (n : ℕ) → items ≡ [] → counts ≡ replicate n 0 → AreCounted items counts
none_counted items counts n empty zeros f low =
    let within : f < n = omega (arith, low, ap (λ (ks : List ℕ). length ks) zeros, length-replicate {A = ℕ} n 0) in
    rw (empty, zeros) (get_or-replicate n f 0 0 within)

-- an item, where the count of its filter is read as `n`
module _ (items : List (Option Item)) (counts : List ℕ) (x : Item) (was : AreCounted items counts) where
  -- another filter's count is the same where the item counts at its own
  module _ (new : List (Option Item)) (m : ℕ) (here : x.filter < length counts) (own : m ≡ waiting_of x.filter new)
      (others : (f : ℕ) → f ≢ x.filter → waiting_of f new ≡ waiting_of f items) where
    pub recounted : AreCounted new (set counts x.filter m)
    recounted f low =
        let within : f < length counts = omega (arith, low, length-set counts x.filter m) in
        elim (cases_eq x.filter f) [
          | inl same ↦ ap (λ (k : ℕ). get_or (set counts x.filter m) k 0) (sym same) ∙ get_or-set_same counts x.filter m 0 here ∙ own
              ∙ ap (λ (k : ℕ). waiting_of k new) same
          | inr other ↦ get_or-set_other counts x.filter f m 0 (λ same. other (sym same)) ∙ was f within ∙
              sym (others f (λ same. other (sym same)))
        ]

  here_or : (n : ℕ) → x.filter < length counts → n ≡ get_or counts x.filter n → n ≡ waiting_of x.filter items
  here_or n here read = read ∙ get_or_default counts x.filter n 0 here ∙ was x.filter here

  module _ (new : List (Option Item)) (is : new ≡ items ++ Some x ∷ []) where
    more : (f : ℕ) → waiting_of f new ≡ waiting_of f items + counted f (Some x)
    more f = ap (waiting_of f) is ∙ count_pushed f items (Some x)

    -- a count with one more is no more than there are items
    pub pushed_fits : (n : ℕ) → x.filter < length counts → n ≡ get_or counts x.filter n → n + 1 ≤ length new
    pushed_fits n here read =
        let old = here_or n here read in
        let one = of_itself x.filter x refl in
        let all = count_within x.filter new in
        omega (arith, old, one, all, more x.filter)

    -- the counts after one more item, where its filter has a count
    pub pushed_here : (n : ℕ) → x.filter < length counts → n ≡ get_or counts x.filter n → AreCounted new (set counts x.filter (n + 1))
    pushed_here n here read =
        let old = here_or n here read in
        let one = of_itself x.filter x refl in
        let own : n + 1 ≡ waiting_of x.filter new = omega (arith, old, one, more x.filter) in
        recounted new (n + 1) here own (λ f other. let none = of_another f x (λ same. other (sym same)) in
        omega (arith, none, more f))

    -- and where it has none
    pub pushed_past : length counts ≤ x.filter → AreCounted new counts
    pushed_past past f low =
        let none = of_another f x (λ same. omega (arith, same, past, low)) in
        omega (arith, none, more f, was f low)

  module _ (i : ℕ) (there : Some x ≡ get_or items i None) where
    less : (f : ℕ) → waiting_of f (set items i None) + counted f (Some x) ≡ waiting_of f items
    less f = ap (λ (y : Option Item). waiting_of f (set items i None) + counted f y) there ∙ count_taken f items i

    -- the filter of an item that waits has a count
    pub taken_some : (n : ℕ) → x.filter < length counts → n ≡ get_or counts x.filter n → 1 ≤ n
    taken_some n here read =
        let one = of_itself x.filter x refl in
        omega (arith, here_or n here read, one, less x.filter)

    -- the counts after the item is gone, where its filter has a count
    pub taken_here : (n : ℕ) → x.filter < length counts → n ≡ get_or counts x.filter n →
        AreCounted (set items i None) (set counts x.filter (n - 1))
    taken_here n here read =
        let one = of_itself x.filter x refl in
        let own : n - 1 ≡ waiting_of x.filter (set items i None) = omega (arith, here_or n here read, one, less x.filter) in
        recounted (set items i None) (n - 1) here own
        (λ f other. let none = of_another f x (λ same. other (sym same)) in omega (arith, none, less f))

    -- and where it has none
    pub taken_past : length counts ≤ x.filter → AreCounted (set items i None) counts
    taken_past past f low =
        let none = of_another f x (λ same. omega (arith, same, past, low)) in
        omega (arith, none, less f, was f low)
