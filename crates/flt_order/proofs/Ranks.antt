-- Ranks as locks are taken away, and what is left of them.
use Rattle.std.proofs.Common.{◌≡◌, ◌≢◌, ◌⊎◌, ℕ, zero, suc, ◌+◌, ◌<◌, ◌≤◌, Bool, true, false, List}
use Rattle.std.proofs.Common.{[], ◌∷◌, length, Some, sym, subst, ap, refl, ◌∙◌, arith, inl, inr}
use Rattle.std.specs.Prelude.{if◌then◌else◌, ◌==◌, ◌||◌}
use Rattle.std.proofs.Math.ListN.{get_or, set}
use Rattle.std.proofs.lemmas.Bool.{cases_eq, cases_lt, eqb-true, eq-eqb}
use Rattle.std.proofs.lemmas.List.{get_or_past, get_or-set_same, get_or-set_other}
use Rattle.std.proofs.lemmas.List.Sums.{sum_by-set, get_or-le-sum_by}
use Rattle.flt_rules.specs.Call.{place_of}
use Rattle.flt_rules.specs.Held.{holds_lock}
use Rattle.flt_rules.specs.declared.call.LockNumber.{LockNumber}
use Rattle.flt_rules.specs.declared.call.LockNumber.TheVariants.{L0, L1, L2, L3, L4, L5, L6, L7}
use Rattle.flt_rules.specs.declared.held.HeldLock.{HeldLock}
use Rattle.flt_cert.specs.Format.{Certificate}
use Rattle.flt_graph.specs.declared.graph.Graph.{Graph}
use Rattle.flt_graph.specs.Graph.{instruction_at}
use Rattle.flt_order.specs.Order.{taken_by, is_left, IsAcquired, IsFree, IsTaken, NoneLeft}
use Rattle.flt_order.specs.Order.{TakesInOrder, AreRanked, AreTakenBefore, count_left}
use Rattle.flt_order.specs.declared.order.Acquisition.{Acquisition}
use Rattle.flt_order.proofs.Places.{place_below, place_same, callback_within, point_within}

-- a lock that is left is there
left_there : (left : List Bool) (l : LockNumber) → is_left left l ≡ true → place_of l < length left
left_there left l h = elim (cases_lt (place_of l) (length left)) [
  | inl there ↦ there
  | inr past ↦ let bad : false ≡ true = sym (get_or_past left (place_of l) false past) ∙ h in absurd (cc)
]

-- what isn't left after one is taken away wasn't left, or is that one
pub was_not : (left : List Bool) (l m : LockNumber) → is_left (set left (place_of l) false) m ≡ false → (m ≡ l) ⊎ (is_left left m ≡ false)
was_not left l m h = elim (cases_eq (place_of m) (place_of l)) [
  | inl same ↦ inl (place_same m l same)
  | inr ne ↦ inr (sym (get_or-set_other left (place_of l) (place_of m) false false ne) ∙ h)
]

-- one at the same place as the one that is taken away isn't left
gone_same : (left : List Bool) (l m : LockNumber) → is_left left l ≡ true → place_of m ≡ place_of l →
    is_left (set left (place_of l) false) m ≡ false
gone_same left l m among same =
    ap (λ i. get_or (set left (place_of l) false) i false) same ∙ get_or-set_same left (place_of l) false false (left_there left l among)

-- what wasn't left isn't left after one is taken away
pub gone : (left : List Bool) (l m : LockNumber) → is_left left l ≡ true → is_left left m ≡ false →
    is_left (set left (place_of l) false) m ≡ false
gone left l m among h = elim (cases_eq (place_of m) (place_of l)) [
  | inl same ↦ gone_same left l m among same
  | inr ne ↦ get_or-set_other left (place_of l) (place_of m) false false ne ∙ h
]

-- and that one isn't
pub taken_away : (left : List Bool) (l m : LockNumber) → is_left left l ≡ true → m ≡ l → is_left (set left (place_of l) false) m ≡ false
taken_away left l m among same = gone_same left l m among (ap place_of same)

-- one less is left
pub one_less : (left : List Bool) (l : LockNumber) → is_left left l ≡ true → count_left (set left (place_of l) false) + 1 ≡ count_left left
one_less left l h =
    let sum = rw h at (sum_by-set (λ (b : Bool). if b then 1 else 0) left (place_of l) false false (left_there left l h)) in omega
    (arith, sum)

-- where none is counted none is left
pub none_counted : (left : List Bool) (l : LockNumber) → count_left left ≡ 0 → is_left left l ≡ true → ⊥
none_counted left l none h =
    let one = rw h at (get_or-le-sum_by (λ (b : Bool). if b then 1 else 0) left (place_of l) false (left_there left l h)) in
    absurd (omega (arith, one, none))

-- of held locks none of which is left, one that is held isn't
not_held_left : (left : List Bool) (locks : List HeldLock) (l : LockNumber) → NoneLeft left locks → holds_lock l locks ≡ true →
    is_left left l ≡ false
not_held_left left [] l none h = absurd (cc)
not_held_left left (x ∷ locks) l none h = by (place_of l == place_of x.lock) refl h
    (λ h. not_held_left left locks l (λ i d below. none (suc i) d (omega (arith, below))) h)
  where
    by : (b : Bool) → (place_of l == place_of x.lock) ≡ b → (b || holds_lock l locks) ≡ true →
        (holds_lock l locks ≡ true → is_left left l ≡ false) → is_left left l ≡ false
    by true e h later =
        ap (λ n. get_or left n false) (eqb-true (place_of l) (place_of x.lock) e) ∙ none zero x (omega arith)
    by false e h later = later h

-- whoever takes a free lock holds none that is left
pub free_holds : (g : Graph) (k : Certificate) (left : List Bool) (l : LockNumber) → IsFree g k left l → (a : Acquisition) →
    IsAcquired g k a →
    a.taken ≡ l → is_left left a.holding ≡ false
free_holds g k left l free a q same =
    let here = free a.callback (callback_within k a.callback a.point q.state q.reached) a.point
    (point_within k a.callback a.point q.state q.reached) q.state q.reached
    (subst (λ m. taken_by (instruction_at g a.callback a.point) ≡ Some m) same q.takes) in
    not_held_left left q.state.locks a.holding here q.holds

-- a free lock isn't taken while one that is left is held
pub free_not_taken : (g : Graph) (k : Certificate) (left : List Bool) (l : LockNumber) → IsFree g k left l → IsTaken g k left l → ⊥
free_not_taken g k left l free t =
    let bad : true ≡ false = sym t.1.among ∙ free_holds g k left l free t.0 t.1.acquired t.1.taken in absurd (cc)

module _ (g : Graph) (k : Certificate) (left : List Bool) (n : ℕ) (l : LockNumber) (among : is_left left l ≡ true)
    (free : IsFree g k left l)
    (r : AreRanked g k left n) where
  -- the locks that are left after
  abbrev after : List Bool
  after = set left (place_of l) false

  -- what is left after was left, and is another place
  was : (m : LockNumber) → is_left after m ≡ false → (place_of m ≡ place_of l) ⊎ (is_left left m ≡ false)
  was m h = elim (cases_eq (place_of m) (place_of l)) [
    | inl same ↦ inl same
    | inr ne ↦ inr (sym (get_or-set_other left (place_of l) (place_of m) false false ne) ∙ h)
  ]

  abbrev rank : ℕ → ℕ
  rank i = if i == place_of l then n else r.rank i

  rank_own : (m : ℕ) → m ≡ place_of l → rank m ≡ n
  rank_own m same = rw (eq-eqb m (place_of l) same) refl

  rank_other : (m : ℕ) → m ≢ place_of l → rank m ≡ r.rank m
  rank_other m ne = by (m == place_of l) refl
    where
      by : (b : Bool) → (m == place_of l) ≡ b → (if b then n else r.rank m) ≡ r.rank m
      by true e = absurd (ne (eqb-true m (place_of l) e))
      by false e = refl

  -- a lock that isn't left isn't the one that is
  not_one : (m : LockNumber) → is_left left m ≡ false → place_of m ≢ place_of l
  not_one m h same = let bad : true ≡ false = sym among ∙ (ap (λ i. get_or left i false) (sym same) ∙ h) in absurd (cc)

  -- the locks that were taken away are ranked still with the next one of them
  pub ranked_on : AreRanked g k after (n + 1)
  ranked_on = record {
    rank = rank;
    low = λ m h. elim (was m h) [
      | inl same ↦ omega (arith, rank_own (place_of m) same)
      | inr old ↦ omega (arith, rank_other (place_of m) (not_one m old), r.low m old)
    ];
    ordered = λ a q h. elim (was a.taken h) [
      | inl same ↦
          let holds = free_holds g k left l free a q (place_same a.taken l same) in (
            gone left l a.holding among holds,
            omega (
              arith,
              rank_own (place_of a.taken) same,
              rank_other (place_of a.holding)
                  (not_one a.holding holds),
              r.low a.holding holds,
            ),
          )
      | inr old ↦
          let was = r.ordered a q old in (
            gone left l a.holding among was.0,
            omega (
              arith,
              rank_other (place_of a.taken) (not_one a.taken old),
              rank_other (place_of a.holding)
                  (not_one a.holding was.0),
              was.1,
            ),
          )
    ];
  }

-- all is left at first
pub none_ranked : (g : Graph) (k : Certificate) (left : List Bool) → ((l : LockNumber) → is_left left l ≡ true) → AreRanked g k left 0
none_ranked g k left all = record {
  rank = λ n. 0;
  low = λ l h. let bad : true ≡ false = sym (all l) ∙ h in absurd (cc);
  ordered = λ a q h. let bad : true ≡ false = sym (all a.taken) ∙ h in absurd (cc);
}

-- ranks below a number are below a greater one
pub ranked_more : (g : Graph) (k : Certificate) (left : List Bool) (n m : ℕ) → n ≤ m → AreRanked g k left n → AreRanked g k left m
ranked_more g k left n m h r = record { rank = r.rank; low = λ l e. omega (arith, h, r.low l e); ordered = r.ordered }

-- where none is left the ranks are an order
pub order_of : (g : Graph) (k : Certificate) (left : List Bool) (n : ℕ) → AreRanked g k left n →
    ((l : LockNumber) → place_of l < 8 → is_left left l ≡ false) → TakesInOrder g k
order_of g k left n r none = record { rank = r.rank; ordered = λ a q. (r.ordered a q (none a.taken (place_below a.taken))).1 }

-- where one is left, each that is left is taken while one is held
pub stuck_at : (g : Graph) (k : Certificate) (left : List Bool) (l : LockNumber) → is_left left l ≡ true →
    (count_left left ≡ 0) ⊎ AreTakenBefore g k left 8 → AreTakenBefore g k left 8
stuck_at g k left l among (inl none) = absurd (none_counted left l none among)
stuck_at g k left l among (inr taken) = taken

-- at first each lock is left
pub all_left : (l : LockNumber) → is_left (true ∷ true ∷ true ∷ true ∷ true ∷ true ∷ true ∷ true ∷ []) l ≡ true
all_left L0 = refl
all_left L1 = refl
all_left L2 = refl
all_left L3 = refl
all_left L4 = refl
all_left L5 = refl
all_left L6 = refl
all_left L7 = refl
