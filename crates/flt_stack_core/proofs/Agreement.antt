-- When two lists have the same receipts.
use Rattle.std.proofs.Common.{◌≡◌, ◌+◌, ◌≤◌, ℕ, zero, suc, Bool, true, false, List, [], ◌∷◌, ◌++◌, length}
use Rattle.std.proofs.Common.{get_or, All, Contains, refl, ap, sym, subst, ◌∙◌, arith, inl, inr}
use Rattle.std.specs.List.Sorted.{IsPermutation}
use Rattle.std.specs.Prelude.{if◌then◌else◌, ◌↔◌, ◌⊎◌}
use Rattle.std.proofs.lemmas.List.{length-append}
use Rattle.std.proofs.lemmas.List.Elements.{All-append, All-push, All-contains, All-contains_itself, Contains-append_cases}
use Rattle.std.proofs.lemmas.List.Elements.{Contains-append_left, Contains-append_right}
use Rattle.std.proofs.lemmas.List.Sorted.{All-permutation, IsPermutation-cons, IsPermutation-middle, IsPermutation-refl}
use Rattle.std.proofs.lemmas.List.Sorted.{IsPermutation-sym, IsPermutation-trans, length_permutation}
use Rattle.flt_model.specs.declared.moves.JournalEntry.{JournalEntry}
use Rattle.flt_model.specs.declared.moves.JournalEntry.TheVariants as journal_entry
use Rattle.flt_model.specs.declared.moves.Move.TheVariants as moves
use Rattle.flt_stack_core.specs.Receipts.{Misses, is_arrival, receipt_of, receipts_from, receipts_in}
use Rattle.flt_stack_core.specs.declared.receipt.Receipt.{Receipt}

-- what a list contains stands between two parts of it
record Stands (xs : List Receipt) (x : Receipt) : Type 0 where
  before : List Receipt
  after : List Receipt
  is : xs ≡ before ++ x ∷ after

stands : (xs : List Receipt) (x : Receipt) → Contains xs x → Stands xs x
stands [] x has = absurd (let h = has.1 in omega arith)
stands (y ∷ ys) x (zero, here, at) = record { before = []; after = ys; is = ap (λ z. z ∷ ys) at }
stands (y ∷ ys) x (suc k, here, at) =
    let rest = stands ys x (k, omega arith, at) in
    record { before = y ∷ rest.before; after = rest.after; is = ap (λ zs. y ∷ zs) rest.is }

-- what a list contains besides x it contains without x, too
left_over : (before after : List Receipt) (x y : Receipt) → (x ≡ y → ⊥) → Contains (before ++ x ∷ after) y → Contains (before ++ after) y
left_over before after x y other has =
    elim (Contains-append_cases before (x ∷ after) y has) [
      | inl here ↦ Contains-append_left before after y here
      | inr there ↦ Contains-append_right before after y (behind there)
    ]
  where
    behind : Contains (x ∷ after) y → Contains after y
    behind (zero, here, at) = absurd (other at)
    behind (suc k, here, at) = (k, omega arith, at)

-- no two of these are the same
abbrev Apart : List Receipt → Type 0
Apart [] = Unit {0}
Apart (x ∷ xs) = All (λ (y : Receipt). x ≡ y → ⊥) xs × Apart xs

-- a list has all that another has, in some order, where it has each and is as long, and no two of the other are the same
permutes : (xs ys : List Receipt) → Apart xs → All (Contains ys) xs → length xs ≡ length ys → IsPermutation xs ys
permutes [] [] apart has same = IsPermutation-refl []
permutes [] (y ∷ ys) apart has same = absurd (omega arith)
permutes (x ∷ xs) ys apart has same =
    let s = stands ys x (has 0 x (omega arith)) in
    let others = s.before ++ s.after in
    let less : All (Contains others) xs = λ k d here.
    left_over s.before s.after x (get_or xs k d) (apart.0 k d here)
    (subst (λ (l : List Receipt). Contains l (get_or xs k d)) s.is (has (suc k) d (omega arith))) in
    let long : length xs ≡ length others =
    omega (arith, ap length s.is, length-append s.before (x ∷ s.after), length-append s.before s.after, same) in
    let all : IsPermutation (x ∷ xs) (s.before ++ x ∷ s.after) =
    IsPermutation-trans (x ∷ xs) (x ∷ others) (s.before ++ x ∷ s.after)
    (IsPermutation-cons x xs others (permutes xs others apart.1 less long))
    (IsPermutation-sym (s.before ++ x ∷ s.after) (x ∷ others) (IsPermutation-middle s.before x s.after)) in
    subst (IsPermutation (x ∷ xs)) (sym s.is) all

-- ---- a journal's receipts

record Single (n : ℕ) (rs : List Receipt) : Type 0 where
  one : Receipt
  is : rs ≡ one ∷ []
  numbered : one.number ≡ n

-- an entry has no receipt, or one with its number
one_at_most : (n a : ℕ) (e : JournalEntry) → (receipt_of n a e ≡ []) ⊎ Single n (receipt_of n a e)
one_at_most n a (journal_entry.Move (moves.Arrive operation mode file)) = inr record { one = _; is = refl; numbered = refl }
one_at_most n a (journal_entry.Move (moves.Detach altitude)) = inr record { one = _; is = refl; numbered = refl }
one_at_most n a (journal_entry.Move (moves.Pre serial)) = inl refl
one_at_most n a (journal_entry.Move (moves.Skip serial)) = inl refl
one_at_most n a (journal_entry.Move (moves.Lower serial)) = inl refl
one_at_most n a (journal_entry.Move (moves.Post serial)) = inl refl
one_at_most n a (journal_entry.Move (moves.Cancel serial)) = inl refl
one_at_most n a (journal_entry.Move (moves.Canceled altitude serial)) = inl refl
one_at_most n a (journal_entry.Move (moves.Work item)) = inl refl
one_at_most n a (journal_entry.Move (moves.Drain altitude serial)) = inl refl
one_at_most n a (journal_entry.Move (moves.Unlink altitude key)) = inl refl
one_at_most n a (journal_entry.Move (moves.Detached altitude)) = inl refl
one_at_most n a (journal_entry.Go activation steps grant) = inl refl

-- what holds of none
pub all_none : (P : Receipt → Type 0) → All P []
all_none P k d here = absurd (omega arith)

all_one : (P : Receipt → Type 0) (n : ℕ) (rs : List Receipt) → (rs ≡ []) ⊎ Single n rs → ((r : Receipt) → r.number ≡ n → P r) → All P rs
all_one P n rs (inl none) holds = subst (All P) (sym none) (all_none P)
all_one P n rs (inr one) holds = subst (All P) (sym one.is) (All-push P [] one.one (all_none P) (holds one.one one.numbered))

-- the receipts from an entry on have its number or a later one
later : (n a : ℕ) (es : List JournalEntry) → All (λ (r : Receipt). n ≤ r.number) (receipts_from n a es)
later n a [] = all_none _
later n a (e ∷ es) =
    let rest = receipts_from (n + 1) (a + (if is_arrival e then 1 else 0)) es in
    let after = later (n + 1) (a + (if is_arrival e then 1 else 0)) es in
    All-append (λ (r : Receipt). n ≤ r.number) (receipt_of n a e) rest
    (all_one (λ (r : Receipt). n ≤ r.number) n (receipt_of n a e) (one_at_most n a e) (λ r is. omega (arith, is)))
    (λ k d here. let less = after k d here in omega (arith, less))

put_first : (n : ℕ) (rs rest : List Receipt) → (rs ≡ []) ⊎ Single n rs → All (λ (r : Receipt). n + 1 ≤ r.number) rest →
    Apart rest → Apart (rs ++ rest)
put_first n rs rest (inl none) after apart = subst (λ (l : List Receipt). Apart (l ++ rest)) (sym none) apart
put_first n rs rest (inr one) after apart =
    subst (λ (l : List Receipt). Apart (l ++ rest)) (sym one.is)
    ((λ k d here same. let less = after k d here in absurd (omega (arith, less, one.numbered, ap (λ (r : Receipt). r.number) same))), apart)

-- so no two are the same
are_apart : (n a : ℕ) (es : List JournalEntry) → Apart (receipts_from n a es)
are_apart n a [] = tt
are_apart n a (e ∷ es) =
    let b : ℕ = a + (if is_arrival e then 1 else 0) in
    put_first n (receipt_of n a e) (receipts_from (n + 1) b es) (one_at_most n a e) (later (n + 1) b es) (are_apart (n + 1) b es)

module _ (es : List JournalEntry) (held : List Receipt) where
  -- where each receipt of a journal is held, all are held, each once, exactly where there are as many
  pub held_each_once : (count : ℕ) (b : Bool) → count ≡ length (receipts_in es) → All (Contains held) (receipts_in es) →
      (b ≡ true) ↔ (length held ≡ count) → (b ≡ true) ↔ IsPermutation (receipts_in es) held
  held_each_once count b counts has so_many = (
    λ yes. let same = so_many.0 yes in permutes (receipts_in es) held (are_apart 0 0 es) has (omega (arith, same, counts)),
    λ perm. so_many.1 (length_permutation (receipts_in es) held perm ∙ sym counts),
  )

  -- where one isn't held, they aren't
  pub held_not_each : Misses held (receipts_in es) → (false ≡ true) ↔ IsPermutation (receipts_in es) held
  held_not_each misses = (
    λ no. absurd (cc),
    λ perm.
        let all : All (Contains held) (receipts_in es) =
        All-permutation (Contains held) held (receipts_in es) (IsPermutation-sym (receipts_in es) held perm) (All-contains_itself held) in
        absurd (misses.2 (All-contains (Contains held) (receipts_in es) misses.0 all misses.1)),
  )
