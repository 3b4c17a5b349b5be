-- The receipts of a journal, entry by entry.
use Rattle.std.proofs.Common.{◌≡◌, ◌+◌, ◌<◌, ℕ, Bool, List, [], ◌∷◌, ◌++◌, length, take, drop, get_or}
use Rattle.std.proofs.Common.{append_assoc, All, Contains, refl, ap, sym, subst, ◌∙◌, arith}
use Rattle.std.specs.Prelude.{if◌then◌else◌}
use Rattle.std.proofs.lemmas.List.{append-nil, length-append, length-take-le, take_more, take-append-drop}
use Rattle.std.proofs.lemmas.List.Elements.{All-append, Contains-append_left, Contains-append_right}
use Rattle.flt_model.specs.declared.moves.JournalEntry.{JournalEntry}
use Rattle.flt_stack_core.specs.Receipts.{is_arrival, receipt_of, receipts_from, receipts_in}
use Rattle.flt_stack_core.specs.declared.receipt.Receipt.{Receipt}

-- how many operations arrived
abbrev pub arrivals : List JournalEntry → ℕ
arrivals [] = 0
arrivals (e ∷ es) = (if is_arrival e then 1 else 0) + arrivals es

arrivals-append : (xs ys : List JournalEntry) → arrivals (xs ++ ys) ≡ arrivals xs + arrivals ys
arrivals-append [] ys = omega arith
arrivals-append (x ∷ xs) ys = omega (arith, arrivals-append xs ys)

same_from : (n m a b : ℕ) (es : List JournalEntry) → n ≡ m → a ≡ b → receipts_from n a es ≡ receipts_from m b es
same_from n m a b es p q = ap (λ k. receipts_from k a es) p ∙ ap (λ k. receipts_from m k es) q

-- the receipts of two journals, one after the other
receipts-append : (n a : ℕ) (xs ys : List JournalEntry) →
    receipts_from n a (xs ++ ys) ≡ receipts_from n a xs ++ receipts_from (n + length xs) (a + arrivals xs) ys
receipts-append n a [] ys = same_from n (n + 0) a (a + 0) ys (omega arith) (omega arith)
receipts-append n a (x ∷ xs) ys =
    let w : ℕ = if is_arrival x then 1 else 0 in
    ap (λ rs. receipt_of n a x ++ rs) (receipts-append (n + 1) (a + w) xs ys
    ∙ ap (λ rs. receipts_from (n + 1) (a + w) xs ++ rs)
    (same_from (n + 1 + length xs) (n + length (x ∷ xs)) (a + w + arrivals xs) (a + arrivals (x ∷ xs)) ys (omega arith) (omega arith)))
    ∙ sym (append_assoc (receipt_of n a x) (receipts_from (n + 1) (a + w) xs)
    (receipts_from (n + length (x ∷ xs)) (a + arrivals (x ∷ xs)) ys))

module _ (es : List JournalEntry) (k : ℕ) (d : JournalEntry) (below : k < length es) where
  abbrev here : JournalEntry
  here = get_or es k d

  up_to : take (k + 1) es ≡ take k es ++ here ∷ []
  up_to = take_more es k d below

  -- an entry more has its receipt more
  one_entry_more : receipts_in (take (k + 1) es) ≡ receipts_in (take k es) ++ receipt_of k (arrivals (take k es)) here
  one_entry_more =
      ap receipts_in up_to ∙ receipts-append 0 0 (take k es) (here ∷ [])
      ∙ ap (λ rs. receipts_in (take k es) ++ rs) (append-nil (receipt_of (0 + length (take k es)) (0 + arrivals (take k es)) here)
      ∙ ap (λ n. receipt_of n (0 + arrivals (take k es)) here) (omega (arith, length-take-le k es (omega arith)))
      ∙ ap (λ a. receipt_of k a here) (omega arith))

  -- and an arrival more where it is one
  pub one_arrival_more : (a : ℕ) → a ≡ arrivals (take k es) → (b : Bool) → b ≡ is_arrival here →
      arrivals (take (k + 1) es) ≡ a + (if b then 1 else 0)
  one_arrival_more a arrived b is =
      omega (arith, ap arrivals up_to, arrivals-append (take k es) (here ∷ []), ap {B = ℕ} (λ (x : Bool). if x then 1 else 0) is, arrived)

  module _ (a : ℕ) (arrived : a ≡ arrivals (take k es)) (rs : List Receipt) (is : receipt_of k a here ≡ rs) where
    more : receipts_in (take (k + 1) es) ≡ receipts_in (take k es) ++ rs
    more =
        one_entry_more ∙ ap (λ b. receipts_in (take k es) ++ receipt_of k b here) (sym arrived)
        ∙ ap (λ l. receipts_in (take k es) ++ l) is

    -- the receipts of an entry more are held where they are
    pub held_more : (held : List Receipt) → All (Contains held) (receipts_in (take k es)) → All (Contains held) rs →
        All (Contains held) (receipts_in (take (k + 1) es))
    held_more held before now =
        subst (All (Contains held)) (sym more) (All-append (Contains held) (receipts_in (take k es)) rs before now)

    -- and they are so many more
    pub count_more : length (receipts_in (take (k + 1) es)) ≡ length (receipts_in (take k es)) + length rs
    count_more = ap length more ∙ length-append (receipts_in (take k es)) rs

  -- the entry's receipt is one of the journal
  pub is_of_journal : (a : ℕ) (r : Receipt) → a ≡ arrivals (take k es) → receipt_of k a here ≡ r ∷ [] → Contains (receipts_in es) r
  is_of_journal a r arrived is =
      let found : Contains (receipts_in (take (k + 1) es)) r =
      subst (λ (rs : List Receipt). Contains rs r) (sym (more a arrived (r ∷ []) is))
      (Contains-append_right (receipts_in (take k es)) (r ∷ []) r (0, omega arith, refl)) in
      let all : receipts_in es ≡ receipts_in (take (k + 1) es)
      ++ receipts_from (0 + length (take (k + 1) es)) (0 + arrivals (take (k + 1) es)) (drop (k + 1) es) =
      ap receipts_in (sym (take-append-drop (k + 1) es)) ∙ receipts-append 0 0 (take (k + 1) es) (drop (k + 1) es) in
      subst (λ (rs : List Receipt). Contains rs r) (sym all)
      (Contains-append_left (receipts_in (take (k + 1) es)) _ r found)
