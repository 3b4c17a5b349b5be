-- How many get a ticket by a change.
use Rattle.std.proofs.Common.{◌≡◌, ℕ, zero, suc, ◌+◌, ◌≤◌, true, false, List, [], ◌++◌, Option}
use Rattle.std.proofs.Common.{Some, None, length, ap, sym, refl, ◌∙◌, arith, length-append}
use Rattle.std.proofs.lemmas.Bool.{true≢false}
use Rattle.flt_model.specs.declared.subject.Subject.{Subject}
use Rattle.flt_model.specs.declared.subject.Subject.TheVariants as subject
use Rattle.flt_model.specs.World.{Store}
use Rattle.flt_machine_store.specs.Changes.{after_change, cancels_entries}
use Rattle.flt_machine_store.specs.declared.change.Change.{Change}
use Rattle.flt_machine_store.specs.declared.change.Change.TheVariants as change
use Rattle.flt_machine.specs.Tickets.{by_altitude, entries_of, newcomer, one_of, operations, teardown_of}
use Rattle.flt_machine.proofs.Quieted.{quiet_entries, quiet_items, quiet_operations, quiet_teardown}

-- 1 where an operation may be led on, 2 where a work item comes
abbrev sort : Change → ℕ
sort (change.Arrive kind mode file) = 1
sort (change.Skip o f) = 1
sort (change.Lower o) = 1
sort (change.Settle v x way) = 1
sort (change.Queue f r v x) = 2
sort _ = 0

apart : (c d : Change) (n m : ℕ) → sort c ≡ n → sort d ≡ m → (n ≡ m → ⊥) → c ≡ d → ⊥
apart c d n m is other differ same = differ (sym is ∙ (ap sort same ∙ other))

is_calm : (c d : Change) → cancels_entries c ≡ false → cancels_entries d ≡ true → c ≡ d → ⊥
is_calm c d calm other same = true≢false (sym other ∙ (ap cancels_entries (sym same) ∙ calm))

one_at_most : (o : Option Subject) → length (one_of o) ≤ 1
one_at_most None = omega arith
one_at_most (Some one) = omega arith

module _ (altitudes : List ℕ) (s : Store) (c : Change) (operation activation item teardown : Option Subject)
    (calm : cancels_entries c ≡ false) (led : operations s (after_change s c) ≡ one_of operation)
    (queued : newcomer subject.Item (length s.items) (length (after_change s c).items) ≡ one_of item)
    (torn : by_altitude (teardown_of s (after_change s c)) 0 altitudes ≡ one_of teardown) where
  abbrev es : List Subject
  es = by_altitude (entries_of s (after_change s c)) 0 altitudes

  no_teardown : length (one_of teardown) ≡ 0
  no_teardown =
      ap (λ (l : List Subject). length l) (sym torn ∙ quiet_teardown s c altitudes (λ f. is_calm c (change.Detach f) calm refl))

  no_entries : (n : ℕ) → sort c ≡ n → (n ≡ 0 → ⊥) → length es ≡ 0
  no_entries n is differ =
      ap (λ (l : List Subject). length l)
      (quiet_entries s c altitudes (λ o. is_calm c (change.Cancel o) calm refl)
      (λ f v x. apart c (change.Insert f v x) n 0 is refl differ) (λ f. is_calm c (change.Detach f) calm refl))

  no_items : (n : ℕ) → sort c ≡ n → (n ≡ 2 → ⊥) → length (one_of item) ≡ 0
  no_items n is differ =
      ap (λ (l : List Subject). length l)
      (sym queued ∙ quiet_items s c (λ f r v x. apart c (change.Queue f r v x) n 2 is refl differ))

  no_operations : (n : ℕ) → sort c ≡ n → (n ≡ 1 → ⊥) → length (one_of operation) ≡ 0
  no_operations n is differ =
      ap (λ (l : List Subject). length l)
      (sym led ∙ quiet_operations s c (λ kind mode file. apart c (change.Arrive kind mode file) n 1 is refl differ)
      (λ o f. apart c (change.Skip o f) n 1 is refl differ) (λ o. apart c (change.Lower o) n 1 is refl differ)
      (λ v x way. apart c (change.Settle v x way) n 1 is refl differ))

  two_of : (n : ℕ) → sort c ≡ n → length es ≤ 1 →
      length (one_of operation) + (length (one_of activation) + (length (one_of item) + (length es + length (one_of teardown)))) ≤ 2
  two_of zero is one =
      omega (
        arith,
        no_operations zero is (λ e. omega (arith, e)),
        one_at_most activation,
        no_items zero is (λ e. omega (arith, e)),
        one,
        no_teardown,
      )
  two_of (suc zero) is one =
      omega (
        arith,
        one_at_most operation,
        one_at_most activation,
        no_items 1 is (λ e. omega (arith, e)),
        no_entries 1 is (λ e. omega (arith, e)),
        no_teardown,
      )
  two_of (suc (suc n)) is one =
      omega (
        arith,
        no_operations (suc (suc n)) is (λ e. omega (arith, e)),
        one_at_most activation,
        one_at_most item,
        no_entries (suc (suc n)) is (λ e. omega (arith, e)),
        no_teardown,
      )

  -- besides an activation, an operation, a work item or an entry gets a ticket, and no more
  pub two_at_most : (l0 l1 l2 l3 l4 l5 : List Subject) → l0 ≡ [] → l1 ≡ l0 ++ one_of operation → l2 ≡ l1 ++ one_of activation →
      l3 ≡ l2 ++ one_of item → l4 ≡ l3 ++ es → length l4 ≤ length l3 + 1 → l5 ≡ l4 ++ one_of teardown → length l5 ≤ 2
  two_at_most l0 l1 l2 l3 l4 l5 e0 e1 e2 e3 e4 few e5 =
      let n0 : length l0 ≡ 0 = ap (λ (l : List Subject). length l) e0 in
      let n1 : length l1 ≡ length l0 + length (one_of operation) =
      ap (λ (l : List Subject). length l) e1 ∙ length-append l0 (one_of operation) in
      let n2 : length l2 ≡ length l1 + length (one_of activation) =
      ap (λ (l : List Subject). length l) e2 ∙ length-append l1 (one_of activation) in
      let n3 : length l3 ≡ length l2 + length (one_of item) = ap (λ (l : List Subject). length l) e3 ∙ length-append l2 (one_of item) in
      let n4 : length l4 ≡ length l3 + length es = ap (λ (l : List Subject). length l) e4 ∙ length-append l3 es in
      let n5 : length l5 ≡ length l4 + length (one_of teardown) =
      ap (λ (l : List Subject). length l) e5 ∙ length-append l4 (one_of teardown) in
      let one : length es ≤ 1 = omega (arith, n4, few) in
      omega (arith, n0, n1, n2, n3, n4, n5, two_of (sort c) refl one)
