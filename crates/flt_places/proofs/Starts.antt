-- The place of a byte and the lines of a text, by where lines begin.
use Rattle.std.specs.List.Sorted.{IsNonDecreasingBy, IsPartitionPoint}
use Rattle.std.proofs.Common.{◌≡◌, ◌<◌, List, true, false, nat_le, refl, sym, ◌∙◌, ap, subst, arith, ℕ, zero}
use Rattle.std.proofs.Common.{suc, ◌+◌, ◌-◌, ◌≤◌, nat_lt, Bool, [], ◌∷◌, length, take, drop, get_or, slice_get}
use Rattle.std.specs.Prelude.{◌==◌, if◌then◌else◌, min}
use Rattle.std.proofs.lemmas.Grind.{common_steps}
use Rattle.std.proofs.lemmas.List.{take_min}
use Rattle.std.proofs.lemmas.Option.{unwrap_or-slice_get}
use Rattle.std.specs.Option.{unwrap_or}
use Rattle.std.proofs.Math.Nat.{min-le_right}
use Rattle.std.proofs.Math.Seq.{drop-nil}
use Rattle.flt_tree.specs.Names.{Text}
use Rattle.flt_tree.specs.declared.filter.Span.{Span}
use Rattle.flt_places.specs.Places.{behind, place_in, one_column_on, part_of, rest_behind, starts_from, counted}

-- ---- places

-- a byte that isn't behind the text's front stands in the line there
before : (line start at o : ℕ) (z : Text) → at ≤ o →
    counted line start (starts_from o z) at ≡ record { line = line; column = at - start + 1 }
before line start at o [] h = refl
before line start at o (b ∷ z) h = go (b == 10) refl (before line start at (o + 1) z (omega (arith, h)))
  where
    go : (x : Bool) → (b == 10) ≡ x → counted line start (starts_from (o + 1) z) at ≡ record { line = line; column = at - start + 1 } →
        counted line start (starts_from o (b ∷ z)) at ≡ record { line = line; column = at - start + 1 }
    go true e others = let less : nat_lt at (o + 1) ≡ true = grind (arith, common_steps) in rw (e, less) refl
    go false e others = rw e others

along : (line start o k : ℕ) (z : Text) → start ≤ o → k ≤ length z →
    counted line start (starts_from o z) (o + k) ≡ behind (record { line = line; column = o - start + 1 }) (take k z)
along line start o zero z h few = let here : o + 0 ≡ o = omega arith in rw here (before line start o o z (omega arith))
along line start o (suc k) [] h few = elim few [ ]
along line start o (suc k) (b ∷ z) h few =
    go (b == 10) refl (λ l s less. along l s (o + 1) k z less (omega (arith, few)))
  where
    go : (x : Bool) → (b == 10) ≡ x →
        ((l s : ℕ) → s ≤ o + 1 → counted l s (starts_from (o + 1) z) (o + 1 + k) ≡
        behind (record { line = l; column = o + 1 - s + 1 }) (take k z)) →
        counted line start (starts_from o (b ∷ z)) (o + suc k) ≡
        behind (if b == 10 then record { line = line + 1; column = 1 } else record { line = line; column = o - start + 1 + 1 }) (take k z)
    go true e others = let more : nat_lt (o + suc k) (o + 1) ≡ false = grind (arith, common_steps) in
        let one : o + 1 - (o + 1) + 1 ≡ 1 = omega arith in
        let same : o + suc k ≡ o + 1 + k = omega arith in
        rw (e, more, same) (others (line + 1) (o + 1) (omega arith) ∙
        ap (λ c. behind (record { line = line + 1; column = c }) (take k z)) one)
    go false e others =
        let further : o + 1 - start + 1 ≡ o - start + 1 + 1 = omega (arith, h) in
        let same : o + suc k ≡ o + 1 + k = omega arith in
        rw (e, same) (others line start (omega (arith, h)) ∙ ap (λ c. behind (record { line = line; column = c }) (take k z)) further)

-- the place of a byte by the starts of lines is its place in the text
pub by_lines : (text : Text) (at : ℕ) → counted 1 0 (starts_from 0 text) (min at (length text)) ≡ place_in text at
by_lines text at =
    let here : 0 + min at (length text) ≡ min at (length text) = omega arith in
    ap (counted 1 0 (starts_from 0 text)) (sym here) ∙ along 1 0 0 (min at (length text)) text (omega arith) (min-le_right at (length text))
    ∙ ap (behind (record { line = 1; column = 1 })) (take_min at text)

-- ---- parts of spans

-- places that the end of the text doesn't part are one
same_place : (text : Text) (s t : ℕ) → min s (length text) ≡ min t (length text) → place_in text s ≡ place_in text t
same_place text s t same =
    ap (behind (record { line = 1; column = 1 })) (sym (take_min s text) ∙ ap (λ k. take k text) same ∙ take_min t text)

capped : (m n : ℕ) → min (min m (n + 1)) n ≡ min m n
capped m n = grind (arith, common_steps)

capped_before : (m n : ℕ) → min (min m (n + 1) - 1) n ≡ min (m - 1) n
capped_before m n = grind (arith, common_steps)

-- a part of a text is where its first byte and its last one are
pub part_at : (text : Text) (s : Span) (from to : ℕ) →
    record {
      first = place_in text (min (s.start + from) (length text + 1));
      end = one_column_on (place_in text (min (s.start + to) (length text + 1) - 1));
    } ≡ part_of text s from to
part_at text s from to =
    let first = same_place text (min (s.start + from) (length text + 1)) (s.start + from) (capped (s.start + from) (length text)) in
    let last = same_place text (min (s.start + to) (length text + 1) - 1) (s.start + to - 1) (capped_before (s.start + to) (length text)) in
    rw (first, last) refl

-- ---- the same by a search

-- the line is found by how many lines begin until there
along_point : (line start : ℕ) (xs : List ℕ) (at k : ℕ) → k ≤ length xs →
    IsPartitionPoint (λ (n : ℕ). nat_le n at ≡ true) (λ (n : ℕ). nat_le n at ≡ false) xs k →
    counted line start xs at ≡ record { line = line + k; column = at - get_or (start ∷ xs) k 0 + 1 }
along_point line start [] at zero few point = let same : line + 0 ≡ line = omega arith in rw same refl
along_point line start [] at (suc k) few point = absurd (omega (arith, few))
along_point line start (x ∷ xs) at zero few point =
    let further = point.1 0 0 (omega arith) (omega arith) in
    let less : nat_lt at x ≡ true = grind (arith, further) in
    let same : line + 0 ≡ line = omega arith in rw (less, same) refl
along_point line start (x ∷ xs) at (suc k) few point =
    let until = point.0 0 0 (omega arith) (omega arith) in
    let more : nat_lt at x ≡ false = grind (arith, until) in
    let same : line + suc k ≡ line + 1 + k = omega arith in
    rw (more, same) (along_point (line + 1) x xs at k (omega (arith, few)) (
      λ i d low high. point.0 (suc i) d (omega arith) (omega (arith, high)),
      λ i d low high. point.1 (suc i) d (omega (arith, low)) (omega (arith, high)),
    ))

-- the place of a byte is in the last line that begins no later
pub by_point : (xs : List ℕ) (at k : ℕ) → k ≤ length xs →
    IsPartitionPoint (λ (n : ℕ). nat_le n at ≡ true) (λ (n : ℕ). nat_le n at ≡ false) xs k →
    record { line = k + 1; column = at - get_or (0 ∷ xs) k 0 + 1 } ≡ counted 1 0 xs at
by_point xs at k few point = let same : 1 + k ≡ k + 1 = omega arith in sym (rw same at (along_point 1 0 xs at k few point))

-- where a line begins, as it is looked up
pub first_or : (xs : List ℕ) (lines : ℕ) → lines ≡ 0 → 0 ≡ get_or (0 ∷ xs) lines 0
first_or xs lines none = rw none refl

-- the start of a line, or 0 for the first, is read from the list with 0 before it
pub later_or : (xs : List ℕ) (lines : ℕ) → 1 ≤ lines → unwrap_or (slice_get xs (lines - 1)) 0 ≡ get_or (0 ∷ xs) lines 0
later_or xs lines some =
    let one : lines ≡ suc (lines - 1) = omega (arith, some) in
    unwrap_or-slice_get xs (lines - 1) 0 ∙ ap (λ l. get_or (0 ∷ xs) l 0) (sym one)

-- each start is behind the place from which they are looked for
starts_behind : (o : ℕ) (z : Text) (i d : ℕ) → i < length (starts_from o z) → o < get_or (starts_from o z) i d
starts_behind o [] i d h = absurd (omega (arith, h))
starts_behind o (b ∷ z) i d h = go (b == 10) refl i h (starts_behind (o + 1) z)
  where
    go : (x : Bool) → (b == 10) ≡ x → (i : ℕ) → i < length (starts_from o (b ∷ z)) →
        ((i d : ℕ) → i < length (starts_from (o + 1) z) → o + 1 < get_or (starts_from (o + 1) z) i d) →
        o < get_or (starts_from o (b ∷ z)) i d
    go true e zero h later = rw e (omega arith)
    go true e (suc i) h later = rw e (omega (arith, later i d (let l = rw e at h in omega (arith, l))))
    go false e i h later = rw e (omega (arith, later i d (rw e at h)))

ascending_from : (o : ℕ) (z : Text) → IsNonDecreasingBy (λ (n : ℕ). n) (starts_from o z)
ascending_from o [] = λ i j d le h. absurd (omega (arith, h))
ascending_from o (b ∷ z) = go (b == 10) refl (ascending_from (o + 1) z)
  where
    go : (x : Bool) → (b == 10) ≡ x → IsNonDecreasingBy (λ (n : ℕ). n) (starts_from (o + 1) z) →
        IsNonDecreasingBy (λ (n : ℕ). n) (starts_from o (b ∷ z))
    go true e later zero zero d le h = omega arith
    go true e later zero (suc j) d le h =
        rw e (omega (arith, starts_behind (o + 1) z j d (let l = rw e at h in omega (arith, l))))
    go true e later (suc i) zero d le h = absurd (omega (arith, le))
    go true e later (suc i) (suc j) d le h = rw e (later i j d (omega (arith, le)) (let l = rw e at h in omega (arith, l)))
    go false e later i j d le h = rw e (later i j d le (rw e at h))

-- the starts of lines ascend
pub ascending : (starts : List ℕ) (z : Text) → starts ≡ starts_from 0 z → IsNonDecreasingBy (λ (n : ℕ). n) starts
ascending starts z same = rw same (ascending_from 0 z)

-- ---- lines

-- where the line behind so many others and the next line feed begins; the end where there is none
abbrev start_after : ℕ → ℕ → Text → ℕ
start_after n o z = get_or (starts_from o z) n (o + length z)

-- that is where what stands behind the line feeds begins
record Begins (n o : ℕ) (z : Text) : Type 0 where
  pub after : o ≤ start_after n o z
  pub within : start_after n o z ≤ o + length z
  pub rest : rest_behind (suc n) z ≡ drop (start_after n o z - o) z

begins : (n o : ℕ) (z : Text) → Begins n o z
begins n o [] = record { after = omega arith; within = omega arith; rest = sym (drop-nil (o + 0 - o)) }
begins n o (b ∷ z) = go (b == 10) refl n (λ n. begins n (o + 1) z)
  where
    further : (s : ℕ) → o + 1 ≤ s → drop (s - (o + 1)) z ≡ drop (s - o) (b ∷ z)
    further s h = let one : s - o ≡ suc (s - (o + 1)) = omega (arith, h) in rw one refl

    go : (x : Bool) → (b == 10) ≡ x → (n : ℕ) → ((n : ℕ) → Begins n (o + 1) z) → Begins n o (b ∷ z)
    go true e zero others = record {
      after = rw e (omega arith);
      within = rw e (omega arith);
      rest = let one : o + 1 - o ≡ 1 = omega arith in rw (e, one) refl;
    }
    go true e (suc n) others =
        let next = others n in
        let same : o + suc (length z) ≡ o + 1 + length z = omega arith in
        record {
          after = rw (e, same) (let h = next.after in omega (arith, h));
          within = rw (e, same) next.within;
          rest = rw (e, same) (next.rest ∙ further (start_after n (o + 1) z) next.after);
        }
    go false e n others =
        let next = others n in
        let same : o + suc (length z) ≡ o + 1 + length z = omega arith in
        record {
          after = rw (e, same) (let h = next.after in omega (arith, h));
          within = rw (e, same) next.within;
          rest = rw (e, same) (next.rest ∙ further (start_after n (o + 1) z) next.after);
        }

from_start : (n : ℕ) (z : Text) → (get_or (starts_from 0 z) n (length z) ≤ length z) ×
    (rest_behind (suc n) z ≡ drop (get_or (starts_from 0 z) n (length z)) z)
from_start n z =
    let b = begins n 0 z in
    let same : 0 + length z ≡ length z = omega arith in
    let whole : start_after n 0 z - 0 ≡ start_after n 0 z = omega arith in (
      subst (λ l. get_or (starts_from 0 z) n l ≤ l) same b.within,
      subst (λ l. rest_behind (suc n) z ≡ drop (get_or (starts_from 0 z) n l) z) same (b.rest ∙ ap (λ k. drop k z) whole),
    )

-- the start of a line behind the first, as it is looked up
pub begin_of_line : (line : ℕ) (z : Text) → 2 ≤ line → (unwrap_or (slice_get (starts_from 0 z) (line - 2)) (length z) ≤ length z) ×
    (rest_behind (line - 1) z ≡ drop (unwrap_or (slice_get (starts_from 0 z) (line - 2)) (length z)) z)
begin_of_line line z h =
    let one : line - 1 ≡ suc (line - 2) = omega (arith, h) in
    rw (one, unwrap_or-slice_get (starts_from 0 z) (line - 2) (length z)) (from_start (line - 2) z)
