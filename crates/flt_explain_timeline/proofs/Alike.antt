-- How far rows tell the same, and the blocks that this makes.
use Rattle.std.proofs.Common.{◌≡◌, ◌≤◌, ◌<◌, ◌+◌, ◌-◌, ◌*◌, ◌/◌, ℕ, zero, suc, Bool, true, false, List, [], ◌∷◌, ◌++◌}
use Rattle.std.proofs.Common.{Option, Some, None, IsTrue, length, drop, get_or, slice_get, add-one, add-zero, append_assoc}
use Rattle.std.proofs.Common.{append-nil, drop-drop, arith, ap, sym, refl, subst, ◌∙◌, if◌then◌else◌}
use Rattle.std.proofs.Math.Nat.{div-mul-le_self, zero-div}
use Rattle.std.proofs.Math.Seq.{drop-cons}
use Rattle.std.proofs.lemmas.Grind.{common_steps}
use Rattle.std.proofs.lemmas.Option.{slice_get-get_or}
use Rattle.std.specs.Prelude.{nat_lt}
use Rattle.std.specs.Str.{bytes_eq}
use Rattle.flt_explain_timeline.specs.Folds.{again, alike, first_fold, fold_by, folds_after, part_of, shortest, tell_alike}
use Rattle.flt_explain_timeline.specs.declared.folds.Fold.{Fold}
use Rattle.flt_explain_timeline.specs.declared.rows.Row.{Row}

-- as many as are whole blocks are no more
pub whole_le : (rows block : ℕ) → rows / block * block ≤ rows
whole_le rows block = div-mul-le_self rows block

-- ---- how far rows are alike

cons_more : (told : List ℕ) (x y : Row) (xs ys : List Row) →
    tell_alike told x y ≡ true → alike told (x ∷ xs) (y ∷ ys) ≡ suc (alike told xs ys)
unfolding alike
cons_more told x y xs ys e = rw e

cons_stop : (told : List ℕ) (x y : Row) (xs ys : List Row) → tell_alike told x y ≡ false → alike told (x ∷ xs) (y ∷ ys) ≡ 0
unfolding alike
cons_stop told x y xs ys e = rw e

nothing_left : (told : List ℕ) (rows : List Row) → alike told rows [] ≡ 0
unfolding alike
nothing_left told [] = refl
nothing_left told (row ∷ rows) = refl

at_both : (told : List ℕ) (rows : List Row) (i j : ℕ) (d : Row) (b : Bool) → i < length rows → j < length rows →
    bytes_eq (part_of told (slice_get rows i)) (part_of told (slice_get rows j)) ≡ b →
    tell_alike told (get_or rows i d) (get_or rows j d) ≡ b
at_both told rows i j d b hi hj e =
    let one : slice_get rows i ≡ Some (get_or rows i d) = slice_get-get_or rows i d hi in
    let other : slice_get rows j ≡ Some (get_or rows j d) = slice_get-get_or rows j d hj in
    let P : Option Row → Option Row → Type 0 = λ x y. bytes_eq (part_of told x) (part_of told y) ≡ b in
    subst (λ x. P x (Some (get_or rows j d))) one (subst (λ y. P (slice_get rows i) y) other e)

-- two rows that tell the same, and those after them
pub alike_more : (told : List ℕ) (rows : List Row) (i j m n : ℕ) → i < length rows → j < length rows →
    bytes_eq (part_of told (slice_get rows i)) (part_of told (slice_get rows j)) ≡ true → i + 1 ≡ m → j + 1 ≡ n →
    alike told (drop i rows) (drop j rows) ≡ 1 + alike told (drop m rows) (drop n rows)
alike_more told [] i j m n hi hj e p q = absurd (omega (arith, hi))
alike_more told (r ∷ rs) i j m n hi hj e p q =
    let a : drop i (r ∷ rs) ≡ get_or (r ∷ rs) i r ∷ drop (suc i) (r ∷ rs) = drop-cons (r ∷ rs) i r hi in
    let b : drop j (r ∷ rs) ≡ get_or (r ∷ rs) j r ∷ drop (suc j) (r ∷ rs) = drop-cons (r ∷ rs) j r hj in
    let more : alike told (get_or (r ∷ rs) i r ∷ drop (suc i) (r ∷ rs)) (get_or (r ∷ rs) j r ∷ drop (suc j) (r ∷ rs))
    ≡ suc (alike told (drop (suc i) (r ∷ rs)) (drop (suc j) (r ∷ rs)))
    = cons_more told _ _ _ _ (at_both told (r ∷ rs) i j r true hi hj e) in
    let k : suc i ≡ m = omega (arith, p) in
    let l : suc j ≡ n = omega (arith, q) in
    let next : suc (alike told (drop m (r ∷ rs)) (drop n (r ∷ rs))) ≡ 1 + alike told (drop m (r ∷ rs)) (drop n (r ∷ rs)) = omega arith in
    cc

-- two rows that differ
pub alike_stops : (told : List ℕ) (rows : List Row) (i j : ℕ) → i < length rows → j < length rows →
    bytes_eq (part_of told (slice_get rows i)) (part_of told (slice_get rows j)) ≡ false →
    alike told (drop i rows) (drop j rows) ≡ 0
alike_stops told [] i j hi hj e = absurd (omega (arith, hi))
alike_stops told (r ∷ rs) i j hi hj e =
    let a : drop i (r ∷ rs) ≡ get_or (r ∷ rs) i r ∷ drop (suc i) (r ∷ rs) = drop-cons (r ∷ rs) i r hi in
    let b : drop j (r ∷ rs) ≡ get_or (r ∷ rs) j r ∷ drop (suc j) (r ∷ rs) = drop-cons (r ∷ rs) j r hj in
    let stop : alike told (get_or (r ∷ rs) i r ∷ drop (suc i) (r ∷ rs)) (get_or (r ∷ rs) j r ∷ drop (suc j) (r ∷ rs)) ≡ 0
    = cons_stop told _ _ _ _ (at_both told (r ∷ rs) i j r false hi hj e) in
    cc

drop_past : (rows : List Row) (j : ℕ) → length rows ≤ j → drop j rows ≡ []
drop_past [] zero h = refl
drop_past [] (suc j) h = refl
drop_past (r ∷ rs) zero h = absurd (omega (arith, h))
drop_past (r ∷ rs) (suc j) h = drop_past rs j (omega (arith, h))

-- nothing is left to be compared
pub alike_ends : (told : List ℕ) (rows others : List Row) (j : ℕ) → length others ≤ j → alike told rows (drop j others) ≡ 0
alike_ends told rows others j h = ap (alike told rows) (drop_past others j h) ∙ nothing_left told rows

pub ruleset alike_steps = (alike_more, alike_stops, alike_ends)

-- ---- the shortest block

-- one that comes three times
pub shortest_here : (told : List ℕ) (rows : List Row) (left block : ℕ) → 0 < left → block ≤ again told rows block / 2 →
    shortest told rows left block ≡ Some block
unfolding shortest
shortest_here told rows zero block some h = absurd (omega (arith, some))
shortest_here told rows (suc left) block some h =
    let no : nat_lt (again told rows block / 2) block ≡ false = grind (arith, common_steps, h) in
    rw no

-- one that doesn't
pub shortest_on : (told : List ℕ) (rows : List Row) (left after block : ℕ) → left ≡ after + 1 → again told rows block / 2 < block →
    shortest told rows left block ≡ shortest told rows after (block + 1)
unfolding shortest
shortest_on told rows zero after block e h = absurd (omega (arith, e))
shortest_on told rows (suc left) after block e h =
    let yes : nat_lt (again told rows block / 2) block ≡ true = grind (arith, common_steps, h) in
    let same : left ≡ after = omega (arith, e) in
    rw (yes, same, add-one block)

-- none is left
pub shortest_ends : (told : List ℕ) (rows : List Row) (left block : ℕ) → left ≡ 0 → shortest told rows left block ≡ None
unfolding shortest
shortest_ends told rows zero block e = refl
shortest_ends told rows (suc left) block e = absurd (omega (arith, e))

no_again : (told : List ℕ) (rows : List Row) (block : ℕ) → length rows ≤ block → again told rows block ≡ 0
unfolding again
no_again told rows block h =
    let none : alike told rows (drop block rows) ≡ 0 = alike_ends told rows rows block h in
    rw (none, zero-div block) (omega arith)

-- no longer block than there are rows comes again
pub shortest_past : (told : List ℕ) (rows : List Row) (left block : ℕ) → length rows < block → shortest told rows left block ≡ None
shortest_past told rows zero block h = shortest_ends told rows 0 block refl
shortest_past told rows (suc left) block h =
    let none : again told rows block ≡ 0 = no_again told rows block (omega (arith, h)) in
    let small : again told rows block / 2 < block = rw none (omega (arith, h)) in
    shortest_on told rows (suc left) left block (omega arith) small
    ∙ shortest_past told rows left (block + 1) (omega (arith, h))

-- the block at the front, if one comes three times, and the first row alone if none does
pub fold_here : (told : List ℕ) (rows : List Row) (number left block : ℕ) →
    shortest told rows left block ≡ shortest told rows 24 1 → 0 < left → block ≤ again told rows block / 2 →
    record { first = number; block = block; repeated = again told rows block } ≡ first_fold told number rows
fold_here told rows number left block e some h =
    ap (fold_by told rows number) (sym (shortest_here told rows left block some h) ∙ e)

-- a row that is like no later one is a fold of its own
pub fold_alone : (told : List ℕ) (rows : List Row) (number : ℕ) → shortest told rows 24 1 ≡ None →
    record { first = number; block = 1; repeated = 0 } ≡ first_fold told number rows
fold_alone told rows number e = sym (ap (fold_by told rows number) e)

-- what repeats a block at a place
pub again_at : (told : List ℕ) (rows : List Row) (first block : ℕ) →
    alike told (drop first rows) (drop (first + block) rows) / block * block ≡ again told (drop first rows) block
unfolding again
again_at told rows first block = ap (λ others. alike told (drop first rows) others / block * block) (sym (drop-drop block first rows))

-- ---- one block after the other

-- rows that belong to the block before are passed over
passed : (told : List ℕ) (rows : List Row) (number taken : ℕ) →
    folds_after told number taken rows ≡ folds_after told (number + taken) 0 (drop taken rows)
unfolding folds_after
passed told [] number zero = refl
passed told [] number (suc taken) = refl
passed told (row ∷ rows) number zero = ap (λ n. folds_after told n 0 (row ∷ rows)) (sym (add-zero number))
passed told (row ∷ rows) number (suc taken) =
    let next : suc number + taken ≡ number + suc taken = omega arith in
    passed told rows (suc number) taken ∙ ap (λ n. folds_after told n 0 (drop taken rows)) next

-- so are those behind the first
passed_first : (told : List ℕ) (row : Row) (rows : List Row) (number block repeated : ℕ) → 1 ≤ block →
    folds_after told (suc number) (block + repeated - 1) rows
    ≡ folds_after told (number + block + repeated) 0 (drop (block + repeated) (row ∷ rows))
passed_first told row rows number zero repeated some = absurd (omega (arith, some))
passed_first told row rows number (suc block) repeated some =
    let a : suc block + repeated - 1 ≡ block + repeated = omega arith in
    let b : suc number + (block + repeated) ≡ number + suc block + repeated = omega arith in
    let c : suc block + repeated ≡ suc (block + repeated) = omega arith in
    rw (a, c) (passed told rows (suc number) (block + repeated) ∙ ap (λ n. folds_after told n 0 (drop (block + repeated) rows)) b)

-- a block, and those after it
next_fold : (told : List ℕ) (row : Row) (rows : List Row) (number : ℕ) (f : Fold) → f ≡ first_fold told number (row ∷ rows) → 1 ≤ f.block →
    folds_after told number 0 (row ∷ rows)
    ≡ f ∷ folds_after told (number + f.block + f.repeated) 0 (drop (f.block + f.repeated) (row ∷ rows))
unfolding folds_after
next_fold told row rows number f e some =
    let P : Fold → Type 0 = λ g. g ∷ folds_after told (suc number) (g.block + g.repeated - 1) rows
    ≡ f ∷ folds_after told (number + f.block + f.repeated) 0 (drop (f.block + f.repeated) (row ∷ rows)) in
    subst P e (ap (λ fs. f ∷ fs) (passed_first told row rows number f.block f.repeated some))

-- the same, of the rows from a place on, behind the blocks so far
pub folds_more : (told : List ℕ) (rows : List Row) (folds all : List Fold) (number : ℕ) (f : Fold) → number < length rows →
    f ≡ first_fold told number (drop number rows) → 1 ≤ f.block →
    folds ++ folds_after told number 0 (drop number rows) ≡ all →
    (folds ++ f ∷ []) ++ folds_after told (number + f.block + f.repeated) 0 (drop (number + f.block + f.repeated) rows) ≡ all
folds_more told [] folds all number f within e some so_far = absurd (omega (arith, within))
folds_more told (r ∷ rs) folds all number f within e some so_far =
    let rows : List Row = r ∷ rs in
    let a : drop number rows ≡ get_or rows number r ∷ drop (suc number) rows = drop-cons rows number r within in
    let step : folds_after told number 0 (drop number rows)
    ≡ f ∷ folds_after told (number + f.block + f.repeated) 0 (drop (f.block + f.repeated) (drop number rows))
    = subst (λ (xs : List Row). f ≡ first_fold told number xs → folds_after told number 0 xs
    ≡ f ∷ folds_after told (number + f.block + f.repeated) 0 (drop (f.block + f.repeated) xs))
    (sym a) (λ h. next_fold told _ _ number f h some) e in
    let b : drop (f.block + f.repeated) (drop number rows) ≡ drop (number + f.block + f.repeated) rows
    = drop-drop (f.block + f.repeated) number rows ∙ ap (λ n. drop n rows) (omega arith) in
    append_assoc folds (f ∷ []) _ ∙ ap (λ fs. folds ++ f ∷ folds_after told (number + f.block + f.repeated) 0 fs) (sym b) ∙
    ap (λ fs. folds ++ fs) (sym step) ∙ so_far

-- no rows are left
pub folds_end : (told : List ℕ) (rows : List Row) (folds all : List Fold) (number : ℕ) → length rows ≤ number →
    folds ++ folds_after told number 0 (drop number rows) ≡ all → folds ≡ all
unfolding folds_after
folds_end told rows folds all number h so_far =
    let none : drop number rows ≡ [] = drop_past rows number h in
    sym (append-nil folds) ∙ ap (λ (xs : List Row). folds ++ folds_after told number 0 xs) (sym none) ∙ so_far
