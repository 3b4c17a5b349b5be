-- Files that go on with one another are a group.
use Rattle.std.proofs.Common.{◌≡◌, ◌∙◌, ◌⊎◌, inl, inr, ◌<◌, ◌≤◌, ℕ, zero, suc, ◌+◌, ◌-◌, Bool, true, false}
use Rattle.std.proofs.Common.{List, [], ◌∷◌, ◌++◌, Option, Some, None, Result, Ok, Err, IfOk, ap, arith}
use Rattle.std.proofs.Common.{drop, flat_map, get_or, if◌then◌else◌, length, map, refl, sym, take}
use Rattle.std.proofs.Math.Path.{subst}
use Rattle.std.proofs.lemmas.List.{drop_more, get_or_default, length-map}
use Rattle.std.specs.Prelude.{◌&&◌, MatchResult, slice_range}
use Rattle.std.specs.declared.alloc.AllocError.{AllocError}
use Rattle.flt_c.specs.Files.{extracted}
use Rattle.flt_c.specs.declared.files.FileFlaw.{FileFlaw}
use Rattle.flt_joined.proofs.Bounds.{flaw_below}
use Rattle.flt_joined.proofs.Parts.{part_more}
use Rattle.flt_joined.specs.Made.{IsMade}
use Rattle.flt_joined.specs.Texts.{Given, IsGroup, Text, given_of, givens, goes_on, groups_of}
use Rattle.flt_joined.specs.Texts.{is_code, own_code, code_by, text_by, text_of, with_file}
use Rattle.flt_joined.specs.declared.given.GivenFile.{GivenFile}
use Rattle.flt_joined.specs.declared.making.MadeText.{MadeText}

-- ---- groups

-- the first group begins with this file
record BeginsWith (g : Given) (all : List (List Given)) : Type 0 where
  group : List Given
  groups : List (List Given)
  is : all ≡ (g ∷ group) ∷ groups

begins_if : (test : Bool) (g : Given) (group : List Given) (groups : List (List Given)) →
    BeginsWith g (if test then (g ∷ group) ∷ groups else (g ∷ []) ∷ group ∷ groups)
begins_if true g group groups = record { group = group; groups = groups; is = refl }
begins_if false g group groups = record { group = []; groups = group ∷ groups; is = refl }

begins : (g : Given) (all : List (List Given)) → BeginsWith g (with_file g all)
begins g [] = record { group = []; groups = []; is = refl }
begins g ([] ∷ groups) = record { group = []; groups = groups; is = refl }
begins g ((next ∷ group) ∷ groups) = begins_if (goes_on g next) g (next ∷ group) groups

-- a file with which the next one doesn't go on
alone : (g next : Given) (files : List Given) → goes_on g next ≡ false → groups_of (g ∷ next ∷ files) ≡ (g ∷ []) ∷ groups_of (next ∷ files)
alone g next files stops =
    let first = begins next (groups_of files) in
    rw (first.is, stops) refl

-- a file with which the next one goes on
goes_before : (g next : Given) (group : List Given) (groups : List (List Given)) → goes_on g next ≡ true →
    with_file g ((next ∷ group) ∷ groups) ≡ (g ∷ next ∷ group) ∷ groups
goes_before g next group groups on = rw on refl

-- the file of a number goes on with the one before it
abbrev pub goes_on_at : List GivenFile → GivenFile → ℕ → Bool
goes_on_at files d k = goes_on (given_of (get_or files (k - 1) d)) (given_of (get_or files k d))

-- the files from one number up to another go on with one another, and the next one doesn't
pub record IsRun (files : List GivenFile) (first next : ℕ) : Type 0 where
  pub some : first < next
  pub within : next ≤ length files
  pub on : (k : ℕ) (d : GivenFile) → first < k → k < next → goes_on_at files d k ≡ true

pub one_in_run : (files : List GivenFile) (first : ℕ) → first < length files → IsRun files first (first + 1)
one_in_run files first within = record {
  some = omega arith;
  within = omega (arith, within);
  on = λ k d behind before. absurd (omega (arith, behind, before));
}

split_last : (k next : ℕ) → k < suc next → (k < next) ⊎ (k ≡ next)
split_last k zero before = inr (omega (arith, before))
split_last zero (suc next) before = inl (omega arith)
split_last (suc k) (suc next) before = one_on (split_last k next (omega (arith, before)))
  where
    one_on : (k < next) ⊎ (k ≡ next) → (suc k < suc next) ⊎ (suc k ≡ suc next)
    one_on (inl less) = inl (omega (arith, less))
    one_on (inr same) = inr (ap suc same)

pub one_more_in_run : (files : List GivenFile) (first next : ℕ) → next < length files → IsRun files first next →
    ((d : GivenFile) → goes_on_at files d next ≡ true) → IsRun files first (next + 1)
one_more_in_run files first next within run on = record {
  some = omega (arith, run.some);
  within = omega (arith, within);
  on = λ k d behind before. by_case k d behind (less k before);
}
  where
    less : (k : ℕ) → k < next + 1 → (k < next) ⊎ (k ≡ next)
    less k before = split_last k next (omega (arith, before))

    by_case : (k : ℕ) (d : GivenFile) → first < k → (k < next) ⊎ (k ≡ next) → goes_on_at files d k ≡ true
    by_case k d behind (inl before) = run.on k d behind before
    by_case k d behind (inr same) = rw same (on d)

pub drop_all : (xs : List GivenFile) (n : ℕ) → length xs ≤ n → drop n xs ≡ []
drop_all [] zero few = refl
drop_all [] (suc n) few = refl
drop_all (x ∷ xs) zero few = absurd (omega (arith, few))
drop_all (x ∷ xs) (suc n) few = drop_all xs n (omega (arith, few))

-- of two files one is right before the other, which doesn't go on
pub off_at : (files : List GivenFile) (next : ℕ) (before file : GivenFile) → next < length files →
    before ≡ get_or files (next - 1) before → file ≡ get_or files next file → false ≡ goes_on (given_of before) (given_of file) →
    (d : GivenFile) → goes_on_at files d next ≡ false
off_at files next before file within one other off d =
    let first : get_or files (next - 1) d ≡ before = get_or_default files (next - 1) d before (omega (arith, within)) ∙ sym one in
    let second : get_or files next d ≡ file = get_or_default files next d file within ∙ sym other in
    rw (first, second) (sym off)

-- no file is behind, or it doesn't go on
abbrev pub Stops : List GivenFile → ℕ → Type 0
Stops files next = (next ≡ length files) ⊎ ((next < length files) × ((d : GivenFile) → goes_on_at files d next ≡ false))

module _ (files : List GivenFile) (d : GivenFile) (next : ℕ) (within : next ≤ length files) (stops : Stops files next) where
  -- the last file of a run is a group by itself, before those behind it
  last_group : (first : ℕ) → first + 1 ≡ next → Stops files next →
      groups_of (givens (drop first files)) ≡ (given_of (get_or files first d) ∷ []) ∷ groups_of (givens (drop next files))
  last_group first last (inl end) =
      let long : first < length files = omega (arith, last, within) in
      let none : drop next files ≡ [] = drop_all files next (omega (arith, end)) in
      ap (λ all. groups_of (givens all)) (drop_more files first d long)
      ∙ ap (λ rest. with_file (given_of (get_or files first d)) (groups_of (givens rest))) (ap (λ n. drop n files) last ∙ none)
      ∙ ap (λ rest. (given_of (get_or files first d) ∷ []) ∷ groups_of (givens rest)) (sym none)
  last_group first last (inr (more, off)) =
      let long : first < length files = omega (arith, last, within) in
      let before : next - 1 ≡ first = omega (arith, last) in
      let rest : drop next files ≡ get_or files next d ∷ drop (next + 1) files = drop_more files next d more in
      ap (λ all. groups_of (givens all)) (drop_more files first d long)
      ∙ ap (λ rest. with_file (given_of (get_or files first d)) (groups_of (givens rest))) (ap (λ n. drop n files) last ∙ rest)
      ∙ alone (given_of (get_or files first d)) (given_of (get_or files next d)) (givens (drop (next + 1) files))
      (subst (λ k. goes_on (given_of (get_or files k d)) (given_of (get_or files next d)) ≡ false) before (off d))
      ∙ ap (λ behind. (given_of (get_or files first d) ∷ []) ∷ groups_of (givens behind)) (sym rest)

  group_from : (n first : ℕ) → first + suc n ≡ next → ((k : ℕ) → first < k → k < next → goes_on_at files d k ≡ true) →
      groups_of (givens (drop first files)) ≡ givens (slice_range files first next) ∷ groups_of (givens (drop next files))
  group_from zero first last on =
      let some : first < next = omega (arith, last) in
      let zero_more : next - (first + 1) ≡ 0 = omega (arith, last) in
      let none : take (next - (first + 1)) (drop (first + 1) files) ≡ [] = ap (λ n. take n (drop (first + 1) files)) zero_more in
      last_group first (omega (arith, last)) stops
      ∙ ap (λ part. givens part ∷ groups_of (givens (drop next files)))
      (sym (part_more files first next d some within ∙ ap (λ rest. get_or files first d ∷ rest) none))
  group_from (suc n) first last on =
      let some : first < next = omega (arith, last) in
      let more : first + 1 < next = omega (arith, last) in
      let long : first < length files = omega (arith, some, within) in
      let before : (first + 1) - 1 ≡ first = omega arith in
      let rest : slice_range files (first + 1) next ≡ get_or files (first + 1) d ∷ slice_range files (first + 1 + 1) next =
      part_more files (first + 1) next d more within in
      let behind : groups_of (givens (drop (first + 1) files)) ≡
      givens (slice_range files (first + 1) next) ∷ groups_of (givens (drop next files)) =
      group_from n (first + 1) (omega (arith, last)) (λ k behind before. on k (omega (arith, behind)) before) in
      let on_next : goes_on (given_of (get_or files first d)) (given_of (get_or files (first + 1) d)) ≡ true =
      subst (λ k. goes_on (given_of (get_or files k d)) (given_of (get_or files (first + 1) d)) ≡ true) before
      (on (first + 1) (omega arith) more) in
      ap (λ all. groups_of (givens all)) (drop_more files first d long)
      ∙ ap (with_file (given_of (get_or files first d))) (behind ∙ ap (λ part. givens part ∷ groups_of (givens (drop next files))) rest)
      ∙ goes_before (given_of (get_or files first d)) (given_of (get_or files (first + 1) d))
      (givens (slice_range files (first + 1 + 1) next))
      (groups_of (givens (drop next files))) on_next
      ∙ ap (λ part. givens part ∷ groups_of (givens (drop next files)))
      (sym (part_more files first next d some within ∙ ap (λ part. get_or files first d ∷ part) rest))

-- a run is a group
pub group_of : (files : List GivenFile) (first next : ℕ) (d : GivenFile) → IsRun files first next → Stops files next →
    groups_of (givens (drop first files)) ≡ givens (slice_range files first next) ∷ groups_of (givens (drop next files))
group_of files first next d run stops =
    group_from files d next run.within stops (next - (first + 1)) first (omega (arith, run.some))
    (λ k behind before. run.on k d behind before)

-- the last run is a group, too
pub last_group_of : (files : List GivenFile) (first next : ℕ) → IsRun files first next → next ≡ length files →
    groups_of (givens (drop first files)) ≡ givens (slice_range files first next) ∷ groups_of (givens (drop next files))
last_group_of [] first next run end = absurd (omega (arith, run.some, run.within))
last_group_of (f ∷ files) first next run end = group_of (f ∷ files) first next f run (inl end)

-- the first file of a group of several is C
first_code : (before g : Given) → goes_on before g ≡ true → is_code before.code ≡ true
first_code before g on = first_of (is_code before.code) _ on
  where
    first_of : (a b : Bool) → (a && b) ≡ true → a ≡ true
    first_of true b is = refl
    first_of false b is = is

pub is_group : (files : List GivenFile) (first next : ℕ) (d : GivenFile) → IsRun files first next →
    IsGroup (givens (slice_range files first next))
is_group files first next d run = by_length (one_or_more (next - (first + 1)))
  where
    one_or_more : (n : ℕ) → (n ≡ 0) ⊎ (0 < n)
    one_or_more zero = inl refl
    one_or_more (suc n) = inr (omega arith)

    by_length : (next - (first + 1) ≡ 0) ⊎ (0 < next - (first + 1)) → IsGroup (givens (slice_range files first next))
    by_length (inl one) =
        let none : take (next - (first + 1)) (drop (first + 1) files) ≡ [] = ap (λ n. take n (drop (first + 1) files)) one in
        subst (λ part. IsGroup (givens part)) (sym (part_more files first next d run.some run.within
        ∙ ap (λ rest. get_or files first d ∷ rest) none)) tt
    by_length (inr several) =
        let more : first + 1 < next = omega (arith, several) in
        let before : (first + 1) - 1 ≡ first = omega arith in
        let both : slice_range files first next ≡
        get_or files first d ∷ get_or files (first + 1) d ∷ slice_range files (first + 1 + 1) next =
        part_more files first next d run.some run.within
        ∙ ap (λ rest. get_or files first d ∷ rest) (part_more files (first + 1) next d more run.within) in
        subst (λ part. IsGroup (givens part)) (sym both)
        (first_code (given_of (get_or files first d)) (given_of (get_or files (first + 1) d))
        (subst (λ k. goes_on (given_of (get_or files k d)) (given_of (get_or files (first + 1) d)) ≡ true) before
        (run.on (first + 1) d (omega arith) more)))

pub is_last_group : (files : List GivenFile) (first next : ℕ) → IsRun files first next → IsGroup (givens (slice_range files first next))
is_last_group [] first next run = absurd (omega (arith, run.some, run.within))
is_last_group (f ∷ files) first next run = is_group (f ∷ files) first next f run

-- ---- texts

coded_by : (code : Option Text) (text : Text) (files : List Given) → is_code code ≡ true →
    text_by code text files ≡ extracted (code_by code ++ flat_map own_code files)
coded_by None text files is = let no : ⊥ = cc in absurd no
coded_by (Some code) text files is = refl

-- the text of several files of a group is that of the C files
pub coded : (g next : Given) (files : List Given) → IsGroup (g ∷ next ∷ files) →
    text_of (g ∷ next ∷ files) ≡ extracted (flat_map own_code (g ∷ next ∷ files))
coded g next files is = coded_by g.code g.text (next ∷ files) is

-- the same of files
pub coded_files : (files : List GivenFile) → IsGroup (givens files) → 1 < length files →
    text_of (givens files) ≡ extracted (flat_map own_code (givens files))
coded_files [] is several = absurd (omega (arith, several))
coded_files (f ∷ []) is several = absurd (omega (arith, several))
coded_files (f ∷ next ∷ files) is several = coded (given_of f) (given_of next) (givens files) is

-- the same of what is made of them
made_by : (files : List GivenFile) (done : Result MadeText FileFlaw) → IsGroup (givens files) → 1 < length files →
    MatchResult done (IsMade (extracted (flat_map own_code (givens files))))
    (λ flaw. extracted (flat_map own_code (givens files)) ≡ Err flaw) →
    MatchResult done (IsMade (text_of (givens files))) (λ flaw. (text_of (givens files) ≡ Err flaw) × (flaw.file < length files))
made_by files (Ok text) is several made = subst (λ r. IsMade r text) (sym (coded_files files is several)) made
made_by files (Err flaw) is several made =
    let same : text_of (givens files) ≡ Err flaw = coded_files files is several ∙ made in
    (same, omega (arith, flaw_below (givens files) flaw same, length-map files given_of))

pub made_of : (files : List GivenFile) (result : Result (Result MadeText FileFlaw) AllocError) → IsGroup (givens files) → 1 < length files →
    IfOk result (λ done. MatchResult done (IsMade (extracted (flat_map own_code (givens files))))
    (λ flaw. extracted (flat_map own_code (givens files)) ≡ Err flaw)) →
    IfOk result (λ done. MatchResult done (IsMade (text_of (givens files)))
    (λ flaw. (text_of (givens files) ≡ Err flaw) × (flaw.file < length files)))
made_of files (Ok done) is several made = made_by files done is several made
made_of files (Err e) is several made = tt
