-- The first of several names for which nothing is given, and those before it.
use Rattle.std.proofs.Common.{◌≡◌, ◌⊎◌, inr, ℕ, ◌+◌, ◌<◌, ◌≤◌, Bool, true, false, ◌&&◌, ◌||◌, List, [], ◌∷◌, ◌++◌, None, Some, Bor, Vec}
use Rattle.std.proofs.Common.{Global, length, get_or, take, drop, map, refl, sym, ap, ◌∙◌, arith, count_by, cond, append_assoc}
use Rattle.std.proofs.Math.Bool.{or_assoc}
use Rattle.std.proofs.lemmas.List.{map_push}
use Rattle.std.proofs.lemmas.List.Folds.{list_any-append}
use Rattle.std.proofs.lemmas.List.Sums.{sum_by-cons, sum_by_push}
use Rattle.std.proofs.lemmas.Slice.Zip.{all_zipped_more}
use Rattle.std.specs.List.{list_any}
use Rattle.flt_tree.proofs.Parts.{one_more, parted}
use Rattle.flt_files.specs.Inputs.{Giving, Text, AreGiven, AreGivenBehind, IsUnreadable, NamesFail, NamesFailBehind, is_standard}
use Rattle.flt_files.specs.declared.failure.Failure.{Failure}
use Rattle.flt_files.specs.declared.failure.Failure.TheVariants.{CannotRead}

-- what two functions make of a list, one behind the other
pub mapped_twice : {A B C : Type 0} (f : A → B) (g : B → C) (xs : List A) → map g (map f xs) ≡ map (λ x. g (f x)) xs
mapped_twice f g [] = refl
mapped_twice f g (x ∷ xs) = ap (λ ys. g (f x) ∷ ys) (mapped_twice f g xs)

-- ---- the names

-- anything and false is false
pub and_false : (b : Bool) → b && false ≡ false
and_false true = refl
and_false false = refl

module _ {X : Type 0} (p : X → Bool) where
  none_yet : (b : Bool) (n : ℕ) (rest : Bool) → (b || rest) ≡ false → (rest ≡ false → n ≡ 0) → cond b 1 0 + n ≡ 0
  none_yet true n rest h none = absurd (cc h)
  none_yet false n rest h none = omega (arith, none h)

  count_none : (xs : List X) → list_any p xs ≡ false → count_by p xs ≡ 0
  count_none [] h = refl
  count_none (y ∷ xs) h =
      let first : count_by p (y ∷ xs) ≡ cond (p y) 1 0 + count_by p xs = sum_by-cons (λ z. cond (p z) 1 0) y xs in
      rw first (none_yet (p y) (count_by p xs) (list_any p xs) h (count_none xs))

  still_once : (b rest : Bool) (n : ℕ) → n ≤ 1 → b && rest ≡ false → (rest ≡ false → n ≡ 0) → n + cond b 1 0 ≤ 1
  still_once true rest n once other none = omega (arith, none other)
  still_once false rest n once other none = omega arith

  pub once_more : (xs : List X) (x : X) → count_by p xs ≤ 1 → p x && list_any p xs ≡ false → count_by p (xs ++ x ∷ []) ≤ 1
  once_more xs x once other = rw (sum_by_push (λ y. cond (p y) 1 0) xs x)
      (still_once (p x) (list_any p xs) (count_by p xs) once other (count_none xs))

  -- one of some and one more passes where one of some does, or the last
  pub any_more : (xs : List X) (x : X) → list_any p (xs ++ x ∷ []) ≡ (list_any p xs || p x)
  any_more xs x = list_any-append p xs (x ∷ []) ∙ ap (λ b. list_any p xs || b) (or_none (p x))
    where
      or_none : (b : Bool) → (b || false) ≡ b
      or_none true = refl
      or_none false = refl

-- a name more, and what it gives
given_one : (gives : Giving) (names texts : List Text) (name text : Text) → AreGiven gives names texts → gives name (Some text) →
    is_standard name && list_any is_standard names ≡ false → AreGiven gives (names ++ name ∷ []) (texts ++ text ∷ [])
given_one gives names texts name text given one other = record {
  each = all_zipped_more _ _ _ name text given.each one;
  once = once_more is_standard names name given.once other;
}

module _ (gives : Giving) (is_used : Bool) (names : List (Bor Text)) (i : ℕ) (name d : Bor Text) (h : i < length names)
    (at : name ≡ get_or names i d) (used : Bool)
    (is : used ≡ (is_used || list_any is_standard (map (λ n. n.now) (take i names)))) where
  -- whether the standard input is used, behind others too
  used_behind : (before : List Text) → list_any is_standard before ≡ is_used →
      used ≡ list_any is_standard (before ++ map (λ n. n.now) (take i names))
  used_behind before same =
      let ns = map (λ (n : Bor Text). n.now) (take i names) in
      is ∙ sym (list_any-append is_standard before ns ∙ ap (λ b. b || list_any is_standard ns) same)

  -- one more text is given for its name, where the standard input isn't used twice
  pub given_more : (texts more : List (Vec ℕ Global)) (text : Vec ℕ Global) →
      AreGivenBehind gives is_used (map (λ n. n.now) (take i names)) (map (λ t. t.items) texts) →
      gives name.now (Some text.items) → is_standard name.now && used ≡ false →
      more ≡ texts ++ text ∷ [] → AreGivenBehind gives is_used (map (λ n. n.now) (take (i + 1) names)) (map (λ t. t.items) more)
  given_more texts more text behind one other pushed before found are same =
      let named : map (λ (n : Bor Text). n.now) (take (i + 1) names) ≡ map (λ (n : Bor Text). n.now) (take i names) ++ name.now
      ∷ [] = one_more (λ n. n.now) names i name d h at in
      let read : map (λ (t : Vec ℕ Global). t.items) more ≡ map (λ (t : Vec ℕ Global). t.items) texts ++ text.items ∷ [] =
      ap (map (λ (t : Vec ℕ Global). t.items)) pushed ∙ map_push (λ t. t.items) texts text in
      rw (
        named,
        read,
        ← append_assoc before (map (λ n. n.now) (take i names)) (name.now ∷ []),
        ← append_assoc found (map (λ t. t.items) texts) (text.items ∷ []),
      )
      (given_one gives _ _ name.now text.items (behind before found are same) one (rw (used_behind before same) at other))

  -- the name at a place is the first for which nothing is given
  pub unreadable : (texts : List Text) → AreGivenBehind gives is_used (map (λ n. n.now) (take i names)) texts →
      (is_standard name.now && used ≡ true) ⊎ gives name.now None →
      NamesFailBehind gives is_used (map (λ n. n.now) names) (CannotRead name)
  unreadable texts behind missing before found are same = record {
    before = before ++ map (λ n. n.now) (take i names);
    name = name.now;
    after = map (λ n. n.now) (drop (i + 1) names);
    parts = ap (λ ns. before ++ ns) (parted (λ n. n.now) names i name d h at)
        ∙ sym (append_assoc before (map (λ n. n.now) (take i names)) (name.now ∷ map (λ n. n.now) (drop (i + 1) names)));
    texts = found ++ texts;
    given = behind before found are same;
    missing = rw (used_behind before same) at missing;
    told = refl;
  }

  -- the standard input is used where one of the names up to here is its name
  pub used_more : (more : Bool) → more ≡ (used || is_standard name.now) →
      more ≡ (is_used || list_any is_standard (map (λ n. n.now) (take (i + 1) names)))
  used_more more now =
      let ns = map (λ (n : Bor Text). n.now) (take i names) in
      let named : map (λ (n : Bor Text). n.now) (take (i + 1) names) ≡ ns ++ name.now ∷ [] = one_more (λ n. n.now) names i name d h at in
      let any : list_any is_standard (map (λ n. n.now) (take (i + 1) names)) ≡ (list_any is_standard ns || is_standard name.now) =
      ap (list_any is_standard) named ∙ any_more is_standard ns name.now in
      now ∙ ap (λ b. b || is_standard name.now) is ∙ or_assoc is_used (list_any is_standard ns) (is_standard name.now)
      ∙ ap (λ b. is_used || b) (sym any)

-- ---- behind no name, and behind one

module _ (gives : Giving) where
  -- no names are given no bytes
  none_given : AreGiven gives [] []
  none_given = record { each = tt; once = omega arith }

  -- what is given behind no name is given
  pub given_behind_none : (names texts : List Text) → AreGivenBehind gives false names texts → AreGiven gives names texts
  given_behind_none names texts behind = behind [] [] none_given refl

  -- a failure of names before which nothing is used is a failure of these names
  pub fail_behind_none : (names : List Text) (f : Failure) → NamesFailBehind gives false names f → NamesFail gives names f
  fail_behind_none names f behind = behind [] [] none_given refl

  module _ (first text : Text) (is : gives first (Some text)) (used : Bool) (same : used ≡ is_standard first) where
    one_given : AreGiven gives (first ∷ []) (text ∷ [])
    one_given = given_one gives [] [] first text none_given is (and_false (is_standard first))

    one_used : list_any is_standard (first ∷ []) ≡ used
    one_used = any_more is_standard [] first ∙ sym same

    -- the same behind one name
    pub given_behind_one : (names texts : List Text) → AreGivenBehind gives used names texts →
        AreGiven gives (first ∷ names) (text ∷ texts)
    given_behind_one names texts behind = behind (first ∷ []) (text ∷ []) one_given one_used

    -- a failure of names behind a first one is a failure of all of them
    pub fail_behind_one : (names : List Text) (f : Failure) → NamesFailBehind gives used names f → NamesFail gives (first ∷ names) f
    fail_behind_one names f behind = behind (first ∷ []) (text ∷ []) one_given one_used

  -- nothing is given for a first name
  pub unreadable_first : (first : Bor Text) (names : List Text) → gives first.now None →
      IsUnreadable gives (first.now ∷ names) (CannotRead first)
  unreadable_first first names none = record {
    before = [];
    name = first.now;
    after = names;
    parts = refl;
    texts = [];
    given = none_given;
    missing = inr none;
    told = refl;
  }
