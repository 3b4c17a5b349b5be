-- Names of files, each once.
use Rattle.std.proofs.Common.{◌≡◌, ◌∙◌, ℕ, suc, ◌+◌, ◌<◌, ap, sym, List, [], ◌∷◌, ◌++◌, arith}
use Rattle.std.proofs.Common.{drop, drop-cons, flat_map, get_or, length, map, refl}
use Rattle.std.proofs.Common.{◌≤◌}
use Rattle.std.proofs.lemmas.List.{drop_all}
use Rattle.std.specs.Borrow.{Bor}
use Rattle.flt_explain_parts.specs.Files.{with_name, with_names}

-- names, and then others
pub names_append : (names xs ys : List (Bor (List ℕ))) → with_names names (xs ++ ys) ≡ with_names (with_names names xs) ys
names_append names [] ys = refl
names_append names (x ∷ xs) ys = names_append (with_name names x) xs ys

module _ {A : Type 0} (all : List A) (i : ℕ) (one : A) (within : i < length all) (is : one ≡ get_or all i one) where
  -- the next one, and the rest
  next_of : drop i all ≡ one ∷ drop (i + 1) all
  next_of =
      let cut : drop i all ≡ get_or all i one ∷ drop (suc i) all = drop-cons all i one within in
      let same : i + 1 ≡ suc i = omega arith in
      rw same (cut ∙ ap (λ x. x ∷ drop (suc i) all) (sym is))

  -- one name more, with the names of the rest
  pub one_name_more : (name : A → Bor (List ℕ)) (before after whole : List (Bor (List ℕ))) →
      with_names before (map name (drop i all)) ≡ whole → after ≡ with_name before (name one) →
      with_names after (map name (drop (i + 1) all)) ≡ whole
  one_name_more name before after whole sofar more =
      ap (λ names. with_names names (map name (drop (i + 1) all))) more
      ∙ sym (ap (λ xs. with_names before (map name xs)) next_of) ∙ sofar

  -- the names of one thing more, with those of the rest
  pub more_names : (names : A → List (Bor (List ℕ))) (before after whole : List (Bor (List ℕ))) →
      with_names before (flat_map names (drop i all)) ≡ whole → after ≡ with_names before (names one) →
      with_names after (flat_map names (drop (i + 1) all)) ≡ whole
  more_names names before after whole sofar more =
      ap (λ so. with_names so (flat_map names (drop (i + 1) all))) more
      ∙ sym (names_append before (names one) (flat_map names (drop (i + 1) all)))
      ∙ sym (ap (λ xs. with_names before (flat_map names xs)) next_of) ∙ sofar

module _ {A : Type 0} (all : List A) (i : ℕ) (past : length all ≤ i) where
  -- nothing is left
  pub all_names_in : (name : A → Bor (List ℕ)) (end whole : List (Bor (List ℕ))) →
      with_names end (map name (drop i all)) ≡ whole → end ≡ whole
  all_names_in name end whole sofar = rw (drop_all i all past) at sofar

  pub all_groups_in : (names : A → List (Bor (List ℕ))) (end whole : List (Bor (List ℕ))) →
      with_names end (flat_map names (drop i all)) ≡ whole → end ≡ whole
  all_groups_in names end whole sofar = rw (drop_all i all past) at sofar
