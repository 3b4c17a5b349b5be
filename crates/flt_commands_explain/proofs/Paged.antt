-- Names that have pages, up to a place.
use Rattle.std.proofs.Common.{◌≡◌, ℕ, ◌+◌, ◌<◌, true, false, List, [], ◌∷◌, ◌++◌, Bor, get_or, length, map, take, drop, refl}
use Rattle.std.proofs.lemmas.List.Folds.{list_all-append}
use Rattle.std.proofs.lemmas.Slice.Zip.{all_zipped_more}
use Rattle.std.specs.Io.{StartsWith}
use Rattle.std.specs.List.{AllZip, list_all}
use Rattle.flt_explain_pages.specs.Pages.{has_page, title}
use Rattle.flt_tree.proofs.Parts.{one_more, parted}
use Rattle.flt_commands_explain.specs.Explain.{IsUnpaged}
use Rattle.flt_files.specs.Inputs.{Text}

module _ (names : List (Bor Text)) (i : ℕ) (name d : Bor Text) (h : i < length names) (at : name ≡ get_or names i d) where
  -- one more page is that of its name
  pub paged_more : (pages more : List (Bor Text)) (page : Bor Text) →
      AllZip (λ n p. StartsWith p.now (title n)) (map (λ n. n.now) (take i names)) pages → StartsWith page.now (title name.now) →
      more ≡ pages ++ page ∷ [] →
      AllZip (λ n p. StartsWith p.now (title n)) (map (λ n. n.now) (take (i + 1) names)) more
  paged_more pages more page paged one pushed =
      let named : map (λ (n : Bor Text). n.now) (take (i + 1) names) ≡ map (λ (n : Bor Text). n.now) (take i names) ++ name.now ∷ [] =
      one_more (λ n. n.now) names i name d h at in
      rw (named, pushed) (all_zipped_more _ _ _ name.now page paged one)

  -- one more name that has a page leaves all with pages
  pub found_more : list_all has_page (map (λ n. n.now) (take i names)) ≡ true → has_page name.now ≡ true →
      list_all has_page (map (λ n. n.now) (take (i + 1) names)) ≡ true
  found_more found one =
      let named : map (λ (n : Bor Text). n.now) (take (i + 1) names) ≡ map (λ (n : Bor Text). n.now) (take i names) ++ name.now ∷ [] =
      one_more (λ n. n.now) names i name d h at in
      rw (named, list_all-append has_page (map (λ n. n.now) (take i names)) (name.now ∷ []), found, one) refl

  -- the first name without a page is the one that is told
  pub unpaged : list_all has_page (map (λ n. n.now) (take i names)) ≡ true → has_page name.now ≡ false →
      IsUnpaged (map (λ n. n.now) names) name.now
  unpaged found none = record {
    before = map (λ n. n.now) (take i names);
    after = map (λ n. n.now) (drop (i + 1) names);
    parts = parted (λ n. n.now) names i name d h at;
    paged = found;
    none = none;
  }
