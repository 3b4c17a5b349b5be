-- The last of what was done, of which more is said.
use Rattle.std.proofs.Common.{◌≡◌, ◌∙◌, sym, ap, refl, ℕ, ◌+◌, ◌<◌, List, [], ◌∷◌, ◌++◌, map, length, get_or, arith}
use Rattle.std.proofs.lemmas.List.{get_or-map, length-map, length_push, map-set}
use Rattle.std.proofs.Math.ListN.{set}
use Rattle.std.proofs.Math.Seq.{get_or-append_seam}
use Rattle.flt_files.specs.Deeds.{Deed, deed_of}
use Rattle.flt_files.specs.declared.deeds.Deed.{Deed as OwnDeed}

-- the last element is replaced
set_last : (before : List Deed) (d x : Deed) → set (before ++ d ∷ []) (length before) x ≡ before ++ x ∷ []
set_last [] d x = refl
set_last (b ∷ bs) d x = ap (λ l. b ∷ l) (set_last bs d x)

module _ (items : List OwnDeed) (at : ℕ) (before : List Deed) (d : Deed) (are : map deed_of items ≡ before ++ d ∷ [])
    (last : at + 1 ≡ length items) where
  place : at ≡ length before
  place =
      let same : length items ≡ length before + 1 =
      sym (length-map items deed_of) ∙ ap length are ∙ length_push before d in
      omega arith

  -- what is replaced is the last one
  pub was : (own : OwnDeed) → deed_of (get_or items at own) ≡ d
  was own =
      let within : at < length items = omega arith in
      sym (get_or-map deed_of items at own (deed_of own) within) ∙ ap (λ l. get_or l at (deed_of own)) are
      ∙ ap (λ n. get_or (before ++ d ∷ []) n (deed_of own)) place ∙ get_or-append_seam before d [] (deed_of own)

  -- it is replaced in what is said of all
  pub replaced : (own : OwnDeed) (x : Deed) → deed_of own ≡ x → map deed_of (set items at own) ≡ before ++ x ∷ []
  replaced own x is =
      map-set deed_of items at own ∙ ap (λ l. set l at (deed_of own)) are
      ∙ ap (λ n. set (before ++ d ∷ []) n (deed_of own)) place ∙ set_last before d (deed_of own) ∙ ap (λ y. before ++ y ∷ []) is
