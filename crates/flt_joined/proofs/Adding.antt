-- What one group adds.
use Rattle.std.proofs.Common.{◌≡◌, ◌∙◌, ◌<◌, ◌≤◌, ℕ, ◌+◌, ◌-◌, List, [], ◌∷◌, ◌++◌, Err, ap, ap₂, append-nil}
use Rattle.std.proofs.Common.{append_assoc, arith, drop, length, map, refl, subst₂, sym}
use Rattle.std.proofs.Math.Path.{subst}
use Rattle.std.proofs.lemmas.Grind.{flat_map-append}
use Rattle.std.proofs.lemmas.List.{map_push}
use Rattle.std.proofs.lemmas.List.Elements.{filter-append}
use Rattle.std.specs.List.{AllZip}
use Rattle.std.specs.Prelude.{filter, slice_range}
use Rattle.flt_c.specs.declared.files.FileFlaw.{FileFlaw}
use Rattle.flt_joined.proofs.Grouping.{drop_all}
use Rattle.flt_joined.proofs.Parts.{in_part, zipped_on}
use Rattle.flt_joined.specs.Made.{AreFirstJoined, AreJoined, AreJoinedOf, IsAdded, IsJoined}
use Rattle.flt_joined.specs.Texts.{Given, given_of, givens, groups_of, make_text, name_by, refused_at, refused_in, text_of}
use Rattle.flt_joined.specs.declared.given.GivenFile.{GivenFile}
use Rattle.flt_joined.specs.declared.joined.JoinedTexts.{JoinedTexts}

-- the files from one number up to another have no text: one of them is refused
pub none_added : (files : List GivenFile) (first end : ℕ) (old new : JoinedTexts) (flaw : FileFlaw) →
    text_of (givens (slice_range files first end)) ≡ Err flaw → flaw.file < end - first → new.texts.items ≡ old.texts.items →
    new.refused.items ≡ old.refused.items ++ record { file = first + flaw.file; flaw = flaw.flaw } ∷ [] →
    IsAdded files (givens (slice_range files first end)) old new
none_added files first end old new flaw is within texts refused = record {
  added = [];
  each = rw is tt;
  texts = texts ∙ sym (append-nil old.texts.items);
  refused =
      let here : refused_at (givens files) (record { file = first + flaw.file; flaw = flaw.flaw })
      ≡ refused_at (givens (slice_range files first end)) flaw =
      ap (λ g. record { name = name_by g; flaw = flaw.flaw }) (sym (in_part given_of files first end flaw.file within)) in
      rw (refused, is, map_push (refused_at (givens files)) old.refused.items (record { file = first + flaw.file; flaw = flaw.flaw }), here)
      refl;
}

-- a group more
pub one_more_joined : (files : List GivenFile) (first end : ℕ) (old new : JoinedTexts) → AreFirstJoined files first old →
    groups_of (givens (drop first files)) ≡ givens (slice_range files first end) ∷ groups_of (givens (drop end files)) →
    IsAdded files (givens (slice_range files first end)) old new → AreFirstJoined files end new
one_more_joined files first end old new before group added =
    let one : List (List Given) = givens (slice_range files first end) ∷ [] in
    record {
      groups = before.groups ++ one;
      are = append_assoc before.groups one (groups_of (givens (drop end files)))
          ∙ ap (λ rest. before.groups ++ rest) (sym group) ∙ before.are;
      joined = record {
        each =
            subst₂ (AllZip (IsJoined files)) (sym (filter-append make_text before.groups one)) (sym added.texts)
            (zipped_on (IsJoined files) (filter make_text before.groups) old.texts.items (filter make_text one) added.added
            before.joined.each
            added.each);
        refused = added.refused ∙ ap₂ (λ xs ys. xs ++ ys) before.joined.refused
            (sym (append-nil (refused_in (givens (slice_range files first end)))))
            ∙ sym (flat_map-append refused_in before.groups one);
      };
    }

-- all of them
pub all_joined : (files : List GivenFile) (first : ℕ) (j : JoinedTexts) → first ≡ length files →
    AreFirstJoined files first j → AreJoined files j
all_joined files first j end before =
    let none : drop first files ≡ [] = ap (λ n. drop n files) end ∙ drop_all files (length files) (omega arith) in
    let all : before.groups ≡ groups_of (givens files) =
    sym (append-nil before.groups) ∙ ap (λ rest. before.groups ++ groups_of (givens rest)) (sym none) ∙ before.are in
    subst (λ groups. AreJoinedOf files groups j) all before.joined
