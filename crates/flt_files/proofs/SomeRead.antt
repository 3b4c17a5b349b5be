-- Names of which some are read.
use Rattle.std.proofs.Common.{◌≡◌, ◌∙◌, ◌+◌, ◌<◌, ℕ, false, arith, flat_map, get_or, take, ◌&&◌, List, []}
use Rattle.std.proofs.Common.{◌∷◌, ◌++◌, Some, Bor, Vec, Global, length, map, refl, sym, ap, string_bytes}
use Rattle.std.proofs.lemmas.List.{length-map, length_push, map_push}
use Rattle.std.proofs.lemmas.Grind.{common_steps}
use Rattle.std.specs.List.{list_any}
use Rattle.flt_files.specs.declared.unread.UnreadFile.{UnreadFile}
use Rattle.flt_files.specs.declared.inputs.ReadFiles.{ReadFiles}
use Rattle.flt_files.specs.Inputs.{AreRead, AreReadIn, Giving, IsMissing, Text, is_standard, missing, none, read, unread_names}

module _ (gives : Giving) (before : List Text) (name : Bor Text) (names : List (Bor Text)) (texts : List (Vec ℕ Global))
    (unread : List UnreadFile)
    (are : AreRead gives before (map (λ n. n.now) names) (map (λ t. t.items) texts) (unread_names unread)) where
  -- a name more that is read
  pub read_more : (text : Vec ℕ Global) (more : List (Bor Text)) (found : List (Vec ℕ Global)) → gives name.now (Some text.items) →
      is_standard name.now && list_any is_standard before ≡ false → more ≡ names ++ name ∷ [] → found ≡ texts ++ text ∷ [] →
      AreRead gives (before ++ name.now ∷ []) (map (λ n. n.now) more) (map (λ t. t.items) found) (unread_names unread)
  read_more text more found one other named put =
      let all : map (λ (n : Bor Text). n.now) more ≡ map (λ (n : Bor Text). n.now) names ++ name.now ∷ [] =
      ap (map (λ (n : Bor Text). n.now)) named ∙ map_push (λ n. n.now) names name in
      let given : map (λ (t : Vec ℕ Global). t.items) found ≡ map (λ (t : Vec ℕ Global). t.items) texts ++ text.items ∷ [] =
      ap (map (λ (t : Vec ℕ Global). t.items)) put ∙ map_push (λ t. t.items) texts text in
      rw (all, given) (read name.now text.items are one other)

  -- a name more that isn't
  pub missing_more : (file : UnreadFile) (more : List UnreadFile) → string_bytes file.name ≡ name.now → IsMissing gives before name.now →
      more ≡ unread ++ file ∷ [] →
      AreRead gives (before ++ name.now ∷ []) (map (λ n. n.now) names) (map (λ t. t.items) texts) (unread_names more)
  missing_more file more same lost put =
      let all : unread_names more ≡ unread_names unread ++ name.now ∷ [] =
      ap unread_names put ∙ map_push (λ (f : UnreadFile). string_bytes f.name) unread file ∙ ap (λ n. unread_names unread ++ n ∷ []) same in
      rw all (missing name.now are lost)

-- as many texts as names are read
pub read_lengths : (gives : Giving) (names got texts unread : List Text) → AreRead gives names got texts unread → length texts ≡ length got
read_lengths gives _ _ _ _ none = refl
read_lengths gives _ _ _ _ (read {names = names} {read = got} {texts = texts} {unread = others} name text are one other) =
    length_push texts text ∙ ap (λ n. n + 1) (read_lengths gives names got texts others are) ∙ sym (length_push got name)
read_lengths gives _ _ _ _ (missing {names = names} {read = got} {texts = texts} {unread = others} name are lost) =
    read_lengths gives names got texts others are

-- as many texts as names were read
pub read_many : (gives : Giving) (names : List Text) (r : ReadFiles) → AreReadIn gives names r → length r.texts.items ≡ length r.names.items
read_many gives names r are =
    sym (length-map r.texts.items (λ t. t.items)) ∙ read_lengths gives names _ _ _ are ∙ length-map r.names.items (λ n. n.now)

-- the lines on one file more
pub lines_more : {A : Type 0} (f : A → List ℕ) (all : List A) (i : ℕ) (one : A) (before lines after : List ℕ) → i < length all →
    one ≡ get_or all i one → before ≡ flat_map f (take i all) → lines ≡ f one → after ≡ before ++ lines →
    after ≡ flat_map f (take (i + 1) all)
lines_more f all i one before lines after within is first own second =
    let more : flat_map f (take (i + 1) all) ≡ flat_map f (take i all) ++ f one = grind (arith, common_steps) in
    rw (second, first, own, more) refl
