-- The sources of texts that files make.
use Rattle.std.proofs.Common.{◌≡◌, ◌∙◌, ◌<◌, ℕ, zero, suc, ◌+◌, ◌-◌, List, [], ◌∷◌}
use Rattle.std.proofs.Common.{◌++◌, ap, ap₂, arith, drop, get_or, length, map, refl}
use Rattle.std.proofs.Common.{sym, take}
use Rattle.std.proofs.Math.Seq.{take-suc}
use Rattle.std.proofs.lemmas.List.{length-map}
use Rattle.std.specs.List.{AllZip}
use Rattle.std.specs.Prelude.{All, filter, slice_range}
use Rattle.flt_explain_texts.specs.Reports.{texts_of}
use Rattle.flt_explain_texts.specs.declared.sources.Source.{Source}
use Rattle.flt_joined.specs.Made.{AreJoined, IsJoined}
use Rattle.flt_joined.specs.Texts.{AreNamed, Given, Text, file_in, file_of, given_of, givens, groups_of, make_text}
use Rattle.flt_joined.specs.declared.given.GivenFile.{GivenFile}
use Rattle.flt_joined.specs.declared.joined.JoinedTexts.{JoinedTexts}
use Rattle.flt_joined.specs.declared.joined.JoinedText.{JoinedText}
use Rattle.flt_places.specs.declared.files.SourceFile.{SourceFile}
use Rattle.flt_commands_explain.specs.Sources.{IsSourceIn, IsSourceOf, IsWithin, bytes_in}

-- ---- lists

-- what holds of each second one, by the first
all_of : {X Y : Type 0} (R : X → Y → Type 0) (P : Y → Type 0) → ((x : X) (y : Y) → R x y → P y) → (xs : List X) (ys : List Y) →
    AllZip R xs ys → All P ys
all_of R P each [] [] zipped k d within = absurd (omega (arith, within))
all_of R P each [] (y ∷ ys) zipped k d within = absurd zipped
all_of R P each (x ∷ xs) [] zipped k d within = absurd zipped
all_of R P each (x ∷ xs) (y ∷ ys) zipped zero d within = each x y zipped.0
all_of R P each (x ∷ xs) (y ∷ ys) zipped (suc k) d within = all_of R P each xs ys zipped.1 k d (omega (arith, within))

-- one relation behind another
zipped_through : {X Y Z : Type 0} (R : X → Y → Type 0) (S : Y → Z → Type 0) (T : X → Z → Type 0) →
    ((x : X) (y : Y) (z : Z) → R x y → S y z → T x z) → (xs : List X) (ys : List Y) (zs : List Z) → AllZip R xs ys → AllZip S ys zs →
    AllZip T xs zs
zipped_through R S T both [] [] [] first second = tt
zipped_through R S T both [] [] (z ∷ zs) first second = absurd second
zipped_through R S T both [] (y ∷ ys) zs first second = absurd first
zipped_through R S T both (x ∷ xs) [] zs first second = absurd first
zipped_through R S T both (x ∷ xs) (y ∷ ys) [] first second = absurd second
zipped_through R S T both (x ∷ xs) (y ∷ ys) (z ∷ zs) first second =
    (both x y z first.0 second.0, zipped_through R S T both xs ys zs first.1 second.1)

map_behind : {X Y : Type 0} (f : X → Y) (xs : List X) (n : ℕ) → map f (drop n xs) ≡ drop n (map f xs)
map_behind f [] zero = refl
map_behind f [] (suc n) = refl
map_behind f (x ∷ xs) zero = refl
map_behind f (x ∷ xs) (suc n) = map_behind f xs n

map_before : {X Y : Type 0} (f : X → Y) (xs : List X) (n : ℕ) → map f (take n xs) ≡ take n (map f xs)
map_before f [] zero = refl
map_before f [] (suc n) = refl
map_before f (x ∷ xs) zero = refl
map_before f (x ∷ xs) (suc n) = ap (λ rest. f x ∷ rest) (map_before f xs n)

map_part : {X Y : Type 0} (f : X → Y) (xs : List X) (a b : ℕ) → map f (slice_range xs a b) ≡ slice_range (map f xs) a b
map_part f xs a b = map_before f (drop a xs) (b - a) ∙ ap (take (b - a)) (map_behind f xs a)

-- ---- sources

-- as many files have names
pub as_many : (told : Text → Text) (files : List GivenFile) (own : List SourceFile) → AreNamed told (givens files) own →
    length own ≡ length files
as_many told files own named =
    sym (length-map own file_in) ∙ ap length named ∙ length-map (givens files) (file_of told) ∙ length-map files given_of

-- each text is in some of them
pub all_within : (told : Text → Text) (files : List GivenFile) (joined : JoinedTexts) (own : List SourceFile) → AreJoined files joined →
    AreNamed told (givens files) own → All (IsWithin (length own)) joined.texts.items
all_within told files joined own are named =
    all_of (IsJoined files) (IsWithin (length own))
    (λ group j is. record {
      some = omega (arith, is.some);
      within = omega (arith, is.within, as_many told files own named);
    })
    (filter make_text (groups_of (givens files))) joined.texts.items are.each

-- the files of a text
files_of_text : (told : Text → Text) (files : List GivenFile) (own : List SourceFile) (a b : ℕ) → AreNamed told (givens files) own →
    AreNamed told (givens (slice_range files a b)) (slice_range own a b)
files_of_text told files own a b named =
    map_part file_in own a b ∙ ap (λ all. slice_range all a b) named ∙ sym (map_part (file_of told) (givens files) a b)
    ∙ ap (map (file_of told)) (sym (map_part given_of files a b))

source_of_text : (told : Text → Text) (files : List GivenFile) (own : List SourceFile) → AreNamed told (givens files) own →
    (group : List Given) (j : JoinedText) (s : Source) → IsJoined files group j → IsSourceIn own j s → IsSourceOf told group s
source_of_text told files own named group j s is of = record {
  text = is.placed.text;
  is = is.placed.is;
  same = of.bytes ∙ is.placed.same;
  named = rw (of.all, is.of) (files_of_text told files own j.first j.end named);
  placed = of.stands ∙ is.placed.placed;
}

-- the sources of the texts are those of the files
pub sources_of_files : (told : Text →
    Text) (files : List GivenFile) (joined : JoinedTexts) (own : List SourceFile) (sources : List Source) →
    AreJoined files joined → AreNamed told (givens files) own → AllZip (IsSourceIn own) joined.texts.items sources →
    AllZip (IsSourceOf told) (filter make_text (groups_of (givens files))) sources
sources_of_files told files joined own sources are named of =
    zipped_through (IsJoined files) (IsSourceIn own) (IsSourceOf told) (source_of_text told files own named)
    (filter make_text (groups_of (givens files))) joined.texts.items sources are.each of

-- they have these texts
pub texts_of_sources : (own : List SourceFile) (texts : List JoinedText) (sources : List Source) → AllZip (IsSourceIn own) texts sources →
    bytes_in texts ≡ texts_of sources
texts_of_sources own [] [] of = refl
texts_of_sources own [] (s ∷ sources) of = absurd of
texts_of_sources own (j ∷ texts) [] of = absurd of
texts_of_sources own (j ∷ texts) (s ∷ sources) of =
    ap₂ (λ bytes rest. bytes ∷ rest) (sym of.0.bytes) (texts_of_sources own texts sources of.1)

pushed : {X Y : Type 0} (R : X → Y → Type 0) (xs : List X) (ys : List Y) (x : X) (y : Y) → AllZip R xs ys → R x y →
    AllZip R (xs ++ x ∷ []) (ys ++ y ∷ [])
pushed R [] [] x y h r = (r, tt)
pushed R [] (b ∷ ys) x y h r = absurd h
pushed R (a ∷ xs) [] x y h r = absurd h
pushed R (a ∷ xs) (b ∷ ys) x y h r = (h.0, pushed R xs ys x y h.1 r)

-- the sources of the texts so far and of the next one
pub source_more : (files : List SourceFile) (all : List JoinedText) (found : List Source) (i : ℕ) (text : JoinedText) (source : Source) →
    i < length all → text ≡ get_or all i text → AllZip (IsSourceIn files) (take i all) found → IsSourceIn files text source →
    AllZip (IsSourceIn files) (take (i + 1) all) (found ++ source ∷ [])
source_more files all found i text source within is before one =
    let next : take (suc i) all ≡ take i all ++ get_or all i text ∷ [] = take-suc all i text within in
    let same : i + 1 ≡ suc i = omega arith in
    rw (same, next, ← is) (pushed (IsSourceIn files) (take i all) found text source before one)
