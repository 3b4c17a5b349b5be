-- Files with names, one more behind others.
use Rattle.std.proofs.Common.{◌≡◌, ◌∙◌, ◌<◌, ℕ, ◌+◌, List, [], ◌∷◌, ◌++◌, ap, ap₂, get_or, length, map, sym, take}
use Rattle.std.proofs.lemmas.List.{get_or-map, map_push, take_more}
use Rattle.flt_joined.specs.Texts.{AreNamed, Text, file_in, file_of, given_of, givens}
use Rattle.flt_joined.specs.declared.given.GivenFile.{GivenFile}
use Rattle.flt_places.specs.declared.files.SourceFile.{SourceFile}

pub one_more_named : (told : Text → Text) (files : List GivenFile) (names : List Text) (i : ℕ) (f : GivenFile) (all more : List SourceFile)
    (own : SourceFile) → names ≡ map (λ (f : GivenFile). told f.name.now) files → i < length files → f ≡ get_or files i f →
    (get_or names i [] ≡ told f.name.now → file_in own ≡ file_of told (given_of f)) → AreNamed told (givens (take i files)) all →
    more ≡ all ++ own ∷ [] → AreNamed told (givens (take (i + 1) files)) more
one_more_named told files names i f all more own same within is one before put =
    let name : get_or names i [] ≡ told f.name.now =
    ap (λ ns. get_or ns i []) same ∙ get_or-map (λ (f : GivenFile). told f.name.now) files i f [] within
    ∙ ap (λ (g : GivenFile). told g.name.now) (sym is) in
    ap (map file_in) put ∙ map_push file_in all own
    ∙ ap₂ (λ xs x. xs ++ x ∷ []) before (one name ∙ ap (λ g. file_of told (given_of g)) is)
    ∙ sym (map_push (file_of told) (givens (take i files)) (given_of (get_or files i f)))
    ∙ ap (map (file_of told)) (sym (map_push given_of (take i files) (get_or files i f)))
    ∙ ap (λ xs. map (file_of told) (map given_of xs)) (sym (take_more files i f within))
