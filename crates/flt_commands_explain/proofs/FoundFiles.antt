-- What files give, C files their annotations.
use Rattle.std.proofs.Common.{inl, inr, ◌≡◌, ◌∙◌, List, [], ◌∷◌, ◌++◌, ◌&&◌, Bool, true, false, Option}
use Rattle.std.proofs.Common.{Some, None, Result, Ok, Err, IfOk, OnErr, ap, sym, map, option_map, string_bytes}
use Rattle.std.proofs.Math.Path.{subst}
use Rattle.std.proofs.lemmas.List.{map_push}
use Rattle.std.proofs.lemmas.List.Elements.{All-push}
use Rattle.std.specs.List.{list_any}
use Rattle.std.specs.declared.alloc.AllocError.{AllocError}
use Rattle.flt_files.specs.declared.unread.UnreadFile.{UnreadFile}
use Rattle.flt_joined.specs.Made.{IsOwn}
use Rattle.flt_joined.specs.Texts.{AreAnnotations, Given, given_of, givens}
use Rattle.flt_joined.specs.declared.given.GivenFile.{GivenFile}
use Rattle.flt_commands_explain.specs.Annotated.{AreFlawed, AreFoundIn, GivesBy, GivesFound, gives_annotations, gives_if_c, is_taken_for_c}
use Rattle.flt_files.specs.Inputs.{Giving, IsMissing, Text, is_standard, missing, read, unread_names}
use Rattle.flt_commands_explain.specs.declared.annotated.NamedFiles.{NamedFiles}
use Rattle.flt_files.specs.declared.unread.InputFault.{InputFault}

-- ---- of one name

-- what isn't read gives nothing, whether it is C or not
nothing_if : (is_c : Bool) (gives : Giving) (name : Text) → gives name None → gives_if_c is_c gives name None
nothing_if true gives name nothing = inr nothing
nothing_if false gives name nothing = nothing

pub nothing_given : (all : Bool) (gives : Giving) (name : Text) → gives name None → gives_annotations all gives name None
nothing_given all gives name nothing = nothing_if (is_taken_for_c all name) gives name nothing

-- what is found is what C files that give their annotations give
found_if : (all : Bool) (gives : Giving) (name text : Text) (code : Option Text) → GivesBy all gives name text code →
    gives_annotations all gives name (Some text)
found_if all gives name text None is = subst (λ b. gives_if_c b gives name (Some text)) (sym is.0) is.1
found_if all gives name text (Some code) is =
    subst (λ b. gives_if_c b gives name (Some text)) (sym is.0) (record { file = code; given = is.1.0; are = is.1.1 })

module _ (all : Bool) (gives : Giving) (name : Text) (file : Text) (is : is_taken_for_c all name ≡ true)
    (given : gives name (Some file)) where
  found_by : (found text : Text) (code : Option Text) → found ≡ name → AreAnnotations file text → code ≡ Some file →
      GivesBy all gives found text code
  found_by found text code named are coded = rw (named, coded) (is, (given, are))

  -- a C file gives its annotations
  pub found_in_c : (result : Result (Result GivenFile InputFault) AllocError) →
      IfOk result (λ done. IfOk done (λ g. g.name.now ≡ name)) → IfOk result (λ done. IfOk done (λ g. AreAnnotations file g.text.items)) →
      IfOk result (λ done. IfOk done (λ g. option_map (λ code. code.items) g.code ≡ Some file)) →
      IfOk result (λ done. IfOk done (λ g. GivesFound all gives (given_of g)))
  found_in_c (Ok (Ok g)) named are code = found_by g.name.now g.text.items (option_map (λ code. code.items) g.code) named are code
  found_in_c (Ok (Err why)) named are code = tt
  found_in_c (Err e) named are code = tt

  -- or none
  pub flawed : (result : Result (Result GivenFile InputFault) AllocError) → IfOk result (λ done. OnErr done (AreFlawed file)) →
      IfOk result (λ done. OnErr done (gives_annotations all gives name None))
  flawed (Ok (Ok g)) are = tt
  flawed (Ok (Err why)) are =
      subst (λ b. gives_if_c b gives name None) (sym is) (inl (record { file = file; given = given; are = are }))
  flawed (Err e) are = tt

-- ---- of several names

module _ (all : Bool) (gives : Giving) (before : List Text) (name : Text) (old new : NamedFiles)
    (are : AreFoundIn all gives before old) where
  -- a name more that gives a file
  pub found_more : (g : GivenFile) → g.name.now ≡ name → GivesFound all gives (given_of g) → IsOwn g →
      is_standard name && list_any is_standard before ≡ false → new.read.items ≡ old.read.items ++ g ∷ [] →
      new.unread.items ≡ old.unread.items → AreFoundIn all gives (before ++ name ∷ []) new
  found_more g named one own other put same =
      let files : givens new.read.items ≡ givens old.read.items ++ given_of g ∷ [] =
      ap givens put ∙ map_push given_of old.read.items g in
      let names : map (λ (f : Given). f.name) (givens new.read.items) ≡ map (λ (f : Given). f.name) (givens old.read.items) ++ name ∷ [] =
      ap (map (λ (f : Given). f.name)) files ∙ map_push (λ (f : Given). f.name) (givens old.read.items) (given_of g)
      ∙ ap (λ n. map (λ (f : Given). f.name) (givens old.read.items) ++ n ∷ []) named in
      let texts : map (λ (f : Given). f.text) (givens new.read.items) ≡
      map (λ (f : Given). f.text) (givens old.read.items) ++ g.text.items ∷ [] =
      ap (map (λ (f : Given). f.text)) files ∙ map_push (λ (f : Given). f.text) (givens old.read.items) (given_of g) in
      let given : gives_annotations all gives name (Some g.text.items) =
      subst (λ n. gives_annotations all gives n (Some g.text.items)) named
      (found_if all gives g.name.now g.text.items (given_of g).code one) in
      record {
        are = record {
          read = rw (names, texts, same) (read name g.text.items are.are.read given other);
          found = rw files (All-push (GivesFound all gives) (givens old.read.items) (given_of g) are.are.found one);
        };
        own = rw put (All-push IsOwn old.read.items g are.own own);
      }

  -- a name more that gives none
  pub unfound_more : (file : UnreadFile) → string_bytes file.name ≡ name → IsMissing (gives_annotations all gives) before name →
      new.read.items ≡ old.read.items → new.unread.items ≡ old.unread.items ++ file ∷ [] → AreFoundIn all gives (before ++ name ∷ []) new
  unfound_more file named lost same put =
      let others : unread_names new.unread.items ≡ unread_names old.unread.items ++ name ∷ [] =
      ap unread_names put ∙ map_push (λ (f : UnreadFile). string_bytes f.name) old.unread.items file
      ∙ ap (λ n. unread_names old.unread.items ++ n ∷ []) named in
      record {
        are = record {
          read = rw (same, others) (missing name are.are.read lost);
          found = rw same are.are.found;
        };
        own = rw same are.own;
      }
