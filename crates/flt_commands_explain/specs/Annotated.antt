-- What C files give. This project's own program.
use Rattle.std.specs.Prelude.{◌≡◌, ◌⊎◌, All, List, Bool, true, false, ◌||◌, Option, Some, None, map}
use Rattle.flt_c.specs.declared.files.Flaw.{Flaw}
use Rattle.flt_c.specs.Names.{is_c_file}
use Rattle.flt_joined.specs.Made.{AreOwn}
use Rattle.flt_joined.specs.Texts.{AreAnnotations, Given, IsFlawed, givens}
use Rattle.flt_files.specs.Inputs.{AreRead, Giving, Text, unread_names}
use Rattle.flt_commands_explain.specs.declared.annotated.NamedFiles.{NamedFiles}

-- its annotations make no text
abbrev pub AreFlawed : Text → Type 0
AreFlawed file = (flaw : Flaw) × IsFlawed file flaw

-- the annotations of a file, or none where they make no text
abbrev pub AreAnnotationsOr : Text → Option Text → Type 0
AreAnnotationsOr file (Some bytes) = AreAnnotations file bytes
AreAnnotationsOr file None = AreFlawed file

-- a C file that gives its annotations, or none
pub record GivesAnnotations (gives : Giving) (name : Text) (found : Option Text) : Type 0 where
  pub file : Text
  pub given : gives name (Some file)
  pub are : AreAnnotationsOr file found

-- what a C file may give: its annotations; none where it isn't read, or where they make no text
abbrev pub gives_in_c : Giving → Giving
gives_in_c gives name (Some text) = GivesAnnotations gives name (Some text)
gives_in_c gives name None = GivesAnnotations gives name None ⊎ gives name None

-- the same where a file is C
abbrev pub gives_if_c : Bool → Giving → Giving
gives_if_c true gives = gives_in_c gives
gives_if_c false gives = gives

-- a file is taken for C: by the ending of its name, or since all are
abbrev pub is_taken_for_c : Bool → Text → Bool
is_taken_for_c all name = all || is_c_file name

-- what may be given for a name, where files that are taken for C give their annotations
abbrev pub gives_annotations : Bool → Giving → Giving
gives_annotations all gives name = gives_if_c (is_taken_for_c all name) gives name

-- ---- with the C files themselves

-- a name gives this text: that of a file, or the annotations of a C file, which is then this one
abbrev pub GivesBy : Bool → Giving → Text → Text → Option Text → Type 0
GivesBy all gives name text None = (is_taken_for_c all name ≡ false) × gives name (Some text)
GivesBy all gives name text (Some code) = (is_taken_for_c all name ≡ true) × (gives name (Some code) × AreAnnotations code text)

abbrev pub GivesFound : Bool → Giving → Given → Type 0
GivesFound all gives g = GivesBy all gives g.name g.text g.code

-- of these names these files are read, and these names aren't
pub record AreFound (all : Bool) (gives : Giving) (names : List Text) (files : List Given) (unread : List Text) : Type 0 where
  pub read : AreRead (gives_annotations all gives) names (map (λ (g : Given). g.name) files) (map (λ (g : Given). g.text) files) unread
  pub found : All (GivesFound all gives) files

-- what is known of some files
pub record AreFoundIn (all : Bool) (gives : Giving) (names : List Text) (f : NamedFiles) : Type 0 where
  pub are : AreFound all gives names (givens f.read.items) (unread_names f.unread.items)
  pub own : AreOwn f.read.items
