-- The texts that files make. This project's own rule.
use Rattle.std.specs.Prelude.{◌≡◌, ℕ, suc, ◌-◌, ◌==◌, ◌&&◌, ◌||◌, Bool, true, false, not, List, [], ◌∷◌, Option, Some, None}
use Rattle.std.specs.Prelude.{Result, Ok, Err, codes, drop, flat_map, if◌then◌else◌, map, nat_eq, option_map, slice_get}
use Rattle.std.specs.List.{starts_with}
use Rattle.flt_c.specs.Files.{extracted}
use Rattle.flt_c.specs.Texts as c
use Rattle.flt_c.specs.declared.files.FileFlaw.{FileFlaw}
use Rattle.flt_c.specs.declared.files.Flaw.{Flaw}
use Rattle.flt_c.specs.declared.text.Line.{Line}
use Rattle.flt_places.specs.declared.files.Files.{Files}
use Rattle.flt_places.specs.declared.files.SourceFile.{SourceFile}
use Rattle.flt_places.specs.declared.files.Stand.{Stand}
use Rattle.flt_joined.specs.declared.given.GivenFile.{GivenFile}

abbrev pub Text : Type 0
Text = List ℕ

-- a file that is read: its name, what it gives, and itself, if it is a C file, which gives its annotations
pub record Given : Type 0 where
  pub name : Text
  pub text : Text
  pub code : Option Text

abbrev pub given_of : GivenFile → Given
given_of f = record { name = f.name.now; text = f.text.items; code = option_map (λ code. code.items) f.code }

abbrev pub givens : List GivenFile → List Given
givens files = map given_of files

-- these are the annotations of a C file
pub record AreAnnotations (file bytes : Text) : Type 0 where
  pub text : c.Text
  pub is : extracted (file ∷ []) ≡ Ok text
  pub same : bytes ≡ text.bytes

-- its annotations have this flaw, so that they make no text
pub record IsFlawed (file : Text) (flaw : Flaw) : Type 0 where
  pub found : FileFlaw
  pub is : extracted (file ∷ []) ≡ Err found
  pub same : flaw ≡ found.flaw

-- ---- how a text begins

abbrev pub is_blank : ℕ → Bool
is_blank b = (b == 32 || b == 9) || (b == 13 || b == 10)

-- how many bytes come before the first word or sign of a text, read in a remark or outside one
abbrev pub before_first : Bool → Text → ℕ
before_first in_remark [] = 0
before_first true (b ∷ z) = suc (before_first (not (b == 10)) z)
before_first false (b ∷ z) =
    if b == 35 then suc (before_first true z) else (if is_blank b then suc (before_first false z) else 0)

-- the first word of a text begins with `filter`
abbrev pub begins_filter : Text → Bool
begins_filter text = starts_with nat_eq (drop (before_first false text) text) (codes "filter")

-- ---- which files make a text

abbrev pub is_code : Option Text → Bool
is_code (Some code) = true
is_code None = false

-- a C file goes on with the text of a C file right before it, unless its annotations begin with `filter`
abbrev pub goes_on : Given → Given → Bool
goes_on before g = is_code before.code && (is_code g.code && not (begins_filter g.text))

-- one file more, before files that are put together where they make a text
abbrev pub with_file : Given → List (List Given) → List (List Given)
with_file g [] = (g ∷ []) ∷ []
with_file g ([] ∷ groups) = (g ∷ []) ∷ groups
with_file g ((next ∷ group) ∷ groups) =
    if goes_on g next then (g ∷ next ∷ group) ∷ groups else (g ∷ []) ∷ (next ∷ group) ∷ groups

-- files, put together where they make a text
abbrev pub groups_of : List Given → List (List Given)
groups_of [] = []
groups_of (g ∷ files) = with_file g (groups_of files)

-- of several files that make a text the first is C
abbrev pub IsGroup : List Given → Type 0
IsGroup [] = ⊥
IsGroup (g ∷ []) = Unit {0}
IsGroup (g ∷ next ∷ group) = is_code g.code ≡ true

-- ---- the texts

-- a file itself, if it is C
abbrev pub code_by : Option Text → List Text
code_by None = []
code_by (Some code) = code ∷ []

abbrev pub own_code : Given → List Text
own_code g = code_by g.code

-- the text of a file and further ones: its bytes, or the annotations of C files
abbrev pub text_by : Option Text → Text → List Given → Result c.Text FileFlaw
text_by None text others = Ok (record { bytes = text; lines = []; fresh = true })
text_by (Some code) text others = extracted (code ∷ flat_map own_code others)

-- the text that some files make, or why they make none
abbrev pub text_of : List Given → Result c.Text FileFlaw
text_of [] = Ok c.empty
text_of (g ∷ files) = text_by g.code g.text files

-- files make a text
abbrev pub is_made : Result c.Text FileFlaw → Bool
is_made (Ok text) = true
is_made (Err flaw) = false

abbrev pub make_text : List Given → Bool
make_text group = is_made (text_of group)

-- the name of the file of a number; none where there is no such file
abbrev pub name_by : Option Given → Text
name_by (Some g) = g.name
name_by None = []

-- a file with which a text would have this flaw, so that none is made
pub record Refused : Type 0 where
  pub name : Text
  pub flaw : Flaw

-- the file of such a number among some files
abbrev pub refused_at : List Given → FileFlaw → Refused
refused_at files flaw = record { name = name_by (slice_get files flaw.file); flaw = flaw.flaw }

abbrev pub refused_by : List Given → Result c.Text FileFlaw → List Refused
refused_by group (Ok text) = []
refused_by group (Err flaw) = refused_at group flaw ∷ []

abbrev pub refused_in : List Given → List Refused
refused_in group = refused_by group (text_of group)

-- ---- where their lines are

-- where a line of annotations is
abbrev pub stand_of : Line → Stand
stand_of line = record { file = line.file; line = line.place.line; before = line.place.column - 1 }

-- a file as reports name it, and its bytes
pub record FileIn : Type 0 where
  pub name : Text
  pub bytes : Text

abbrev pub file_in : SourceFile → FileIn
file_in f = record { name = f.name.now; bytes = f.lines }

-- the bytes of a file
abbrev pub bytes_by : Option Text → Text → Text
bytes_by None text = text
bytes_by (Some code) text = code

-- a file that is read, under the name that this has in reports
abbrev pub file_of : (Text → Text) → Given → FileIn
file_of told g = record { name = told g.name; bytes = bytes_by g.code g.text }

-- files with these names in reports
abbrev pub AreNamed : (Text → Text) → List Given → List SourceFile → Type 0
AreNamed told group files = map file_in files ≡ map (file_of told) group

-- this is the text that these files make, and its lines are where annotations are, by what `extract` says of them
pub record IsTextOf (told : Text → Text) (group : List Given) (bytes : Text) (files : Files) : Type 0 where
  pub text : c.Text
  pub is : text_of group ≡ Ok text
  pub same : bytes ≡ text.bytes
  pub named : AreNamed told group files.all.now
  pub placed : files.stands.now ≡ map stand_of text.lines
