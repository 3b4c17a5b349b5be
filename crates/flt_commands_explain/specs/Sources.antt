-- The sources that files make. This project's own program.
use Rattle.std.specs.Prelude.{◌≡◌, ◌≤◌, ℕ, List, filter, flat_map, map, slice_range}
use Rattle.std.specs.List.{AllZip}
use Rattle.flt_c.specs.declared.files.FileFlaw.{FileFlaw}
use Rattle.flt_explain_texts.specs.declared.sources.Source.{Source}
use Rattle.flt_joined.specs.Texts.{Given, IsTextOf, Refused, givens, groups_of, make_text, refused_at, refused_in}
use Rattle.flt_joined.specs.declared.given.GivenFile.{GivenFile}
use Rattle.flt_joined.specs.declared.joined.JoinedText.{JoinedText}
use Rattle.flt_places.specs.declared.files.SourceFile.{SourceFile}
use Rattle.flt_files.specs.Inputs.{Text}

-- these files make the text of this source, under the names that reports have for them
abbrev pub IsSourceOf : (Text → Text) → List Given → Source → Type 0
IsSourceOf told group s = IsTextOf told group s.text.now s.files

-- files that are read make these sources, under the names that reports have for them; and these of them aren't read, since with them a
-- text would be too long
pub record AreSources (told : Text → Text) (files : List Given) (sources : List Source) (refused : List Text) : Type 0 where
  pub each : AllZip (IsSourceOf told) (filter make_text (groups_of files)) sources
  pub others : refused ≡ map (λ (r : Refused). r.name) (flat_map refused_in (groups_of files))

-- ---- how they are made of texts that are kept

-- the names of files that are refused
abbrev pub refused_names : List GivenFile → List FileFlaw → List Text
refused_names files refused = map (λ (flaw : FileFlaw). (refused_at (givens files) flaw).name) refused

-- texts by themselves
abbrev pub bytes_in : List JoinedText → List Text
bytes_in texts = map (λ (j : JoinedText). j.bytes.items) texts

-- each is in some of so many files
pub record IsWithin (many : ℕ) (j : JoinedText) : Type 0 where
  pub some : j.first ≤ j.end
  pub within : j.end ≤ many

-- a source is of a text that is kept, in some of these files
pub record IsSourceIn (files : List SourceFile) (j : JoinedText) (s : Source) : Type 0 where
  pub bytes : s.text.now ≡ j.bytes.items
  pub all : s.files.all.now ≡ slice_range files j.first j.end
  pub stands : s.files.stands.now ≡ j.stands.items
