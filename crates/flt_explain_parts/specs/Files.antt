-- The files of a document. This project's own program.
use Rattle.std.specs.Prelude.{ℕ, List, [], ◌∷◌, ◌++◌, ◌==◌, Bool, flat_map, if◌then◌else◌, length, map, position}
use Rattle.std.specs.Borrow.{Bor}
use Rattle.std.specs.Option.{unwrap_or}
use Rattle.std.specs.Str.{bytes_eq}
use Rattle.flt_explain_texts.specs.declared.sources.Source.{Source}
use Rattle.flt_places.specs.declared.files.SourceFile.{SourceFile}
use Rattle.flt_explain_parts.specs.Uri.{reference_of}
use Rattle.flt_explain_parts.specs.declared.drifted.DriftedFile.{DriftedFile}
use Rattle.flt_explain_parts.specs.declared.file.Artifact.{Artifact}
use Rattle.flt_explain_parts.specs.declared.file.File.{File}

abbrev pub is_same : List ℕ → List ℕ → Bool
is_same name other = bytes_eq name other

-- the number of a name among others, from 0; their number where it isn't there
abbrev pub number_of : List (Bor (List ℕ)) → List ℕ → ℕ
number_of names name = unwrap_or (position (λ n. is_same name n.now) names) (length names)

-- with one name more, if it isn't there
abbrev pub with_name : List (Bor (List ℕ)) → Bor (List ℕ) → List (Bor (List ℕ))
with_name names name = if number_of names name.now == length names then names ++ name ∷ [] else names

-- the same of several, in their order
abbrev pub with_names : List (Bor (List ℕ)) → List (Bor (List ℕ)) → List (Bor (List ℕ))
with_names names [] = names
with_names names (name ∷ others) = with_names (with_name names name) others

-- the names of the files of a text
abbrev pub own_names : Source → List (Bor (List ℕ))
own_names s = map (λ (f : SourceFile). f.name) s.files.all.now

-- the names of the files of texts, and of C files that are compared with their annotations
abbrev pub all_names : List Source → List DriftedFile → List (Bor (List ℕ))
all_names sources drifted = flat_map own_names sources ++ map (λ (f : DriftedFile). f.name) drifted

-- the same, each once, in their order
abbrev pub names_of : List Source → List DriftedFile → List (Bor (List ℕ))
names_of sources drifted = with_names [] (all_names sources drifted)

-- a file of this name, in a document of files of these names
abbrev pub artifact_of : List (Bor (List ℕ)) → List ℕ → Artifact
artifact_of names name = record { reference = reference_of name; number = number_of names name }

-- those of a text
abbrev pub artifacts_of : List (Bor (List ℕ)) → List SourceFile → List Artifact
artifacts_of names files = map (λ (f : SourceFile). artifact_of names f.name.now) files

-- a text with its files
abbrev pub file_of : List (Bor (List ℕ)) → Source → File
file_of names s = record { artifacts = artifacts_of names s.files.all.now; files = s.files; lines = s.text.now }

-- the same of several texts
abbrev pub files_of : List (Bor (List ℕ)) → List Source → List File
files_of names sources = map (file_of names) sources
