-- How the texts of files are kept. This project's own program.
use Rattle.std.specs.Prelude.{◌≡◌, ◌<◌, ◌≤◌, ◌++◌, ◌∷◌, ℕ, All, List, [], Ok, Result, drop, filter, flat_map, length, map, slice_range}
use Rattle.std.specs.List.{AllZip}
use Rattle.flt_c.specs.Texts as c
use Rattle.flt_c.specs.declared.files.FileFlaw.{FileFlaw}
use Rattle.flt_places.specs.declared.files.Stand.{Stand}
use Rattle.flt_joined.specs.Texts.{Given, Text, given_of, givens, groups_of, make_text, refused_at, refused_in, stand_of, text_of}
use Rattle.flt_joined.specs.declared.given.GivenFile.{GivenFile}
use Rattle.flt_joined.specs.declared.joined.JoinedTexts.{JoinedTexts}
use Rattle.flt_joined.specs.declared.joined.JoinedText.{JoinedText}
use Rattle.flt_joined.specs.declared.making.MadeText.{MadeText}

-- a text, if there is one, has these bytes, and its lines are there
pub record IsPlaced (made : Result c.Text FileFlaw) (bytes : Text) (stands : List Stand) : Type 0 where
  pub text : c.Text
  pub is : made ≡ Ok text
  pub same : bytes ≡ text.bytes
  pub placed : stands ≡ map stand_of text.lines

-- a file has what it gives by itself
abbrev pub IsOwn : GivenFile → Type 0
IsOwn f = IsPlaced (text_of (given_of f ∷ [])) f.text.items f.stands.items

abbrev pub AreOwn : List GivenFile → Type 0
AreOwn files = All IsOwn files

-- a text that is made
abbrev pub IsMade : Result c.Text FileFlaw → MadeText → Type 0
IsMade made t = IsPlaced made t.bytes.items t.stands.items

-- a text of a group of these files is kept so
pub record IsJoined (files : List GivenFile) (group : List Given) (j : JoinedText) : Type 0 where
  pub of : group ≡ givens (slice_range files j.first j.end)
  pub some : j.first < j.end
  pub within : j.end ≤ length files
  pub placed : IsPlaced (text_of group) j.bytes.items j.stands.items

-- the text of a group is added, or the file by which there is none
pub record IsAdded (files : List GivenFile) (group : List Given) (old new : JoinedTexts) : Type 0 where
  pub added : List JoinedText
  pub each : AllZip (IsJoined files) (filter make_text (group ∷ [])) added
  pub texts : new.texts.items ≡ old.texts.items ++ added
  pub refused : map (refused_at (givens files)) new.refused.items ≡ map (refused_at (givens files)) old.refused.items ++ refused_in group

-- the texts of these groups are kept so, and the files by which others have none
pub record AreJoinedOf (files : List GivenFile) (groups : List (List Given)) (j : JoinedTexts) : Type 0 where
  pub each : AllZip (IsJoined files) (filter make_text groups) j.texts.items
  pub refused : map (refused_at (givens files)) j.refused.items ≡ flat_map refused_in groups

-- the same of all groups
abbrev pub AreJoined : List GivenFile → JoinedTexts → Type 0
AreJoined files j = AreJoinedOf files (groups_of (givens files)) j

-- the same of the groups of the first files
pub record AreFirstJoined (files : List GivenFile) (first : ℕ) (j : JoinedTexts) : Type 0 where
  pub groups : List (List Given)
  pub are : groups ++ groups_of (givens (drop first files)) ≡ groups_of (givens files)
  pub joined : AreJoinedOf files groups j
