-- What texts are found to be, beside the trees of those that parse. This project's own definitions.
use Rattle.std.specs.Prelude.{◌≡◌, ℕ, ◌+◌, List, [], ◌∷◌, Some, flat_map, length, map, slice_get}
use Rattle.flt_syntax.specs.Spelling.{Spells}
use Rattle.flt_places.specs.declared.files.Files.{Files}
use Rattle.flt_tree.specs.Names.{Text}
use Rattle.flt_tree.specs.declared.tree.Tree.{Tree}
use Rattle.flt_explain_texts.specs.declared.sources.Source.{Source}
use Rattle.flt_model.specs.Program.{filters_of}
use Rattle.flt_explain_texts.specs.Reports.{texts_of}
use Rattle.flt_explain_outcomes.specs.Parsed.{AreParsed, IsOther, IsUnread}
use Rattle.flt_explain_outcomes.specs.declared.readings.Reading.{Reading}
use Rattle.flt_explain_outcomes.specs.declared.readings.Reading.TheVariants.{Unread, Other, Known}
use Rattle.flt_explain_outcomes.specs.declared.readings.Readings.{Readings}
use Rattle.flt_explain_outcomes.specs.declared.readings.StudiedText.{StudiedText}

-- a text spells the tree of this place
pub record IsTreeOf (trees : List Tree) (text : Text) (place : ℕ) : Type 0 where
  pub tree : Tree
  pub own : slice_get trees place ≡ Some tree
  pub spelled : Spells text tree.filter

-- what a text is
abbrev pub IsReading : List Tree → Text → Reading → Type 0
IsReading trees text (Unread f) = IsUnread text f
IsReading trees text (Other kind) = IsOther text kind
IsReading trees text (Known place) = IsTreeOf trees text place

abbrev pub IsStudied : List Tree → StudiedText → Type 0
IsStudied trees s = IsReading trees s.source.text.now s.reading

-- the tree of a text that parses has this place
abbrev pub IsPlaced : ℕ → Reading → Type 0
IsPlaced place (Known own) = own ≡ place
IsPlaced place _ = Unit {0}

-- the files, and their texts
abbrev pub sources_read : List StudiedText → List Source
sources_read each = map (λ (s : StudiedText). s.source) each

abbrev pub texts_read : List StudiedText → List Text
texts_read each = texts_of (sources_read each)

-- the files of a text that parses; none of one that doesn't
abbrev pub files_by : Reading → Source → List Files
files_by (Known place) s = s.files ∷ []
files_by _ s = []

abbrev pub files_read : List StudiedText → List Files
files_read each = flat_map (λ (s : StudiedText). files_by s.reading s.source) each

-- 1 where a text parses, else 0
abbrev pub known : Reading → ℕ
known (Known place) = 1
known _ = 0

-- how many texts parse
abbrev pub known_in : List StudiedText → ℕ
known_in [] = 0
known_in (s ∷ ss) = known s.reading + known_in ss

-- each text is what it is said to be, where so many before them parse
abbrev pub AreStudied : List Tree → ℕ → List StudiedText → Type 0
AreStudied trees place [] = Unit {0}
AreStudied trees place (s ∷ ss) = IsStudied trees s × IsPlaced place s.reading × AreStudied trees (place + known s.reading) ss

-- the same from the first on, and the trees are those of the texts that parse
pub record AreReadings (r : Readings) : Type 0 where
  pub each : AreStudied r.trees 0 r.each.items
  pub many : known_in r.each.items ≡ length r.trees
  pub filters : AreParsed (texts_read r.each.items) (filters_of r.trees)
