-- What is wrong with the annotations of a C file, in words. This project's own program.
use Rattle.std.specs.Prelude.{ℕ, List, codes, Option, Some, None}
use Rattle.flt_c.specs.declared.fault.FaultKind.{FaultKind}
use Rattle.flt_c.specs.declared.fault.FaultKind.TheVariants as k
use Rattle.flt_c.specs.declared.files.Flaw.{Flaw}
use Rattle.flt_c.specs.declared.files.Flaw.TheVariants.{Faulty, Large, Bare, Long}
use Rattle.flt_c.specs.declared.laying.PlaceFlaw.{PlaceFlaw}
use Rattle.flt_c.specs.declared.laying.PlaceFlaw.TheVariants.{Flawed, Crowded}
use Rattle.flt_c.specs.declared.place.Place.{Place}

-- a fault
abbrev pub fault_words : FaultKind → List ℕ
fault_words k.Comment = codes "comment without end"
fault_words k.String = codes "string without end"
fault_words k.Character = codes "character constant without end"
fault_words k.RawString = codes "raw string"
fault_words k.Marker = codes "no blank after @flt"
fault_words k.Continued = codes "annotation in a continued line"
fault_words k.Group = codes "#if 0 without #endif"

-- why they make no text
abbrev pub text_flaw_words : Flaw → List ℕ
text_flaw_words (Faulty f) = fault_words f.kind
text_flaw_words Large = codes "a C file has at most 16,777,216 bytes"
text_flaw_words Bare = codes "it has no annotation"
text_flaw_words Long = codes "its annotations have more than 65,536 bytes"

-- why they can't be laid at their places
abbrev pub flaw_words : PlaceFlaw → List ℕ
flaw_words (Flawed flaw) = text_flaw_words flaw
flaw_words (Crowded at) = codes "a second annotation in one line"

-- the place of what makes no text, if it has one
abbrev pub text_flaw_place : Flaw → Option Place
text_flaw_place (Faulty f) = Some f.place
text_flaw_place flaw = None

-- where it is, if not in all of the file
abbrev pub flaw_place : PlaceFlaw → Option Place
flaw_place (Flawed flaw) = text_flaw_place flaw
flaw_place (Crowded at) = Some at
