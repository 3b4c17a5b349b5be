-- Steps of paths, as JSON.
use Rattle.std.specs.Prelude.{ℕ, List, [], ◌∷◌, ◌++◌, Bool, Option, Some, None, codes, flat_map, if◌then◌else◌}
use Rattle.json.specs.Token.{Token, begin_object, end_object, begin_array, end_array, key}
use Rattle.flt_explain_parts.specs.Members.{filled_member, string_member, number_member, null_member}
use Rattle.flt_explain_forms.specs.Places.{marks_members, region_members}
use Rattle.flt_explain_details.specs.declared.study.Maker.{Maker}
use Rattle.flt_explain_details.specs.declared.study.Stage.{Stage}
use Rattle.flt_explain_details.specs.declared.study.WayKind.{WayKind}
use Rattle.flt_explain_details.specs.declared.study.WayKind.TheVariants.{Clean, Behind, Unreached, Unknown}
use Rattle.flt_places.specs.declared.files.Files.{Files}
use Rattle.flt_places.specs.declared.places.Region.{Region}

-- how a step comes out
abbrev pub side : Bool → List ℕ
side granted = if granted then codes "yes" else codes "no"

-- a step: its point, where that is, and how it comes out
abbrev pub step : Files → ℕ → (ℕ → Region) → Stage → List Token
step files home region s =
    begin_object ∷ number_member (codes "point") s.point ++ (region_members files home (region s.point)
    ++ (string_member (codes "side") (side s.granted) ++ (filled_member (codes "words") s.words.items ++ end_object ∷ [])))

-- several, in order
abbrev pub steps : Files → ℕ → (ℕ → Region) → List Stage → List Token
steps files home region stages = begin_array ∷ flat_map (step files home region) stages ++ end_array ∷ []

-- the step that made a finding so, with where its statement stands, and in it what the finding names
abbrev pub maker : Files → ℕ → Maker → List Token
maker files home m =
    begin_object ∷ number_member (codes "point") m.stage.point ++ (marks_members files home m.marks
    ++ (string_member (codes "side") (side m.stage.granted) ++ (filled_member (codes "words") m.stage.words.items ++ end_object ∷ [])))

-- a member whose value is that, or null
abbrev pub maker_member : Files → ℕ → List ℕ → Option Maker → List Token
maker_member files home name None = null_member name
maker_member files home name (Some m) = key name ∷ maker files home m

-- a member whose value is steps, or null
abbrev pub steps_member : Files → ℕ → (ℕ → Region) → List ℕ → Option (List Stage) → List Token
steps_member files home region name None = null_member name
steps_member files home region name (Some stages) = key name ∷ steps files home region stages

-- which finding's path serves
abbrev pub like_member : Option ℕ → List Token
like_member None = null_member (codes "like")
like_member (Some n) = number_member (codes "like") n

-- what a path is
abbrev pub kind_name : WayKind → List ℕ
kind_name Clean = codes "clean"
kind_name Behind = codes "behind"
kind_name Unreached = codes "none"
kind_name Unknown = codes "unknown"
