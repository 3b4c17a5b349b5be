-- The first comment for each line and kind, found without a search. This project's own definitions.
use Rattle.std.specs.Prelude.{◌≡◌, ℕ, suc, Bool, false, ◌==◌, ◌&&◌, if◌then◌else◌, List, [], ◌∷◌, Option, Some, None, option_map}
use Rattle.std.specs.BTreeMap.{BTreeMap, get}
use Rattle.std.specs.BTreeSet.{BTreeSet, contains}
use Rattle.std.specs.List.{list_any}
use Rattle.std.specs.Ordering.{nat_cmp, ordering_then}
use Rattle.std.specs.declared.cmp.Ordering.{Ordering}
use Rattle.flt_places.specs.declared.files.Files.{Files}
use Rattle.flt_tree.specs.Names.{Text}
use Rattle.flt_explain_warnings.specs.declared.warning.Kind.{Kind}
use Rattle.flt_explain_warnings.specs.declared.warning.Kind.TheVariants.{W00, W01, W02, W03, W04, W05, W06, W07}
use Rattle.flt_explain_warnings.specs.declared.allowance.Allowance.{Allowance}
use Rattle.flt_explain_warning_details.specs.Allowing.{names, is_reason, serves}
use Rattle.flt_explain_warnings.specs.declared.warning.Warning.{Warning}
use Rattle.flt_explain_warning_details.specs.Comments.{idle_detail}
use Rattle.flt_explain_warning_details.specs.Parsed.{Parsed}
use Rattle.flt_explain_warning_details.specs.declared.detail.WarningDetail.{WarningDetail}
use Rattle.flt_explain_warning_details.specs.declared.indexed.IndexedComments.{IndexedComments}

-- ---- keys

-- the number of a kind
abbrev pub number_of : Kind → ℕ
number_of W00 = 0
number_of W01 = 1
number_of W02 = 2
number_of W03 = 3
number_of W04 = 4
number_of W05 = 5
number_of W06 = 6
number_of W07 = 7

-- the order of the keys: by the line, then by the kind
abbrev pub key_cmp : ℕ × ℕ → ℕ × ℕ → Ordering
key_cmp p q = ordering_then (nat_cmp p.0 q.0) (nat_cmp p.1 q.1)

-- whether two keys are one
abbrev pub is_key : ℕ × ℕ → ℕ × ℕ → Bool
is_key p q = (p.0 == q.0) && (p.1 == q.1)

-- the line that a comment is for and the kind that it names, where it gives a reason
abbrev pub key_by : Option Kind → Text → ℕ → Option (ℕ × ℕ)
key_by (Some kind) [] line = None
key_by (Some kind) (b ∷ reason) line = Some (line, number_of kind)
key_by None reason line = None

abbrev pub key_of : Allowance → Option (ℕ × ℕ)
key_of a = key_by a.kind a.reason a.statement

-- ---- places

-- a comment allows a kind on a line
abbrev pub is_for : ℕ → Kind → Allowance → Bool
is_for line kind a = names a.kind kind && (is_reason a.reason && a.statement == line)

-- the place, from 0, of the first comment that passes a test
abbrev pub place_of : (Allowance → Bool) → List Allowance → Option ℕ
place_of test [] = None
place_of test (a ∷ rest) = if test a then Some 0 else option_map suc (place_of test rest)

-- a place that is known, or else the one of a comment that might pass
abbrev pub placed : Bool → ℕ → Option ℕ → Option ℕ
placed passes n (Some place) = Some place
placed passes n None = if passes then Some n else None

-- whether a place is that of a number
abbrev pub is_place : ℕ → Option ℕ → Bool
is_place n (Some place) = place == n
is_place n None = false

-- the places are those of the first comments for each line and kind
abbrev pub ArePlaces : BTreeMap (ℕ × ℕ) ℕ → List Allowance → Type 0
ArePlaces m comments = (line : ℕ) (kind : Kind) → get key_cmp m (line, number_of kind) ≡ place_of (is_for line kind) comments

-- the places with that of one more comment, where none before it has its line and kind
abbrev pub IsAdded : BTreeMap (ℕ × ℕ) ℕ → BTreeMap (ℕ × ℕ) ℕ → Allowance → ℕ → Type 0
IsAdded before after a place =
    (line : ℕ) (kind : Kind) →
    get key_cmp after (line, number_of kind) ≡ placed (is_for line kind a) place (get key_cmp before (line, number_of kind))

abbrev pub IsIndexed : IndexedComments → Type 0
IsIndexed index = ArePlaces index.places index.all.now

-- the places are those of the comments that are the first to allow one of some warnings
abbrev pub AreNeeded : Parsed → List Allowance → List Warning → BTreeSet ℕ → Type 0
AreNeeded x comments ws places =
    (n : ℕ) → contains nat_cmp places n ≡ list_any (λ w. is_place n (place_of (serves x w) comments)) ws

-- what is said of a comment, unless it is needed
abbrev pub idle_unless_needed : Files → Bool → Option Allowance → List WarningDetail
idle_unless_needed files needed (Some a) = if needed then [] else idle_detail files a ∷ []
idle_unless_needed files needed None = []
