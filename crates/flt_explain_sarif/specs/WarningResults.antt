-- Results of SARIF 2.1.0 (OASIS): warnings.
use Rattle.std.specs.Prelude.{ℕ, List, [], ◌++◌, Option, Some, None, codes, flat_map}
use Rattle.json.specs.Token.{Token}
use Rattle.flt_explain_warnings.specs.declared.warning.Site.{Site}
use Rattle.flt_explain_warning_details.specs.declared.detail.RelatedPlace.{RelatedPlace}
use Rattle.flt_explain_warning_details.specs.declared.detail.WarningDetail.{WarningDetail}
use Rattle.flt_explain_parts.specs.Members.{array_member, filled_member, object_member, string_member, text_member}
use Rattle.flt_explain_parts.specs.Rules.{of_rule}
use Rattle.flt_explain_parts.specs.Warned.{numbers}
use Rattle.flt_explain_parts.specs.declared.file.File.{File}
use Rattle.flt_explain_parts.specs.declared.rules.ResultKind.TheVariants.{Warned}
use Rattle.flt_explain_sarif.specs.Fingerprints.{fingerprint, numbered, warning_key}
use Rattle.flt_explain_sarif.specs.Results.{fingerprints, item, locations, marked_location, message, not_suppressed}

-- what breaks no rule is a warning
abbrev pub level : List Token
level = string_member (codes "level") (codes "warning")

-- ---- results

-- another place, with what is there
abbrev pub related_place : File → RelatedPlace → List Token
related_place file p = marked_location file p.marks p.words

-- the other places, in order
abbrev pub related : File → WarningDetail → List Token
related file d = array_member (codes "relatedLocations") (flat_map (related_place file) d.related)

-- the point that a warning is about, if there is one
abbrev pub site_members : Option Site → List Token
site_members None = []
site_members (Some s) = numbers s

-- where it is, and what is said of it besides
abbrev pub property_members : WarningDetail → List Token
property_members d =
    site_members d.site ++ (text_member (codes "help") d.help ++ filled_member (codes "note") d.note)

abbrev pub properties : WarningDetail → List Token
properties d = object_member (codes "properties") (property_members d)

-- that a comment in the text allows it, for this reason
abbrev pub suppression : List ℕ → List Token
suppression reason = item (string_member (codes "kind") (codes "inSource") ++ text_member (codes "justification") reason)

-- that a comment allows it, if one does
abbrev pub suppressions : Option (List ℕ) → List Token
suppressions None = not_suppressed
suppressions (Some reason) = array_member (codes "suppressions") (suppression reason)

-- a warning of this fingerprint, with this title, in the callback of this head
abbrev pub result_members : File → List ℕ → WarningDetail → List ℕ → List ℕ → List Token
result_members file print d title head =
    of_rule (Warned d.kind) ++ (level ++ (message title ++ (locations file d.marks title
    ++ (related file d ++ (fingerprints head title print ++ (properties d ++ suppressions d.reason))))))

-- a warning of this fingerprint
abbrev pub result : File → List ℕ → WarningDetail → List Token
result file print d = item (result_members file print d d.title d.head)

-- a warning after those of these keys, with its fingerprint
abbrev pub next_result : File → List (List ℕ) → WarningDetail → List Token
next_result file before d = result file (fingerprint before (warning_key file.lines d)) d

-- warnings of a text in their order, each with its fingerprint
abbrev pub results_of : File → List WarningDetail → List Token
results_of file warned = numbered (warning_key file.lines) (next_result file) [] warned
