-- Warnings, as JSON. This project's own format.
use Rattle.std.specs.Prelude.{ℕ, List, [], ◌∷◌, ◌++◌, Option, Some, None, codes, flat_map}
use Rattle.flt_places.specs.Files.{file_at, file_name}
use Rattle.flt_places.specs.declared.files.Files.{Files}
use Rattle.json.specs.Token.{Token, begin_object, end_object}
use Rattle.flt_explain_warnings.specs.Kinds.{kind_name}
use Rattle.flt_explain_warnings.specs.declared.warning.Site.{Site}
use Rattle.flt_explain_warning_details.specs.declared.detail.RelatedPlace.{RelatedPlace}
use Rattle.flt_explain_warning_details.specs.declared.detail.WarningDetail.{WarningDetail}
use Rattle.flt_explain_parts.specs.Warned.{numbers}
use Rattle.flt_explain_parts.specs.Members.{array_member, filled_member, line_of, null_member, string_member, text_member}
use Rattle.flt_explain_forms.specs.Places.{marks_members}
use Rattle.flt_explain_forms.specs.Preface.{preface}

abbrev pub no_site : List Token
no_site = null_member (codes "callback") ++ null_member (codes "point")

-- the point that a warning is about; nulls where it is about a declaration or a comment
abbrev pub site_members : Option Site → List Token
site_members None = no_site
site_members (Some s) = numbers s

-- that it is no finding, and where it is
abbrev pub place : Files → ℕ → WarningDetail → List Token
place files home d = string_member (codes "level") (codes "warning") ++ (site_members d.site ++ marks_members files home d.marks)

-- what is said of it
abbrev pub words : WarningDetail → List Token
words d =
    string_member (codes "warning") (kind_name d.kind) ++ (filled_member (codes "head") d.head
    ++ (text_member (codes "message") d.title ++ (text_member (codes "help") d.help
    ++ filled_member (codes "note") d.note)))

-- another place, with what is there
abbrev pub related_place : Files → ℕ → RelatedPlace → List Token
related_place files home p = begin_object ∷ (marks_members files home p.marks ++ (text_member (codes "message") p.words ++ end_object ∷ []))

-- the other places, in order
abbrev pub related : Files → ℕ → WarningDetail → List Token
related files home d = array_member (codes "related") (flat_map (related_place files home) d.related)

-- the reason of the comment that allows it, or null
abbrev pub suppressed : Option (List ℕ) → List Token
suppressed None = null_member (codes "suppressed")
suppressed (Some reason) = text_member (codes "suppressed") reason

-- the number of the file in which a warning is
abbrev pub home_of : Files → WarningDetail → ℕ
home_of files d = file_at files d.marks.statement.first.line

-- a warning of the file of a number
abbrev pub warning : Files → ℕ → WarningDetail → List Token
warning files home d =
    begin_object ∷ preface (codes "warning") (file_name files home) ++ (place files home d
    ++ (words d ++ (related files home d ++ (suppressed d.reason ++ end_object ∷ []))))

-- a line for each warning, in order
abbrev pub warning_line : Files → WarningDetail → List ℕ
warning_line files d = line_of (warning files (home_of files d) d)
