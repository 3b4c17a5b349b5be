-- What is warned of texts, what each form says of it, and the status that comes of it. This project's own program.
use Rattle.std.specs.Prelude.{◌≡◌, ℕ, List, [], ◌++◌, Bool, codes}
use Rattle.flt_explain_texts.specs.declared.judged.TextJudgement.{TextJudgement}
use Rattle.flt_explain_texts.specs.declared.judged.TextJudgement.TheVariants.{Unread, Known}
use Rattle.flt_explain_texts.specs.declared.sources.Source.{Source}
use Rattle.json.specs.Token.{Token}
use Rattle.flt_explain_warnings.specs.declared.kinds.AllowedKinds.{AllowedKinds}
use Rattle.flt_explain_warnings.specs.declared.warning.Site.{Site}
use Rattle.flt_explain_warning_details.specs.Details.{AreWarningDetails}
use Rattle.flt_explain_warning_details.specs.Options.{warned_status}
use Rattle.flt_explain_warning_details.specs.declared.detail.WarningDetail.{WarningDetail}
use Rattle.flt_explain_parts.specs.Members.{number_member}

-- what is warned of a text; of one that doesn't parse nothing is
abbrev pub AreWarned : Source → AllowedKinds → TextJudgement → List WarningDetail → Type 0
AreWarned s allowed (Unread f) warned = warned ≡ []
AreWarned s allowed (Known tree graph found) warned = AreWarningDetails s.files s.text.now tree.filter graph found allowed warned

-- the status of a text: 2 where it doesn't parse, 1 where something is found, or where warnings count and one is shown; else 0
abbrev pub status_of : Bool → TextJudgement → List WarningDetail → ℕ
status_of strict (Unread f) warned = 2
status_of strict (Known tree graph found) warned = warned_status strict found warned

-- the numbers of a callback and of a point, from 0
abbrev pub numbers : Site → List Token
numbers s = number_member (codes "callback") s.callback ++ number_member (codes "point") s.point
