-- The rules of a document of SARIF 2.1.0 (OASIS).
use Rattle.std.specs.Prelude.{◌≡◌, ℕ, List, [], ◌∷◌, ◌++◌, IfSome, Option, Some, None, codes, flat_map, is_some}
use Rattle.std.specs.Borrow.{Bor}
use Rattle.std.specs.Io.{StartsWith}
use Rattle.flt_explain_texts.specs.Closing.{fault_name}
use Rattle.flt_c_drift.specs.declared.drift.DriftKind.{DriftKind}
use Rattle.flt_c_drift.specs.declared.drift.DriftKind.TheVariants as drift
use Rattle.flt_c_drift.specs.DriftWords as drifts
use Rattle.flt_explain_pages.specs.Pages.{has_page, title}
use Rattle.flt_rules.specs.Rule.{rule_name, text}
use Rattle.flt_rules.specs.declared.rule.Rule.{Rule}
use Rattle.flt_rules.specs.declared.rule.Rule.TheVariants.{R01, R02, R03, R04, R05, R06, R07, R08, R09, R10, R11, R12, R13, R14, R15}
use Rattle.flt_syntax.specs.declared.fault.FaultKind.{FaultKind}
use Rattle.flt_syntax.specs.declared.fault.FaultKind.TheVariants.{E01, E02, E03, E04, E05, E06, E07, E08}
use Rattle.flt_explain_warnings.specs.Kinds.{kind_name}
use Rattle.flt_explain_warnings.specs.declared.warning.Kind.{Kind}
use Rattle.flt_explain_warnings.specs.declared.warning.Kind.TheVariants.{W00, W01, W02, W03, W04, W05, W06, W07}
use Rattle.json.specs.Token.{Token, begin_object, end_object, string}
use Rattle.flt_explain_parts.specs.Members.{array_member, number_member, object_member, string_member, text_member}
use Rattle.flt_explain_parts.specs.Paragraphs.{first_paragraph}
use Rattle.flt_explain_parts.specs.declared.rules.ResultKind.{ResultKind}
use Rattle.flt_explain_parts.specs.declared.drifted.DriftedFile.{DriftedFile}
use Rattle.flt_explain_parts.specs.declared.rules.ResultKind.TheVariants.{Broken, Drifted, Unread, Warned}

-- all rules, all kinds of faults of a text, and all kinds of warnings, in their order
unfoldable pub all : List ResultKind
all =
    Broken R01 ∷ Broken R02 ∷ Broken R03 ∷ Broken R04 ∷ Broken R05 ∷ Broken R06 ∷ Broken R07 ∷ Broken R08 ∷ Broken R09 ∷ Broken R10
    ∷ Broken R11 ∷ Broken R12 ∷ Broken R13 ∷ Broken R14 ∷ Broken R15
    ∷ Unread E01 ∷ Unread E02 ∷ Unread E03 ∷ Unread E04 ∷ Unread E05 ∷ Unread E06 ∷ Unread E07 ∷ Unread E08
    ∷ Warned W00 ∷ Warned W01 ∷ Warned W02 ∷ Warned W03 ∷ Warned W04 ∷ Warned W05 ∷ Warned W06 ∷ Warned W07
    ∷ []

-- one kind of drift for each of their codes, in the order of these
abbrev pub drift_kinds : List DriftKind
drift_kinds =
    drift.Malformed ∷ drift.NotCalled ∷ drift.NotNamed ∷ drift.OtherStatus ∷ drift.NotAnnotated ∷ drift.OtherLock ∷ []

-- ---- what is said of a rule

-- its number, as `R02`
abbrev pub id_of : ResultKind → List ℕ
id_of (Broken r) = rule_name r
id_of (Unread k) = fault_name k
id_of (Warned k) = kind_name k
id_of (Drifted k) = drifts.code k

-- the words of a kind of fault
abbrev pub fault_words : FaultKind → List ℕ
fault_words E01 = codes "a byte that begins no token"
fault_words E02 = codes "no word and no number"
fault_words E03 = codes "an unexpected token"
fault_words E04 = codes "an unknown name"
fault_words E05 = codes "declared twice"
fault_words E06 = codes "a limit is exceeded"
fault_words E07 = codes "a callback is missing"
fault_words E08 = codes "a variable twice in a call"

-- the words of a kind of warning
abbrev pub kind_words : Kind → List ℕ
kind_words W00 = codes "comment that allows nothing"
kind_words W01 = codes "locks that no order allows"
kind_words W02 = codes "operation given away while a lock is held"
kind_words W03 = codes "operation pended and left"
kind_words W04 = codes "value changed without a lock"
kind_words W05 = codes "context used that isn't the linked one"
kind_words W06 = codes "something that is never used or reached"
kind_words W07 = codes "instance needed where no operation keeps it"

-- the words of a kind of drift
abbrev pub drift_words : DriftKind → List ℕ
drift_words drift.Malformed = codes "comment that declares no call"
drift_words drift.NotCalled = codes "annotated call that the code doesn't make"
drift_words drift.NotNamed = codes "call that no annotation names"
drift_words drift.OtherStatus = codes "status that no annotation returns"
drift_words drift.NotAnnotated = codes "callback that is only registered or only annotated"
drift_words drift.NotRegistered = codes "callback that is only registered or only annotated"
drift_words drift.OtherOperation = codes "callback that is only registered or only annotated"
drift_words drift.OtherLock = codes "lock that no annotation names"

-- its words
abbrev pub words_of : ResultKind → List ℕ
words_of (Broken r) = text r
words_of (Unread k) = fault_words k
words_of (Warned k) = kind_words k
words_of (Drifted k) = drift_words k

-- what a result of it is where nobody says anything else
abbrev pub level_of : ResultKind → List ℕ
level_of (Broken r) = codes "error"
level_of (Unread k) = codes "error"
level_of (Warned k) = codes "warning"
level_of (Drifted k) = codes "warning"

-- how often it is right: a fault always; a rule forgets what goes together, and a warning and a drift guess what is meant
abbrev pub precision_of : ResultKind → List ℕ
precision_of (Broken r) = codes "high"
precision_of (Unread k) = codes "very-high"
precision_of (Warned k) = codes "medium"
precision_of (Drifted k) = codes "medium"

-- what hosts sort it under
abbrev pub tag_of : ResultKind → List ℕ
tag_of (Broken r) = codes "correctness"
tag_of (Unread k) = codes "syntax"
tag_of (Warned k) = codes "maintainability"
tag_of (Drifted k) = codes "correctness"

-- its place among all, from 0
abbrev pub index_of_rule : Rule → ℕ
index_of_rule R01 = 0
index_of_rule R02 = 1
index_of_rule R03 = 2
index_of_rule R04 = 3
index_of_rule R05 = 4
index_of_rule R06 = 5
index_of_rule R07 = 6
index_of_rule R08 = 7
index_of_rule R09 = 8
index_of_rule R10 = 9
index_of_rule R11 = 10
index_of_rule R12 = 11
index_of_rule R13 = 12
index_of_rule R14 = 13
index_of_rule R15 = 14

abbrev pub index_of_kind : Kind → ℕ
index_of_kind W00 = 23
index_of_kind W01 = 24
index_of_kind W02 = 25
index_of_kind W03 = 26
index_of_kind W04 = 27
index_of_kind W05 = 28
index_of_kind W06 = 29
index_of_kind W07 = 30

abbrev pub index_of_fault : FaultKind → ℕ
index_of_fault E01 = 15
index_of_fault E02 = 16
index_of_fault E03 = 17
index_of_fault E04 = 18
index_of_fault E05 = 19
index_of_fault E06 = 20
index_of_fault E07 = 21
index_of_fault E08 = 22

abbrev pub index_of_drift : DriftKind → ℕ
index_of_drift drift.Malformed = 31
index_of_drift drift.NotCalled = 32
index_of_drift drift.NotNamed = 33
index_of_drift drift.OtherStatus = 34
index_of_drift drift.NotAnnotated = 35
index_of_drift drift.NotRegistered = 35
index_of_drift drift.OtherOperation = 35
index_of_drift drift.OtherLock = 36

abbrev pub index_of : ResultKind → ℕ
index_of (Broken r) = index_of_rule r
index_of (Unread k) = index_of_fault k
index_of (Warned k) = index_of_kind k
index_of (Drifted k) = index_of_drift k

-- ---- the members

abbrev pub words_member : List ℕ → ResultKind → List Token
words_member name reported = object_member name (string_member (codes "text") (words_of reported))

abbrev pub names : ResultKind → List Token
names reported = string_member (codes "name") (words_of reported) ++ words_member (codes "shortDescription") reported

abbrev pub configuration : ResultKind → List Token
configuration reported = object_member (codes "defaultConfiguration") (string_member (codes "level") (level_of reported))

abbrev pub tags : ResultKind → List Token
tags reported = array_member (codes "tags") (string (tag_of reported) ∷ [])

abbrev pub properties : ResultKind → List Token
properties reported =
    object_member (codes "properties") (tags reported ++ (string_member (codes "precision") (precision_of reported)
    ++ string_member (codes "problem.severity") (level_of reported)))

-- what its page says first
abbrev pub description : Option (Bor (List ℕ)) → List Token
description None = []
description (Some page) = object_member (codes "fullDescription") (text_member (codes "text") (first_paragraph page.now))

-- a page, for hosts that show text and for those that show Markdown
abbrev pub page_members : List ℕ → List Token
page_members page = string_member (codes "text") page ++ string_member (codes "markdown") page

abbrev pub help : Option (Bor (List ℕ)) → List Token
help None = []
help (Some page) = object_member (codes "help") (page_members page.now)

-- a rule with its page
abbrev pub rule_item : List ℕ → ResultKind → Option (Bor (List ℕ)) → List Token
rule_item id reported page =
    begin_object ∷ (string_member (codes "id") id ++ (names reported ++ (description page ++ (help page ++ (configuration reported
    ++ (properties reported ++ end_object ∷ []))))))

-- the page of a name is what `flt_explain_pages` has under it: there is one exactly if it says so, and it begins with that name
pub record IsPage (name : List ℕ) (page : Option (Bor (List ℕ))) : Type 0 where
  pub known : is_some page ≡ has_page name
  pub begins : IfSome page (λ p. StartsWith p.now (title name))

-- a rule with its own page
pub record IsRule (reported : ResultKind) (tokens : List Token) : Type 0 where
  pub page : Option (Bor (List ℕ))
  pub own : IsPage (id_of reported) page
  pub is : tokens ≡ rule_item (id_of reported) reported page

-- these rules, in their order
abbrev pub AreRules : List ResultKind → List Token → Type 0
AreRules [] tokens = tokens ≡ []
AreRules (r ∷ rs) tokens = (first : List Token) × (others : List Token) × IsRule r first × AreRules rs others × (tokens ≡ first ++ others)

-- ---- the rules of drifts, which have no pages

-- what a drift of a kind is
abbrev pub meaning : DriftKind → List ℕ
meaning drift.Malformed = codes "A comment `@flt-call` is malformed: it ends too early, or its second word is no call."
meaning drift.NotCalled = codes "An annotation names a call, and no word of the code beside it is that call's name."
meaning drift.NotNamed =
    codes "A word of the code is the name of a call, and no annotation beside it names that call, though there is one."
meaning drift.OtherStatus = codes "The code returns a status, and the annotations beside it return another one."
meaning drift.OtherLock =
    codes "The code takes or releases a lock, and the annotations beside it name only locks of other expressions."
meaning _ = codes "A table registers a callback that no annotation begins, or none registers one that an annotation begins."

abbrev pub meaning_member : DriftKind → List Token
meaning_member kind = object_member (codes "fullDescription") (string_member (codes "text") (meaning kind))

abbrev pub help_member : DriftKind → List Token
help_member kind = object_member (codes "help") (page_members (drifts.help kind))

-- a rule with what it means and how code and annotations are made to agree
abbrev pub drift_rule : DriftKind → List Token
drift_rule kind =
    begin_object ∷ (string_member (codes "id") (drifts.code kind) ++ (names (Drifted kind) ++ (meaning_member kind ++ (help_member kind
    ++ (configuration (Drifted kind) ++ (properties (Drifted kind) ++ end_object ∷ []))))))

-- those of a document: none without a C file
abbrev pub drift_rules : List DriftedFile → List Token
drift_rules [] = []
drift_rules (f ∷ fs) = flat_map drift_rule drift_kinds

-- ---- the tool

abbrev pub versions : List Token
versions =
    string_member (codes "name") (codes "fltstack") ++ (string_member (codes "version") (codes "0.1.0")
    ++ string_member (codes "semanticVersion") (codes "0.1.0"))

abbrev pub driver : List Token → List Token
driver rules = object_member (codes "driver") (versions ++ array_member (codes "rules") rules)

-- what made the results, with these rules
abbrev pub tool : List Token → List Token
tool rules = object_member (codes "tool") (driver rules)

-- ---- of a result

-- which rule a result is of: its number, and its place among the document's rules
abbrev pub of_rule : ResultKind → List Token
of_rule reported = string_member (codes "ruleId") (id_of reported) ++ number_member (codes "ruleIndex") (index_of reported)
