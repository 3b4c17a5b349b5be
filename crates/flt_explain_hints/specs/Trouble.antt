-- What is said of a text that doesn't parse. This project's own program.
use Rattle.std.specs.Prelude.{◌≡◌, true, false, [], Option, Some, None, IfSome}
use Rattle.std.specs.Borrow.{Bor}
use Rattle.flt_syntax.specs.Spelling.{Spells}
use Rattle.flt_syntax.specs.declared.fault.FaultKind.{FaultKind}
use Rattle.flt_syntax.specs.declared.token.Token.{Token}
use Rattle.flt_tree.specs.Names.{Text}
use Rattle.flt_tree.specs.declared.filter.Filter.{Filter}
use Rattle.flt_explain_hints.specs.Absences.{is_left_out}
use Rattle.flt_explain_hints.specs.Choices.{AreChoices}
use Rattle.flt_explain_hints.specs.Meant.{hint_at, meant_by}
use Rattle.flt_explain_hints.specs.OpenCall.{open_call}
use Rattle.flt_explain_hints.specs.Spot.{IsSpot, tokens_of}
use Rattle.flt_explain_hints.specs.Trial.{MayStand, gap_at}
use Rattle.flt_explain_hints.specs.declared.hint.Hint.{Hint}
use Rattle.flt_explain_hints.specs.declared.hint.Hint.TheVariants as hint
use Rattle.flt_explain_hints.specs.declared.spot.Spot.{Spot}
use Rattle.flt_explain_hints.specs.declared.troubles.Trouble.{Trouble}

-- where there is no token nothing may stand, and no word is meant: the text is too large
pub record AreNone (t : Trouble) : Type 0 where
  pub expected : t.choices.expected ≡ []
  pub number : t.choices.takes_number ≡ false
  pub name : t.choices.takes_name ≡ false
  pub names : t.choices.names ≡ []
  pub meant : t.meant ≡ None
  pub open_call : t.open_call ≡ None
  pub hint : t.hint ≡ Some hint.TooLarge

-- the word that is meant by a token, by what may stand there
abbrev pub word_meant : FaultKind → Text → Token → Trouble → Option (Bor Text)
word_meant kind text token t = meant_by (gap_at kind text token) kind token.word.kind t.spot.bytes.now t.choices

-- what is wrong in the place of a token, by what may stand there and which word is meant
abbrev pub what_is_wrong : FaultKind → Text → Token → Trouble → Option Hint
what_is_wrong kind text token t = hint_at text (tokens_of text) kind token t.spot.bytes.now t.choices t.meant

-- which word is meant by a token, which call before it lacks an operand, and what is probably wrong
pub record IsExplained (kind : FaultKind) (text : Text) (token : Token) (t : Trouble) : Type 0 where
  pub meant : t.meant ≡ word_meant kind text token t
  pub open_call : t.open_call ≡ open_call kind (tokens_of text) token t.choices
  pub hint : t.hint ≡ what_is_wrong kind text token t

-- what may stand in the place of a token, what is said of it, and a word that is meant is one that may
pub record AreFor (kind : FaultKind) (text : Text) (token : Token) (t : Trouble) : Type 0 where
  pub choices : AreChoices text (gap_at kind text token) t.choices
  pub meant : IfSome t.meant (λ w. MayStand (gap_at kind text token) w.now)
  pub explained : IsExplained kind text token t

-- no word is meant by one that names what the language leaves out
pub record IsNotMistaken (s : Spot) (t : Trouble) : Type 0 where
  pub none : is_left_out s.fault.kind s.bytes.now ≡ true → t.meant ≡ None

-- all that is said in the place of a token of a text that is refused there
pub record IsPlaced (text : Text) (s : Spot) (token : Token) (t : Trouble) : Type 0 where
  pub spot : t.spot ≡ s
  pub choices : AreFor s.fault.kind text token t
  pub left_out : IsNotMistaken s t

-- what may stand there, where there may be a token
abbrev pub AreOf : Text → Trouble → Option Token → Type 0
AreOf text t None = AreNone t
AreOf text t (Some token) = AreFor t.spot.fault.kind text token t

-- a text is refused as this says
pub record IsTrouble (text : Text) (t : Trouble) : Type 0 where
  pub spot : IsSpot text t.spot
  pub choices : AreOf text t t.spot.token
  pub left_out : IsNotMistaken t.spot t

-- a text is refused, or it spells a filter
abbrev pub IsDescribed : Text → Option Trouble → Type 0
IsDescribed text None = (f : Filter) × Spells text f
IsDescribed text (Some t) = IsTrouble text t
