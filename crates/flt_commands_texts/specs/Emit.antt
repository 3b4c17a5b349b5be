-- What `emit` says. This project's own program.
use Rattle.std.specs.Prelude.{◌≡◌, ℕ, List, [], ◌∷◌, map, true, IsTrue, Some, None, Result, Ok, Err}
use Rattle.flt_tree.specs.declared.filter.Filter.{Filter}
use Rattle.flt_graph.specs.Graph.{line_at}
use Rattle.flt_graph.specs.declared.graph.Graph.{Graph}
use Rattle.flt_cert.specs.Spelling.{is_cert, spelling}
use Rattle.flt_cert.specs.declared.cert.Cert.{Cert}
use Rattle.flt_check.specs.Accepting.{CertCovers}
use Rattle.flt_rules.specs.declared.refusal.Refusal.{Refusal}
use Rattle.flt_emit.specs.Files.{installation, user_header}
use Rattle.flt_emit.specs.Source.{source}
use Rattle.flt_emit.specs.declared.scope.Allocation.{Allocation}
use Rattle.flt_emit_read.specs.AsRead.{returns_fit}
use Rattle.flt_emit_read.specs.Sources.{read_back}
use Rattle.flt_emit_read.specs.Unfit.{first_unfit}
use Rattle.flt_kinds.specs.Creates.{AreFound, Completes}
use Rattle.flt_kinds.specs.Kinds.{AreKinds, IsMixed}
use Rattle.flt_kinds.specs.declared.mixed.MixedContext.{MixedContext}
use Rattle.flt_kinds.specs.declared.slot.Spot.{Spot}
use Rattle.flt_print.specs.Reprinting.{without_places}
use Rattle.flt_words.specs.declared.request.Part.{Part}
use Rattle.flt_words.specs.declared.request.Part.TheVariants.{Source, User, Inf}
use Rattle.flt_commands_texts.specs.Analyse as analyse
use Rattle.flt_commands_texts.specs.Check as check
use Rattle.flt_commands_texts.specs.Check.{HasPoints}
use Rattle.flt_files.specs.Inputs.{Text}
use Rattle.flt_commands_texts.specs.declared.answer.TextAnswer.{TextAnswer}
use Rattle.flt_commands_texts.specs.declared.answer.TextAnswer.TheVariants.{Refused, Emitted, NotEmitted}
use Rattle.flt_commands_texts.specs.declared.emit.EmitFault.{EmitFault}
use Rattle.flt_commands_texts.specs.declared.emit.EmitFault.TheVariants.{Kinds, Create, Return}
use Rattle.flt_files.specs.declared.failure.Failure.{Failure}

-- ---- a part of a driver

-- a statement that allocates a context, as the emitter takes it
abbrev pub allocation_of : Spot → Allocation
allocation_of at = record { callback = at.callback; point = at.point }

-- the part of the driver in which these statements allocate contexts of the instance
abbrev pub part_text : Part → List Spot → Filter → Text
part_text Source listed f = source (map allocation_of listed) f
part_text User listed f = user_header f
part_text Inf listed f = installation f

-- a source is read back to the filter, apart from its places; the other parts say less
abbrev pub IsReadBack : Part → Filter → Text → Type 0
IsReadBack Source f bytes = read_back bytes ≡ Some (without_places f)
IsReadBack User f bytes = Unit {0}
IsReadBack Inf f bytes = Unit {0}

-- each context has one kind, no `pre create` completes with success, each return is one of its place, and the bytes are the part
pub record IsPart (part : Part) (f : Filter) (g : Graph) (bytes : Text) : Type 0 where
  pub listed : List Spot
  pub kinds : AreKinds g listed
  pub opens : AreFound g None
  pub fit : returns_fit f ≡ true
  pub written : bytes ≡ part_text part listed f
  pub read : IsReadBack part f bytes

-- ---- why there is none

-- the line of a statement
abbrev pub line_of : Graph → Spot → ℕ
line_of g at = line_at g at.callback at.point

-- the lines of the statements that say that a context has two kinds
abbrev pub mixed_lines : Graph → MixedContext → EmitFault
mixed_lines g m = Kinds (line_of g m.site) (line_of g m.stream) (line_of g m.instance)

-- that of a statement at which a `pre create` completes with success
abbrev pub create_line : Graph → Spot → EmitFault
create_line g at = Create (line_of g at)

-- a context has two kinds
pub record HasMixture (g : Graph) (why : EmitFault) : Type 0 where
  pub mixed : MixedContext
  pub is : IsMixed g mixed
  pub lines : why ≡ mixed_lines g mixed

-- each context has one kind, and a `pre create` completes with success in this line
pub record CompletesIn (g : Graph) (line : ℕ) : Type 0 where
  pub listed : List Spot
  pub kinds : AreKinds g listed
  pub at : Spot
  pub completes : Completes g at
  pub is : line ≡ line_of g at

-- each context has one kind, no `pre create` completes with success, and the first return that isn't one of its place is in this line
pub record ReturnsIn (f : Filter) (g : Graph) (line : ℕ) : Type 0 where
  pub listed : List Spot
  pub kinds : AreKinds g listed
  pub opens : AreFound g None
  pub is : first_unfit f ≡ Some line

-- one of these
abbrev pub IsHindered : Filter → Graph → EmitFault → Type 0
IsHindered f g (Kinds line stream instance) = HasMixture g (Kinds line stream instance)
IsHindered f g (Create line) = CompletesIn g line
IsHindered f g (Return line) = ReturnsIn f g line

-- what may be answered of a filter and its points
abbrev pub Emitting : Type 1
Emitting = Filter → Graph → TextAnswer → Type 0

-- a part is emitted, or why nothing is
abbrev pub Emits : Part → Emitting
Emits part f g (Emitted bytes) = IsPart part f g bytes.items
Emits part f g (NotEmitted why) = IsHindered f g why
Emits part f g _ = ⊥

-- ---- what is said

-- the text spells a filter, a certificate of which this holds covers its points, and this is answered of them
pub record IsEmission (emitting : Emitting) (given : Cert → Type 0) (text : Text) (answer : TextAnswer) : Type 0 where
  pub graph : Graph
  pub points : HasPoints text graph
  pub cert : Cert
  pub is_given : given cert
  pub covers : CertCovers graph cert
  pub emits : emitting points.filter graph answer

-- that is answered, or where the text is refused, the refusal
pub data IsAnswer (emitting : Emitting) (given : Cert → Type 0) (refuses : TextAnswer → Type 0) (text : Text) : TextAnswer → Type 0 where
  refused : (f : Refusal) → refuses (Refused f) → IsAnswer emitting given refuses text (Refused f)
  emits : (answer : TextAnswer) → IsEmission emitting given text answer → IsAnswer emitting given refuses text answer

-- any certificate
abbrev pub IsAny : Cert → Type 0
IsAny cert = Unit {0}

-- the certificate that these bytes spell
pub record IsSpelledBy (certificate : Text) (cert : Cert) : Type 0 where
  pub certified : IsTrue (is_cert cert)
  pub written : certificate ≡ spelling cert

-- what is said of a text alone: where `analyse` refuses it, what that says
abbrev pub JudgesAlone : Emitting → Text → Result TextAnswer Failure → Type 0
JudgesAlone emitting text (Ok answer) = IsAnswer emitting IsAny (λ refusal. analyse.Judges text (Ok refusal)) text answer
JudgesAlone emitting text (Err f) = analyse.IsFailure text f

-- what is said of a text and a certificate: where `check` refuses them, what that says
abbrev pub JudgesBeside : Emitting → Text → Text → Result TextAnswer Failure → Type 0
JudgesBeside emitting text certificate (Ok answer) =
    IsAnswer emitting (IsSpelledBy certificate) (λ refusal. check.Judges check.Decides text certificate (Ok refusal)) text answer
JudgesBeside emitting text certificate (Err f) = check.IsFailure text certificate f

-- what is said of the bytes of FILE, or of FILE and CERT
abbrev pub IsJudged : Emitting → List Text → Result TextAnswer Failure → Type 0
IsJudged emitting (text ∷ []) result = JudgesAlone emitting text result
IsJudged emitting (text ∷ certificate ∷ []) result = JudgesBeside emitting text certificate result
IsJudged emitting _ result = ⊥

-- the same where a part is printed
abbrev pub IsEmitted : Part → List Text → Result TextAnswer Failure → Type 0
IsEmitted part = IsJudged (Emits part)
