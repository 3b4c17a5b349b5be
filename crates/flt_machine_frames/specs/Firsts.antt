-- What an instruction says of the statements that remain of an activation where it stands, and where each of them leads. This
-- project's own representation.
use Rattle.std.specs.Prelude.{◌≡◌, ◌⊎◌, ℕ, List, [], ◌∷◌, ◌++◌, Option, slice_get}
use Rattle.flt_tree.specs.Registered.{numbered}
use Rattle.flt_tree.specs.declared.filter.Action.{Action}
use Rattle.flt_tree.specs.declared.filter.Callback.{Callback}
use Rattle.flt_tree.specs.declared.filter.Condition.TheVariants as condition
use Rattle.flt_tree.specs.declared.filter.FallibleCall.{FallibleCall}
use Rattle.flt_tree.specs.declared.filter.PlainCall.{PlainCall}
use Rattle.flt_tree.specs.declared.filter.Routine.{Routine}
use Rattle.flt_tree.specs.declared.filter.Span.{Span}
use Rattle.flt_tree.specs.declared.filter.Statement.{Statement, out-Statement}
use Rattle.flt_tree.specs.declared.filter.Statement.TheOpen.{Statement-F}
use Rattle.flt_tree.specs.declared.filter.Status.{Status}
use Rattle.flt_tree.specs.declared.filter.Test.{Test}
use Rattle.flt_graph.specs.Points.{IsLeftOf, instruction_of}
use Rattle.flt_graph.specs.Turns.{StandsWith, left_at}
use Rattle.flt_graph.specs.declared.instruction.Instruction.{Instruction}
use Rattle.flt_graph.specs.declared.instruction.Instruction.TheVariants as instruction
use Rattle.flt_graph.specs.declared.instruction.ResolvedCall.{ResolvedCall}
use Rattle.flt_graph.specs.declared.instruction.ResolvedCall.TheVariants as resolved
use Rattle.flt_model.specs.Program.{body_of}
use Rattle.flt_machine_frames.specs.declared.standing.Standing.{Standing}

-- ---- by the statements

-- the instruction at the standing's point is that of the first statement that remains, as the text has it; where nothing remains it is
-- the end
abbrev pub IsInstructionOf : List Callback → Standing → List Statement → Instruction → Type 0
IsInstructionOf cs s [] i = i ≡ instruction.End
IsInstructionOf cs s (first ∷ later) i =
    (text : Statement-F Statement) × ((after : ℕ) × (IsLeftOf (out-Statement first) text × (i ≡ instruction_of cs text s.point after)))

-- ---- by the instruction

-- these statements stand at a point of the standing's callback, with the standing's turns
abbrev pub GoesOnAt : List Callback → Standing → ℕ → List Statement → Type 0
GoesOnAt cs s point list = StandsWith (body_of (slice_get cs s.callback)) point s.turns list

-- an action remains first; what is behind it stands at the next point
pub record ActsFirst (cs : List Callback) (s : Standing) (rest : List Statement) (action : Action) (next : ℕ) : Type 0 where
  pub span : Span
  pub first : Statement
  pub later : List Statement
  pub rest_is : rest ≡ first ∷ later
  pub text : out-Statement first ≡ Statement-F.Act span action
  pub on : GoesOnAt cs s next later

-- a call that always succeeds remains first; what is behind it stands at the next point, which is named twice
pub record CallsFirst (cs : List Callback) (s : Standing) (rest : List Statement) (made : ResolvedCall) (granted refused : ℕ)
    : Type 0 where
  pub span : Span
  pub call : PlainCall
  pub first : Statement
  pub later : List Statement
  pub rest_is : rest ≡ first ∷ later
  pub text : out-Statement first ≡ Statement-F.Call span call
  pub made_is : made ≡ resolved.Plain call
  pub same : refused ≡ granted
  pub on : GoesOnAt cs s granted later

-- an `if` of a call that can fail remains first; each of its blocks, with what is behind it, stands at its point
pub record AsksCallFirst (cs : List Callback) (s : Standing) (rest : List Statement) (made : ResolvedCall) (granted refused : ℕ)
    : Type 0 where
  pub span : Span
  pub call : FallibleCall Routine
  pub granted_block : List Statement
  pub refused_block : List Statement
  pub first : Statement
  pub later : List Statement
  pub rest_is : rest ≡ first ∷ later
  pub text : out-Statement first ≡ Statement-F.If span (condition.Succeeds call) granted_block refused_block
  pub made_is : made ≡ resolved.Fallible (numbered cs call)
  pub granted_on : GoesOnAt cs s granted (granted_block ++ later)
  pub refused_on : GoesOnAt cs s refused (refused_block ++ later)

-- an `if` of a test remains first; each of its blocks, with what is behind it, stands at its point
pub record TestsFirst (cs : List Callback) (s : Standing) (rest : List Statement) (test : Test) (granted refused : ℕ) : Type 0 where
  pub span : Span
  pub granted_block : List Statement
  pub refused_block : List Statement
  pub first : Statement
  pub later : List Statement
  pub rest_is : rest ≡ first ∷ later
  pub text : out-Statement first ≡ Statement-F.If span (condition.Test test) granted_block refused_block
  pub granted_on : GoesOnAt cs s granted (granted_block ++ later)
  pub refused_on : GoesOnAt cs s refused (refused_block ++ later)

-- a `return` remains first
pub record ReturnsFirst (rest : List Statement) (status : Option Status) : Type 0 where
  pub span : Span
  pub first : Statement
  pub later : List Statement
  pub rest_is : rest ≡ first ∷ later
  pub text : out-Statement first ≡ Statement-F.Return span status

-- a `repeat` remains first, with as many turns as are left at the point
pub record RepeatsFirst (s : Standing) (rest : List Statement) (turns : ℕ) : Type 0 where
  pub span : Span
  pub block : List Statement
  pub first : Statement
  pub later : List Statement
  pub rest_is : rest ≡ first ∷ later
  pub text : out-Statement first ≡ Statement-F.Repeat span (left_at s.point turns s.turns) block

-- what remains of an activation, where its standing's point has this instruction
abbrev pub Remains : List Callback → Standing → List Statement → Instruction → Type 0
Remains cs s rest (instruction.Act action next) = ActsFirst cs s rest action next
Remains cs s rest (instruction.Call made granted refused) =
    CallsFirst cs s rest made granted refused ⊎ AsksCallFirst cs s rest made granted refused
Remains cs s rest (instruction.Test test granted refused) = TestsFirst cs s rest test granted refused
Remains cs s rest (instruction.Repeat turns block behind) = RepeatsFirst s rest turns
Remains cs s rest (instruction.Return status) = ReturnsFirst rest status
Remains cs s rest instruction.End = rest ≡ []
