-- Which statement stands at which point. Each statement has one point; they are numbered in order of the text, an `if` or
-- a `repeat` before its blocks; the last point is the end of the body. This project's own numbering.
use Rattle.std.specs.Prelude.{ℕ, zero, suc, ◌+◌, ◌≤◌, ◌≡◌, Bool, true, false, if◌then◌else◌, List, [], ◌∷◌, ◌++◌, Option, Some, None}
use Rattle.flt_tree.specs.Filter.{span_of}
use Rattle.flt_tree.specs.Measures.{points_of, points}
use Rattle.flt_tree.specs.Registered.{numbered}
use Rattle.flt_tree.specs.declared.filter.Callback.{Callback}
use Rattle.flt_tree.specs.declared.filter.Condition.{Condition}
use Rattle.flt_tree.specs.declared.filter.Condition.TheVariants as condition
use Rattle.flt_tree.specs.declared.filter.Span.{Span}
use Rattle.flt_tree.specs.declared.filter.Statement.{Statement, out-Statement}
use Rattle.flt_tree.specs.declared.filter.Statement.TheOpen.{Statement-F}
use Rattle.flt_tree.specs.declared.filter.Statement.TheVariants as tree
use Rattle.flt_graph.specs.declared.graph.Point.{Point}
use Rattle.flt_graph.specs.declared.instruction.Instruction.{Instruction}
use Rattle.flt_graph.specs.declared.instruction.Instruction.TheVariants as instruction
use Rattle.flt_graph.specs.declared.instruction.ResolvedCall.TheVariants as resolved

-- ---- the point of a statement

-- where a block begins: at its first statement, or, where it is empty, where what follows it stands
abbrev pub entry : {A : Type 0} → List A → ℕ → ℕ → ℕ
entry [] at after = after
entry (s ∷ rest) at after = at

-- what an `if` asks, with the point where it holds and the point where it doesn't
abbrev pub choice : List Callback → Condition → ℕ → ℕ → Instruction
choice cs (condition.Test t) granted refused = instruction.Test t granted refused
choice cs (condition.Succeeds c) granted refused = instruction.Call (resolved.Fallible (numbered cs c)) granted refused

-- what is done at the point of a statement, where it stands at a point and what follows it at another
abbrev pub instruction_of : List Callback → Statement-F Statement → ℕ → ℕ → Instruction
instruction_of cs (Statement-F.Act span action) at after = instruction.Act action after
instruction_of cs (Statement-F.Call span call) at after = instruction.Call (resolved.Plain call) after after
instruction_of cs (Statement-F.Return span status) at after = instruction.Return status
instruction_of cs (Statement-F.If span asked granted refused) at after =
    choice cs asked (entry granted (at + 1) after) (entry refused (at + 1 + points granted) after)
instruction_of cs (Statement-F.Repeat span turns body) at after = instruction.Repeat turns (entry body (at + 1) at) after

-- the point of a statement, where it stands at a point and what follows it at another
abbrev pub point_of : List Callback → Statement-F Statement → ℕ → ℕ → Point
point_of cs s at after = record { span = span_of s; instruction = instruction_of cs s at after }

-- ---- remaining lists

-- in the text of a body a block begins at a point, and what follows the block is this list, at another point: behind the
-- body of a `repeat` that is the `repeat` with the turns that are left of it, never more than the text has
pub data In (body : List Statement) : List Statement → ℕ → ℕ → List Statement → Type 0 where
  -- the body itself, which nothing follows but the end
  top : In body body 0 (points body) []
  -- what is left of a block behind its first statement
  later : {s : Statement} {rest : List Statement} {n q : ℕ} {follows : List Statement} →
      In body (s ∷ rest) n q follows → In body rest (n + points_of s) q follows
  -- the blocks of an `if`, each followed by what stands behind the `if`
  granted_block : {s : Statement} {rest yes_block no_block : List Statement} {asked : Condition} {span : Span} {n q : ℕ}
      {follows : List Statement} →
      In body (s ∷ rest) n q follows → out-Statement s ≡ Statement-F.If span asked yes_block no_block →
      In body yes_block (n + 1) (entry rest (n + points_of s) q) (rest ++ follows)
  refused_block : {s : Statement} {rest yes_block no_block : List Statement} {asked : Condition} {span : Span} {n q : ℕ}
      {follows : List Statement} →
      In body (s ∷ rest) n q follows → out-Statement s ≡ Statement-F.If span asked yes_block no_block →
      In body no_block (n + 1 + points yes_block) (entry rest (n + points_of s) q) (rest ++ follows)
  -- the body of a `repeat`, followed by the `repeat`
  turn : {s : Statement} {rest block : List Statement} {span : Span} {turns left n q : ℕ} {follows : List Statement} →
      In body (s ∷ rest) n q follows → out-Statement s ≡ Statement-F.Repeat span turns block → left ≤ turns →
      In body block (n + 1) n (tree.Repeat span left block ∷ (rest ++ follows))

-- a remaining list of a body stands at a point: that of its first statement in the text, or the end's
pub data Stands (body : List Statement) : ℕ → List Statement → Type 0 where
  -- nothing remains
  end : Stands body (points body) []
  -- a statement of the text, and all that follows it
  before : {s : Statement} {rest : List Statement} {n q : ℕ} {follows : List Statement} →
      In body (s ∷ rest) n q follows → Stands body n (s ∷ (rest ++ follows))
  -- a `repeat` of the text with the turns that are left of it, and all that follows it
  again : {s : Statement} {rest block : List Statement} {span : Span} {turns left n q : ℕ} {follows : List Statement} →
      In body (s ∷ rest) n q follows → out-Statement s ≡ Statement-F.Repeat span turns block → left ≤ turns →
      Stands body n (tree.Repeat span left block ∷ (rest ++ follows))

-- what remains of a `repeat` and the list behind it: one turn more where one is left, otherwise what is behind
abbrev pub remaining_turns : Span → ℕ → List Statement → List Statement → Bool → Option (List Statement)
remaining_turns span (suc left) block rest true = Some (block ++ tree.Repeat span left block ∷ rest)
remaining_turns span zero block rest false = Some rest
remaining_turns span (suc left) block rest false = None
remaining_turns span zero block rest true = None

-- what remains of a statement and the list behind it, by the outcome: that a call succeeds, a test holds, a turn is left
abbrev pub remaining_of : Statement-F Statement → List Statement → Bool → Option (List Statement)
remaining_of (Statement-F.Act span action) rest outcome = Some rest
remaining_of (Statement-F.Call span call) rest outcome = Some rest
remaining_of (Statement-F.Return span status) rest outcome = None
remaining_of (Statement-F.If span asked granted refused) rest outcome = Some ((if outcome then granted else refused) ++ rest)
remaining_of (Statement-F.Repeat span turns block) rest outcome = remaining_turns span turns block rest outcome

-- the list that remains after an outcome of the first statement, if it goes on
abbrev pub remaining : List Statement → Bool → Option (List Statement)
remaining [] outcome = None
remaining (s ∷ rest) outcome = remaining_of (out-Statement s) rest outcome

-- where an instruction leads by an outcome, if it goes on
abbrev pub successor : Instruction → Bool → Option ℕ
successor (instruction.Act action next) outcome = Some next
successor (instruction.Call call granted refused) outcome = Some (if outcome then granted else refused)
successor (instruction.Test test granted refused) outcome = Some (if outcome then granted else refused)
successor (instruction.Repeat turns block next) outcome = Some (if outcome then block else next)
successor (instruction.Return status) outcome = None
successor instruction.End outcome = None

-- a list that remains, if one does, stands at the successor, and there is one
abbrev pub StandsAt : List Statement → Option ℕ → Option (List Statement) → Type 0
StandsAt body (Some p) (Some list) = Stands body p list
StandsAt body None (Some list) = ⊥
StandsAt body p None = Unit {0}

-- a statement is one of the text, or a `repeat` of the text with the turns that are left of it
abbrev pub IsLeftOf : Statement-F Statement → Statement-F Statement → Type 0
IsLeftOf (Statement-F.Repeat span left block) text =
    (turns : ℕ) × (left ≤ turns × (text ≡ Statement-F.Repeat span turns block))
IsLeftOf s text = text ≡ s

-- a point is that of the first statement of a remaining list, as the text has it; the empty list has the end's point
abbrev pub IsFirst : List Callback → Point → ℕ → List Statement → Point → Type 0
IsFirst cs last p [] found = found ≡ last
IsFirst cs last p (s ∷ rest) found =
    (text : Statement-F Statement) × ((after : ℕ) × (IsLeftOf (out-Statement s) text × (found ≡ point_of cs text p after)))
