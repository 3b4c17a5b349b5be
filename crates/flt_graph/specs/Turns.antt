-- Points with turns: where a remaining list stands, and how many turns are left of each `repeat` in progress round it. Point and
-- turns are what a machine keeps in place of the remaining list. This project's own numbering, as in `Points.antt`.
use Rattle.std.specs.Prelude.{ℕ, ◌-◌, ◌==◌, ◌<◌, ◌≡◌, if◌then◌else◌, Bool, true, false, List, [], ◌∷◌, Option, Some, None}
use Rattle.flt_tree.specs.declared.filter.Statement.{Statement}
use Rattle.flt_tree.specs.declared.filter.Statement.TheOpen.{Statement-F}
use Rattle.flt_graph.specs.Points.{In, Stands}
use Rattle.flt_graph.specs.Points as graph
use Rattle.flt_graph.specs.declared.instruction.Instruction.{Instruction}
use Rattle.flt_graph.specs.declared.instruction.Instruction.TheVariants as instruction
use Rattle.flt_graph.specs.declared.turns.Turn.{Turn}

-- ---- the turns of a remaining list

-- the repeats round a block, each by its point with the turns that are left of it, the innermost first
abbrev pub turns_in : {body block : List Statement} {n q : ℕ} {follows : List Statement} → In body block n q follows → List Turn
turns_in graph.top = []
turns_in (graph.later i) = turns_in i
turns_in (graph.granted_block i is) = turns_in i
turns_in (graph.refused_block i is) = turns_in i
turns_in (graph.turn {left = left} {n = n} i is most) = record { point = n; left = left } ∷ turns_in i

-- the repeats round a remaining list; the first of them is that of the list's own point, where the list begins with
-- a `repeat` that is in progress
abbrev pub turns_at : {body : List Statement} {n : ℕ} {list : List Statement} → Stands body n list → List Turn
turns_at graph.end = []
turns_at (graph.before i) = turns_in i
turns_at (graph.again {left = left} {n = n} i is most) = record { point = n; left = left } ∷ turns_in i

-- each `repeat` round a block is in progress: fewer turns are left of it than the text has. So the body of a `repeat 0` has its
-- points, but no run comes there
abbrev pub AreBegun : {body block : List Statement} {n q : ℕ} {follows : List Statement} → In body block n q follows → Type 0
AreBegun graph.top = Unit {0}
AreBegun (graph.later i) = AreBegun i
AreBegun (graph.granted_block i is) = AreBegun i
AreBegun (graph.refused_block i is) = AreBegun i
AreBegun (graph.turn {turns = text} {left = left} i is most) = left < text × AreBegun i

-- each `repeat` round a remaining list is in progress
abbrev pub AreBegunRound : {body : List Statement} {n : ℕ} {list : List Statement} → Stands body n list → Type 0
AreBegunRound graph.end = Unit {0}
AreBegunRound (graph.before i) = AreBegun i
AreBegunRound (graph.again i is most) = AreBegun i

-- a remaining list of a body stands at a point, and these are the turns that are left of the repeats in progress
pub record StandsWith (body : List Statement) (n : ℕ) (turns : List Turn) (list : List Statement) : Type 0 where
  pub stands : Stands body n list
  pub turns_are : turns_at stands ≡ turns
  pub begun : AreBegunRound stands

-- a list that remains, if one does, stands at the successor with these turns, and there is a successor
abbrev pub StandsAtWith : List Statement → Option ℕ → List Turn → Option (List Statement) → Type 0
StandsAtWith body (Some p) turns (Some list) = StandsWith body p turns list
StandsAtWith body None turns (Some list) = ⊥
StandsAtWith body p turns None = Unit {0}

-- ---- what an instruction does with them

-- the turns that are left of the `repeat` at a point: those of the first turn, where it is of that point, or else the text's
abbrev pub left_at : ℕ → ℕ → List Turn → ℕ
left_at n text [] = text
left_at n text (t ∷ turns) = if t.point == n then t.left else text

-- the turns of the repeats round the point of a `repeat`, without its own
abbrev pub turns_round : ℕ → List Turn → List Turn
turns_round n [] = []
turns_round n (t ∷ turns) = if t.point == n then turns else t ∷ turns

-- the turns after an instruction at a point, by its outcome: a `repeat` takes one of its own, or leaves; nothing else changes them
abbrev pub turns_after : Instruction → ℕ → Bool → List Turn → List Turn
turns_after (instruction.Repeat text block next) n true turns = record { point = n; left = left_at n text turns - 1 } ∷ turns_round n turns
turns_after (instruction.Repeat text block next) n false turns = turns_round n turns
turns_after _ n outcome turns = turns

-- where a statement is a `repeat`, the instruction at its point is one too, and as many turns are left there as the statement has
abbrev pub HasLeft : ℕ → List Turn → Instruction → Statement-F Statement → Type 0
HasLeft n turns (instruction.Repeat text block next) (Statement-F.Repeat span left body) = left ≡ left_at n text turns
HasLeft n turns i (Statement-F.Repeat span left body) = ⊥
HasLeft n turns i s = Unit {0}
