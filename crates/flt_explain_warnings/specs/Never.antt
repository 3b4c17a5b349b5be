-- W06: a test that no run passes. A variable of numbers is 0 where a callback is entered. This project's own check.
use Rattle.std.specs.Prelude.{ℕ, Bool, false, not, ◌==◌, ◌&&◌, if◌then◌else◌, List, Option, Some, None}
use Rattle.std.specs.List.{list_any}
use Rattle.flt_tree.specs.Variable.{number_place}
use Rattle.flt_tree.specs.declared.filter.Action.TheVariants as action
use Rattle.flt_tree.specs.declared.filter.Test.{Test}
use Rattle.flt_tree.specs.declared.filter.Test.TheVariants as test
use Rattle.flt_tree.specs.declared.variable.Atom.{Atom}
use Rattle.flt_tree.specs.declared.variable.Atom.TheVariants as atom
use Rattle.flt_tree.specs.declared.variable.NumberVariable.{NumberVariable}
use Rattle.flt_graph.specs.Graph.{callback_at, instruction_at}
use Rattle.flt_graph.specs.declared.graph.Graph.{Graph}
use Rattle.flt_graph.specs.declared.graph.Point.{Point}
use Rattle.flt_graph.specs.declared.instruction.Instruction.{Instruction}
use Rattle.flt_graph.specs.declared.instruction.Instruction.TheVariants as instruction
use Rattle.flt_cert.specs.Format.{Certificate}
use Rattle.flt_explain_warnings.specs.Reading.{is_reached}
use Rattle.flt_explain_warnings.specs.declared.warning.Site.{Site}
use Rattle.flt_explain_warnings.specs.declared.warning.Warning.{Warning}
use Rattle.flt_explain_warnings.specs.declared.warning.Warning.TheVariants.{NeverHolds}

-- both are one variable
abbrev pub is_same : NumberVariable → NumberVariable → Bool
is_same a b = number_place a == number_place b

-- the variable of numbers that an instruction writes
abbrev pub written : Instruction → Option NumberVariable
written (instruction.Act (action.SetNumber n e) next) = Some n
written (instruction.Act (action.ReadValue n c) next) = Some n
written (instruction.Act (action.ReadFile n d) next) = Some n
written _ = None

-- the variable that is written is this one
abbrev pub is_this : NumberVariable → Option NumberVariable → Bool
is_this n (Some own) = is_same own n
is_this n None = false

-- the instruction writes the variable
abbrev pub writes : NumberVariable → Instruction → Bool
writes n i = is_this n (written i)

-- some of the points of a callback writes the variable
abbrev pub is_written : List Point → NumberVariable → Bool
is_written points n = list_any (λ (p : Point). writes n p.instruction) points

-- what an atom always is: a number itself, and a variable that nothing writes 0
abbrev pub fixed : List Point → Atom → Option ℕ
fixed points (atom.Number k) = Some k
fixed points (atom.Variable n) = if is_written points n then None else Some 0

-- 0 never equals it
abbrev pub never_equals : Option ℕ → Bool
never_equals (Some k) = not (k == 0)
never_equals None = false

-- 0 is never less
abbrev pub never_less : Option ℕ → Bool
never_less (Some k) = k == 0
never_less None = false

-- a test among the points of a callback never holds: nothing writes its variable, and with 0 it fails
abbrev pub never_passes : List Point → Test → Bool
never_passes points (test.Equal n a) = not (is_written points n) && never_equals (fixed points a)
never_passes points (test.Less n a) = not (is_written points n) && never_less (fixed points a)
never_passes points _ = false

-- the instruction is such a test
abbrev pub is_never : List Point → Instruction → Bool
is_never points (instruction.Test t granted refused) = never_passes points t
is_never points _ = false

-- the warning: the point is reached, and its test never holds
abbrev pub never_holds : Graph → Certificate → Site → Option Warning
never_holds g k s =
    if is_reached k s && is_never (callback_at g s.callback).points (instruction_at g s.callback s.point) then Some (NeverHolds s) else None
