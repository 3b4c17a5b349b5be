-- The sets of a state in which rules were mended. Unlike those of a state they may be empty: of an empty set all that was possible broke a
-- rule. This project's own definitions.
use Rattle.std.specs.Prelude.{Bool, true, false, not, ◌&&◌, ◌==◌, List, [], ◌∷◌, map, if◌then◌else◌, slice_index_or, slice_set}
use Rattle.flt_rules.specs.declared.rule.Rule.{Rule}
use Rattle.flt_tree.specs.Variable.{context_place, operation_place}
use Rattle.flt_tree.specs.declared.variable.ContextVariable.{ContextVariable}
use Rattle.flt_tree.specs.declared.variable.OperationVariable.{OperationVariable}
use Rattle.flt_graph.specs.declared.instruction.Instruction.{Instruction}
use Rattle.flt_abs.specs.Sets.{StatusSet, ModeSet, DrainingSet, null_alone, is_possible, is_mode_possible, is_draining_possible}
use Rattle.flt_abs.specs.Sets.{status_bits, mode_bits, draining_bits, either_mode, either_draining}
use Rattle.flt_abs.specs.State.{State, state_of, either_all}
use Rattle.flt_explain.specs.Mending.{mended, mended_modes, mended_draining}
use Rattle.flt_explain.specs.Subjects.{operands}
use Rattle.flt_explain.specs.Writes.{writes}
use Rattle.flt_explain.specs.declared.finding.Fault.{Fault}
use Rattle.flt_explain.specs.declared.finding.Subject.{Subject}
use Rattle.flt_explain.specs.declared.finding.Subject.TheVariants as about
use Rattle.flt_explain.specs.declared.sets.Sets.{Sets}

-- ---- one set

-- the empty sets
abbrev pub no_statuses : StatusSet
no_statuses = record { null = false; held = false; stale = false }

abbrev pub no_modes : ModeSet
no_modes = record { irp = false; fast = false }

abbrev pub no_draining : DrainingSet
no_draining = record { no = false; yes = false }

-- the set, or all in place of an empty one
abbrev pub or_all : StatusSet → StatusSet
or_all s = if is_possible s then s else record { null = true; held = true; stale = true }

abbrev pub or_both : ModeSet → ModeSet
or_both s = if is_mode_possible s then s else record { irp = true; fast = true }

abbrev pub or_either : DrainingSet → DrainingSet
or_either s = if is_draining_possible s then s else record { no = true; yes = true }

-- whether two lists of sets are the same, set by set: a number stands for each set
abbrev pub are_same : List StatusSet → List StatusSet → Bool
are_same [] [] = true
are_same [] (b ∷ ys) = false
are_same (a ∷ xs) [] = false
are_same (a ∷ xs) (b ∷ ys) = (status_bits a == status_bits b) && are_same xs ys

-- ---- sets by their subjects

abbrev pub context_set : Sets → ContextVariable → StatusSet
context_set s v = slice_index_or s.contexts (context_place v) null_alone

abbrev pub operation_set : Sets → OperationVariable → StatusSet
operation_set s v = slice_index_or s.operations (operation_place v) null_alone

-- whether something is told of a subject: its set isn't empty, or it has none
abbrev pub tells : Sets → Subject → Bool
tells s (about.Context v) = is_possible (context_set s v)
tells s (about.Operation v) = is_possible (operation_set s v)
tells s about.Mode = is_mode_possible s.modes
tells s about.Draining = is_draining_possible s.draining
tells s _ = true

-- the sets with another one of a variable
abbrev pub put_context : Sets → ContextVariable → StatusSet → Sets
put_context s v x = record s { contexts = slice_set s.contexts (context_place v) x }

abbrev pub put_operation : Sets → OperationVariable → StatusSet → Sets
put_operation s v x = record s { operations = slice_set s.operations (operation_place v) x }

-- the sets with an empty one of a subject
abbrev pub emptied : Sets → Subject → Sets
emptied s (about.Context v) = put_context s v no_statuses
emptied s (about.Operation v) = put_operation s v no_statuses
emptied s about.Mode = record s { modes = no_modes }
emptied s about.Draining = record s { draining = no_draining }
emptied s _ = s

-- ---- mending

-- the sets without what breaks a rule by a subject; locks, calls and statuses have no set
abbrev pub mended_by : Sets → Rule → Subject → Sets
mended_by s r (about.Context v) = put_context s v (mended r (context_set s v))
mended_by s r (about.Operation v) = put_operation s v (mended r (operation_set s v))
mended_by s r about.Mode = record s { modes = mended_modes s.modes }
mended_by s r about.Draining = record s { draining = mended_draining s.draining }
mended_by s r _ = s

-- the sets without what breaks the rules of these faults
abbrev pub mended_of : Sets → List Fault → Sets
mended_of s [] = s
mended_of s (f ∷ fs) = mended_of (mended_by s f.rule f.subject) fs

-- ---- behind an instruction

-- a subject of which nothing was told before, and to which the instruction gives no new status
abbrev pub stays_empty : Sets → Instruction → Bool → Subject → Bool
stays_empty before i granted u = not (tells before u) && not (writes i granted u)

abbrev pub after_of : Sets → Instruction → Bool → List Subject → Sets → Sets
after_of before i granted [] s = s
after_of before i granted (u ∷ us) s = after_of before i granted us (if stays_empty before i granted u then emptied s u else s)

-- sets that an instruction made of others: what was empty is empty, unless it was written
unfoldable pub after : Sets → Instruction → Bool → Sets → Sets
after before i granted = after_of before i granted operands

-- ---- all sets

-- the sets of a state
abbrev pub sets_of : State → Sets
sets_of x = record { contexts = x.contexts; operations = x.operations; modes = x.modes; draining = x.draining }

-- what is in one of both
abbrev pub union : Sets → Sets → Sets
union s t =
    record {
      contexts = either_all s.contexts t.contexts;
      operations = either_all s.operations t.operations;
      modes = either_mode s.modes t.modes;
      draining = either_draining s.draining t.draining;
    }

abbrev pub is_same : Sets → Sets → Bool
is_same s t =
    are_same s.contexts t.contexts && (are_same s.operations t.operations
    && ((mode_bits s.modes == mode_bits t.modes) && (draining_bits s.draining == draining_bits t.draining)))

-- the state with these sets, all in place of an empty one, and with the locks of a state
abbrev pub filled : Sets → State → State
filled s x = state_of (map or_all s.contexts) (map or_all s.operations) (or_both s.modes) (or_either s.draining) x.locks
