-- What else is said of a finding: that the rule is this project's own there, and stricter than the driver kit; or that numbers rule out the
-- path, which the rules don't trace. This project's own program.
use Rattle.std.specs.Prelude.{ℕ, Bool, true, false, not, ◌==◌, ◌&&◌, ◌||◌, if◌then◌else◌, List, [], ◌∷◌, codes, Option, Some, None, is_some}
use Rattle.std.specs.Fmt.{decimal}
use Rattle.std.specs.List.{concat, find, list_any}
use Rattle.flt_rules.specs.Place.{entry_level, is_above}
use Rattle.flt_rules.specs.declared.call.LockKind.{LockKind}
use Rattle.flt_rules.specs.declared.call.LockKind.TheVariants.{Spin}
use Rattle.flt_rules.specs.declared.place.Level.TheVariants.{Apc}
use Rattle.flt_rules.specs.declared.place.Operation.{Operation}
use Rattle.flt_rules.specs.declared.place.Place.{Place}
use Rattle.flt_rules.specs.declared.place.Place.TheVariants.{Post}
use Rattle.flt_rules.specs.declared.rule.Rule.{Rule}
use Rattle.flt_rules.specs.declared.rule.Rule.TheVariants.{R07, R09}
use Rattle.flt_tree.specs.Names.{Text}
use Rattle.flt_tree.specs.declared.filter.Action.{Action}
use Rattle.flt_tree.specs.declared.filter.Action.TheVariants.{SetNumber, ReadFile, WriteValue}
use Rattle.flt_tree.specs.declared.filter.Status.{Status}
use Rattle.flt_tree.specs.declared.filter.Status.TheVariants.{Synchronize}
use Rattle.flt_tree.specs.declared.filter.Test.TheVariants.{Equal}
use Rattle.flt_tree.specs.declared.variable.Atom.{Atom}
use Rattle.flt_tree.specs.declared.variable.Atom.TheVariants as atom
use Rattle.flt_tree.specs.declared.variable.Expression.{Expression}
use Rattle.flt_tree.specs.declared.variable.Expression.TheVariants as expression
use Rattle.flt_graph.specs.declared.graph.CallbackGraph.{CallbackGraph}
use Rattle.flt_graph.specs.declared.graph.Graph.{Graph}
use Rattle.flt_graph.specs.declared.graph.Point.{Point}
use Rattle.flt_graph.specs.declared.instruction.Instruction.{Instruction}
use Rattle.flt_graph.specs.declared.instruction.Instruction.TheVariants.{Act, Test, Return}
use Rattle.flt_explain.specs.declared.finding.Subject.{Subject}
use Rattle.flt_explain.specs.declared.finding.Subject.TheVariants as about
use Rattle.flt_explain_origins.specs.declared.answer.Step.{Step}
use Rattle.flt_explain_origins.specs.declared.answer.Way.{Way}
use Rattle.flt_explain_advice.specs.Advice.Locks.{release}
use Rattle.flt_explain_advice.specs.Advice.Statuses.{is_pre_of}
use Rattle.flt_explain_advice.specs.Case.{Circumstances, done_at, line_named, line_of, lock_kind, path, place}
use Rattle.flt_explain_advice.specs.declared.advice.locks.Release.{Release}
use Rattle.flt_explain_advice.specs.declared.advice.locks.Release.TheVariants.{Under}

-- ---- where the rule is stricter

abbrev pub is_synchronize : Option Status → Bool
is_synchronize (Some (Synchronize c)) = true
is_synchronize _ = false

-- whether an instruction returns SYNCHRONIZE
abbrev pub synchronizes : Instruction → Bool
synchronizes (Return st) = is_synchronize st
synchronizes _ = false

-- whether some point of a callback does
unfoldable pub returns_synchronize : CallbackGraph → Bool
returns_synchronize c = list_any (λ (p : Point). synchronizes p.instruction) c.points

-- whether a callback is the `pre` callback of an operation and returns SYNCHRONIZE
abbrev pub synchronizes_in : Operation → CallbackGraph → Bool
synchronizes_in o c = is_pre_of o c.place && returns_synchronize c

-- whether some callback does
unfoldable pub is_synchronized : Graph → Operation → Bool
is_synchronized g o = list_any (synchronizes_in o) g.callbacks

-- whether a `post` callback runs above APC_LEVEL, but not after SYNCHRONIZE
abbrev pub runs_lower : Graph → Place → Bool
runs_lower g (Post o) = is_above (entry_level (Post o)) Apc && is_synchronized g o
runs_lower g _ = false

abbrev pub is_spin : Option LockKind → Bool
is_spin (Some Spin) = true
is_spin _ = false

-- whether locks are released in another order, none of which is a spin lock
abbrev pub is_other_order : Circumstances → Subject → Release → Bool
is_other_order x (about.Lock l) (Under later) = not (is_spin (lock_kind x l)) && not (is_spin (lock_kind x later))
is_other_order x _ _ = false

abbrev pub level_note : Bool → Option Text
level_note true =
    Some (codes "stricter than the driver kit: there a `post` callback after `SYNCHRONIZE` runs at APC_LEVEL or below")
level_note false = None

abbrev pub order_note : Bool → Option Text
order_note true = Some (codes "stricter than the driver kit: only spin locks must be released in reverse order there")
order_note false = None

abbrev pub stricter_by : Circumstances → Rule → Option Text
stricter_by x R07 = level_note (runs_lower x.graph (place x))
stricter_by x R09 = order_note (is_other_order x x.finding.subject (release x))
stricter_by x _ = None

-- that the rule is stricter than the driver kit; nothing where it isn't
unfoldable pub stricter : Circumstances → Option Text
stricter x = stricter_by x x.finding.rule

-- ---- numbers that no statement stores

-- whether a number or a variable might be stored as this value. A variable has what was stored before, or 0
abbrev pub is_value : Atom → ℕ → Bool
is_value (atom.Number n) value = n == value
is_value _ value = false

-- whether an expression might have a value; a sum or a difference might have any
abbrev pub may_be : Expression → ℕ → Bool
may_be (expression.Atom a) value = is_value a value
may_be _ value = true

-- whether an action might store a value
abbrev pub may_store : Action → ℕ → Bool
may_store (SetNumber n e) value = may_be e value
may_store (ReadFile n o) value = true
may_store (WriteValue c a) value = is_value a value
may_store _ value = false

abbrev pub stores : Instruction → ℕ → Bool
stores (Act a next) value = may_store a value
stores _ value = false

-- whether some statement of a callback might store a value
unfoldable pub is_stored_in : ℕ → CallbackGraph → Bool
is_stored_in value c = list_any (λ (p : Point). stores p.instruction value) c.points

-- whether some statement of the text might
unfoldable pub is_stored : Graph → ℕ → Bool
is_stored g value = list_any (is_stored_in value) g.callbacks

-- the number that an instruction asks for
abbrev pub asked : Instruction → Option ℕ
asked (Test (Equal n (atom.Number value)) succeeds fails) = Some value
asked _ = None

-- a number that no variable might have
abbrev pub missing_in : Graph → ℕ → Option ℕ
missing_in g value = if value == 0 || is_stored g value then None else Some value

abbrev pub missing_by : Graph → Option ℕ → Option ℕ
missing_by g None = None
missing_by g (Some value) = missing_in g value

-- the value for which a step asks and finds it, if no statement stores it
unfoldable pub unstored : Circumstances → Step → Option ℕ
unstored x s = if s.granted then missing_by x.graph (asked (done_at x s)) else None

abbrev pub is_unstored : Circumstances → Step → Bool
is_unstored x s = is_some (unstored x s)

abbrev pub first_in : Circumstances → Option Way → Option Step
first_in x None = None
first_in x (Some w) = find (is_unstored x) w.steps

-- the first step of the path that does that
unfoldable pub first_unstored : Circumstances → Option Step
first_unstored x = first_in x (path x)

-- that no statement stores a value for which a line asks
unfoldable pub unstored_note : Circumstances → ℕ → ℕ → Text
unstored_note x value line =
    concat (codes "no statement stores " ∷ decimal value ∷ codes ", which line " ∷ line_named x line
    ∷ codes " asks for; the rules don't trace numbers, and `n0 = file data` stands for an unknown one" ∷ [])

abbrev pub value_note : Circumstances → Option ℕ → ℕ → Text
value_note x (Some value) line = unstored_note x value line
value_note x None line = []

abbrev pub step_note : Circumstances → Option Step → Text
step_note x (Some s) = value_note x (unstored x s) (line_of x s)
step_note x None = []

-- ---- both

abbrev pub note_by : Circumstances → Option Text → Text
note_by x (Some words) = words
note_by x None = step_note x (first_unstored x)

unfoldable pub note : Circumstances → Text
note x = note_by x (stricter x)
