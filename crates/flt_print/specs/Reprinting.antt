-- A filter apart from where its parts stand, and the laws that its canonical text spells it so.
use Rattle.std.specs.Prelude.{◌≡◌, ◌≤◌, map, length, option_map}
use Rattle.flt_tree.specs.Filter.{no_span}
use Rattle.flt_tree.specs.Names.{Text}
use Rattle.flt_rules.specs.Limits.{max_text}
use Rattle.flt_print.specs.Printing.{canonical_text}
use Rattle.flt_syntax.specs.Spelling.{Spells}
use Rattle.flt_tree.specs.WellFormed.{IsWellFormed}
use Rattle.flt_tree.specs.declared.filter.Callback.{Callback}
use Rattle.flt_tree.specs.declared.filter.Condition.{Condition}
use Rattle.flt_tree.specs.declared.filter.Condition.TheVariants as made
use Rattle.flt_tree.specs.declared.filter.FallibleCall.{FallibleCall}
use Rattle.flt_tree.specs.declared.filter.FallibleCall.TheVariants.{QueueDeferredIoWorkItem, QueueGenericWorkItem}
use Rattle.flt_tree.specs.declared.filter.Filter.{Filter}
use Rattle.flt_tree.specs.declared.filter.Position.{Position}
use Rattle.flt_tree.specs.declared.filter.Routine.{Routine}
use Rattle.flt_tree.specs.declared.filter.Statement.{Statement}
use Rattle.flt_tree.specs.declared.filter.Statement.TheVariants.{Act, Call, Return, If, Repeat}
use Rattle.flt_tree.specs.declared.filter.Statement.TheOpen.{Statement-F}
use Rattle.flt_tree.specs.declared.filter.Statement.TheFolds.{fold-Statement}

-- no place
abbrev pub nowhere : Position
nowhere = record { line = 0; column = 0 }

abbrev pub routine_without : Routine → Routine
routine_without r = record { name = r.name; position = nowhere }

abbrev pub call_without : FallibleCall Routine → FallibleCall Routine
call_without (QueueDeferredIoWorkItem r c) = QueueDeferredIoWorkItem (routine_without r) c
call_without (QueueGenericWorkItem r c) = QueueGenericWorkItem (routine_without r) c
call_without call = call

abbrev pub condition_without : Condition → Condition
condition_without (made.Test t) = made.Test t
condition_without (made.Succeeds c) = made.Succeeds (call_without c)

abbrev pub step_without : Statement-F Statement → Statement
step_without (Statement-F.Act at a) = Act no_span a
step_without (Statement-F.Call at c) = Call no_span c
step_without (Statement-F.Return at s) = Return no_span s
step_without (Statement-F.If at c granted refused) = If no_span (condition_without c) granted refused
step_without (Statement-F.Repeat at n body) = Repeat no_span n body

-- a statement without places
abbrev pub statement_without : Statement → Statement
statement_without = fold-Statement Statement step_without

abbrev pub callback_without : Callback → Callback
callback_without c = record { head = c.head; position = nowhere; span = no_span; body = map statement_without c.body; end = no_span }

-- a filter without places
abbrev pub without_places : Filter → Filter
without_places f =
    record {
      name = f.name;
      altitude = f.altitude;
      locks = f.locks;
      queue = option_map (λ at. nowhere) f.queue;
      callbacks = map callback_without f.callbacks;
    }

-- the canonical text of a well-formed filter spells it, apart from places, if it is not too long
abbrev pub ParsesAgain : Type 0
ParsesAgain = (f : Filter) → IsWellFormed f → length (canonical_text f) ≤ max_text →
    (g : Filter) × Spells (canonical_text f) g × (without_places g ≡ without_places f)

-- what a text spells is spelled by its canonical text too, apart from places, if that is not too long
abbrev pub PrintAndParse : Type 0
PrintAndParse = (text : Text) (f : Filter) → Spells text f → length (canonical_text f) ≤ max_text →
    (g : Filter) × Spells (canonical_text f) g × (without_places g ≡ without_places f)

-- well-formed filters with one canonical text differ in places alone, if the text is not too long
abbrev pub PrintsAtMostOne : Type 0
PrintsAtMostOne = (f g : Filter) → IsWellFormed f → IsWellFormed g → length (canonical_text f) ≤ max_text →
    canonical_text f ≡ canonical_text g → without_places f ≡ without_places g
