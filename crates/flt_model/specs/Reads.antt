-- Steps that others can see and that are no calls: the value of a context, the file of an operation, and whether it is an I/O
-- request packet (FLT_IS_IRP_OPERATION). A variable that is NULL leaves all as it is, and the test then fails.
use Rattle.std.specs.Prelude.{ℕ, if◌then◌else◌, List, [], ◌∷◌, Option, Some, None}
use Rattle.flt_rules.specs.Place.{is_irp}
use Rattle.flt_tree.specs.declared.filter.Statement.{Statement}
use Rattle.flt_tree.specs.declared.variable.Atom.{Atom}
use Rattle.flt_tree.specs.declared.variable.ContextVariable.{ContextVariable}
use Rattle.flt_tree.specs.declared.variable.NumberVariable.{NumberVariable}
use Rattle.flt_tree.specs.declared.variable.OperationVariable.{OperationVariable}
use Rattle.flt_tree.specs.declared.variable.OperationVariable.TheVariants.{Data}
use Rattle.flt_model.specs.Effects.{Step, context, operation, onward, goes_on, unchanged, needing}
use Rattle.flt_model.specs.Variables.{context_in, operation_in, with_number, atom_value}
use Rattle.flt_model.specs.World.{World, Store, context_at, activation_at, arrival_of, is_freed, with_context}

-- a freed context keeps its value
abbrev pub put_value : Store → ℕ → ℕ → Store
put_value s x value =
    let c = context_at s x in if is_freed c then s else with_context s x (record c { value = value })

module _ (w : World) (a : ℕ) where
  -- the value of the context, freed or not
  abbrev pub read_value_of : NumberVariable → List Statement → Option ℕ → Step
  read_value_of n rest None = unchanged w a rest
  read_value_of n rest (Some x) = goes_on w a (with_number (onward w a rest) n (context_at w.store x).value) w.store []

  -- `n = value c`
  abbrev pub read_value : NumberVariable → ContextVariable → List Statement → Step
  read_value n c rest =
      let x = context_in (activation_at w a) c in needing w a (context x ∷ []) (read_value_of n rest x)

  -- the value is written
  abbrev pub write_value_of : Atom → List Statement → Option ℕ → Step
  write_value_of value rest None = unchanged w a rest
  write_value_of value rest (Some x) =
      goes_on w a (onward w a rest) (put_value w.store x (atom_value (activation_at w a) value)) []

  -- `value c = x`
  abbrev pub write_value : ContextVariable → Atom → List Statement → Step
  write_value c value rest =
      let x = context_in (activation_at w a) c in needing w a (context x ∷ []) (write_value_of value rest x)

  -- the file of the visit's operation
  abbrev pub read_file_of : NumberVariable → List Statement → Option ℕ → Step
  read_file_of n rest None = unchanged w a rest
  read_file_of n rest (Some v) = goes_on w a (with_number (onward w a rest) n (arrival_of w.store v).file) w.store []

  -- `n = file d`
  abbrev pub read_file : NumberVariable → OperationVariable → List Statement → Step
  read_file n d rest =
      let v = operation_in (activation_at w a) d in needing w a (operation v ∷ []) (read_file_of n rest v)

  -- by the mode of the visit's operation
  abbrev pub test_irp_of : List Statement → List Statement → Option ℕ → Step
  test_irp_of holds fails None = unchanged w a fails
  test_irp_of holds fails (Some v) = unchanged w a (if is_irp (arrival_of w.store v).mode then holds else fails)

  -- `irp data`
  abbrev pub test_irp : List Statement → List Statement → Step
  test_irp holds fails =
      let v = operation_in (activation_at w a) Data in needing w a (operation v ∷ []) (test_irp_of holds fails v)
