-- Statements that read or write an object and are no calls: the value of a context, the file of an operation, and the test of
-- whether an operation is an IRP. Each uses an object that a variable surely holds, and changes at most a number of the
-- activation or the value of a context: nothing is gained, lost or settled, and no reference changes.
-- p is the program, m the moment, a the activation, s its shadow; o is an object, x a context, v a visit.
use Rattle.std.proofs.Common.{◌≡◌, ℕ, Bool, true, false, List, [], ◌∷◌, ap, subst, refl, arith}
use Rattle.std.specs.Prelude.{if◌then◌else◌}
use Rattle.std.proofs.Math.ListN.{set}
use Rattle.flt_rules.specs.Place.{is_irp}
use Rattle.flt_tree.specs.Variable.{number_place}
use Rattle.flt_tree.specs.declared.filter.Action.TheVariants as action
use Rattle.flt_tree.specs.declared.filter.Filter.{Filter}
use Rattle.flt_tree.specs.declared.filter.Statement.{Statement}
use Rattle.flt_tree.specs.declared.filter.Test.TheVariants as test
use Rattle.flt_tree.specs.declared.variable.Atom.{Atom}
use Rattle.flt_tree.specs.declared.variable.ContextVariable.{ContextVariable}
use Rattle.flt_tree.specs.declared.variable.NumberVariable.{NumberVariable}
use Rattle.flt_tree.specs.declared.variable.OperationVariable.{OperationVariable}
use Rattle.flt_tree.specs.declared.variable.OperationVariable.TheVariants.{Data}
use Rattle.flt_model.specs.Reads.{read_value, write_value, read_file, test_irp, put_value}
use Rattle.flt_model.specs.declared.event.Event.TheVariants as event
use Rattle.flt_model.specs.declared.event.Object.{Object}
use Rattle.flt_model.specs.declared.event.Object.TheVariants.{Context, Visit}
use Rattle.flt_model.specs.Effects.{onward, goes_on}
use Rattle.flt_model.specs.Runs.{Moment}
use Rattle.flt_model.specs.Variables.{with_number, atom_value}
use Rattle.flt_model.specs.World.{Store, Activation, activation_at, context_at, arrival_of, is_freed}
use Rattle.flt_sound.proofs.sums.Counts.{counts, Has}
use Rattle.flt_sound.proofs.sums.Ledger.{Ledger}
use Rattle.flt_sound.proofs.sums.Shadows.{Shadow, Owns, plain, with_rest}
use Rattle.flt_sound.proofs.points.Local.{agrees_self}
use Rattle.flt_sound.proofs.points.Events.{none, uses}
use Rattle.flt_sound.proofs.points.Kept.{Good, IsAt}
use Rattle.flt_sound.proofs.points.Rows.{PlacedAt, before, AtAct, AtTest, onward_is, owned_context}
use Rattle.flt_sound.proofs.points.Rows.{owned_operation, context_is, operation_is, given_mode}
use Rattle.flt_sound.proofs.calls.Effects.{has_owned_context, has_owned_visit, same_store}
use Rattle.flt_sound.proofs.points.Stepping.{row_good, CalmStore, same_calm, calm_of, running, Touched}
use Rattle.flt_sound.proofs.points.Stepping.{held_touch, held_refs, quiet_ledger, stood_contexts}
use Rattle.flt_sound.proofs.sums.References.{values}
use Rattle.flt_sound.proofs.sums.Touching.{use_clean}

module _ {p : List Filter} {m : Moment} {a : ℕ} {s : Shadow} (at : IsAt p m a s) where
  -- a step that uses an object and changes numbers, and of the store no owner and no reference, is good
  use_good : (o : Object) (numbers : List ℕ) (list : List Statement) (store : Store) (act : Activation) →
      act ≡ record (plain (with_rest s list)) { numbers = numbers } → Has m.trace a o → CalmStore at store →
      Ledger a m.world.store store (event.Use a o ∷ []) → PlacedAt at list (before at) →
      Good p m (goes_on m.world a act store (event.Use a o ∷ []))
  use_good o numbers list store act e has c ledger placed =
      let new = record (with_rest s list) { numbers = numbers } in
      let touched = λ (x : ℕ) (e : o ≡ Context x). held_touch at store ledger.older x (subst (λ o. Has m.trace a o) e has) in
      row_good at new store (event.Use a o ∷ []) act e (uses has (none _)) (stood_contexts at new refl refl refl placed) c.change
      (λ v. simp counts (omega arith)) (λ x. simp counts (omega arith))
      (calm_of at c (event.Use a o ∷ []) (λ v. simp counts) (λ v. simp counts)) (running at new refl)
      ledger (use_clean (Touched at store) a o [] touched tt)

  -- a step that reads an object is good
  read_good : (o : Object) (numbers : List ℕ) (list : List Statement) (act : Activation) →
      act ≡ record (plain (with_rest s list)) { numbers = numbers } → Has m.trace a o → PlacedAt at list (before at) →
      Good p m (goes_on m.world a act m.world.store (event.Use a o ∷ []))
  read_good o numbers list act e has placed =
      use_good o numbers list m.world.store act e has (same_store at) (quiet_ledger at _ (λ y. simp counts) (λ y. simp counts)) placed

  -- reading a context's value is good
  pub read_value_good : (n : NumberVariable) (c : ContextVariable) (list : List Statement) → AtAct at (action.ReadValue n c) list →
      Good p m (read_value m.world a n c list)
  read_value_good n c list k =
      let o = owned_context at c k.fine.r01 in
      let value = (context_at m.world.store o.object).value in
      rw (context_is at c (Owns o.object) o.is)
      (read_good (Context o.object) (set s.numbers (number_place n) value) list (with_number (onward m.world a list) n value)
      (ap (λ act. with_number act n value) (onward_is at list)) (has_owned_context at c o) k.ok)

  -- reading an operation's file is good
  pub read_file_good : (n : NumberVariable) (d : OperationVariable) (list : List Statement) → AtAct at (action.ReadFile n d) list →
      Good p m (read_file m.world a n d list)
  read_file_good n d list k =
      let o = owned_operation at d k.fine.r04 in
      let file = (arrival_of m.world.store o.object).file in
      rw (operation_is at d (Owns o.object) o.is)
      (read_good (Visit o.object) (set s.numbers (number_place n) file) list (with_number (onward m.world a list) n file)
      (ap (λ act. with_number act n file) (onward_is at list)) (has_owned_visit at d o) k.ok)

  -- the test of whether the given operation is an IRP is good: it finds what the activation's mode says
  pub test_irp_good : (granted refused : List Statement) → AtTest at test.IsIrp granted refused →
      Good p m (test_irp m.world a granted refused)
  test_irp_good granted refused k =
      let o = owned_operation at Data k.fine.r04 in
      let list = if is_irp s.mode then granted else refused in
      rw (operation_is at Data (Owns o.object) o.is, given_mode at o.object o.is)
      (read_good (Visit o.object) s.numbers list (onward m.world a list) (onward_is at list) (has_owned_visit at Data o)
      (k.side (is_irp s.mode) (agrees_self (is_irp s.mode))))

  -- ---- a write

  -- the store after a write, where the context isn't freed
  abbrev with_value : ℕ → ℕ → Store
  with_value x value = record m.world.store {
    contexts =
        set m.world.store.contexts x (record (context_at m.world.store x) { value = value });
  }

  -- a write leaves visits and what stores them as they are
  value_calm : (x value : ℕ) → CalmStore at (put_value m.world.store x value)
  value_calm x value = by (is_freed (context_at m.world.store x))
    where
      by : (b : Bool) → CalmStore at (if b then m.world.store else with_value x value)
      by true = same_store at
      by false = same_calm at (with_value x value) refl refl refl refl refl refl

  -- a write leaves references as they are
  value_ledger : (x value : ℕ) → Has m.trace a (Context x) →
      Ledger a m.world.store (put_value m.world.store x value) (event.Use a (Context x) ∷ [])
  value_ledger x value h = by (is_freed (context_at m.world.store x))
    where
      by : (b : Bool) → Ledger a m.world.store (if b then m.world.store else with_value x value) (event.Use a (Context x) ∷ [])
      by true = quiet_ledger at (event.Use a (Context x) ∷ []) (λ y. simp counts) (λ y. simp counts)
      by false = values a m.world.store at.kept.mine x value (event.Use a (Context x) ∷ []) (held_refs at x h) (λ y. simp counts)
          (λ y. simp counts)

  -- writing a context's value is good
  pub write_value_good : (c : ContextVariable) (y : Atom) (list : List Statement) → AtAct at (action.WriteValue c y) list →
      Good p m (write_value m.world a c y list)
  write_value_good c y list k =
      let o = owned_context at c k.fine.r01 in
      let x = o.object in
      let value = atom_value (activation_at m.world a) y in
      let has = has_owned_context at c o in
      rw (context_is at c (Owns x) o.is)
      (use_good (Context x) s.numbers list (put_value m.world.store x value) (onward m.world a list) (onward_is at list) has
      (value_calm x value) (value_ledger x value has) k.ok)
