-- What an activation finds at its point: where a call, an action or a test goes on, with the rules that it keeps (`AtCall`,
-- `AtAct`, `AtTest`),
-- and what the variables that it names hold. The row of a call, and nothing else of the graph or the certificate, is what a
-- call's proof sees.
-- Here at says that an activation a with shadow s runs at a moment m; list, granted, refused are what remains; x is a slot or an object.
use Rattle.std.proofs.Common.{◌≡◌, ℕ, Bool, true, false, List, map, Some, ap, sym, subst, refl, ◌∙◌}
use Rattle.std.specs.Prelude.{slice_set, if◌then◌else◌}
use Rattle.std.proofs.Math.ListN.{set}
use Rattle.std.proofs.Math.Seq.{map-set_same}
use Rattle.std.proofs.lemmas.List.{map-set}
use Rattle.flt_rules.specs.Table.{row}
use Rattle.flt_rules.specs.declared.columns.Effects.{Effects}
use Rattle.flt_tree.specs.Variable.{context_place, operation_place}
use Rattle.flt_tree.specs.declared.filter.Action.{Action}
use Rattle.flt_tree.specs.declared.filter.Filter.{Filter}
use Rattle.flt_tree.specs.declared.filter.Test.{Test}
use Rattle.flt_tree.specs.declared.filter.Statement.{Statement}
use Rattle.flt_tree.specs.declared.variable.ContextVariable.{ContextVariable}
use Rattle.flt_tree.specs.declared.variable.OperationVariable.{OperationVariable}
use Rattle.flt_tree.specs.declared.variable.OperationVariable.TheVariants.{Data}
use Rattle.flt_graph.specs.Instruction.{roles}
use Rattle.flt_graph.specs.Points.{remaining}
use Rattle.flt_graph.specs.declared.instruction.Instruction.TheVariants as instruction
use Rattle.flt_graph.specs.declared.instruction.Invocation.{Invocation}
use Rattle.flt_graph.specs.declared.instruction.ResolvedCall.{ResolvedCall}
use Rattle.flt_abs.specs.Breaks.{row_breaks, action_breaks, test_breaks, lacks_context, lacks_operation}
use Rattle.flt_abs.specs.Outcome.{called, failed, can_fail, acted, may_find}
use Rattle.flt_abs.specs.State.{Situation, State}
use Rattle.flt_abs.specs.declared.setting.Setting.{Setting}
use Rattle.flt_model.specs.Effects.{onward}
use Rattle.flt_model.specs.Runs.{Moment}
use Rattle.flt_model.specs.Variables.{context_in, operation_in}
use Rattle.flt_model.specs.World.{Activation, actor_at, activation_at, arrival_of}
use Rattle.flt_sound.proofs.sums.Shadows.{Slot, Unset, Owns, Past, value_of, status_of, Shadow, plain, situation, context_slot}
use Rattle.flt_sound.proofs.sums.Shadows.{operation_slot, with_rest, put_context, value-context_slot, value-operation_slot}
use Rattle.flt_sound.proofs.sums.Slots.{IsOwned, surely_held}
use Rattle.flt_sound.proofs.points.Kept.{IsAt, activation_is, stood_at, StoodAt}
use Rattle.flt_sound.proofs.points.Legal.{spot, Cleared, cleared}
use Rattle.flt_sound.proofs.points.Placed.{setting_here, Placed, here, fine, Fine, goes_on}
use Rattle.flt_sound.proofs.points.Stored.{Given, given_is}

-- ---- a context variable changes

-- where a context variable is set, the situation has the status of what it gets
pub situation-put_context : (d : Bool) (s : Shadow) (c : ContextVariable) (x : Slot) →
    record (situation d s) { contexts = slice_set (map status_of s.contexts) (context_place c) (status_of x) } ≡ situation d
    (put_context s c x)
situation-put_context d s c x = rw (map-set status_of s.contexts (context_place c) x) refl

-- what is released or handed over keeps its number
pub plain-past_context : (s : Shadow) (c : ContextVariable) (x : ℕ) → context_slot s c ≡ Owns x → plain s ≡ plain (put_context s c (Past x))
plain-past_context s c x e = rw (map-set_same value_of s.contexts (context_place c) (Past x) Unset (sym (ap value_of e))) refl

-- ---- an activation at its point

module _ {p : List Filter} {m : Moment} {a : ℕ} {s : Shadow} (at : IsAt p m a s) where
  -- whether the callback is draining
  abbrev pub draining_of : Bool
  draining_of = (actor_at m.world a).draining

  -- the situation before the step
  abbrev pub before : Situation
  before = situation draining_of s

  -- the certificate's state at the point
  abbrev pub state_of : State
  state_of = (spot at).state

  -- the setting by which the rules judge it
  abbrev pub setting : Setting
  setting = setting_here (spot at)

  -- the activation is placed where a list remains, in a situation
  abbrev pub PlacedAt : List Statement → Situation → Type 0
  PlacedAt list t = Placed p (actor_at m.world a).filter (actor_at m.world a).place list t

  -- where the activation stands before the step
  abbrev pub was : StoodAt p m a s
  was = stood_at at

  -- ---- where it goes on

  -- a call at the point, and where it goes on
  pub record AtCall (inv : Invocation) (granted refused : List Statement) : Type 0 where
    -- V6 and V8
    pub clear : Cleared p m a inv.call
    -- the rules that its row asks for
    pub fine : Fine (row_breaks (row inv.call) setting state_of inv)
    -- where it goes on when it succeeds, with an object or without
    pub ok : (gives : Bool) → PlacedAt granted (called inv (row inv.call).on_ok gives before)
    -- and when it fails, if it can
    pub fails : (e : Effects) → (row inv.call).on_fail ≡ Some e → (gives : Bool) → PlacedAt refused (called inv e gives before)

  -- a call that is the point's instruction
  pub at_call : (c : ResolvedCall) (x y : ℕ) → here (spot at) ≡ instruction.Call c x y → (granted refused : List Statement) →
      remaining s.rest true ≡ Some granted → remaining s.rest false ≡ Some refused → AtCall (roles c) granted refused
  at_call c x y e granted refused g r =
      let i = instruction.Call c x y in
      record {
        clear = cleared at c x y e;
        fine = fine (spot at) i e;
        ok = λ gives. goes_on (spot at) i e true gives refl granted g;
        fails = λ f h gives. subst (λ o. PlacedAt refused (failed (roles c) o gives before)) h
            (goes_on (spot at) i e false gives (ap can_fail h) refused r);
      }

  -- an action at the point, and where it goes on
  pub record AtAct (x : Action) (list : List Statement) : Type 0 where
    pub fine : Fine (action_breaks state_of x)
    pub ok : PlacedAt list (acted x before)

  -- an action that is the point's instruction
  pub at_act : (x : Action) (n : ℕ) → here (spot at) ≡ instruction.Act x n → (list : List Statement) →
      remaining s.rest true ≡ Some list → AtAct x list
  at_act x n e list r = record {
    fine = fine (spot at) (instruction.Act x n) e;
    ok = goes_on (spot at) (instruction.Act x n) e true true refl list r;
  }

  -- a test at the point, and where it goes on by what it finds
  pub record AtTest (t : Test) (granted refused : List Statement) : Type 0 where
    pub fine : Fine (test_breaks setting state_of t)
    pub side : (b : Bool) → may_find t before b ≡ true → PlacedAt (if b then granted else refused) before

  -- a test that is the point's instruction
  pub at_test : (t : Test) (x y : ℕ) → here (spot at) ≡ instruction.Test t x y → (granted refused : List Statement) →
      ((b : Bool) → remaining s.rest b ≡ Some (if b then granted else refused)) → AtTest t granted refused
  at_test t x y e granted refused r = record {
    fine = fine (spot at) (instruction.Test t x y) e;
    side = λ b f. goes_on (spot at) (instruction.Test t x y) e b true f (if b then granted else refused) (r b);
  }

  -- ---- its variables

  -- a context variable that a rule finds surely held owns an object
  pub owned_context : (c : ContextVariable) → lacks_context state_of (Some c) ≡ false → IsOwned (context_slot s c)
  owned_context c h = surely_held state_of.contexts s.contexts (context_place c) (spot at).means.contexts h

  -- an operation variable that a rule finds surely held owns an object
  pub owned_operation : (d : OperationVariable) → lacks_operation state_of (Some d) ≡ false → IsOwned (operation_slot s d)
  owned_operation d h = surely_held state_of.operations s.operations (operation_place d) (spot at).means.operations h

  -- what the world reads of a context variable
  pub context_is : (c : ContextVariable) (x : Slot) → context_slot s c ≡ x → context_in (activation_at m.world a) c ≡ value_of x
  context_is c x e = ap (λ act. context_in act c) (activation_is at) ∙ (value-context_slot s c ∙ ap value_of e)

  -- what the world reads of an operation variable
  pub operation_is : (d : OperationVariable) (x : Slot) → operation_slot s d ≡ x → operation_in (activation_at m.world a) d ≡ value_of x
  operation_is d x e = ap (λ act. operation_in act d) (activation_is at) ∙ (value-operation_slot s d ∙ ap value_of e)

  -- the world's activation, gone on, is the shadow gone on
  pub onward_is : (list : List Statement) → onward m.world a list ≡ plain (with_rest s list)
  onward_is list = ap (λ (act : Activation). record act { rest = list }) (activation_is at)

  -- what `data` owns is of the activation's mode
  pub given_mode : (v : ℕ) → operation_slot s Data ≡ Owns v → (arrival_of m.world.store v).mode ≡ s.mode
  given_mode v e =
      (given_is m.world.store.visits m.world.store.arrivals (actor_at m.world a).filter s.mode (actor_at m.world a).place v
      (subst (λ x. Given m.world.store.visits m.world.store.arrivals (actor_at m.world a).filter s.mode
      (actor_at m.world a).place x) (ap value_of e)
      was.given)).mode_is
