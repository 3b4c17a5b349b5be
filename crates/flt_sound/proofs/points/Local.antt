-- Local steps: an activation chooses by a test, takes a turn or leaves a repetition, sets a number or clears a variable. They
-- have no events,
-- and nothing but the activation changes: it goes on at a point of its callback, owning what it owned (`quiet`), since R03 lets it clear no
-- variable that may hold something. Here p is the program, m a moment, a an activation, s its shadow, st its first statement.
use Rattle.std.proofs.Common.{◌≡◌, ℕ, zero, suc, Bool, true, false, List, [], ◌∷◌, ◌++◌}
use Rattle.std.proofs.Common.{Option, Some, None, ap, sym, subst, refl, ◌∙◌, arith}
use Rattle.std.specs.Prelude.{option_map, if◌then◌else◌}
use Rattle.std.proofs.Math.ListN.{set, get_or, get_or-map}
use Rattle.std.proofs.lemmas.List.{map-set, length-set}
use Rattle.flt_tree.specs.Variable.{context_place, operation_place, number_place}
use Rattle.flt_tree.specs.declared.filter.Action.{Action}
use Rattle.flt_tree.specs.declared.filter.Action.TheVariants as action
use Rattle.flt_tree.specs.declared.filter.Condition.{Condition}
use Rattle.flt_tree.specs.declared.filter.Condition.TheVariants as condition
use Rattle.flt_tree.specs.declared.filter.Filter.{Filter}
use Rattle.flt_tree.specs.declared.filter.Span.{Span}
use Rattle.flt_tree.specs.declared.filter.Statement.{Statement, out-Statement}
use Rattle.flt_tree.specs.declared.filter.Statement.TheOpen.{Statement-F}
use Rattle.flt_tree.specs.declared.filter.Statement.TheVariants as tree
use Rattle.flt_tree.specs.declared.filter.Test.{Test}
use Rattle.flt_tree.specs.declared.filter.Test.TheVariants as test
use Rattle.flt_tree.specs.declared.variable.ContextVariable.{ContextVariable}
use Rattle.flt_tree.specs.declared.variable.Expression.{Expression}
use Rattle.flt_tree.specs.declared.variable.NumberVariable.{NumberVariable}
use Rattle.flt_tree.specs.declared.variable.OperationVariable.TheVariants.{Removed}
use Rattle.flt_tree.specs.declared.variable.RemovedVariable.{RemovedVariable}
use Rattle.flt_graph.specs.Points.{remaining, remaining_of}
use Rattle.flt_graph.specs.declared.instruction.Instruction.{Instruction}
use Rattle.flt_graph.specs.declared.instruction.Instruction.TheVariants as instruction
use Rattle.flt_abs.specs.Breaks.{breaks}
use Rattle.flt_abs.specs.Outcome.{may_find, may_come_out, leaves, agrees}
use Rattle.flt_model.specs.declared.event.Object.TheVariants.{Visit}
use Rattle.flt_model.specs.Effects.{Step}
use Rattle.flt_model.specs.LocalSteps.{after_action, goes_on_to, holds_test, holds_condition, turns_left, after_statement, local_step}
use Rattle.flt_model.specs.Runs.{Moment, next}
use Rattle.flt_model.specs.Steps.{Local, moved_on}
use Rattle.flt_model.specs.Variables.{with_number, with_context_in, with_operation_in, expression_value}
use Rattle.flt_model.specs.World.{Activation, actor_at, activation_at, nobody, is_settled}
use Rattle.flt_sound.proofs.sums.Counts.{counts, Has, gains-nil, loses-nil}
use Rattle.flt_sound.proofs.sums.Ledger.{still}
use Rattle.flt_sound.proofs.sums.Shadows.{Unset, value_of, status_of, own_all, Shadow, no_one, plain, situation, context_slot}
use Rattle.flt_sound.proofs.sums.Shadows.{operation_slot, with_rest, put_context, put_operation, plain-put_context, plain-put_operation}
use Rattle.flt_sound.proofs.sums.Slots.{not_held, some_same, own_all-cleared, data_stays, owned_before}
use Rattle.flt_sound.proofs.sums.Turns.{calm_turned}
use Rattle.flt_sound.proofs.sums.Uses.{none_had}
use Rattle.flt_sound.proofs.points.Kept.{owned_of, StoodAt, Kept, Good, IsAt, kept_after, stood_at}
use Rattle.flt_sound.proofs.points.Legal.{spot}
use Rattle.flt_sound.proofs.points.Placed.{setting_here, Placed, here, fine, Fine, goes_on, act_here, if_here, repeat_here}

-- what holds of a step, if there is one
abbrev pub AfterStep : Option Step → (Step → Type 0) → Type 0
AfterStep None P = Unit {0}
AfterStep (Some s) P = P s

-- ---- tests

-- an outcome agrees with itself
pub agrees_self : (x : Bool) → agrees x x ≡ true
agrees_self true = refl
agrees_self false = refl

-- and with what it is equal to
agrees_by : {x y b : Bool} → x ≡ y → Some y ≡ Some b → agrees x b ≡ true
agrees_by {x} {y} {b} h e = let same : x ≡ b = cc in subst (λ b. agrees x b ≡ true) same (agrees_self x)

-- ---- steps without events

module _ {p : List Filter} {m : Moment} {a : ℕ} where
  -- a step without events, after which an activation owns what it owned, is good
  quiet : (old new : Shadow) (act : Activation) → IsAt p m a old → new.ended ≡ old.ended → act ≡ plain new →
      (new.ended ≡ false → StoodAt p m a new) →
      ((x : ℕ) → own_all x new.contexts ≡ own_all x old.contexts) → ((v : ℕ) → own_all v new.operations ≡ own_all v old.operations) →
      Good p m (moved_on p m.trace m.world a act)
  quiet old new act at on e stood contexts operations =
      let store = m.world.store in
      record {
        had = none_had m.trace;
        leak = refl;
        legal = refl;
        low = refl;
        disciplined = refl;
        in_place = refl;
        clean = refl;
        kept = kept_after p m a old new store [] act at (record {
          stood = stood;
          store = record { visits = refl; arrivals = refl; stored = at.kept.stored };
          change = record {
            visits = λ v. omega (arith, operations v, gains-nil, loses-nil);
            contexts = λ x. omega (arith, contexts x, gains-nil, loses-nil);
            no_gain = λ b ne o. gains-nil b o;
            no_loss = λ b ne o. loses-nil b o;
          };
          plain_is = e;
          turned = calm_turned a store store [] refl refl refl (λ v. simp counts) (λ v. simp counts);
          idle = λ done. let no : true ≡ false = sym done ∙ (on ∙ at.on) in absurd (cc);
          ledger = still a store store [] at.kept.mine refl refl refl refl (λ x. simp counts) (λ x. simp counts);
          gained = λ x g. let k = simp counts at g in absurd (omega (arith, k));
        });
      }

module _ {p : List Filter} {m : Moment} {a : ℕ} (s : Shadow) (st : Statement) (rest : List Statement)
    (at : IsAt p m a (with_rest s (st ∷ rest))) where
  abbrev draining : Bool
  draining = (actor_at m.world a).draining

  abbrev old : Shadow
  old = with_rest s (st ∷ rest)

  abbrev was : StoodAt p m a old
  was = stood_at at

  -- it goes on with another list, and all else is as it was
  onward : (i : Instruction) → here (spot at) ≡ i → (outcome gives : Bool) → may_come_out i (situation draining old) outcome ≡ true →
      (list : List Statement) →
      remaining (st ∷ rest) outcome ≡ Some list → leaves i outcome gives (situation draining old) ≡ situation draining old →
      Good p m (moved_on p m.trace m.world a (goes_on_to list (plain old)))
  onward i e outcome gives may list r same =
      let placed = goes_on (spot at) i e outcome gives may list r in
      quiet old (with_rest s list) (goes_on_to list (plain old)) at refl refl
      (λ on. record {
        placed = subst (λ t. Placed p (actor_at m.world a).filter (actor_at m.world a).place list t) same placed;
        given = was.given;
        removed = was.removed;
        wide = was.wide;
        broad = was.broad;
      })
      (λ x. refl) (λ v. refl)

  -- ---- choices by a test

  -- what a test finds its situation allows
  test_finds : (t : Test) (b : Bool) → holds_test draining (plain old) t ≡ Some b → may_find t (situation draining old) b ≡ true
  test_finds (test.ContextIsSome c) b e =
      rw (get_or-map status_of s.contexts (context_place c) Unset)
      (agrees_by (some_same (context_slot s c)) (rw (get_or-map value_of s.contexts (context_place c) Unset) at e))
  test_finds (test.OperationIsSome o) b e =
      rw (get_or-map status_of s.operations (operation_place (Removed o)) Unset)
      (agrees_by (some_same (operation_slot s (Removed o)))
      (rw (get_or-map value_of s.operations (operation_place (Removed o)) Unset) at e))
  test_finds (test.Equal n x) b e = refl
  test_finds (test.Less n x) b e = refl
  test_finds test.IsDraining b e = agrees_by refl e
  test_finds test.IsIrp b e = absurd (cc)

  -- a test, where what it asks is known
  test_good : (span : Span) (t : Test) (granted refused : List Statement) →
      out-Statement st ≡ Statement-F.If span (condition.Test t) granted refused →
      (o : Option Bool) → holds_test draining (plain old) t ≡ o →
      AfterStep (option_map (moved_on p m.trace m.world a)
      (option_map (λ b. goes_on_to ((if b then granted else refused) ++ rest) (plain old)) o)) (Good p m)
  test_good span t granted refused e None h = tt
  test_good span t granted refused e (Some b) h =
      let i = if_here (spot at) span (condition.Test t) granted refused e in
      onward (instruction.Test t i.0 i.1.0) i.1.1 b true (test_finds t b h) ((if b then granted else refused) ++ rest)
      (ap (λ x. remaining_of x rest b) e) refl

  -- a choice: by a test it is a local step, by a call it isn't
  if_good : (span : Span) (asked : Condition) (granted refused : List Statement) →
      out-Statement st ≡ Statement-F.If span asked granted refused →
      AfterStep (option_map (moved_on p m.trace m.world a)
      (option_map (λ b. goes_on_to ((if b then granted else refused) ++ rest) (plain old))
      (holds_condition draining (plain old) asked))) (Good p m)
  if_good span (condition.Test t) granted refused e = test_good span t granted refused e (holds_test draining (plain old) t) refl
  if_good span (condition.Succeeds c) granted refused e = tt

  -- ---- repetitions

  -- a repetition with the turns that are left
  turns_good : (span : Span) (turns : ℕ) (block : List Statement) → out-Statement st ≡ Statement-F.Repeat span turns block →
      Good p m (moved_on p m.trace m.world a (goes_on_to (turns_left span turns block rest) (plain old)))
  turns_good span zero block e =
      let i = repeat_here (spot at) span 0 block e in
      onward (instruction.Repeat i.0 i.1.0 i.1.1.0) i.1.1.1 false true refl rest (ap (λ x. remaining_of x rest false) e) refl
  turns_good span (suc turns) block e =
      let i = repeat_here (spot at) span (suc turns) block e in
      onward (instruction.Repeat i.0 i.1.0 i.1.1.0) i.1.1.1 true true refl (block ++ tree.Repeat span turns block ∷ rest)
      (ap (λ x. remaining_of x rest true) e)
      refl

  -- ---- actions

  -- a context variable that holds nothing is cleared
  clear_context : (span : Span) (c : ContextVariable) → out-Statement st ≡ Statement-F.Act span (action.ClearContext c) →
      Good p m (moved_on p m.trace m.world a (goes_on_to rest (with_context_in (plain old) c None)))
  clear_context span c e =
      let q = spot at in
      let i = act_here q span (action.ClearContext c) e in
      let f : Fine (breaks (setting_here q) q.state (instruction.Act (action.ClearContext c) i.0)) =
      fine q (instruction.Act (action.ClearContext c) i.0) i.1 in
      let new = put_context (with_rest s rest) c Unset in
      let placed = goes_on q (instruction.Act (action.ClearContext c) i.0) i.1 true true refl rest (ap (λ x. remaining_of x rest true) e) in
      quiet old new (goes_on_to rest (with_context_in (plain old) c None)) at refl (sym (plain-put_context (with_rest s rest) c Unset))
      (λ on. record {
        placed = rw (map-set status_of s.contexts (context_place c) Unset) placed;
        given = was.given;
        removed = was.removed;
        wide = length-set s.contexts (context_place c) Unset ∙ was.wide;
        broad = was.broad;
      })
      (λ x. own_all-cleared x s.contexts (context_place c) Unset
      (not_held q.state.contexts s.contexts (context_place c) x q.means.contexts f.r03) refl)
      (λ v. refl)

  -- a variable of a removed operation that holds nothing is cleared
  clear_operation : (span : Span) (o : RemovedVariable) → out-Statement st ≡ Statement-F.Act span (action.ClearOperation o) →
      Good p m (moved_on p m.trace m.world a (goes_on_to rest (with_operation_in (plain old) (Removed o) None)))
  clear_operation span o e =
      let q = spot at in
      let i = act_here q span (action.ClearOperation o) e in
      let f : Fine (breaks (setting_here q) q.state (instruction.Act (action.ClearOperation o) i.0)) =
      fine q (instruction.Act (action.ClearOperation o) i.0) i.1 in
      let new = put_operation (with_rest s rest) (Removed o) Unset in
      let placed = goes_on q (instruction.Act (action.ClearOperation o) i.0) i.1 true true refl rest
      (ap (λ x. remaining_of x rest true) e) in
      quiet old new (goes_on_to rest (with_operation_in (plain old) (Removed o) None)) at refl
      (sym (plain-put_operation (with_rest s rest) (Removed o) Unset))
      (λ on. record {
        placed = rw (map-set status_of s.operations (operation_place (Removed o)) Unset) placed;
        given = rw (data_stays s.operations o Unset) was.given;
        removed = λ r v h. was.removed r v (owned_before s.operations (operation_place (Removed o))
            (operation_place (Removed r)) Unset v h (λ h. absurd (cc)));
        wide = was.wide;
        broad = length-set s.operations (operation_place (Removed o)) Unset ∙ was.broad;
      })
      (λ x. refl)
      (λ v. own_all-cleared v s.operations (operation_place (Removed o)) Unset
      (not_held q.state.operations s.operations (operation_place (Removed o)) v q.means.operations f.r03) refl)

  -- a number is set
  set_number : (span : Span) (n : NumberVariable) (x : Expression) → out-Statement st ≡ Statement-F.Act span (action.SetNumber n x) →
      Good p m (moved_on p m.trace m.world a (goes_on_to rest (with_number (plain old) n (expression_value (plain old) x))))
  set_number span n x e =
      let i = act_here (spot at) span (action.SetNumber n x) e in
      let placed = goes_on (spot at) (instruction.Act (action.SetNumber n x) i.0) i.1 true true refl rest
      (ap (λ x. remaining_of x rest true) e) in
      quiet old (record (with_rest s rest) { numbers = set s.numbers (number_place n) (expression_value (plain old) x) })
      (goes_on_to rest (with_number (plain old) n (expression_value (plain old) x))) at refl refl
      (λ on. record { placed = placed; given = was.given; removed = was.removed; wide = was.wide; broad = was.broad })
      (λ x. refl) (λ v. refl)

  -- an action that is a local step
  action_good : (span : Span) (x : Action) → out-Statement st ≡ Statement-F.Act span x →
      AfterStep (option_map (moved_on p m.trace m.world a) (option_map (goes_on_to rest) (after_action (plain old) x))) (Good p m)
  action_good span (action.SetNumber n x) e = set_number span n x e
  action_good span (action.ClearContext c) e = clear_context span c e
  action_good span (action.ClearOperation o) e = clear_operation span o e
  action_good span (action.ReadValue n c) e = tt
  action_good span (action.ReadFile n d) e = tt
  action_good span (action.WriteValue c x) e = tt

  -- the first statement, by its layer
  statement_good : (layer : Statement-F Statement) → out-Statement st ≡ layer →
      AfterStep (option_map (moved_on p m.trace m.world a) (after_statement draining (plain old) rest layer)) (Good p m)
  statement_good (Statement-F.Act span x) e = action_good span x e
  statement_good (Statement-F.Call span c) e = tt
  statement_good (Statement-F.Return span status) e = tt
  statement_good (Statement-F.If span asked granted refused) e = if_good span asked granted refused e
  statement_good (Statement-F.Repeat span turns block) e = turns_good span turns block e

-- ---- a local step of an activation of a moment

-- what remains, if anything
list_good : {p : List Filter} {m : Moment} {a : ℕ} (s : Shadow) (list : List Statement) → IsAt p m a (with_rest s list) →
    AfterStep (option_map (moved_on p m.trace m.world a)
    (local_step (actor_at m.world a).draining (plain (with_rest s list)) list)) (Good p m)
list_good s [] at = tt
list_good s (st ∷ rest) at = statement_good s st rest at (out-Statement st) refl

-- an activation that runs, and one that has ended
local_by : (p : List Filter) (m : Moment) (k : Kept p m) (a : ℕ) (s : Shadow) (ended : Bool) → get_or k.shadows a no_one ≡ s →
    s.ended ≡ ended →
    (ended ≡ false → (v : ℕ) → Has m.trace a (Visit v) → is_settled m.world.store v ≡ false) →
    AfterStep (if ended then None else option_map (moved_on p m.trace m.world a)
    (local_step (actor_at m.world a).draining (plain s) s.rest)) (Good p m)
local_by p m k a s true e on owned = tt
local_by p m k a s false e on owned = list_good s s.rest (record { kept = k; is = e; on = on; owned = owned refl })

-- a local step is good
pub local_good : (p : List Filter) (m : Moment) → Kept p m → (a : ℕ) → AfterStep (next p m (Local a)) (Good p m)
local_good p m k a =
    let s = get_or k.shadows a no_one in
    let e : activation_at m.world a ≡ plain s = ap (λ l. get_or l a nobody) k.same ∙ get_or-map plain k.shadows a no_one in
    rw e (local_by p m k a s s.ended refl refl (λ on v h. owned_of k a v h))
