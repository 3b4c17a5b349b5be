-- A local step of a standing is the machine's: it leads to a standing for what remains, or there is none where others see the step.
use Rattle.std.proofs.Common.{◌≡◌, ℕ, zero, suc, ◌+◌, ◌-◌, ◌≤◌, Bool, true, false, nat_lt, List, []}
use Rattle.std.proofs.Common.{◌∷◌, ◌++◌, length, Option, Some, None, refl, sym, ap, subst, arith}
use Rattle.std.specs.Prelude.{slice_get, option_map, if◌then◌else◌}
use Rattle.std.proofs.lemmas.Bool.{lt-ltb}
use Rattle.flt_rules.specs.Limits.{max_repeats}
use Rattle.flt_tree.specs.Measures.{cost}
use Rattle.flt_tree.specs.WellFormed.{IsWellFormed}
use Rattle.flt_tree.specs.declared.filter.Action.{Action}
use Rattle.flt_tree.specs.declared.filter.Action.TheVariants as action
use Rattle.flt_tree.specs.declared.filter.Callback.{Callback}
use Rattle.flt_tree.specs.declared.filter.Condition.TheVariants as condition
use Rattle.flt_tree.specs.declared.filter.Filter.{Filter}
use Rattle.flt_tree.specs.declared.filter.Span.{Span}
use Rattle.flt_tree.specs.declared.filter.Statement.{Statement, out-Statement}
use Rattle.flt_tree.specs.declared.filter.Statement.TheOpen.{Statement-F}
use Rattle.flt_tree.specs.declared.filter.Statement.TheVariants as tree
use Rattle.flt_tree.specs.declared.filter.Test.{Test}
use Rattle.flt_tree.specs.declared.filter.Test.TheVariants as test
use Rattle.flt_tree.specs.declared.variable.Atom.{Atom}
use Rattle.flt_tree.specs.declared.variable.Atom.TheVariants as atom
use Rattle.flt_tree.specs.declared.variable.Expression.{Expression}
use Rattle.flt_tree.specs.declared.variable.Expression.TheVariants as expression
use Rattle.flt_graph.specs.Graph.{point_in, callback_at, instruction_at}
use Rattle.flt_graph.specs.Lowering.{IsGraphOf, IsLowered, end_of}
use Rattle.flt_graph.specs.Points.{entry, instruction_of, Stands, IsFirst, IsLeftOf, remaining, remaining_of, successor}
use Rattle.flt_graph.specs.Turns.{StandsWith, StandsAtWith, HasLeft, left_at, turns_after, turns_round}
use Rattle.flt_graph.specs.declared.graph.CallbackGraph.{CallbackGraph}
use Rattle.flt_graph.specs.declared.graph.Graph.{Graph}
use Rattle.flt_graph.specs.declared.graph.Point.{Point}
use Rattle.flt_graph.specs.declared.instruction.Instruction.{Instruction}
use Rattle.flt_graph.specs.declared.instruction.Instruction.TheVariants as instruction
use Rattle.flt_graph.specs.declared.turns.Turn.{Turn}
use Rattle.flt_model.specs.LocalSteps.{after_action, after_statement, goes_on_to, holds_test, local_step}
use Rattle.flt_model.specs.Program.{body_of}
use Rattle.flt_model.specs.Variables.{atom_value, expression_value}
use Rattle.flt_model.specs.World.{Activation}
use Rattle.flt_machine_frames.proofs.Missing.{nothing_stands, end_at}
use Rattle.flt_machine_frames.specs.Loading.{IsLoaded}
use Rattle.flt_machine_frames.specs.Standings.{activation_with}
use Rattle.flt_machine_frames.specs.Steps.{turned_with, stepped}
use Rattle.flt_machine_frames.specs.declared.standing.Standing.{Standing}

-- ---- what the crate below proves

-- the laws of points and turns, as the clauses of flt_graph say them
pub record Laws : Type 0 where
  -- the point where a list stands is that of its first statement, or of the end
  pub first : (all : List Callback) (c : Callback) (g : CallbackGraph) (p : ℕ) (list : List Statement) → IsGraphOf all c g →
      Stands c.body p list → IsFirst all (end_of c) p list (point_in g p)
  -- a lowered filter has a graph for each callback
  pub each : (f : Filter) (g : Graph) (k : ℕ) (c : Callback) → IsLowered f g → slice_get f.callbacks k ≡ Some c →
      IsGraphOf f.callbacks c (callback_at g k)
  -- what remains after an outcome stands at the point's successor, with the turns after it
  pub next : (all : List Callback) (c : Callback) (g : CallbackGraph) (p : ℕ) (turns : List Turn) (list : List Statement) (outcome : Bool) →
      IsGraphOf all c g → StandsWith c.body p turns list →
      StandsAtWith c.body (successor (point_in g p).instruction outcome) (turns_after (point_in g p).instruction p outcome turns)
      (remaining list outcome)
  -- a `repeat` has as many turns left as its point
  pub left : (all : List Callback) (c : Callback) (g : CallbackGraph) (p : ℕ) (turns : List Turn) (s : Statement) (rest : List Statement) →
      IsGraphOf all c g → StandsWith c.body p turns (s ∷ rest) → HasLeft p turns (point_in g p).instruction (out-Statement s)
  -- no list that stands costs more than the body
  pub cost : (body : List Statement) (p : ℕ) (turns : List Turn) (list : List Statement) → StandsWith body p turns list →
      cost list ≤ cost body
  -- few turns stand round a list
  pub nested : (f : Filter) (k p : ℕ) (c : Callback) (turns : List Turn) (list : List Statement) → IsWellFormed f →
      slice_get f.callbacks k ≡ Some c → StandsWith c.body p turns list → length turns ≤ max_repeats

-- ---- values don't depend on what remains

module _ (s : Standing) (list : List Statement) where
  atom_same : (x : Atom) → atom_value (activation_with s list) x ≡ atom_value (activation_with s []) x
  atom_same (atom.Number k) = refl
  atom_same (atom.Variable n) = refl

  value_same : (e : Expression) → expression_value (activation_with s list) e ≡ expression_value (activation_with s []) e
  value_same (expression.Atom x) = atom_same x
  value_same (expression.Sum x y) = rw (atom_same x, atom_same y) refl
  value_same (expression.Difference x y) = rw (atom_same x, atom_same y) refl

  test_same : (draining : Bool) (t : Test) → holds_test draining (activation_with s list) t ≡ holds_test draining (activation_with s []) t
  test_same draining (test.ContextIsSome c) = refl
  test_same draining (test.OperationIsSome o) = refl
  test_same draining (test.Equal n x) = rw (atom_same x) refl
  test_same draining (test.Less n x) = rw (atom_same x) refl
  test_same draining test.IsDraining = refl
  test_same draining test.IsIrp = refl

-- ---- one step

-- an activation is led to where a standing stands, or not at all where there is none
abbrev pub Follows : List Statement → Option Activation → Option Standing → Type 0
Follows body o None = o ≡ None
Follows body o (Some t) = (list : List Statement) × ((o ≡ Some (activation_with t list)) × StandsWith body t.point t.turns list)

-- what remains of a layer by an outcome stands behind the instruction of a text
abbrev LeadsOn : List Callback → List Statement → Standing → List Statement → ℕ → Statement-F Statement → Statement-F Statement → Type 0
LeadsOn all body s rest after layer text =
    (outcome : Bool) → StandsAtWith body (successor (instruction_of all text s.point after) outcome)
    (turns_after (instruction_of all text s.point after) s.point outcome s.turns) (remaining_of layer rest outcome)

-- the step of a layer, and that of the instruction of a text
abbrev FollowsAt : List Callback → List Statement → Bool → Standing → List Statement → List Statement → ℕ →
    Statement-F Statement → Statement-F Statement → Type 0
FollowsAt all body draining s list rest after layer text =
    Follows body (after_statement draining (activation_with s list) rest layer) (stepped draining (instruction_of all text s.point after) s)

module _ (all : List Callback) (body : List Statement) (draining : Bool) (s : Standing) (list rest : List Statement) (after : ℕ) where
  act_follows : (span : Span) (a : Action) → StandsWith body after s.turns rest →
      Follows body (option_map (goes_on_to rest) (after_action (activation_with s list) a)) (stepped draining (instruction.Act a after) s)
  act_follows span (action.SetNumber n e) on =
      (rest, (rw (value_same s list e) refl, on))
  act_follows span (action.ClearContext c) on = (rest, (refl, on))
  act_follows span (action.ClearOperation o) on = (rest, (refl, on))
  act_follows span (action.ReadValue n c) on = refl
  act_follows span (action.ReadFile n d) on = refl
  act_follows span (action.WriteValue c x) on = refl

  chosen_follows : (granted refused : List Statement) (yes_at no_at : ℕ) (o : Option Bool) →
      ((outcome : Bool) → StandsWith body (if outcome then yes_at else no_at) s.turns ((if outcome then granted else refused) ++ rest)) →
      Follows body (option_map (λ (b : Bool). goes_on_to ((if b then granted else refused) ++ rest) (activation_with s list)) o)
      (option_map (λ (b : Bool). record s { point = if b then yes_at else no_at }) o)
  chosen_follows granted refused yes_at no_at None on = refl
  chosen_follows granted refused yes_at no_at (Some b) on = ((if b then granted else refused) ++ rest, (refl, on b))

  test_follows : (span : Span) (t : Test) (granted refused : List Statement) →
      LeadsOn all body s rest after (Statement-F.If span (condition.Test t) granted refused)
      (Statement-F.If span (condition.Test t) granted refused) →
      FollowsAt all body draining s list rest after (Statement-F.If span (condition.Test t) granted refused)
      (Statement-F.If span (condition.Test t) granted refused)
  test_follows span t granted refused on =
      subst (λ (o : Option Bool). Follows body
      (option_map (λ (b : Bool). goes_on_to ((if b then granted else refused) ++ rest) (activation_with s list)) o)
      (stepped draining (instruction_of all (Statement-F.If span (condition.Test t) granted refused) s.point after) s))
      (sym (test_same s list draining t))
      (chosen_follows granted refused _ _ (holds_test draining (activation_with s []) t) on)

  turn_follows : (span : Span) (left text body_at : ℕ) (block : List Statement) →
      ((turns : List Turn) (l : List Statement) → StandsWith body body_at turns l → length turns ≤ max_repeats) →
      left ≡ left_at s.point text s.turns →
      ((outcome : Bool) → StandsAtWith body (Some (if outcome then body_at else after))
      (turns_after (instruction.Repeat text body_at after) s.point outcome s.turns)
      (remaining_of (Statement-F.Repeat span left block) rest outcome)) →
      Follows body (after_statement draining (activation_with s list) rest (Statement-F.Repeat span left block))
      (turned_with left body_at after s)
  turn_follows span zero text body_at block few is on = (rest, (refl, on false))
  turn_follows span (suc left) text body_at block few is on =
      let less : left_at s.point text s.turns - 1 ≡ left = omega arith in
      let stands : StandsWith body body_at (record { point = s.point; left = left } ∷ turns_round s.point s.turns)
      (block ++ tree.Repeat span left block ∷ rest) =
      subst (λ (n : ℕ). StandsWith body body_at (record { point = s.point; left = n } ∷ turns_round s.point s.turns)
      (block ++ tree.Repeat span left block ∷ rest)) less (on true) in
      let most : length (record { point = s.point; left = left } ∷ turns_round s.point s.turns) ≤ max_repeats = few _ _ stands in
      let room : nat_lt (length (turns_round s.point s.turns)) max_repeats ≡ true =
      lt-ltb (length (turns_round s.point s.turns)) max_repeats (omega arith) in
      rw room (block ++ tree.Repeat span left block ∷ rest, (refl, stands))

  -- a statement that the text has so
  text_follows : (layer text : Statement-F Statement) → text ≡ layer →
      (LeadsOn all body s rest after layer layer → FollowsAt all body draining s list rest after layer layer) →
      LeadsOn all body s rest after layer text → FollowsAt all body draining s list rest after layer text
  text_follows layer text is same on =
      subst (λ (x : Statement-F Statement). FollowsAt all body draining s list rest after layer x) (sym is)
      (same (subst (λ (x : Statement-F Statement). LeadsOn all body s rest after layer x) is on))

  -- a `repeat` with so many turns left, where the text has others
  repeat_follows : (span : Span) (left turns : ℕ) (block : List Statement) (text : Statement-F Statement) →
      ((p : ℕ) (ts : List Turn) (l : List Statement) → StandsWith body p ts l → length ts ≤ max_repeats) →
      text ≡ Statement-F.Repeat span turns block → LeadsOn all body s rest after (Statement-F.Repeat span left block) text →
      HasLeft s.point s.turns (instruction_of all text s.point after) (Statement-F.Repeat span left block) →
      FollowsAt all body draining s list rest after (Statement-F.Repeat span left block) text
  repeat_follows span left turns block text few is on counted =
      subst (λ (x : Statement-F Statement). LeadsOn all body s rest after (Statement-F.Repeat span left block) x →
      HasLeft s.point s.turns (instruction_of all x s.point after) (Statement-F.Repeat span left block) →
      FollowsAt all body draining s list rest after (Statement-F.Repeat span left block) x) (sym is) known on counted
    where
      known : LeadsOn all body s rest after (Statement-F.Repeat span left block) (Statement-F.Repeat span turns block) →
          left ≡ left_at s.point turns s.turns →
          FollowsAt all body draining s list rest after (Statement-F.Repeat span left block) (Statement-F.Repeat span turns block)
      known leads e =
          subst (λ (n : ℕ). Follows body (after_statement draining (activation_with s list) rest (Statement-F.Repeat span left block))
          (turned_with n (entry block (s.point + 1) s.point) after s)) e
          (turn_follows span left turns (entry block (s.point + 1) s.point) block (few (entry block (s.point + 1) s.point)) e leads)

  -- a statement, whatever it is
  layer_follows : (layer text : Statement-F Statement) →
      ((p : ℕ) (ts : List Turn) (l : List Statement) → StandsWith body p ts l → length ts ≤ max_repeats) → IsLeftOf layer text →
      LeadsOn all body s rest after layer text → HasLeft s.point s.turns (instruction_of all text s.point after) layer →
      FollowsAt all body draining s list rest after layer text
  layer_follows (Statement-F.Act span a) text few is on counted =
      text_follows (Statement-F.Act span a) text is (λ leads. act_follows span a (leads true)) on
  layer_follows (Statement-F.Call span call) text few is on counted = text_follows (Statement-F.Call span call) text is (λ leads. refl) on
  layer_follows (Statement-F.Return span status) text few is on counted =
      text_follows (Statement-F.Return span status) text is (λ leads. refl) on
  layer_follows (Statement-F.If span (condition.Test t) granted refused) text few is on counted =
      text_follows (Statement-F.If span (condition.Test t) granted refused) text is (λ leads. test_follows span t granted refused leads) on
  layer_follows (Statement-F.If span (condition.Succeeds call) granted refused) text few is on counted =
      text_follows (Statement-F.If span (condition.Succeeds call) granted refused) text is (λ leads. refl) on
  layer_follows (Statement-F.Repeat span left block) text few is on counted = repeat_follows span left is.0 block text few is.1.1 on counted

-- the step of an activation that stands in a callback that is there
step_within : Laws → (f : Filter) (g : Graph) → IsLoaded f g → (c : Callback) (s : Standing) →
    slice_get f.callbacks s.callback ≡ Some c →
    (draining : Bool) (list : List Statement) → StandsWith c.body s.point s.turns list →
    Follows c.body (local_step draining (activation_with s list) list) (stepped draining (instruction_at g s.callback s.point) s)
step_within laws f g loaded c s there draining [] h =
    let made = laws.each f g s.callback c loaded.lowered there in
    let last : instruction_at g s.callback s.point ≡ instruction.End =
    ap (λ (p : Point). p.instruction) (laws.first f.callbacks c (callback_at g s.callback) s.point [] made h.stands) in
    subst (λ (i : Instruction). Follows c.body None (stepped draining i s)) (sym last) refl
step_within laws f g loaded c s there draining (first ∷ rest) h =
    let made = laws.each f g s.callback c loaded.lowered there in
    let is = laws.first f.callbacks c (callback_at g s.callback) s.point (first ∷ rest) made h.stands in
    let at : instruction_at g s.callback s.point ≡ instruction_of f.callbacks is.0 s.point is.1.0 =
    ap (λ (p : Point). p.instruction) is.1.1.1 in
    subst (λ (i : Instruction).
    ((outcome : Bool) → StandsAtWith c.body (successor i outcome) (turns_after i s.point outcome s.turns)
    (remaining_of (out-Statement first) rest outcome)) →
    HasLeft s.point s.turns i (out-Statement first) →
    Follows c.body (after_statement draining (activation_with s (first ∷ rest)) rest (out-Statement first)) (stepped draining i s)) (sym at)
    (layer_follows f.callbacks c.body draining s (first ∷ rest) rest is.1.0 (out-Statement first) is.0
    (λ p ts l stands. laws.nested f s.callback p c ts l loaded.well_formed there stands) is.1.1.0)
    (λ outcome. laws.next f.callbacks c (callback_at g s.callback) s.point s.turns (first ∷ rest) outcome made h)
    (laws.left f.callbacks c (callback_at g s.callback) s.point s.turns first rest made h)

-- the step of an activation that a standing stands for
pub step_follows : Laws → (f : Filter) (g : Graph) → IsLoaded f g → (s : Standing) (draining : Bool) (list : List Statement) →
    StandsWith (body_of (slice_get f.callbacks s.callback)) s.point s.turns list →
    Follows (body_of (slice_get f.callbacks s.callback)) (local_step draining (activation_with s list) list)
    (stepped draining (instruction_at g s.callback s.point) s)
step_follows laws f g loaded s draining list h = by (slice_get f.callbacks s.callback) refl h
  where
    by : (o : Option Callback) → slice_get f.callbacks s.callback ≡ o → StandsWith (body_of o) s.point s.turns list →
        Follows (body_of o) (local_step draining (activation_with s list) list) (stepped draining (instruction_at g s.callback s.point) s)
    by (Some c) there stands = step_within laws f g loaded c s there draining list stands
    by None missing stands =
        let none : local_step draining (activation_with s list) list ≡ None =
        ap (λ (l : List Statement). local_step draining (activation_with s l) l) (nothing_stands stands.stands) in
        subst (λ (i : Instruction). Follows [] (local_step draining (activation_with s list) list) (stepped draining i s))
        (sym (end_at f g s.callback s.point loaded.lowered missing)) none
