-- The bridge from the machine to the certificate. An activation that runs has a remaining list; the list stands at a point of its
-- callback's graph, the certificate has a state there, and the state means the activation's situation (`Placed`). Then no rule is broken
-- at the point (`fine`), and after each outcome it is placed again (`goes_on`). No other file speaks of graphs and states at once.
-- Here p is the program, f a filter's number in it, t a situation, q a place, i the instruction at its point.
use Rattle.std.proofs.Common.{◌≡◌, ℕ, zero, suc, ◌<◌, Bool, true, false, List, [], ◌∷◌, length}
use Rattle.std.proofs.Common.{Option, Some, None, Ok, ap, sym, subst, refl, ◌∙◌, arith}
use Rattle.std.specs.Prelude.{IsTrue, slice_get, slice_index_or, find, cond}
use Rattle.std.proofs.Math.ListN.{get_or}
use Rattle.flt_rules.specs.declared.place.Operation.{Operation}
use Rattle.flt_rules.specs.declared.place.Place.{Place}
use Rattle.flt_rules.specs.declared.rule.Rule.{Rule}
use Rattle.flt_rules.specs.declared.rule.Rule.TheVariants.{R01, R02, R03, R04, R05, R06, R07, R08, R09, R10, R11, R13, R15}
use Rattle.flt_tree.specs.Filter.{head_place}
use Rattle.flt_tree.specs.Registered.{has_post, are_paired}
use Rattle.flt_tree.specs.WellFormed.{IsWellFormed}
use Rattle.flt_tree.specs.declared.filter.Action.{Action}
use Rattle.flt_tree.specs.declared.filter.Callback.{Callback}
use Rattle.flt_tree.specs.declared.filter.Condition.{Condition}
use Rattle.flt_tree.specs.declared.filter.Filter.{Filter}
use Rattle.flt_tree.specs.declared.filter.PlainCall.{PlainCall}
use Rattle.flt_tree.specs.declared.filter.Span.{Span}
use Rattle.flt_tree.specs.declared.filter.Statement.{Statement, out-Statement}
use Rattle.flt_tree.specs.declared.filter.Statement.TheOpen.{Statement-F}
use Rattle.flt_tree.specs.declared.filter.Status.{Status}
use Rattle.flt_graph.specs.Graph.{point_in, callback_at, place_at, instruction_at, points_at}
use Rattle.flt_graph.specs.Lowering.{AreGraphsOf, IsGraphOf, IsLowered, end_of}
use Rattle.flt_graph.specs.Points.{Stands, end, before, again, StandsAt, IsFirst, IsLeftOf, instruction_of, choice, remaining, successor}
use Rattle.flt_graph.specs.Served.{IsInstructionServed}
use Rattle.flt_graph.specs.declared.graph.CallbackGraph.{CallbackGraph}
use Rattle.flt_graph.specs.declared.graph.Graph.{Graph}
use Rattle.flt_graph.specs.declared.graph.Point.{Point}
use Rattle.flt_graph.specs.declared.instruction.Instruction.{Instruction}
use Rattle.flt_graph.specs.declared.instruction.Instruction.TheVariants as instruction
use Rattle.flt_graph.specs.declared.instruction.ResolvedCall.TheVariants as resolved
use Rattle.flt_abs.specs.Breaks.{breaks, rules, first_broken}
use Rattle.flt_abs.specs.Outcome.{may_come_out, leaves, side, Reaches}
use Rattle.flt_abs.specs.Setting as abs
use Rattle.flt_abs.specs.Setting.{setting_of}
use Rattle.flt_abs.specs.declared.setting.Setting.{Setting}
use Rattle.flt_abs.specs.State.{State, Situation, Means, IsBelow, is_below}
use Rattle.flt_abs.specs.Step.{transfer, unless_broken, leads_to}
use Rattle.flt_abs.specs.declared.step.Successor.{Successor}
use Rattle.flt_abs.specs.declared.step.Successors.{Successors}
use Rattle.flt_cert.specs.Format.{Certificate}
use Rattle.flt_check.specs.Covering.{Covers, IsLed, state_at}
use Rattle.flt_sound.proofs.sums.Eaches.{within}

-- ---- what the crates below prove

-- the laws on which the bridge rests, as the clauses of the crates below say them
pub record Laws : Type 0 where
  -- a body stands at its first point
  pub whole : (body : List Statement) → Stands body 0 body
  -- the point where a list stands is that of its first statement, or of the end
  pub first : (all : List Callback) (c : Callback) (g : CallbackGraph) (p : ℕ) (list : List Statement) → IsGraphOf all c g →
      Stands c.body p list → IsFirst all (end_of c) p list (point_in g p)
  -- what remains after an outcome stands at the point's successor
  pub next : (all : List Callback) (c : Callback) (g : CallbackGraph) (p : ℕ) (list : List Statement) (outcome : Bool) → IsGraphOf all c g →
      Stands c.body p list → StandsAt c.body (successor (point_in g p).instruction outcome) (remaining list outcome)
  -- a lowered filter has a graph for each callback
  pub count : (f : Filter) (g : Graph) → IsLowered f g → length g.callbacks ≡ length f.callbacks
  -- and it is the callback's
  pub each : (f : Filter) (g : Graph) (k : ℕ) (c : Callback) → IsLowered f g → slice_get f.callbacks k ≡ Some c →
      IsGraphOf f.callbacks c (callback_at g k)
  -- where the machine goes, the transfer goes: its state there means the machine's situation
  pub follows : (g : Graph) (k p : ℕ) (x : State) (t : Situation) (next : Successors) (outcome gives : Bool) → transfer g k p x ≡ Ok next →
      Means x t → may_come_out (instruction_at g k p) t outcome ≡ true →
      Reaches (side next outcome) (successor (instruction_at g k p) outcome) (leaves (instruction_at g k p) outcome gives t)
  -- what an instruction names is there
  pub served : (f : Filter) (g : Graph) (k n : ℕ) → IsWellFormed f → IsLowered f g →
      IsInstructionServed f.callbacks (place_at g k) (instruction_at g k n)
  -- the graphs have the post callbacks of the callbacks
  pub posts : (all cs : List Callback) (gs : List CallbackGraph) (kind : Operation) → AreGraphsOf all cs gs →
      abs.has_post gs kind ≡ has_post cs kind
  -- and are paired where the callbacks are
  pub pairs : (cs : List Callback) (gs : List CallbackGraph) → AreGraphsOf cs cs gs → abs.are_paired gs ≡ are_paired cs
  -- a state that is computed to be below another means less
  pub below : (a b : State) → IsTrue (is_below a b) → IsBelow a b

-- ---- an activation's place in its text

-- a certificate has a state at a callback's point, and it means the situation
pub record IsMeant (cert : Certificate) (number point : ℕ) (t : Situation) : Type 0 where
  -- the state
  pub state : State
  -- it is there
  pub reached : state_at cert number point ≡ Some state
  -- it means the situation
  pub means : Means state t

-- a callback of an accepted filter, at a point where this list remains, in a state that means this situation
pub record Placed (p : List Filter) (f : ℕ) (place : Place) (rest : List Statement) (t : Situation) : Type 0 where
  -- what the crates below prove
  pub laws : Laws
  -- the filter
  pub filter : Filter
  -- the callback that runs
  pub callback : Callback
  -- the filter's graph
  pub graph : Graph
  -- its certificate
  pub cert : Certificate
  -- the callback's number in the filter
  pub number : ℕ
  -- the point at which it stands
  pub point : ℕ
  -- the certificate's state at that point
  pub state : State
  -- the filter is the program's of that number
  pub there : slice_get p f ≡ Some filter
  -- it is accepted: it is well-formed, the graph is made of it, the certificate covers the graph
  pub well_formed : IsWellFormed filter
  pub lowered : IsLowered filter graph
  pub covers : Covers graph cert
  -- the callback is the filter's of that number
  pub declared : slice_get filter.callbacks number ≡ Some callback
  -- its head says the place
  pub place_is : place ≡ head_place callback.head
  -- what remains stands at the point
  pub stands : Stands callback.body point rest
  -- the certificate has the state there
  pub reached : state_at cert number point ≡ Some state
  -- the state means the situation
  pub means : Means state t
  -- and so it is of each certificate that covers the filter's graph
  pub covered : (g : Graph) (k : Certificate) → IsLowered filter g → Covers g k → IsMeant k number point t

-- ---- rules that aren't broken

-- a test of rules that finds none of them broken, rule by rule
pub record Fine (test : Rule → Bool) : Type 0 where
  pub r01 : test R01 ≡ false
  pub r02 : test R02 ≡ false
  pub r03 : test R03 ≡ false
  pub r04 : test R04 ≡ false
  pub r05 : test R05 ≡ false
  pub r06 : test R06 ≡ false
  pub r07 : test R07 ≡ false
  pub r08 : test R08 ≡ false
  pub r09 : test R09 ≡ false
  pub r10 : test R10 ≡ false
  pub r11 : test R11 ≡ false
  pub r13 : test R13 ≡ false
  pub r15 : test R15 ≡ false

fails_by : (b : Bool) (r : Rule) (o : Option Rule) → cond b (Some r) o ≡ None → (b ≡ false) × (o ≡ None)
fails_by true r o e = absurd (cc)
fails_by false r o e = (refl, e)

-- where no rule of a list is found broken, the one at each number isn't
fails_at : (test : Rule → Bool) (rs : List Rule) (i : ℕ) → find test rs ≡ None → i < length rs → test (get_or rs i R01) ≡ false
fails_at test [] i e h = absurd (omega arith)
fails_at test (r ∷ rs) zero e h = (fails_by (test r) r (find test rs) e).0
fails_at test (r ∷ rs) (suc i) e h = fails_at test rs i (fails_by (test r) r (find test rs) e).1 (omega arith)

fine_of : (test : Rule → Bool) → find test rules ≡ None → Fine test
fine_of test e = record {
  r01 = fails_at test rules 0 e (omega arith);
  r02 = fails_at test rules 1 e (omega arith);
  r03 = fails_at test rules 2 e (omega arith);
  r04 = fails_at test rules 3 e (omega arith);
  r05 = fails_at test rules 4 e (omega arith);
  r06 = fails_at test rules 5 e (omega arith);
  r07 = fails_at test rules 6 e (omega arith);
  r08 = fails_at test rules 7 e (omega arith);
  r09 = fails_at test rules 8 e (omega arith);
  r10 = fails_at test rules 9 e (omega arith);
  r11 = fails_at test rules 10 e (omega arith);
  r13 = fails_at test rules 11 e (omega arith);
  r15 = fails_at test rules 12 e (omega arith);
}

-- a transfer that succeeds has found no broken rule
none_broken : (b : Option Rule) (n m : Successors) → unless_broken b n ≡ Ok m → b ≡ None
none_broken (Some r) n m e = absurd (cc)
none_broken None n m e = refl

-- ---- the point

-- a state that is there has its point
pub reached_within : (points : List (Option State)) (n : ℕ) (x : State) → slice_index_or points n None ≡ Some x → n < length points
reached_within points n x e = within points n None (λ d. let past : slice_index_or points n None ≡ None = d in absurd (cc))

-- a state that is there has its callback
pub callback_within : (k : Certificate) (n m : ℕ) (x : State) → state_at k n m ≡ Some x → n < length k
callback_within k n m x e =
    within k n [] (λ d.
    let none : state_at k n m ≡ None = ap (λ l. slice_index_or l m None) d in absurd (cc))

module _ {p : List Filter} {f : ℕ} {place : Place} {rest : List Statement} {t : Situation} (q : Placed p f place rest t) where
  -- the instruction at the point
  abbrev pub here : Instruction
  here = instruction_at q.graph q.number q.point

  callback_there : q.number < length q.graph.callbacks
  callback_there = let h = callback_within q.cert q.number q.point q.state q.reached in omega (arith, q.covers.callbacks)

  point_there : q.point < points_at q.graph q.number
  point_there =
      let h = reached_within (slice_index_or q.cert q.number []) q.point q.state q.reached in
      omega (arith, q.covers.points q.number callback_there)

  -- the setting by which the rules judge it
  abbrev pub setting_here : Setting
  setting_here = setting_of q.graph q.number q.state

  -- no rule is broken at the point
  pub fine : (i : Instruction) → here ≡ i → Fine (breaks setting_here q.state i)
  fine i e =
      let steps = q.covers.steps q.number q.point q.state callback_there point_there q.reached in
      let none : first_broken setting_here q.state here ≡ None =
      none_broken (first_broken setting_here q.state here) (leads_to q.state here) steps.0 steps.1 in
      fine_of (breaks setting_here q.state i) (subst (λ j. first_broken setting_here q.state j ≡ None) e none)

-- ---- the filter's graph is one

-- two graphs of a callback have one point where a list of its text stands
same_at : (all : List Callback) (c : Callback) (g h : CallbackGraph) (n : ℕ) (list : List Statement) → IsGraphOf all c g →
    IsGraphOf all c h →
    Stands c.body n list → point_in g n ≡ point_in h n
same_at all c g h n list x y end = x.end ∙ sym y.end
same_at all c g h n list x y (before i) = x.statements _ _ _ _ _ i ∙ sym (y.statements _ _ _ _ _ i)
same_at all c g h n list x y (again i e less) = x.statements _ _ _ _ _ i ∙ sym (y.statements _ _ _ _ _ i)

-- ---- where it goes on

module _ {p : List Filter} {f : ℕ} {place : Place} {rest : List Statement} {t : Situation} (q : Placed p f place rest t) where
  -- the graph there is the callback's
  pub graph_of : IsGraphOf q.filter.callbacks q.callback (callback_at q.graph q.number)
  graph_of = q.laws.each q.filter q.graph q.number q.callback q.lowered q.declared

  -- what stands at the point is the same in each graph of the filter
  pub same_here : (g : Graph) → IsLowered q.filter g → instruction_at g q.number q.point ≡ here q
  same_here g low = ap (λ (x : Point). x.instruction)
      (same_at q.filter.callbacks q.callback (callback_at g q.number) (callback_at q.graph q.number) q.point rest
      (q.laws.each q.filter g q.number q.callback low q.declared) graph_of q.stands)

  -- a successor that a certificate covers has a state there
  led_to : (k : Certificate) (o : Option Successor) (to : Option ℕ) (n : ℕ) (u : Situation) → Reaches o to u → IsLed k q.number o →
      to ≡ Some n → IsMeant k q.number n u
  led_to k None to n u r l e = absurd r
  led_to k (Some s) to n u r l e =
      let both : Some s.point ≡ Some n = r.0 ∙ e in
      let same : s.point ≡ n = cc in
      record {
        state = l.0;
        reached = subst (λ i. state_at k q.number i ≡ Some l.0) same l.1;
        means = (q.laws.below s.state l.0 l.2).situations u r.1;
      }

  led_side : (k : Certificate) (next : Successors) (outcome : Bool) → IsLed k q.number next.first → IsLed k q.number next.second →
      IsLed k q.number (side next outcome)
  led_side k next true a b = a
  led_side k next false a b = b

  -- each certificate that covers a graph of the filter has a state at the successor that means what an outcome leaves
  covered_on : (outcome gives : Bool) → may_come_out (here q) t outcome ≡ true → (n : ℕ) → successor (here q) outcome ≡ Some n →
      (g : Graph) (k : Certificate) → IsLowered q.filter g → Covers g k → IsMeant k q.number n (leaves (here q) outcome gives t)
  covered_on outcome gives may n e g k low cov =
      let x = q.covered g k low cov in
      let same = same_here g low in
      let number : q.number < length g.callbacks =
      (let h = callback_within k q.number q.point x.state x.reached in omega (arith, cov.callbacks)) in
      let point : q.point < points_at g q.number =
      (let h = reached_within (slice_index_or k q.number []) q.point x.state x.reached in omega (arith, cov.points q.number number)) in
      let steps = cov.steps q.number q.point x.state number point x.reached in
      let may' : may_come_out (instruction_at g q.number q.point) t outcome ≡ true =
      subst (λ j. may_come_out j t outcome ≡ true) (sym same) may in
      let reaches = q.laws.follows g q.number q.point x.state t steps.0 outcome gives steps.1 x.means may' in
      subst (λ j. IsMeant k q.number n (leaves j outcome gives t)) same
      (led_to k (side steps.0 outcome) (successor (instruction_at g q.number q.point) outcome) n
      (leaves (instruction_at g q.number q.point) outcome gives t) reaches (led_side k steps.0 outcome steps.2 steps.3)
      (ap (λ j. successor j outcome) same ∙ e))

  -- a successor that the certificate covers is a place again
  led_on : (o : Option Successor) (to : Option ℕ) (list : List Statement) (u : Situation) → Reaches o to u → IsLed q.cert q.number o →
      StandsAt q.callback.body to (Some list) →
      ((n : ℕ) → to ≡ Some n → (g : Graph) (k : Certificate) → IsLowered q.filter g → Covers g k → IsMeant k q.number n u) →
      Placed p f place list u
  led_on None to list u r l s c = absurd r
  led_on (Some n) to list u r l s c =
      let stands : StandsAt q.callback.body (Some n.point) (Some list) = subst (λ o. StandsAt q.callback.body o (Some list)) (sym r.0) s in
      record {
        laws = q.laws;
        filter = q.filter;
        callback = q.callback;
        graph = q.graph;
        cert = q.cert;
        number = q.number;
        point = n.point;
        state = l.0;
        there = q.there;
        well_formed = q.well_formed;
        lowered = q.lowered;
        covers = q.covers;
        declared = q.declared;
        place_is = q.place_is;
        stands = stands;
        reached = l.1;
        means = (q.laws.below n.state l.0 l.2).situations u r.1;
        covered = c n.point (sym r.0);
      }

  led : (next : Successors) (outcome : Bool) → IsLed q.cert q.number next.first → IsLed q.cert q.number next.second →
      IsLed q.cert q.number (side next outcome)
  led next true a b = a
  led next false a b = b

  -- after an outcome of the first statement it is placed at what then remains, in the situation that the outcome leaves
  pub goes_on : (i : Instruction) → here q ≡ i → (outcome gives : Bool) → may_come_out i t outcome ≡ true → (list : List Statement) →
      remaining rest outcome ≡ Some list →
      Placed p f place list (leaves i outcome gives t)
  goes_on i e outcome gives may list r =
      let steps = q.covers.steps q.number q.point q.state (callback_there q) (point_there q) q.reached in
      let may' : may_come_out (here q) t outcome ≡ true = subst (λ j. may_come_out j t outcome ≡ true) (sym e) may in
      let reaches = q.laws.follows q.graph q.number q.point q.state t steps.0 outcome gives steps.1 q.means may' in
      let stands : StandsAt q.callback.body (successor (here q) outcome) (Some list) =
      subst (λ o. StandsAt q.callback.body (successor (here q) outcome) o) r
      (q.laws.next q.filter.callbacks q.callback (callback_at q.graph q.number) q.point rest outcome graph_of q.stands) in
      subst (λ j. Placed p f place list (leaves j outcome gives t)) e
      (led_on (side steps.0 outcome) (successor (here q) outcome) list (leaves (here q) outcome gives t) reaches
      (led steps.0 outcome steps.2 steps.3) stands (covered_on outcome gives may'))

-- ---- the instruction at the point is that of the first statement

module _ {p : List Filter} {f : ℕ} {place : Place} {t : Situation} where
  -- where nothing remains, the point is the end
  pub end_here : (q : Placed p f place [] t) → here q ≡ instruction.End
  end_here q = ap (λ (x : Point). x.instruction)
      (q.laws.first q.filter.callbacks q.callback (callback_at q.graph q.number) q.point [] (graph_of q) q.stands)

module _ {p : List Filter} {f : ℕ} {place : Place} {s : Statement} {rest : List Statement} {t : Situation}
    (q : Placed p f place (s ∷ rest) t) where
  -- the point's instruction is that of a statement of the text, of which this layer is left
  record FirstHere (layer : Statement-F Statement) : Type 0 where
    text : Statement-F Statement
    after : ℕ
    left : IsLeftOf layer text
    is : here q ≡ instruction_of q.filter.callbacks text q.point after

  first_here : (layer : Statement-F Statement) → out-Statement s ≡ layer → FirstHere layer
  first_here layer e =
      let h = q.laws.first q.filter.callbacks q.callback (callback_at q.graph q.number) q.point (s ∷ rest) (graph_of q) q.stands in
      record { text = h.0; after = h.1.0; left = subst (λ x. IsLeftOf x h.0) e h.1.1.0; is = ap (λ (x : Point). x.instruction) h.1.1.1 }

  -- the layer that the text has at the point, where it is known
  same_there : {layer : Statement-F Statement} (h : FirstHere layer) (known : Statement-F Statement) → h.text ≡ known →
      here q ≡ instruction_of q.filter.callbacks known q.point h.after
  same_there h known e = subst (λ x. here q ≡ instruction_of q.filter.callbacks x q.point h.after) e h.is

  -- an action's point is that action
  pub act_here : (span : Span) (a : Action) → out-Statement s ≡ Statement-F.Act span a → (after : ℕ) × (here q ≡ instruction.Act a after)
  act_here span a e = let h = first_here (Statement-F.Act span a) e in (h.after, same_there h (Statement-F.Act span a) h.left)

  -- a plain call's point is that call, which goes on to one point
  pub call_here : (span : Span) (c : PlainCall) → out-Statement s ≡ Statement-F.Call span c → (after : ℕ)
      × (here q ≡ instruction.Call (resolved.Plain c) after after)
  call_here span c e = let h = first_here (Statement-F.Call span c) e in (h.after, same_there h (Statement-F.Call span c) h.left)

  -- a return's point is that return
  pub return_here : (span : Span) (st : Option Status) → out-Statement s ≡ Statement-F.Return span st → here q ≡ instruction.Return st
  return_here span st e = let h = first_here (Statement-F.Return span st) e in same_there h (Statement-F.Return span st) h.left

  -- a choice's point is its test, or its call that can fail
  pub if_here : (span : Span) (asked : Condition) (granted refused : List Statement) →
      out-Statement s ≡ Statement-F.If span asked granted refused →
      (a : ℕ) × ((b : ℕ) × (here q ≡ choice q.filter.callbacks asked a b))
  if_here span asked granted refused e =
      let h = first_here (Statement-F.If span asked granted refused) e in
      (_, (_, same_there h (Statement-F.If span asked granted refused) h.left))

  -- a repetition's point is a repetition, of some number of turns
  pub repeat_here : (span : Span) (left : ℕ) (block : List Statement) → out-Statement s ≡ Statement-F.Repeat span left block →
      (turns : ℕ) × ((a : ℕ) × ((b : ℕ) × (here q ≡ instruction.Repeat turns a b)))
  repeat_here span left block e =
      let h = first_here (Statement-F.Repeat span left block) e in
      let turns = h.left.0 in
      (turns, (_, (_, same_there h (Statement-F.Repeat span turns block) h.left.1.1)))
