-- Successors lead along edges: of one point no more than it has edges.
use Rattle.std.proofs.Common.{◌≡◌, ◌≤◌, ◌+◌, ℕ, Bool, true, false, Option, Some, None}
use Rattle.std.proofs.Common.{Result, Ok, Err, refl, ap, ◌∙◌, subst, arith, inl, inr}
use Rattle.std.specs.Prelude.{◌⊎◌, ◌==◌, if◌then◌else◌}
use Rattle.std.proofs.lemmas.Bool.{eqb-true, eq-eqb, cond-true, cond-false}
use Rattle.std.proofs.lemmas.Option.{same_Some, none-some}
use Rattle.flt_rules.specs.Table.{row}
use Rattle.flt_rules.specs.declared.columns.Effects.{Effects}
use Rattle.flt_rules.specs.declared.rule.Rule.{Rule}
use Rattle.flt_graph.specs.Graph.{instruction_at}
use Rattle.flt_graph.specs.Instruction.{roles}
use Rattle.flt_graph.specs.declared.graph.Graph.{Graph}
use Rattle.flt_graph.specs.declared.instruction.Instruction.{Instruction}
use Rattle.flt_graph.specs.declared.instruction.Instruction.TheVariants as instruction
use Rattle.flt_graph.specs.declared.instruction.Invocation.{Invocation}
use Rattle.flt_abs.specs.State.{State}
use Rattle.flt_abs.specs.Breaks.{first_broken}
use Rattle.flt_abs.specs.Setting.{setting_of}
use Rattle.flt_abs.specs.Step.{transfer, leads_to, at, after_failure, unless_broken, where_true, where_false}
use Rattle.flt_abs.specs.declared.step.Successor.{Successor}
use Rattle.flt_abs.specs.declared.step.Successors.{Successors}
use Rattle.flt_cert.specs.Format.{Point}
use Rattle.flt_graph.specs.Kept.{edge, failing, edges_of}
use Rattle.flt_check.specs.Full.{reaching, reached_by}

-- ---- edges

one_edge : (a p : ℕ) → a ≡ p → edge a p ≡ 1
one_edge a p e = cond-true (a == p) 1 0 (eq-eqb a p e)

-- a side that is no edge leads elsewhere
elsewhere : (a p : ℕ) → edge a p ≡ 0 → (a == p) ≡ false
elsewhere a p e = by (a == p) e
  where
    by : (b : Bool) → ◌≡◌ {A = ℕ} (if b then 1 else 0) 0 → b ≡ false
    by true h = absurd (omega arith)
    by false h = refl

-- ---- successors

-- one, where a successor is there and is the point
abbrev pub hits : ℕ → Option Successor → ℕ
hits to (Some next) = edge next.point to
hits to None = 0

itself : (n : ℕ) → n ≤ n
itself n = omega arith

least : (n : ℕ) → 0 ≤ n
least n = omega arith

at_hits : (p to : ℕ) (o : Option State) → hits to (at p o) ≤ edge p to
at_hits p to (Some x) = itself (edge p to)
at_hits p to None = least (edge p to)

failure_hits : (x : State) (c : Invocation) (e : Option Effects) (p to : ℕ) → hits to (after_failure x c e p) ≤ failing e p to
failure_hits x c (Some e) p to = itself (edge p to)
failure_hits x c None p to = least 0

both : (a b c d : ℕ) → a ≤ c → b ≤ d → a + b ≤ c + d
both a b c d h k = omega arith

alone : (a c : ℕ) → a ≤ c → a + 0 ≤ c
alone a c h = omega arith

sides : (x : State) (i : Instruction) (to : ℕ) → hits to (leads_to x i).first + hits to (leads_to x i).second ≤ edges_of i to
sides x (instruction.Act a next) to = alone (edge next to) (edge next to) (itself (edge next to))
sides x (instruction.Call c granted failed) to =
    both (edge granted to) (hits to (after_failure x (roles c) (row (roles c).call).on_fail failed)) (edge granted to)
    (failing (row (roles c).call).on_fail failed to) (itself (edge granted to))
    (failure_hits x (roles c) (row (roles c).call).on_fail failed to)
sides x (instruction.Test t granted refused) to =
    both (hits to (at granted (where_true x t))) (hits to (at refused (where_false x t))) (edge granted to) (edge refused to)
    (at_hits granted to (where_true x t)) (at_hits refused to (where_false x t))
sides x (instruction.Repeat turns body next) to = both (edge body to) (edge next to) (edge body to) (edge next to)
    (itself (edge body to)) (itself (edge next to))
sides x (instruction.Return st) to = alone 0 0 (itself 0)
sides x instruction.End to = alone 0 0 (itself 0)

unbroken : (o : Option Rule) (m next : Successors) → unless_broken o m ≡ Ok next → m ≡ next
unbroken None m next e = cc
unbroken (Some r) m next e = cc

-- of the successors of a point no more are a point than it has edges into it
pub sides_of : (g : Graph) (callback p : ℕ) (x : State) (next : Successors) (to : ℕ) → transfer g callback p x ≡ Ok next →
    hits to next.first + hits to next.second ≤ edges_of (instruction_at g callback p) to
sides_of g callback p x next to e =
    let same = unbroken (first_broken (setting_of g callback x) x (instruction_at g callback p))
    (leads_to x (instruction_at g callback p)) next e in
    subst (λ (m : Successors). hits to m.first + hits to m.second ≤ edges_of (instruction_at g callback p) to) same
    (sides x (instruction_at g callback p) to)

-- ---- with which state a point is reached

passed : (to : ℕ) (o : Option Successor) (other : Point) → hits to o ≡ 0 → reaching to o other ≡ other
passed to None other e = refl
passed to (Some next) other e = cond-false (next.point == to) (Some next.state) other (elsewhere next.point to e)

there : (to : ℕ) (next : Successor) (other : Point) → next.point ≡ to → reaching to (Some next) other ≡ Some next.state
there to next other e = cond-true (next.point == to) (Some next.state) other (eq-eqb next.point to e)

-- a successor at the point counts
pub one_hit : (to : ℕ) (o : Option Successor) (next : Successor) → o ≡ Some next → next.point ≡ to → hits to o ≡ 1
one_hit to o next e same = ap (hits to) e ∙ one_edge next.point to same

-- by the first successor
pub reached_first : (to : ℕ) (both : Successors) (next : Successor) → both.first ≡ Some next → next.point ≡ to →
    reached_by to (Ok both) ≡ Some next.state
reached_first to both next e same =
    ap (λ o. reaching to o (reaching to both.second None)) e ∙ there to next (reaching to both.second None) same

-- by the second, where no more than one leads there
pub reached_second : (to : ℕ) (both : Successors) (next : Successor) → both.second ≡ Some next → next.point ≡ to →
    hits to both.first + hits to both.second ≤ 1 → reached_by to (Ok both) ≡ Some next.state
reached_second to both next e same few =
    let one = one_hit to both.second next e same in
    passed to both.first (reaching to both.second None) (omega arith)
    ∙ (ap (λ o. reaching to o None) e ∙ there to next None same)

-- by neither
pub reached_none : (to : ℕ) (both : Successors) → hits to both.first ≡ 0 → hits to both.second ≡ 0 → reached_by to (Ok both) ≡ None
reached_none to both a b = passed to both.first (reaching to both.second None) a ∙ passed to both.second None b

-- the successor by which a point is reached
pub record Reaches (to : ℕ) (next : Successors) (x : State) : Type 0 where
  pub side : Successor
  pub point : side.point ≡ to
  pub state : side.state ≡ x
  pub which : (next.first ≡ Some side) ⊎ (next.second ≡ Some side)

by_side : (to : ℕ) (o : Option Successor) (other : Point) (x : State) → reaching to o other ≡ Some x →
    ((s : Successor) × (o ≡ Some s) × (s.point ≡ to) × (s.state ≡ x)) ⊎ (other ≡ Some x)
by_side to None other x e = inr e
by_side to (Some s) other x e = by (s.point == to) refl e
  where
    by : (b : Bool) → (s.point == to) ≡ b → (if b then Some s.state else other) ≡ Some x →
        ((t : Successor) × (Some s ≡ Some t) × (t.point ≡ to) × (t.state ≡ x)) ⊎ (other ≡ Some x)
    by true h k = inl (s, refl, eqb-true s.point to h, same_Some s.state x k)
    by false h k = inr k

-- a point that is reached is a successor
pub reached_is : (to : ℕ) (r : Result Successors Rule) (x : State) → reached_by to r ≡ Some x →
    (next : Successors) × (r ≡ Ok next) × Reaches to next x
reached_is to (Err r) x e = absurd (none-some x e)
reached_is to (Ok next) x e = (next, refl, by_first (by_side to next.first (reaching to next.second None) x e))
  where
    by_second : (((s : Successor) × (next.second ≡ Some s) × (s.point ≡ to) × (s.state ≡ x)) ⊎ (None ≡ Some x)) → Reaches to next x
    by_second (inl s) = record { side = s.0; point = s.2; state = s.3; which = inr s.1 }
    by_second (inr h) = absurd (none-some x h)

    by_first : (((s : Successor) × (next.first ≡ Some s) × (s.point ≡ to) × (s.state ≡ x)) ⊎ (reaching to next.second None ≡ Some x)) →
        Reaches to next x
    by_first (inl s) = record { side = s.0; point = s.2; state = s.3; which = inl s.1 }
    by_first (inr h) = by_second (by_side to next.second None x h)
