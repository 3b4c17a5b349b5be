-- What remains of a body never costs more than the body.
use Rattle.std.proofs.Common.{◌≡◌, ℕ, ◌+◌, ◌*◌, ◌<◌, ◌≤◌, max, List, ◌∷◌, ◌++◌, map, sum, ap, ◌∙◌, arith}
use Rattle.std.proofs.Math.Nat.{mul-le-mul_right}
use Rattle.std.proofs.lemmas.List.{append-nil}
use Rattle.flt_tree.proofs.Costs.{cost_cons, cost_append}
use Rattle.flt_tree.specs.Measures.{cost, cost_of, cost_step}
use Rattle.flt_tree.specs.declared.filter.Condition.{Condition}
use Rattle.flt_tree.specs.declared.filter.Span.{Span}
use Rattle.flt_tree.specs.declared.filter.Statement.{Statement, out-Statement}
use Rattle.flt_tree.specs.declared.filter.Statement.TheFolds.{map-Statement, fold_out-Statement}
use Rattle.flt_tree.specs.declared.filter.Statement.TheOpen.{Statement-F}
use Rattle.flt_tree.specs.declared.filter.Statement.TheVariants as tree
use Rattle.flt_tree.specs.declared.filter.Statement.TheViews.{outs-Repeat}
use Rattle.flt_graph.specs.Points.{In, top, later, granted_block, refused_block, turn, Stands, end, before, again}
use Rattle.flt_graph.specs.Turns.{AreBegun, AreBegunRound, StandsWith}
use Rattle.flt_graph.specs.declared.turns.Turn.{Turn}

-- ---- the cost of statements

-- a statement costs what its outermost layer says
layer_cost : (s : Statement) (layer : Statement-F Statement) → out-Statement s ≡ layer →
    cost_of s ≡ cost_step (map-Statement Statement ℕ cost_of layer)
layer_cost s layer o = fold_out-Statement ℕ cost_step s
    ∙ ap (λ (l : Statement-F Statement). cost_step (map-Statement Statement ℕ cost_of l)) o

if_cost : (span : Span) (asked : Condition) (granted refused : List Statement) (s : Statement) →
    out-Statement s ≡ Statement-F.If span asked granted refused → cost_of s ≡ 1 + max (cost granted) (cost refused)
if_cost span asked granted refused s o = layer_cost s (Statement-F.If span asked granted refused) o

repeat_cost : (span : Span) (text : ℕ) (block : List Statement) (s : Statement) → out-Statement s ≡ Statement-F.Repeat span text block →
    cost_of s ≡ 1 + text * (1 + cost block)
repeat_cost span text block s o = layer_cost s (Statement-F.Repeat span text block) o

left_cost : (span : Span) (left : ℕ) (block : List Statement) → cost_of (tree.Repeat span left block) ≡ 1 + left * (1 + cost block)
left_cost span left block = repeat_cost span left block (tree.Repeat span left block) (outs-Repeat span left block)

-- a block in progress and the turns that are left after it cost no more than all turns, since one at least is in progress
one_turn_less : (left text c : ℕ) → left < text → c + (1 + left * (1 + c)) ≤ text * (1 + c)
one_turn_less left text c less =
    let more : (left + 1) * (1 + c) ≤ text * (1 + c) = (let most : left + 1 ≤ text = omega arith in mul-le-mul_right (1 + c) most) in
    let one : (left + 1) * (1 + c) ≡ left * (1 + c) + (1 + c) = grind arith in
    omega arith

-- ---- the cost of what remains

block_cost : {body block follows : List Statement} {n q : ℕ} (i : In body block n q follows) → AreBegun i →
    cost (block ++ follows) ≤ cost body
block_cost {body} top b = let e = ap (λ (l : List Statement). cost l) (append-nil body) in omega arith
block_cost (later {s = s} {rest = rest} {follows = follows} i) b = let h = block_cost i b in omega (arith, cost_cons s (rest ++ follows))
block_cost (granted_block {s = s} {rest = rest} {yes_block = yes_block} {no_block = no_block} {asked = asked} {span = span}
    {follows = follows} i o) b =
    let h = block_cost i b in omega (
      arith,
      cost_cons s (rest ++ follows),
      if_cost span asked yes_block no_block s o,
      cost_append yes_block (rest ++ follows),
    )
block_cost (refused_block {s = s} {rest = rest} {yes_block = yes_block} {no_block = no_block} {asked = asked} {span = span}
    {follows = follows} i o) b =
    let h = block_cost i b in omega (
      arith,
      cost_cons s (rest ++ follows),
      if_cost span asked yes_block no_block s o,
      cost_append no_block (rest ++ follows),
    )
block_cost (turn {s = s} {rest = rest} {block = block} {span = span} {turns = text} {left = left} {follows = follows} i o most) b =
    let h = block_cost i b.1 in
    omega (
      arith,
      cost_cons s (rest ++ follows),
      repeat_cost span text block s o,
      cost_append block (tree.Repeat span left block ∷ (rest ++ follows)),
      cost_cons (tree.Repeat span left block) (rest ++ follows),
      left_cost span left block,
      one_turn_less left text (cost block) b.0,
    )

list_cost : {body list : List Statement} {n : ℕ} (st : Stands body n list) → AreBegunRound st → cost list ≤ cost body
list_cost end b = omega arith
list_cost (before i) b = block_cost i b
list_cost (again {s = s} {rest = rest} {block = block} {span = span} {turns = text} {left = left} {follows = follows} i o most) b =
    let h = block_cost i b in
    let fewer : left * (1 + cost block) ≤ text * (1 + cost block) = mul-le-mul_right (1 + cost block) most in
    omega (
      arith,
      cost_cons s (rest ++ follows),
      repeat_cost span text block s o,
      cost_cons (tree.Repeat span left block) (rest ++ follows),
      left_cost span left block,
    )

-- a list that stands with its turns costs no more than the body
pub stands_cost : (body : List Statement) (n : ℕ) (turns : List Turn) (list : List Statement) → StandsWith body n turns list →
    cost list ≤ cost body
stands_cost body n turns list h = list_cost h.stands h.begun
