-- Repeats nest no deeper in a well-formed body than the limit, so that few turns are left round a remaining list.
use Rattle.std.proofs.Common.{◌≡◌, ℕ, ◌+◌, ◌<◌, ◌≤◌, Bool, List, ◌∷◌, length, Some, subst, arith}
use Rattle.std.specs.Prelude.{slice_get, is_some}
use Rattle.flt_rules.specs.Limits.{max_repeats}
use Rattle.flt_tree.specs.WellFormed as fine
use Rattle.flt_tree.specs.WellFormed.{IsWellFormed, IsStatement, IsElse, AreStatements}
use Rattle.flt_tree.specs.declared.filter.Callback.{Callback}
use Rattle.flt_tree.specs.declared.filter.Filter.{Filter}
use Rattle.flt_tree.specs.declared.filter.Lock.{Lock}
use Rattle.flt_tree.specs.declared.filter.Statement.{Statement, out-Statement}
use Rattle.flt_tree.specs.declared.filter.Statement.TheOpen.{Statement-F}
use Rattle.flt_tree.specs.declared.filter.Statement.TheViews.{outs-Act, outs-Call, outs-Return, outs-If, outs-Repeat}
use Rattle.flt_graph.proofs.PointsOfText.{body_at}
use Rattle.flt_graph.specs.Points.{In, top, later, granted_block, refused_block, turn, Stands, end, before, again}
use Rattle.flt_graph.specs.Turns.{turns_in, turns_at, StandsWith}
use Rattle.flt_graph.specs.declared.turns.Turn.{Turn}

-- ---- one statement

-- a block nests repeats at most so deep
abbrev IsNested : List Lock → Bool → ℕ → List Statement → Type 0
IsNested locks queue r block = (d : ℕ) × AreStatements locks queue d r block

-- so do the blocks of a statement; those of a `repeat` less deep than itself
abbrev AreNested : List Lock → Bool → ℕ → Statement-F Statement → Type 0
AreNested locks queue r (Statement-F.If span asked granted refused) = IsNested locks queue r granted × IsNested locks queue r refused
AreNested locks queue r (Statement-F.Repeat span text block) = (inner : ℕ) × ((inner < r) × IsNested locks queue inner block)
AreNested locks queue r s = Unit {0}

else_nested : {locks : List Lock} {queue : Bool} {d r : ℕ} {ss : List Statement} → IsElse locks queue d r ss → IsNested locks queue r ss
else_nested fine.no_else = (0, fine.empty)
else_nested (fine.some_else (fine.block {d = d} p)) = (d, p)

layer_nested : {locks : List Lock} {queue : Bool} {d r : ℕ} (s : Statement) → IsStatement locks queue d r s →
    AreNested locks queue r (out-Statement s)
layer_nested _ (fine.act {at = l} {a = a} h) = rw (outs-Act l a) tt
layer_nested _ (fine.call {at = l} {c = k} h) = rw (outs-Call l k) tt
layer_nested _ (fine.return {at = l} {s = st}) = rw (outs-Return l st) tt
layer_nested _ (fine.choice {at = l} {c = k} {granted = yes_block} {refused = no_block} h (fine.block {d = d} p) f) =
    rw (outs-If l k yes_block no_block) ((d, p), else_nested f)
layer_nested _ (fine.repeat {r = r} {at = l} {n = text} {body = inner} h (fine.block {d = d} p)) =
    rw (outs-Repeat l text inner) (r, (omega arith, (d, p)))

-- ---- one body

first : {locks : List Lock} {queue : Bool} {d r : ℕ} {s : Statement} {rest : List Statement} → AreStatements locks queue d r (s ∷ rest) →
    IsStatement locks queue d r s
first (fine.go_on h t) = h

behind : {locks : List Lock} {queue : Bool} {d r : ℕ} {s : Statement} {rest : List Statement} → AreStatements locks queue d r (s ∷ rest) →
    AreStatements locks queue d r rest
behind (fine.go_on h t) = t

-- a block within a body that nests repeats at most r deep: those round the block, and those that it nests itself, are no more
record FitsIn (locks : List Lock) (queue : Bool) (r : ℕ) (turns : List Turn) (block : List Statement) : Type 0 where
  depth : ℕ
  inner : ℕ
  fits : AreStatements locks queue depth inner block
  room : length turns + inner ≤ r

block_fits : {locks : List Lock} {queue : Bool} {d r : ℕ} {body block follows : List Statement} {n q : ℕ} (i : In body block n q follows) →
    AreStatements locks queue d r body → FitsIn locks queue r (turns_in i) block
block_fits {d = d} {r = r} top h = record { depth = d; inner = r; fits = h; room = omega arith }
block_fits (later i) h = let f = block_fits i h in record { depth = f.depth; inner = f.inner; fits = behind f.fits; room = f.room }
block_fits {locks = locks} {queue = queue} (granted_block {s = s} i o) h =
    let f = block_fits i h in
    let blocks = subst (λ (l : Statement-F Statement). AreNested locks queue f.inner l) o (layer_nested s (first f.fits)) in
    record { depth = blocks.0.0; inner = f.inner; fits = blocks.0.1; room = f.room }
block_fits {locks = locks} {queue = queue} (refused_block {s = s} i o) h =
    let f = block_fits i h in
    let blocks = subst (λ (l : Statement-F Statement). AreNested locks queue f.inner l) o (layer_nested s (first f.fits)) in
    record { depth = blocks.1.0; inner = f.inner; fits = blocks.1.1; room = f.room }
block_fits {locks = locks} {queue = queue} (turn {s = s} i o most) h =
    let f = block_fits i h in
    let block = subst (λ (l : Statement-F Statement). AreNested locks queue f.inner l) o (layer_nested s (first f.fits)) in
    record { depth = block.1.1.0; inner = block.0; fits = block.1.1.1; room = omega (arith, f.room, block.1.0) }

list_fits : {locks : List Lock} {queue : Bool} {d r : ℕ} {body list : List Statement} {n : ℕ} (st : Stands body n list) →
    AreStatements locks queue d r body → length (turns_at st) ≤ r
list_fits end h = omega arith
list_fits (before i) h = let f = block_fits i h in omega (arith, f.room)
list_fits {locks = locks} {queue = queue} (again {s = s} i o most) h =
    let f = block_fits i h in
    let block = subst (λ (l : Statement-F Statement). AreNested locks queue f.inner l) o (layer_nested s (first f.fits)) in
    omega (arith, f.room, block.1.0)

-- a remaining list of a well-formed filter's callback stands with no more turns than repeats may nest
pub turns_nested : (f : Filter) (k p : ℕ) (c : Callback) (turns : List Turn) (list : List Statement) → IsWellFormed f →
    slice_get f.callbacks k ≡ Some c → StandsWith c.body p turns list → length turns ≤ max_repeats
turns_nested f k p c turns list w e h =
    subst (λ (ts : List Turn). length ts ≤ max_repeats) h.turns_are
    (list_fits h.stands (body_at f.locks (is_some f.queue) f.callbacks k c w.bodies e))
