-- Laws of the points of a block.
use Rattle.std.proofs.Common.{◌≡◌, ℕ, ◌+◌, List, [], ◌∷◌, ◌++◌, ◌∙◌, length, map, ap, sym, subst, refl, arith}
use Rattle.std.proofs.lemmas.List.{length-append}
use Rattle.std.proofs.lemmas.List.Sums.{sum-map, sum_by-cons}
use Rattle.flt_tree.specs.Measures.{points_of, points, points_step}
use Rattle.flt_tree.specs.declared.filter.Callback.{Callback}
use Rattle.flt_tree.specs.declared.filter.Statement.{Statement, out-Statement, roll-Statement}
use Rattle.flt_tree.specs.declared.filter.Statement.TheFolds.{map-Statement, para-Statement, para-roll-Statement, fold-roll-Statement}
use Rattle.flt_tree.specs.declared.filter.Statement.TheFolds.{fold_out-Statement, ind-Statement}
use Rattle.flt_tree.specs.declared.filter.Statement.TheOpen.{Statement-F}
use Rattle.flt_tree.specs.declared.filter.Statement.TheViews.{roll-out-Statement}
use Rattle.flt_graph.specs.Codes.{Code, codes, codes_in, code_step, statement_code, block_code}
use Rattle.flt_graph.specs.Points.{entry, point_of}
use Rattle.flt_graph.specs.declared.graph.Point.{Point}

-- ---- blocks

-- an empty block has no points
pub block_nil : (all : List Callback) (at after : ℕ) → block_code all [] at after ≡ []
unfolding block_code
block_nil all at after = refl

entry_map : {A : Type 0} {B : Type 0} (f : A → B) (xs : List A) (at after : ℕ) → entry (map f xs) at after ≡ entry xs at after
entry_map f [] at after = refl
entry_map f (x ∷ xs) at after = refl

-- the points of a block are those of its first statement, and those of the rest behind them
pub block_cons : (all : List Callback) (s : Statement) (rest : List Statement) (at after : ℕ) →
    block_code all (s ∷ rest) at after ≡
    statement_code all s at (entry rest (at + points_of s) after) ++ block_code all rest (at + points_of s) after
unfolding block_code
block_cons all s rest at after = rw
    (entry_map {B = Statement × Code} (λ (x : Statement). (x, statement_code all x)) rest (at + points_of s) after) refl

-- ---- statements

-- the points of a statement's blocks
abbrev pub inner_code : List Callback → Statement-F Statement → Code
inner_code all (Statement-F.Act span action) at after = []
inner_code all (Statement-F.Call span call) at after = []
inner_code all (Statement-F.Return span status) at after = []
inner_code all (Statement-F.If span asked granted refused) at after =
    block_code all granted (at + 1) after ++ block_code all refused (at + 1 + points granted) after
inner_code all (Statement-F.Repeat span turns block) at after = block_code all block (at + 1) at

first_back : (f : Statement → Code) (block : List Statement) →
    map (λ (x : Statement × Code). x.0) (map (λ (s : Statement). (s, f s)) block) ≡ block
first_back f [] = refl
first_back f (s ∷ block) = ap (λ (l : List Statement). s ∷ l) (first_back f block)

layer_back : (f : Statement → Code) (s : Statement-F Statement) →
    map-Statement (Statement × Code) Statement (λ x. x.0) (map-Statement Statement (Statement × Code) (λ y. (y, f y)) s) ≡ s
layer_back f (Statement-F.Act span action) = refl
layer_back f (Statement-F.Call span call) = refl
layer_back f (Statement-F.Return span status) = refl
layer_back f (Statement-F.If span asked granted refused) =
    ap (λ (l : List Statement). Statement-F.If span asked l
    (map (λ (x : Statement × Code). x.0) (map (λ (y : Statement). (y, f y)) refused))) (first_back f granted) ∙
    ap (λ (l : List Statement). Statement-F.If span asked granted l) (first_back f refused)
layer_back f (Statement-F.Repeat span turns block) = ap (λ (l : List Statement). Statement-F.Repeat span turns l) (first_back f block)

inner_is : (all : List Callback) (s : Statement-F Statement) (at after : ℕ) →
    codes_in (map-Statement Statement (Statement × Code) (λ y. (y, statement_code all y)) s) at after ≡ inner_code all s at after
unfolding block_code
inner_is all (Statement-F.Act span action) at after = refl
inner_is all (Statement-F.Call span call) at after = refl
inner_is all (Statement-F.Return span status) at after = refl
inner_is all (Statement-F.If span asked granted refused) at after =
    ap (λ (l : List Statement). codes (map (λ (y : Statement). (y, statement_code all y)) granted) (at + 1) after
    ++ codes (map (λ (y : Statement). (y, statement_code all y)) refused) (at + 1 + points l) after)
    (first_back (statement_code all) granted)
inner_is all (Statement-F.Repeat span turns block) at after = refl

roll_code : (all : List Callback) (s : Statement-F Statement) (at after : ℕ) →
    statement_code all (roll-Statement s) at after ≡ point_of all s at after ∷ inner_code all s at after
unfolding statement_code
roll_code all s at after =
    ap (λ (f : Code). f at after) (para-roll-Statement Code (code_step all) s) ∙
    (ap (λ (l : Statement-F Statement). point_of all l at after
    ∷ codes_in (map-Statement Statement (Statement × Code) (λ y. (y, para-Statement Code (code_step all) y)) s) at after)
    (layer_back (para-Statement Code (code_step all)) s) ∙
    ap (λ (l : List Point). point_of all s at after ∷ l) (inner_is all s at after))

-- a statement's own point stands before those of its blocks
pub out_code : (all : List Callback) (s : Statement) (at after : ℕ) →
    statement_code all s at after ≡ point_of all (out-Statement s) at after ∷ inner_code all (out-Statement s) at after
out_code all s at after =
    ap (λ (x : Statement). statement_code all x at after) (sym (roll-out-Statement s)) ∙ roll_code all (out-Statement s) at after

-- ---- lengths

-- a block has as many points as its first statement and the rest
pub points_cons : (s : Statement) (rest : List Statement) → points (s ∷ rest) ≡ points_of s + points rest
points_cons s rest = sum-map points_of (s ∷ rest)
    ∙ (sum_by-cons points_of s rest ∙ ap (λ n. points_of s + n) (sym (sum-map points_of rest)))

abbrev HasLength : List Callback → Statement → Type 0
HasLength all s = (at after : ℕ) → length (statement_code all s at after) ≡ points_of s

blocks_length : (all : List Callback) (block : List ((s : Statement) × HasLength all s)) (at after : ℕ) →
    length (block_code all (map (λ (x : (s : Statement) × HasLength all s). x.0) block) at after) ≡ points
    (map (λ (x : (s : Statement) × HasLength all s). x.0) block)
blocks_length all [] at after = ap length (block_nil all at after)
blocks_length all (x ∷ rest) at after =
    let others = map (λ (x : (s : Statement) × HasLength all s). x.0) rest in
    rw (
      block_cons all x.0 others at after,
      length-append (statement_code all x.0 at (entry others (at + points_of x.0) after))
          (block_code all others (at + points_of x.0) after),
      x.1 at (entry others (at + points_of x.0) after),
      blocks_length all rest (at + points_of x.0) after,
    ) (sym (points_cons x.0 others))

layer_length : (all : List Callback) (y : Statement-F ((s : Statement) × HasLength all s)) (at after : ℕ) →
    length (point_of all (map-Statement ((s : Statement) × HasLength all s) Statement (λ x. x.0) y) at after
    ∷ inner_code all (map-Statement ((s : Statement) × HasLength all s) Statement (λ x. x.0) y) at after) ≡
    points_step (map-Statement Statement ℕ points_of (map-Statement ((s : Statement) × HasLength all s) Statement (λ x. x.0) y))
layer_length all (Statement-F.Act span action) at after = refl
layer_length all (Statement-F.Call span call) at after = refl
layer_length all (Statement-F.Return span status) at after = refl
layer_length all (Statement-F.If span asked granted refused) at after =
    let g = map (λ (x : (s : Statement) × HasLength all s). x.0) granted in
    let r = map (λ (x : (s : Statement) × HasLength all s). x.0) refused in
    omega (
      arith,
      length-append (block_code all g (at + 1) after) (block_code all r (at + 1 + points g) after),
      blocks_length all granted (at + 1) after,
      blocks_length all refused (at + 1 + points g) after,
    )
layer_length all (Statement-F.Repeat span turns block) at after = omega (arith, blocks_length all block (at + 1) at)

made_length : (all : List Callback) (s : Statement-F Statement) →
    ((at after : ℕ) → length (point_of all s at after ∷ inner_code all s at after) ≡ points_step
    (map-Statement Statement ℕ points_of s)) → HasLength all (roll-Statement s)
made_length all s h at after = ap length (roll_code all s at after) ∙ (h at after ∙ sym (fold-roll-Statement ℕ points_step s))

-- a statement has as many points as are counted for it
pub code_length : (all : List Callback) (s : Statement) (at after : ℕ) → length (statement_code all s at after) ≡ points_of s
code_length all s =
    ind-Statement (HasLength all)
    (λ x y e. subst (λ (l : Statement-F Statement). HasLength all (roll-Statement l)) e
    (made_length all (map-Statement ((s : Statement) × HasLength all s) Statement (λ z. z.0) y) (layer_length all y)))
    s

-- a block's points are as many as are counted
pub block_length : (all : List Callback) (block : List Statement) (at after : ℕ) → length (block_code all block at after) ≡ points block
block_length all [] at after = ap length (block_nil all at after)
block_length all (s ∷ rest) at after =
    rw (
      block_cons all s rest at after,
      length-append (statement_code all s at (entry rest (at + points_of s) after)) (block_code all rest (at + points_of s) after),
      code_length all s at (entry rest (at + points_of s) after),
      block_length all rest (at + points_of s) after,
    ) (sym (points_cons s rest))

-- a statement's points are counted by its layer
pub out_points : (s : Statement) → points_of s ≡ points_step (map-Statement Statement ℕ points_of (out-Statement s))
out_points s = fold_out-Statement ℕ points_step s
