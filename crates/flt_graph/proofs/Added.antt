-- What the functions that add points add.
use Rattle.std.proofs.Common.{◌≡◌, ℕ, ◌+◌, ◌≤◌, ◌<◌, List, [], ◌∷◌, ◌++◌, ◌∙◌, length, drop, get_or, append_assoc, ap, sym, refl, arith}
use Rattle.std.proofs.lemmas.List.{length-append, length-drop, append-nil, drop_more, drop_all}
use Rattle.flt_tree.specs.Measures.{points_of, points, points_step}
use Rattle.flt_tree.specs.declared.filter.Callback.{Callback}
use Rattle.flt_tree.specs.declared.filter.Condition.{Condition}
use Rattle.flt_tree.specs.declared.filter.Span.{Span}
use Rattle.flt_tree.specs.declared.filter.Statement.{Statement, out-Statement, roll-Statement}
use Rattle.flt_tree.specs.declared.filter.Statement.TheOpen.{Statement-F}
use Rattle.flt_tree.specs.declared.filter.Statement.TheVariants as tree
use Rattle.flt_tree.specs.declared.filter.Statement.TheViews.{outs-If, outs-Repeat, rolls-If, rolls-Repeat, roll-out-Statement}
use Rattle.flt_tree.specs.declared.filter.Statement.TheFolds.{map-Statement}
use Rattle.flt_graph.proofs.Codes.{block_nil, block_cons, inner_code, out_code, code_length, block_length, points_cons, out_points}
use Rattle.flt_graph.specs.Codes.{statement_code, block_code}
use Rattle.flt_graph.specs.Points.{entry, point_of}
use Rattle.flt_graph.specs.declared.graph.Point.{Point}

-- a statement's own point and then those of its blocks
added_layer : (all : List Callback) (s : Statement) (layer : Statement-F Statement) (f0 f1 f3 : List Point) (after : ℕ) →
    out-Statement s ≡ layer → f1 ≡ f0 ++ point_of all (out-Statement s) (length f0) after ∷ [] →
    f3 ≡ f1 ++ inner_code all layer (length f0) after → f3 ≡ f0 ++ statement_code all s (length f0) after
added_layer all s layer f0 f1 f3 after o h1 h3 =
    h3 ∙ (ap (λ (l : List Point). l ++ inner_code all layer (length f0) after) h1 ∙
    (append_assoc f0 (point_of all (out-Statement s) (length f0) after ∷ []) (inner_code all layer (length f0) after)
    ∙ (ap (λ (l : Statement-F Statement). f0
    ++ (point_of all (out-Statement s) (length f0) after ∷ inner_code all l (length f0) after)) (sym o) ∙
    ap (λ (l : List Point). f0 ++ l) (sym (out_code all s (length f0) after)))))

-- what is added for an `if`, its point and then its two blocks, are its points
pub added_if : (all : List Callback) (s : Statement) (l : Span) (a : Condition) (g r : List Statement) (f0 f1 f2 f3 : List Point)
    (after : ℕ) → s ≡ tree.If l a g r → f1 ≡ f0 ++ point_of all (out-Statement s) (length f0) after ∷ [] →
    f2 ≡ f1 ++ block_code all g (length f1) after → f3 ≡ f2 ++ block_code all r (length f2) after →
    f3 ≡ f0 ++ statement_code all s (length f0) after
added_if all s l a g r f0 f1 f2 f3 after is h1 h2 h3 =
    let e1 : length f1 ≡ length f0 + 1 =
    omega (arith, ap length h1, length-append f0 (point_of all (out-Statement s) (length f0) after ∷ [])) in
    let e2 : length f2 ≡ length f0 + 1 + points g =
    omega (arith, ap length h2, length-append f1 (block_code all g (length f1) after), block_length all g (length f1) after) in
    let k2 = rw e1 at h2 in
    let k3 = rw e2 at h3 in
    added_layer all s (Statement-F.If l a g r) f0 f1 f3 after (ap out-Statement is ∙ outs-If l a g r) h1
    (k3 ∙ (ap (λ (x : List Point). x ++ block_code all r (length f0 + 1 + points g) after) k2
    ∙ append_assoc f1 (block_code all g (length f0 + 1) after) (block_code all r (length f0 + 1 + points g) after)))

-- what is added for a `repeat`, its point and then its body, are its points
pub added_repeat : (all : List Callback) (s : Statement) (l : Span) (k : ℕ) (b : List Statement) (f0 f1 f3 : List Point) (at after : ℕ) →
    at ≡ length f0 → s ≡ tree.Repeat l k b → f1 ≡ f0 ++ point_of all (out-Statement s) (length f0) after ∷ [] →
    f3 ≡ f1 ++ block_code all b (length f1) at → f3 ≡ f0 ++ statement_code all s (length f0) after
added_repeat all s l k b f0 f1 f3 at after hat is h1 h3 =
    let e1 : length f1 ≡ length f0 + 1 =
    omega (arith, ap length h1, length-append f0 (point_of all (out-Statement s) (length f0) after ∷ [])) in
    let k3 = rw (e1, hat) at h3 in
    added_layer all s (Statement-F.Repeat l k b) f0 f1 f3 after (ap out-Statement is ∙ outs-Repeat l k b) h1 k3

-- one statement of a block more
pub added_more : (all : List Callback) (block : List Statement) (i : ℕ) (s : Statement) (f0 f1 : List Point) (next after : ℕ) →
    i < length block → s ≡ get_or block i s → next ≡ entry (drop (i + 1) block) (length f0 + points_of s) after →
    f1 ≡ f0 ++ statement_code all s (length f0) next →
    f1 ++ block_code all (drop (i + 1) block) (length f1) after ≡ f0 ++ block_code all (drop i block) (length f0) after
added_more all block i s f0 f1 next after below is hnext h1 =
    let e1 : length f1 ≡ length f0 + points_of s =
    omega (arith, ap length h1, length-append f0 (statement_code all s (length f0) next), code_length all s (length f0) next) in
    let k1 = rw hnext at h1 in
    ap (λ (n : ℕ). f1 ++ block_code all (drop (i + 1) block) n after) e1 ∙
    (ap (λ (l : List Point). l ++ block_code all (drop (i + 1) block) (length f0 + points_of s) after) k1 ∙
    (append_assoc f0 (statement_code all s (length f0) (entry (drop (i + 1) block) (length f0 + points_of s) after))
    (block_code all (drop (i + 1) block) (length f0 + points_of s) after) ∙
    (ap (λ (l : List Point). f0 ++ l) (sym (block_cons all s (drop (i + 1) block) (length f0) after)) ∙
    ap (λ (l : List Statement). f0 ++ block_code all l (length f0) after)
    (sym (drop_more block i s below ∙ ap (λ (x : Statement). x ∷ drop (i + 1) block) (sym is))))))

-- where all statements of a block were added, its points were
pub added_all : (all : List Callback) (block : List Statement) (i : ℕ) (f0 f1 : List Point) (at after : ℕ) → length block ≤ i →
    f1 ++ block_code all (drop i block) (length f1) after ≡ f0 ++ block_code all block at after → f1 ≡ f0 ++ block_code all block at after
added_all all block i f0 f1 at after past h =
    sym (ap (λ (l : List Point). f1 ++ l)
    (ap (λ (l : List Statement). block_code all l (length f1) after) (drop_all i block past) ∙ block_nil all (length f1) after)
    ∙ append-nil f1) ∙ h

-- where the next statement stands
entry_none : (l : List Statement) (at after : ℕ) → length l ≡ 0 → entry l at after ≡ after
entry_none [] at after e = refl
entry_none (s ∷ l) at after e = absurd (omega (arith, e))

entry_some : (l : List Statement) (at after : ℕ) → 0 < length l → entry l at after ≡ at
entry_some [] at after h = absurd (omega (arith, h))
entry_some (s ∷ l) at after h = refl

-- after the last statement of a block comes what comes after the block
pub entry_last : (block : List Statement) (i at after : ℕ) → length block ≡ i + 1 → entry (drop (i + 1) block) at after ≡ after
entry_last block i at after e = entry_none (drop (i + 1) block) at after (omega (arith, length-drop (i + 1) block))

-- after a statement that isn't the last comes the next one
pub entry_next : (block : List Statement) (i at after : ℕ) → i + 1 < length block → entry (drop (i + 1) block) at after ≡ at
entry_next block i at after h = entry_some (drop (i + 1) block) at after (omega (arith, length-drop (i + 1) block))

-- ---- how many

-- the points of a block from a statement on are those of the statement and of the rest
pub points_more : (block : List Statement) (i : ℕ) (s : Statement) → i < length block → s ≡ get_or block i s →
    points (drop i block) ≡ points_of s + points (drop (i + 1) block)
points_more block i s below is = ap points (drop_more block i s below ∙ ap (λ (x : Statement). x ∷ drop (i + 1) block) (sym is))
    ∙ points_cons s (drop (i + 1) block)

-- a `repeat` has one point, and those of its body
pub points_repeat : (s : Statement) (l : Span) (k : ℕ) (b : List Statement) → s ≡ tree.Repeat l k b → points_of s ≡ 1 + points b
points_repeat s l k b is = out_points s
    ∙ ap (λ (x : Statement-F Statement). points_step (map-Statement Statement ℕ points_of x)) (ap out-Statement is ∙ outs-Repeat l k b)

-- ---- a statement without blocks

pub record IsPlain (all : List Callback) (layer : Statement-F Statement) (at after : ℕ) : Type 0 where
  pub inner : inner_code all layer at after ≡ []
  pub one : points_step (map-Statement Statement ℕ points_of layer) ≡ 1

layer_plain : (all : List Callback) (layer : Statement-F Statement) (at after : ℕ) →
    ((l : Span) (a : Condition) (g r : List Statement) → layer ≡ Statement-F.If l a g r → ⊥) →
    ((l : Span) (k : ℕ) (b : List Statement) → layer ≡ Statement-F.Repeat l k b → ⊥) → IsPlain all layer at after
layer_plain all (Statement-F.Act span action) at after hi hr = record { inner = refl; one = refl }
layer_plain all (Statement-F.Call span call) at after hi hr = record { inner = refl; one = refl }
layer_plain all (Statement-F.Return span status) at after hi hr = record { inner = refl; one = refl }
layer_plain all (Statement-F.If span asked granted refused) at after hi hr = absurd (hi span asked granted refused refl)
layer_plain all (Statement-F.Repeat span turns block) at after hi hr = absurd (hr span turns block refl)

-- a statement that neither branches nor repeats is plain
pub is_plain : (all : List Callback) (s : Statement) (at after : ℕ) →
    ((l : Span) (a : Condition) (g r : List Statement) → s ≡ tree.If l a g r → ⊥) →
    ((l : Span) (k : ℕ) (b : List Statement) → s ≡ tree.Repeat l k b → ⊥) → IsPlain all (out-Statement s) at after
is_plain all s at after hi hr =
    layer_plain all (out-Statement s) at after
    (λ l a g r e. hi l a g r (sym (roll-out-Statement s) ∙ (ap roll-Statement e ∙ rolls-If l a g r)))
    (λ l k b e. hr l k b (sym (roll-out-Statement s) ∙ (ap roll-Statement e ∙ rolls-Repeat l k b)))

-- a plain statement has one point
pub points_plain : (all : List Callback) (s : Statement) (at after : ℕ) → IsPlain all (out-Statement s) at after → points_of s ≡ 1
points_plain all s at after h = out_points s ∙ h.one

-- what is added for a plain statement, its point, are its points
pub added_plain : (all : List Callback) (s : Statement) (f0 f1 : List Point) (after : ℕ) →
    IsPlain all (out-Statement s) (length f0) after → f1 ≡ f0 ++ point_of all (out-Statement s) (length f0) after ∷ [] →
    f1 ≡ f0 ++ statement_code all s (length f0) after
added_plain all s f0 f1 after plain h1 =
    added_layer all s (out-Statement s) f0 f1 f1 after refl h1
    (sym (append-nil f1) ∙ ap (λ (l : List Point). f1 ++ l) (sym plain.inner))
