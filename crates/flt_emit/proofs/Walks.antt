-- The lines of a statement by its kind, and lines that are written one after the other.
use Rattle.std.proofs.Common.{◌≡◌, ℕ, ◌+◌, ◌<◌, false, List, [], ◌∷◌, ◌++◌, length, drop}
use Rattle.std.proofs.Common.{get_or, refl, sym, ap, ◌∙◌, append_assoc, append-nil, arith}
use Rattle.std.proofs.lemmas.List.{drop_more}
use Rattle.std.proofs.lemmas.List.Sums.{sum-map, sum_by-cons}
use Rattle.std.specs.Prelude.{Option}
use Rattle.flt_tree.specs.Measures.{points, points_of}
use Rattle.flt_tree.specs.declared.filter.Action.{Action}
use Rattle.flt_tree.specs.declared.filter.Condition.{Condition}
use Rattle.flt_tree.specs.declared.filter.PlainCall.{PlainCall}
use Rattle.flt_tree.specs.declared.filter.Span.{Span}
use Rattle.flt_tree.specs.declared.filter.Statement.{Statement, roll-Statement}
use Rattle.flt_tree.specs.declared.filter.Statement.TheFolds.{map-Statement, para-roll-Statement}
use Rattle.flt_tree.specs.declared.filter.Statement.TheOpen.{Statement-F}
use Rattle.flt_tree.specs.declared.filter.Statement.TheVariants.{Act, Call, Return, If, Repeat}
use Rattle.flt_tree.specs.declared.filter.Statement.TheVariants.{rolls-Act, rolls-Call, rolls-Return, rolls-If, rolls-Repeat}
use Rattle.flt_tree.specs.declared.filter.Status.{Status}
use Rattle.flt_emit.specs.Scope.{Scope}
use Rattle.flt_emit.specs.Statements.{Lines, statement_step, statement_text, with_lines, statements_of}
use Rattle.flt_emit.specs.Statements.{body_text, choice_text, turned_text, otherwise_text, if_text}

module _ (scope : Scope) (level point : ℕ) where
  -- a statement's lines are those of its layer
  layer : Statement-F Statement → List ℕ
  layer y = statement_step scope (map-Statement Statement (Statement × Lines) (λ z. (z, statement_text scope z)) y) level point

  unrolled : (s : Statement) (y : Statement-F Statement) → roll-Statement y ≡ s → statement_text scope s level point ≡ layer y
  unfolding layer
  unrolled s y e =
      ap (λ x. statement_text scope x level point) (sym e)
      ∙ ap (λ (f : Lines). f level point) (para-roll-Statement Lines (statement_step scope) y)

  -- the lines of an action are those of its layer
  pub acts : (s : Statement) (at : Span) (a : Action) → s ≡ Act at a →
      statement_text scope s level point ≡ statement_step scope (Statement-F.Act at a) level point
  unfolding layer
  acts s at a e = ap (λ x. statement_text scope x level point) e ∙ unrolled (Act at a) (Statement-F.Act at a) (rolls-Act at a)

  -- the lines of a plain call are those of its layer
  pub calls : (s : Statement) (at : Span) (c : PlainCall) → s ≡ Call at c →
      statement_text scope s level point ≡ statement_step scope (Statement-F.Call at c) level point
  unfolding layer
  calls s at c e = ap (λ x. statement_text scope x level point) e ∙ unrolled (Call at c) (Statement-F.Call at c) (rolls-Call at c)

  -- the lines of a return are those of its layer
  pub returning : (s : Statement) (at : Span) (status : Option Status) → s ≡ Return at status →
      statement_text scope s level point ≡ statement_step scope (Statement-F.Return at status) level point
  unfolding layer
  returning s at status e =
      ap (λ x. statement_text scope x level point) e ∙ unrolled (Return at status) (Statement-F.Return at status) (rolls-Return at status)

  -- the lines of an `if` are those of its layer, with the lines of its blocks
  pub chooses : (s : Statement) (at : Span) (asked : Condition) (granted refused : List Statement) → s ≡ If at asked granted refused →
      statement_text scope s level point ≡
      statement_step scope (Statement-F.If at asked (with_lines scope granted) (with_lines scope refused)) level point
  unfolding layer
  chooses s at asked granted refused e =
      ap (λ x. statement_text scope x level point) e
      ∙ unrolled (If at asked granted refused) (Statement-F.If at asked granted refused) (rolls-If at asked granted refused)

  -- the lines of a `repeat` are those of its layer, with the lines of its body
  pub repeats : (s : Statement) (at : Span) (turns : ℕ) (body : List Statement) → s ≡ Repeat at turns body →
      statement_text scope s level point ≡ statement_step scope (Statement-F.Repeat at turns (with_lines scope body)) level point
  unfolding layer
  repeats s at turns body e =
      ap (λ x. statement_text scope x level point) e
      ∙ unrolled (Repeat at turns body) (Statement-F.Repeat at turns body) (rolls-Repeat at turns body)

-- statements come back from their lines
pub statements_back : (scope : Scope) (block : List Statement) → statements_of (with_lines scope block) ≡ block
statements_back scope [] = refl
statements_back scope (s ∷ block) = ap (λ (l : List Statement). s ∷ l) (statements_back scope block)

-- an `if` whose first block has statements
pub choice_some : (scope : Scope) (line : ℕ) (asked : Condition) (granted : List Statement) (refused : List (Statement × Lines))
    (level point : ℕ) → 0 < length granted →
    choice_text scope line asked (with_lines scope granted) refused level point ≡
    if_text scope level point line false asked ++ (body_text scope granted (level + 1) (point + 1)
    ++ otherwise_text refused level (point + 1 + points granted))
choice_some scope line asked [] refused level point some = absurd (omega (arith, some))
choice_some scope line asked (g ∷ gs) refused level point some =
    ap (λ (block : List Statement). if_text scope level point line false asked ++ (body_text scope (g ∷ gs) (level + 1) (point + 1)
    ++ otherwise_text refused level (point + 1 + points block)))
    (statements_back scope (g ∷ gs))

-- an `if` whose first block has none
pub choice_none : (scope : Scope) (line : ℕ) (asked : Condition) (granted : List Statement) (refused : List (Statement × Lines))
    (level point : ℕ) → length granted ≡ 0 →
    choice_text scope line asked (with_lines scope granted) refused level point ≡ turned_text scope line asked refused level point
choice_none scope line asked [] refused level point none = refl
choice_none scope line asked (g ∷ gs) refused level point none = absurd (omega (arith, none))

-- ---- statements one after the other

points_cons : (s : Statement) (rest : List Statement) → points (s ∷ rest) ≡ points_of s + points rest
points_cons s rest = sum-map points_of (s ∷ rest)
    ∙ (sum_by-cons points_of s rest ∙ ap (λ n. points_of s + n) (sym (sum-map points_of rest)))

-- the points from a statement on are those of the statement and of the rest
pub points_next : (block : List Statement) (i : ℕ) (s : Statement) → i < length block → s ≡ get_or block i s →
    points (drop i block) ≡ points_of s + points (drop (i + 1) block)
points_next block i s below is = ap points (drop_more block i s below ∙ ap (λ (x : Statement). x ∷ drop (i + 1) block) (sym is))
    ∙ points_cons s (drop (i + 1) block)

-- the lines of a block from a statement on are those of the statement and of the rest
pub body_next : (scope : Scope) (block : List Statement) (i : ℕ) (s : Statement) (level point : ℕ) → i < length block →
    s ≡ get_or block i s →
    body_text scope (drop i block) level point ≡
    statement_text scope s level point ++ body_text scope (drop (i + 1) block) level (point + points_of s)
body_next scope block i s level point below is =
    ap (λ (b : List Statement). body_text scope b level point)
    (drop_more block i s below ∙ ap (λ (x : Statement). x ∷ drop (i + 1) block) (sym is))

-- ---- lines that are written one after the other

-- three parts that were written one after the other are one text
pub acted : (a b c d x y z : List ℕ) → b ≡ a ++ (x ++ []) → c ≡ b ++ y → d ≡ c ++ (z ++ []) → d ≡ a ++ (x ++ (y ++ (z ++ [])))
acted a b c d x y z e f g =
    g ∙ ap (λ (l : List ℕ). l ++ (z ++ [])) (f ∙ ap (λ (l : List ℕ). l ++ y) e) ∙ simp (append_assoc, append-nil)

-- four parts that were written one after the other are one text
pub called : (a b c d e w x y z : List ℕ) → b ≡ a ++ w → c ≡ b ++ (x ++ []) → d ≡ c ++ y → e ≡ d ++ (z ++ []) →
    e ≡ a ++ (w ++ (x ++ (y ++ (z ++ []))))
called a b c d e w x y z p q r s = acted b c d e x y z q r s ∙ ap (λ (l : List ℕ). l ++ (x ++ (y ++ (z ++ [])))) p
    ∙ append_assoc a w (x ++ (y ++ (z ++ [])))

-- two parts that were written one after the other are one text
pub left : (a b c x z : List ℕ) → b ≡ a ++ x → c ≡ b ++ (z ++ []) → c ≡ a ++ (x ++ (z ++ []))
left a b c x z e f = f ∙ ap (λ (l : List ℕ). l ++ (z ++ [])) e ∙ append_assoc a x (z ++ [])

-- three parts that were written one after the other are one text
pub enclosed : (a b c d x y z : List ℕ) → b ≡ a ++ x → c ≡ b ++ y → d ≡ c ++ z → d ≡ a ++ (x ++ (y ++ z))
enclosed a b c d x y z e f g = g ∙ ap (λ (l : List ℕ). l ++ z) (f ∙ ap (λ (l : List ℕ). l ++ y) e) ∙ simp append_assoc
