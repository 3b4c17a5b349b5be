-- What lists of statements ask for, by their first statement and in parts.
use Rattle.std.proofs.Common.{◌≡◌, ℕ, zero, suc, Bool, true, List, [], ◌∷◌, ◌++◌, sym, ap, ◌∙◌}
use Rattle.std.proofs.lemmas.Bool.{and_from, and_parts}
use Rattle.std.specs.Prelude.{◌&&◌}
use Rattle.flt_rules.specs.declared.place.Place.{Place}
use Rattle.flt_tree.specs.declared.filter.Callback.{Callback}
use Rattle.flt_tree.specs.declared.filter.Span.{Span}
use Rattle.flt_tree.specs.declared.filter.Statement.{Statement, out-Statement}
use Rattle.flt_tree.specs.declared.filter.Statement.TheFolds.{map-Statement, fold_out-Statement}
use Rattle.flt_tree.specs.declared.filter.Statement.TheOpen.{Statement-F}
use Rattle.flt_tree.specs.declared.filter.Statement.TheVariants as tree
use Rattle.flt_tree.specs.declared.filter.Statement.TheViews.{outs-Repeat}
use Rattle.flt_model.specs.LocalSteps.{turns_left}
use Rattle.flt_starts.specs.Closed.{step_within, statement_within, body_within}

module _ (cs : List Callback) (may_start : ℕ → Bool) (at : Place) where
  -- what statements ask for may start
  abbrev pub Within : List Statement → Type 0
  Within list = body_within cs may_start at list ≡ true

  abbrev one : Statement → Bool
  one = statement_within cs may_start at

  -- that of the first and of those behind it
  pub first_within : (s : Statement) (rest : List Statement) → Within (s ∷ rest) → one s ≡ true
  first_within s rest h = (and_parts (one s) (body_within cs may_start at rest) h).0

  -- where statements ask for nothing but what may start, those after the first one do so, too
  pub rest_within : (s : Statement) (rest : List Statement) → Within (s ∷ rest) → Within rest
  rest_within s rest h = (and_parts (one s) (body_within cs may_start at rest) h).1

  pub cons_within : (s : Statement) (rest : List Statement) → one s ≡ true → Within rest → Within (s ∷ rest)
  cons_within s rest h k = and_from (one s) (body_within cs may_start at rest) h k

  -- statements and those behind them
  pub append_within : (xs ys : List Statement) → Within xs → Within ys → Within (xs ++ ys)
  append_within [] ys h k = k
  append_within (s ∷ xs) ys h k = cons_within s (xs ++ ys) (first_within s xs h) (append_within xs ys (rest_within s xs h) k)

  -- a statement by its kind
  pub layer_within : (s : Statement) → one s ≡ true →
      step_within cs may_start at (map-Statement Statement Bool one (out-Statement s)) ≡ true
  layer_within s h = sym (fold_out-Statement Bool (step_within cs may_start at) s) ∙ h

  -- a `repeat` asks for what its block asks for
  repeat_within : (span : Span) (turns : ℕ) (block : List Statement) → Within block → one (tree.Repeat span turns block) ≡ true
  repeat_within span turns block h =
      fold_out-Statement Bool (step_within cs may_start at) (tree.Repeat span turns block) ∙
      ap (λ (s : Statement-F Statement). step_within cs may_start at (map-Statement Statement Bool one s)) (outs-Repeat span turns block) ∙
      h

  -- the blocks of a choice, and what it asks
  pub choice_within : (b x y : Bool) → (b && (x && y)) ≡ true → (b ≡ true) × (x ≡ true) × (y ≡ true)
  choice_within b x y h =
      let outer = and_parts b (x && y) h in let inner = and_parts x y outer.1 in (outer.0, inner.0, inner.1)

  -- what a `repeat` leaves to be done
  pub turns_within : (span : Span) (turns : ℕ) (block rest : List Statement) → Within block → Within rest →
      Within (turns_left span turns block rest)
  turns_within span zero block rest b h = h
  turns_within span (suc turns) block rest b h =
      append_within block (tree.Repeat span turns block ∷ rest) b
      (cons_within (tree.Repeat span turns block) rest (repeat_within span turns block b) h)
