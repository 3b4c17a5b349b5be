-- There is no first return that isn't one of its place where all are.
use Rattle.std.proofs.Common.{◌≡◌, ℕ, Bool, true, false, List, [], ◌∷◌, map, refl, sym, ap, subst, ◌∙◌}
use Rattle.std.specs.Option.{option_or}
use Rattle.std.specs.Prelude.{Option, Some, None, is_none, ◌&&◌}
use Rattle.std.specs.List.{list_all}
use Rattle.flt_rules.specs.declared.place.Place.{Place}
use Rattle.flt_tree.specs.Filter.{head_place}
use Rattle.flt_tree.specs.declared.filter.Callback.{Callback}
use Rattle.flt_tree.specs.declared.filter.Filter.{Filter}
use Rattle.flt_tree.specs.declared.filter.Statement.{Statement}
use Rattle.flt_tree.specs.declared.filter.Statement.TheFolds.{map-Statement, fold-roll-Statement, ind-Statement}
use Rattle.flt_tree.specs.declared.filter.Statement.TheOpen.{Statement-F}
use Rattle.flt_emit_read.specs.AsRead.{fits_return, fits_step, statement_fits, callback_fits, returns_fit}
use Rattle.flt_emit_read.specs.Unfit.{first_of, unless_fits, unfit_step, unfit_of, unfit_in, callbacks_unfit, first_unfit}

-- neither of two is there
none_of_two : (line other : Option ℕ) (a b : Bool) → is_none line ≡ a → is_none other ≡ b → is_none (option_or line other) ≡ (a && b)
none_of_two None other a b e h = rw (sym e, sym h) refl
none_of_two (Some line) other a b e h = rw (sym e) refl

none_where_fits : (fits : Bool) (line : ℕ) → is_none (unless_fits fits line) ≡ fits
none_where_fits true line = refl
none_where_fits false line = refl

module _ (at : Place) where
  Same : Statement → Type 0
  Same s = is_none (unfit_of at s) ≡ statement_fits at s

  all_same : (es : List ((s : Statement) × Same s)) →
      is_none (first_of (map (unfit_of at) (map (λ e. e.0) es))) ≡ list_all (λ b. b) (map (statement_fits at) (map (λ e. e.0) es))
  unfolding Same
  all_same [] = refl
  all_same (e ∷ es) = none_of_two _ _ _ _ e.1 (all_same es)

  step_same : (y : Statement-F ((s : Statement) × Same s)) →
      is_none (unfit_step at (map-Statement Statement (Option ℕ) (unfit_of at)
      (map-Statement ((s : Statement) × Same s) Statement (λ e. e.0) y)))
      ≡ fits_step at (map-Statement Statement Bool (statement_fits at)
      (map-Statement ((s : Statement) × Same s) Statement (λ e. e.0) y))
  step_same (Statement-F.Return span s) = none_where_fits (fits_return at s) span.line
  step_same (Statement-F.If span c granted refused) = none_of_two _ _ _ _ (all_same granted) (all_same refused)
  step_same (Statement-F.Repeat span n body) = all_same body
  step_same _ = refl

  statement_same : (s : Statement) → Same s
  unfolding Same
  statement_same = ind-Statement Same (λ x y is.
      ap is_none (fold-roll-Statement (Option ℕ) (unfit_step at) x)
      ∙ subst (λ z. is_none (unfit_step at (map-Statement Statement (Option ℕ) (unfit_of at) z))
      ≡ fits_step at (map-Statement Statement Bool (statement_fits at) z)) is (step_same y)
      ∙ sym (fold-roll-Statement Bool (fits_step at) x))

  body_same : (body : List Statement) → is_none (unfit_in at body) ≡ list_all (λ b. b) (map (statement_fits at) body)
  unfolding Same
  body_same [] = refl
  body_same (s ∷ body) = none_of_two _ _ _ _ (statement_same s) (body_same body)

callbacks_same : (cs : List Callback) → is_none (callbacks_unfit cs) ≡ list_all callback_fits cs
callbacks_same [] = refl
callbacks_same (c ∷ cs) = none_of_two _ _ _ _ (body_same (head_place c.head) c.body) (callbacks_same cs)

-- each return is one of its place where there is no first one that isn't
pub is_none_where_all_fit : (f : Filter) → returns_fit f ≡ is_none (first_unfit f)
is_none_where_all_fit f = sym (callbacks_same f.callbacks)
