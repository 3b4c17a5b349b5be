-- No routine is missing exactly where each call finds its own.
use Rattle.std.proofs.Common.{◌≡◌, Bool, true, false, List, [], ◌∷◌, map, refl, sym, ap, subst, ◌∙◌}
use Rattle.std.specs.Prelude.{Option, Some, None, is_none, ◌&&◌}
use Rattle.std.specs.List.{list_all}
use Rattle.flt_tree.specs.Declarations.{finds_routine, test_finds, finds_step, statement_finds, finds_routines, has_deferred, has_generic}
use Rattle.flt_syntax.specs.Whole.{first_of, first_some, unless, missing_in, missing_by, missing_step, missing_of, missing}
use Rattle.flt_tree.specs.declared.filter.Callback.{Callback}
use Rattle.flt_tree.specs.declared.filter.Condition.{Condition}
use Rattle.flt_tree.specs.declared.filter.Condition.TheVariants.{Succeeds}
use Rattle.flt_tree.specs.declared.filter.FallibleCall.{FallibleCall}
use Rattle.flt_tree.specs.declared.filter.FallibleCall.TheVariants.{QueueDeferredIoWorkItem, QueueGenericWorkItem}
use Rattle.flt_tree.specs.declared.filter.Head.{Head}
use Rattle.flt_tree.specs.declared.filter.Position.{Position}
use Rattle.flt_tree.specs.declared.filter.Routine.{Routine}
use Rattle.flt_tree.specs.declared.filter.Statement.{Statement}
use Rattle.flt_tree.specs.declared.filter.Statement.TheOpen.{Statement-F}
use Rattle.flt_tree.specs.declared.filter.Statement.TheFolds.{map-Statement, fold-roll-Statement, ind-Statement}
use Rattle.flt_syntax.proofs.TokenKinds.{differ}

first_is_none : {A : Type 0} (a b : Option A) → is_none (first_of a b) ≡ (is_none a && is_none b)
first_is_none None b = refl
first_is_none (Some a) b = refl

unless_is_none : (found : Bool) (at : Position) → is_none (unless found at) ≡ found
unless_is_none true at = refl
unless_is_none false at = refl

module _ (cs : List Callback) (from : Head) where
  call_same : (c : FallibleCall Routine) → is_none (missing_in cs from c) ≡ finds_routine cs from c
  call_same (QueueDeferredIoWorkItem r context) = unless_is_none (has_deferred from r.name cs) r.position
  call_same (QueueGenericWorkItem r context) = unless_is_none (has_generic r.name cs) r.position
  call_same _ = refl

  test_same : (c : Condition) → is_none (missing_by cs from c) ≡ test_finds cs from c
  test_same (Succeeds c) = call_same c
  test_same _ = refl

  Same : Statement → Type 0
  Same s = is_none (missing_of cs from s) ≡ statement_finds cs from s

  both : (a b : Option Position) (x y : Bool) → is_none a ≡ x → is_none b ≡ y → is_none (first_of a b) ≡ (x && y)
  both a b x y e h = first_is_none a b ∙ rw (e, h) refl

  all_same : (es : List ((s : Statement) × Same s)) →
      is_none (first_some (map (missing_of cs from) (map (λ e. e.0) es))) ≡ list_all (λ b. b)
      (map (statement_finds cs from) (map (λ e. e.0) es))
  unfolding Same
  all_same [] = refl
  all_same (e ∷ es) = both _ _ _ _ e.1 (all_same es)

  step_same : (y : Statement-F ((s : Statement) × Same s)) →
      is_none (missing_step cs from (map-Statement Statement (Option Position) (missing_of cs from)
      (map-Statement ((s : Statement) × Same s) Statement (λ e. e.0) y)))
      ≡ finds_step cs from (map-Statement Statement Bool (statement_finds cs from)
      (map-Statement ((s : Statement) × Same s) Statement (λ e. e.0) y))
  step_same (Statement-F.If span c granted refused) = both _ _ _ _ (test_same c) (both _ _ _ _ (all_same granted) (all_same refused))
  step_same (Statement-F.Repeat span turns body) = all_same body
  step_same _ = refl

  statement_same : (s : Statement) → Same s
  unfolding Same
  statement_same = ind-Statement Same (λ x y is.
      ap is_none (fold-roll-Statement (Option Position) (missing_step cs from) x)
      ∙ subst (λ z. is_none (missing_step cs from (map-Statement Statement (Option Position) (missing_of cs from) z))
      ≡ finds_step cs from (map-Statement Statement Bool (statement_finds cs from) z)) is (step_same y)
      ∙ sym (fold-roll-Statement Bool (finds_step cs from) x))

  body_same : (body : List Statement) → is_none (missing cs from body) ≡ finds_routines cs from body
  unfolding Same
  body_same [] = refl
  body_same (s ∷ body) = both _ _ _ _ (statement_same s) (body_same body)

is_none_none : {A : Type 0} (m : Option A) → is_none m ≡ true → m ≡ None
is_none_none None e = refl
is_none_none (Some a) e = elim (differ e) [ ]

-- where no routine is missing, each call finds its own
pub finds_all : (cs : List Callback) (from : Head) (body : List Statement) → missing cs from body ≡ None →
    finds_routines cs from body ≡ true
finds_all cs from body e = sym (body_same cs from body) ∙ ap is_none e

-- where each call finds its own routine, none is missing
pub none_missing : (cs : List Callback) (from : Head) (body : List Statement) → finds_routines cs from body ≡ true →
    missing cs from body ≡ None
none_missing cs from body e = is_none_none (missing cs from body) (body_same cs from body ∙ e)
