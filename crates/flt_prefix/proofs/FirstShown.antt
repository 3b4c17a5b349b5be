-- The fault that only the whole text shows is the first of all that are.
use Rattle.std.proofs.Common.{◌≡◌, Bool, true, false, List, [], ◌∷◌, ◌++◌, map, refl, sym, ap, subst, ◌∙◌}
use Rattle.std.specs.Prelude.{Option, Some, None, ◌&&◌}
use Rattle.std.specs.List.{list_all}
use Rattle.flt_syntax.specs.Cursor.{fault}
use Rattle.flt_syntax.specs.declared.fault.FaultKind.TheVariants.{E04}
use Rattle.flt_syntax.specs.RoutineFails as bad
use Rattle.flt_syntax.specs.RoutineFails.{TestMisses, StatementMisses, BodyMisses}
use Rattle.flt_syntax.specs.TextFails as text_fails
use Rattle.flt_syntax.specs.TextFails.{CallbacksMiss, WholeFails}
use Rattle.flt_syntax.specs.declared.fault.SyntaxFault.{SyntaxFault}
use Rattle.flt_syntax.specs.Lex.{tokens}
use Rattle.flt_tree.specs.Declarations.{IsServed, finds_routine, test_finds, finds_step, statement_finds}
use Rattle.flt_tree.specs.Declarations.{finds_routines, has_deferred, has_generic}
use Rattle.flt_tree.specs.declared.filter.Callback.{Callback}
use Rattle.flt_tree.specs.declared.filter.Condition.{Condition}
use Rattle.flt_tree.specs.declared.filter.Condition.TheVariants.{Succeeds}
use Rattle.flt_tree.specs.declared.filter.FallibleCall.{FallibleCall}
use Rattle.flt_tree.specs.declared.filter.FallibleCall.TheVariants.{QueueDeferredIoWorkItem, QueueGenericWorkItem}
use Rattle.flt_tree.specs.declared.filter.Filter.{Filter}
use Rattle.flt_tree.specs.declared.filter.Head.{Head}
use Rattle.flt_tree.specs.declared.filter.Position.{Position}
use Rattle.flt_tree.specs.declared.filter.Routine.{Routine}
use Rattle.flt_tree.specs.declared.filter.Statement.{Statement, roll-Statement}
use Rattle.flt_tree.specs.declared.filter.Statement.TheVariants.{If, Repeat, rolls-If, rolls-Repeat}
use Rattle.flt_tree.specs.declared.filter.Statement.TheOpen.{Statement-F}
use Rattle.flt_tree.specs.declared.filter.Statement.TheFolds.{fold-Statement, map-Statement, fold-roll-Statement, ind-Statement}
use Rattle.flt_prefix.specs.Shown.{unless_found, all_of, lacking_in, lacking_by, lacking_step, lacking_of}
use Rattle.flt_prefix.specs.Shown.{lacking, callback_shows, queue_shows, shown, FirstInTheText}
use Rattle.flt_prefix.proofs.Ascending.{ascends}
use Rattle.flt_prefix.proofs.Spans.{Spans, file_spans, sorted}
use Rattle.flt_prefix.specs.Shown.{place}

differ : false ≡ true → ⊥
differ e = cc

abbrev is_empty : {A : Type 0} → List A → Bool
is_empty [] = true
is_empty (x ∷ xs) = false

both_empty : {A : Type 0} (xs ys : List A) → is_empty (xs ++ ys) ≡ (is_empty xs && is_empty ys)
both_empty [] ys = refl
both_empty (x ∷ xs) ys = refl

none_of : {A : Type 0} (xs : List A) → is_empty xs ≡ true → xs ≡ []
none_of [] e = refl
none_of (x ∷ xs) e = elim (differ e) [ ]

unless_empty : {A : Type 0} (found : Bool) (a : A) → is_empty (unless_found found a) ≡ found
unless_empty true a = refl
unless_empty false a = refl

unrolled : (X : Type 0) (step : Statement-F X → X) (s : Statement) (y : Statement-F Statement) → roll-Statement y ≡ s →
    fold-Statement X step s ≡ step (map-Statement Statement X (fold-Statement X step) y)
unrolled X step s y e = ap (fold-Statement X step) (sym e) ∙ fold-roll-Statement X step y

module _ (cs : List Callback) (from : Head) where
  -- ---- nothing is missing where each call finds its routine

  call_same : (c : FallibleCall Routine) → is_empty (lacking_in cs from c) ≡ finds_routine cs from c
  call_same (QueueDeferredIoWorkItem r context) = unless_empty (has_deferred from r.name cs) r.position
  call_same (QueueGenericWorkItem r context) = unless_empty (has_generic r.name cs) r.position
  call_same _ = refl

  test_same : (c : Condition) → is_empty (lacking_by cs from c) ≡ test_finds cs from c
  test_same (Succeeds c) = call_same c
  test_same _ = refl

  Same : Statement → Type 0
  Same s = is_empty (lacking_of cs from s) ≡ statement_finds cs from s

  both : (xs ys : List Position) (a b : Bool) → is_empty xs ≡ a → is_empty ys ≡ b → is_empty (xs ++ ys) ≡ (a && b)
  both xs ys a b e h = both_empty xs ys ∙ rw (e, h) refl

  all_same : (es : List ((s : Statement) × Same s)) →
      is_empty (all_of (map (lacking_of cs from) (map (λ e. e.0) es))) ≡ list_all (λ b. b)
      (map (statement_finds cs from) (map (λ e. e.0) es))
  unfolding Same
  all_same [] = refl
  all_same (e ∷ es) = both _ _ _ _ e.1 (all_same es)

  step_same : (y : Statement-F ((s : Statement) × Same s)) →
      is_empty (lacking_step cs from (map-Statement Statement (List Position) (lacking_of cs from)
      (map-Statement ((s : Statement) × Same s) Statement (λ e. e.0) y)))
      ≡ finds_step cs from (map-Statement Statement Bool (statement_finds cs from)
      (map-Statement ((s : Statement) × Same s) Statement (λ e. e.0) y))
  step_same (Statement-F.If span c granted refused) = both _ _ _ _ (test_same c) (both _ _ _ _ (all_same granted) (all_same refused))
  step_same (Statement-F.Repeat span turns body) = all_same body
  step_same _ = refl

  statement_same : (s : Statement) → Same s
  unfolding Same
  statement_same = ind-Statement Same (λ x y is.
      ap is_empty (fold-roll-Statement (List Position) (lacking_step cs from) x)
      ∙ subst (λ z. is_empty (lacking_step cs from (map-Statement Statement (List Position) (lacking_of cs from) z))
      ≡ finds_step cs from (map-Statement Statement Bool (statement_finds cs from) z)) is (step_same y)
      ∙ sym (fold-roll-Statement Bool (finds_step cs from) x))

  body_same : (body : List Statement) → is_empty (lacking cs from body) ≡ finds_routines cs from body
  unfolding Same
  body_same [] = refl
  body_same (s ∷ body) = both _ _ _ _ (statement_same s) (body_same body)

  none_in_test : (c : Condition) → test_finds cs from c ≡ true → lacking_by cs from c ≡ []
  none_in_test c e = none_of (lacking_by cs from c) (test_same c ∙ e)

  none_in_statement : (s : Statement) → statement_finds cs from s ≡ true → lacking_of cs from s ≡ []
  unfolding Same
  none_in_statement s e = none_of (lacking_of cs from s) (statement_same s ∙ e)

  none_in_body : (body : List Statement) → finds_routines cs from body ≡ true → lacking cs from body ≡ []
  none_in_body body e = none_of (lacking cs from body) (body_same body ∙ e)

  -- ---- what is missed first is the first that is missing

  -- it is the first of the list
  abbrev Heads : Position → List Position → Type 0
  Heads at ps = (rest : List Position) × (ps ≡ at ∷ rest)

  first_too : (at : Position) (ps qs : List Position) → Heads at ps → Heads at (ps ++ qs)
  first_too at ps qs h = (h.0 ++ qs, ap (λ x. x ++ qs) h.1)

  past_none : (at : Position) (ps qs : List Position) → ps ≡ [] → Heads at qs → Heads at (ps ++ qs)
  past_none at ps qs e h = (h.0, ap (λ x. x ++ qs) e ∙ h.1)

  by_layer : (at : Position) (s : Statement) (y : Statement-F Statement) → roll-Statement y ≡ s →
      Heads at (lacking_step cs from (map-Statement Statement (List Position) (lacking_of cs from) y)) → Heads at (lacking_of cs from s)
  by_layer at s y e h = (h.0, unrolled _ (lacking_step cs from) s y e ∙ h.1)

  test_first : {c : Condition} {at : Position} → TestMisses cs from c at → Heads at (lacking_by cs from c)
  test_first (bad.deferred e) = ([], rw e refl)
  test_first (bad.generic e) = ([], rw e refl)

  mutual
    statement_first : {s : Statement} {at : Position} → StatementMisses cs from s at → Heads at (lacking_of cs from s)
    statement_first {at = at} (bad.test l {c = c} g r h) =
        by_layer at (If l c g r) (Statement-F.If l c g r) (rolls-If l c g r)
        (first_too at (lacking_by cs from c) (lacking cs from g ++ lacking cs from r) (test_first h))
    statement_first {at = at} (bad.granted l {c = c} {granted = g} r e h) =
        by_layer at (If l c g r) (Statement-F.If l c g r) (rolls-If l c g r)
        (past_none at (lacking_by cs from c) (lacking cs from g ++ lacking cs from r) (none_in_test c e)
        (first_too at (lacking cs from g) (lacking cs from r) (body_first h)))
    statement_first {at = at} (bad.refused l {c = c} g {refused = r} e f h) =
        by_layer at (If l c g r) (Statement-F.If l c g r) (rolls-If l c g r)
        (past_none at (lacking_by cs from c) (lacking cs from g ++ lacking cs from r) (none_in_test c e)
        (past_none at (lacking cs from g) (lacking cs from r) (none_in_body g f) (body_first h)))
    statement_first {at = at} (bad.turns l n {body = b} h) =
        by_layer at (Repeat l n b) (Statement-F.Repeat l n b) (rolls-Repeat l n b) (body_first h)

    body_first : {body : List Statement} {at : Position} → BodyMisses cs from body at → Heads at (lacking cs from body)
    body_first {at = at} (bad.here {s = s} {ss = ss} h) = first_too at (lacking_of cs from s) (lacking cs from ss) (statement_first h)
    body_first {at = at} (bad.later {s = s} {ss = ss} e h) =
        past_none at (lacking_of cs from s) (lacking cs from ss) (none_in_statement s e) (body_first h)

-- ---- callbacks and the whole

abbrev First : SyntaxFault → List SyntaxFault → Type 0
First f fs = (rest : List SyntaxFault) × (fs ≡ f ∷ rest)

callbacks_first : {all cs : List Callback} {f : SyntaxFault} → CallbacksMiss all cs f → First f (all_of (map (callback_shows all) cs))
callbacks_first {all = all} (text_fails.no_pre {c = c} {cs = cs} e) =
    (map (fault E04) (lacking all c.head c.body) ++ all_of (map (callback_shows all) cs), rw e refl)
callbacks_first {all = all} (text_fails.no_routine {c = c} {cs = cs} e h) =
    let x = body_first all c.head h in (map (fault E04) x.0 ++ all_of (map (callback_shows all) cs), rw (e, x.1) refl)
callbacks_first {all = all} (text_fails.later {c = c} e h m) =
    let x = callbacks_first m in (x.0, rw (e, none_in_body all c.head c.body h) x.1)

served_none : (q : Option Position) (cs : List Callback) → IsServed q cs → queue_shows q cs ≡ []
served_none None cs h = refl
served_none (Some at) cs h = rw h refl

shown_first : {filter : Filter} {f : SyntaxFault} → WholeFails filter f → First f (shown filter)
shown_first {filter = filter} (text_fails.no_canceled e h) =
    (all_of (map (callback_shows filter.callbacks) filter.callbacks), rw (e, h) refl)
shown_first {filter = filter} (text_fails.wanting served m) =
    let x = callbacks_first m in (x.0, rw (served_none filter.queue filter.callbacks served) x.1)

-- the law
pub first_in_the_text : FirstInTheText
first_in_the_text text filter f r h =
    let x = shown_first h in
    let s = file_spans r.grammar in
    record {
      others = x.0;
      first = x.1;
      before = sorted (subst (λ fs. Spans place (tokens text) fs s.0) x.1 s.1) (ascends text);
    }
