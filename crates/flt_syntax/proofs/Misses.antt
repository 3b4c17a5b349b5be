-- Where a body first names a routine that is missing: by the relation, and by the search.
use Rattle.std.proofs.Common.{◌≡◌, Bool, true, false, List, [], ◌∷◌, map, refl, sym, ap, subst, ◌∙◌}
use Rattle.std.specs.Prelude.{Option, Some, None, ◌&&◌}
use Rattle.flt_tree.specs.Declarations.{has_deferred, has_generic, finds_routine, test_finds, statement_finds}
use Rattle.flt_syntax.specs.Whole.{first_of, unless, missing_in, missing_by, missing_step, missing_of, missing}
use Rattle.flt_tree.specs.declared.filter.Callback.{Callback}
use Rattle.flt_tree.specs.declared.filter.Condition.{Condition}
use Rattle.flt_tree.specs.declared.filter.Condition.TheVariants.{Succeeds}
use Rattle.flt_tree.specs.declared.filter.FallibleCall.{FallibleCall}
use Rattle.flt_tree.specs.declared.filter.FallibleCall.TheVariants.{QueueDeferredIoWorkItem, QueueGenericWorkItem}
use Rattle.flt_tree.specs.declared.filter.Head.{Head}
use Rattle.flt_tree.specs.declared.filter.Position.{Position}
use Rattle.flt_tree.specs.declared.filter.Routine.{Routine}
use Rattle.flt_tree.specs.declared.filter.Span.{Span}
use Rattle.flt_tree.specs.declared.filter.Statement.{Statement, roll-Statement}
use Rattle.flt_tree.specs.declared.filter.Statement.TheVariants.{If, Repeat, rolls-If, rolls-Repeat}
use Rattle.flt_tree.specs.declared.filter.Statement.TheOpen.{Statement-F}
use Rattle.flt_tree.specs.declared.filter.Statement.TheFolds.{fold-Statement, map-Statement, fold-roll-Statement, ind-Statement}
use Rattle.flt_syntax.proofs.Routines.{finds_all, none_missing}
use Rattle.flt_syntax.specs.RoutineFails as bad
use Rattle.flt_syntax.specs.RoutineFails.{TestMisses, StatementMisses, BodyMisses}

unrolled : (X : Type 0) (step : Statement-F X → X) (s : Statement) (y : Statement-F Statement) → roll-Statement y ≡ s →
    fold-Statement X step s ≡ step (map-Statement Statement X (fold-Statement X step) y)
unrolled X step s y e = ap (fold-Statement X step) (sym e) ∙ fold-roll-Statement X step y

none_some : {A : Type 0} (a : A) → None ≡ Some a → ⊥
none_some a e = cc

some_same : {A : Type 0} (a b : A) → Some a ≡ Some b → a ≡ b
some_same a b e = cc

first_none : {A : Type 0} (m : Option A) → first_of m None ≡ None → m ≡ None
first_none None e = refl
first_none (Some a) e = e

module _ (cs : List Callback) (from : Head) where
  -- ---- it misses so: the search says so

  test_tells : {c : Condition} {at : Position} → TestMisses cs from c at → missing_by cs from c ≡ Some at
  test_tells (bad.deferred e) = rw e refl
  test_tells (bad.generic e) = rw e refl

  call_finds : (c : FallibleCall Routine) → finds_routine cs from c ≡ true → missing_in cs from c ≡ None
  call_finds (QueueDeferredIoWorkItem r context) e = rw e refl
  call_finds (QueueGenericWorkItem r context) e = rw e refl
  call_finds _ e = refl

  test_found : (c : Condition) → test_finds cs from c ≡ true → missing_by cs from c ≡ None
  test_found (Succeeds c) e = call_finds c e
  test_found _ e = refl

  and_true : (b : Bool) → b ≡ true → (b && true) ≡ true
  and_true b e = rw e refl

  statement_found : (s : Statement) → statement_finds cs from s ≡ true → missing_of cs from s ≡ None
  statement_found s e = first_none (missing_of cs from s) (none_missing cs from (s ∷ []) (and_true (statement_finds cs from s) e))

  mutual
    statement_tells : {s : Statement} {at : Position} → StatementMisses cs from s at → missing_of cs from s ≡ Some at
    statement_tells (bad.test l {c = c} g r h) =
        unrolled _ (missing_step cs from) (If l c g r) (Statement-F.If l c g r) (rolls-If l c g r) ∙ rw (test_tells h) refl
    statement_tells (bad.granted l {c = c} {granted = g} r e h) =
        unrolled _ (missing_step cs from) (If l c g r) (Statement-F.If l c g r) (rolls-If l c g r)
        ∙ rw (test_found c e) (rw (body_tells h) refl)
    statement_tells (bad.refused l {c = c} g {refused = r} e f h) =
        unrolled _ (missing_step cs from) (If l c g r) (Statement-F.If l c g r) (rolls-If l c g r)
        ∙ rw (test_found c e) (rw (none_missing cs from g f) (body_tells h))
    statement_tells (bad.turns l n {body = b} h) =
        unrolled _ (missing_step cs from) (Repeat l n b) (Statement-F.Repeat l n b) (rolls-Repeat l n b) ∙ body_tells h

    -- where a body misses a routine, the search finds that place
    pub body_tells : {body : List Statement} {at : Position} → BodyMisses cs from body at → missing cs from body ≡ Some at
    body_tells (bad.here h) = rw (statement_tells h) refl
    body_tells (bad.later {s = s} e h) = rw (statement_found s e) (body_tells h)

  -- ---- the search says so: it misses so

  no_some : {A : Type 0} {m : Option A} {a : A} {P : Type 0} → m ≡ None → m ≡ Some a → P
  no_some {a = a} e h = elim (none_some a (sym e ∙ h)) [ ]

  call_by : (c : FallibleCall Routine) (at : Position) → missing_in cs from c ≡ Some at → TestMisses cs from (Succeeds c) at
  call_by (QueueDeferredIoWorkItem r context) at e = deferred_by r.position (has_deferred from r.name cs) refl e
    where
      deferred_by : (p : Position) (b : Bool) → has_deferred from r.name cs ≡ b → unless b r.position ≡ Some at →
          TestMisses cs from (Succeeds (QueueDeferredIoWorkItem r context)) at
      deferred_by p true f e = elim (none_some at e) [ ]
      deferred_by p false f e =
          subst (TestMisses cs from (Succeeds (QueueDeferredIoWorkItem r context))) (some_same r.position at e) (bad.deferred f)
  call_by (QueueGenericWorkItem r context) at e = generic_by (has_generic r.name cs) refl e
    where
      generic_by : (b : Bool) → has_generic r.name cs ≡ b → unless b r.position ≡ Some at →
          TestMisses cs from (Succeeds (QueueGenericWorkItem r context)) at
      generic_by true f e = elim (none_some at e) [ ]
      generic_by false f e =
          subst (TestMisses cs from (Succeeds (QueueGenericWorkItem r context))) (some_same r.position at e) (bad.generic f)
  call_by _ at e = elim (none_some at e) [ ]

  test_by : (c : Condition) (at : Position) → missing_by cs from c ≡ Some at → TestMisses cs from c at
  test_by (Succeeds c) at e = call_by c at e
  test_by _ at e = elim (none_some at e) [ ]

  call_finds_none : (c : FallibleCall Routine) → missing_in cs from c ≡ None → finds_routine cs from c ≡ true
  call_finds_none (QueueDeferredIoWorkItem r context) e = found_by (has_deferred from r.name cs) r.position e
    where
      found_by : (b : Bool) (p : Position) → unless b p ≡ None → b ≡ true
      found_by true p e = refl
      found_by false p e = no_some refl (sym e)
  call_finds_none (QueueGenericWorkItem r context) e = found_by (has_generic r.name cs) r.position e
    where
      found_by : (b : Bool) (p : Position) → unless b p ≡ None → b ≡ true
      found_by true p e = refl
      found_by false p e = no_some refl (sym e)
  call_finds_none _ e = refl

  test_finds_none : (c : Condition) → missing_by cs from c ≡ None → test_finds cs from c ≡ true
  test_finds_none (Succeeds c) e = call_finds_none c e
  test_finds_none _ e = refl

  Told : Statement → Type 0
  Told s = (at : Position) → missing_of cs from s ≡ Some at → StatementMisses cs from s at

  one_true : (b : Bool) → (b && true) ≡ true → b ≡ true
  one_true true e = refl
  one_true false e = e

  no_first : (m : Option Position) → m ≡ None → first_of m None ≡ None
  no_first m e = rw e refl

  body_turn : (s : Statement) (ss : List Statement) (at : Position) (m : Option Position) → missing_of cs from s ≡ m →
      ((a : Position) → missing_of cs from s ≡ Some a → StatementMisses cs from s a) →
      (missing cs from ss ≡ Some at → BodyMisses cs from ss at) → first_of m (missing cs from ss) ≡ Some at → BodyMisses cs from (s ∷ ss) at
  body_turn s ss at None h told rest e =
      bad.later (one_true (statement_finds cs from s) (finds_all cs from (s ∷ []) (no_first (missing_of cs from s) h))) (rest e)
  body_turn s ss at (Some a) h told rest e = bad.here (told at (h ∙ e))

  body_by : (es : List ((s : Statement) × Told s)) (at : Position) → missing cs from (map (λ e. e.0) es) ≡ Some at →
      BodyMisses cs from (map (λ e. e.0) es) at
  unfolding Told
  body_by [] at e = elim (none_some at e) [ ]
  body_by (x ∷ es) at e = body_turn x.0 (map (λ e. e.0) es) at (missing_of cs from x.0) refl x.1 (body_by es at) e

  choice_by : (l : Span) (c : Condition) (g r : List Statement) (at : Position) (m n : Option Position) →
      missing_by cs from c ≡ m → missing cs from g ≡ n → (missing cs from g ≡ Some at → BodyMisses cs from g at) →
      (missing cs from r ≡ Some at → BodyMisses cs from r at) → first_of m (first_of n (missing cs from r)) ≡ Some at →
      StatementMisses cs from (If l c g r) at
  choice_by l c g r at (Some a) n h k p q e = bad.test l g r (test_by c at (h ∙ e))
  choice_by l c g r at None (Some a) h k p q e = bad.granted l r (test_finds_none c h) (p (k ∙ e))
  choice_by l c g r at None None h k p q e = bad.refused l g (test_finds_none c h) (finds_all cs from g k) (q e)

  step_by : (y : Statement-F ((s : Statement) × Told s)) (at : Position) →
      missing_step cs from (map-Statement Statement (Option Position) (missing_of cs from)
      (map-Statement ((s : Statement) × Told s) Statement (λ e. e.0) y)) ≡ Some at →
      StatementMisses cs from (roll-Statement (map-Statement ((s : Statement) × Told s) Statement (λ e. e.0) y)) at
  step_by (Statement-F.If l c granted refused) at e =
      let g = map (λ (e : (s : Statement) × Told s). e.0) granted in let r = map (λ (e : (s : Statement) × Told s). e.0) refused in
      subst (λ s. StatementMisses cs from s at) (sym (rolls-If l c g r))
      (choice_by l c g r at (missing_by cs from c) (missing cs from g) refl refl (body_by granted at) (body_by refused at) e)
  step_by (Statement-F.Repeat l n body) at e =
      let b = map (λ (e : (s : Statement) × Told s). e.0) body in
      subst (λ s. StatementMisses cs from s at) (sym (rolls-Repeat l n b)) (bad.turns l n (body_by body at e))
  step_by _ at e = elim (none_some at e) [ ]

  statement_by : (s : Statement) → Told s
  unfolding Told
  statement_by = ind-Statement Told (λ x y is at e.
      subst (λ z. StatementMisses cs from (roll-Statement z) at) is
      (step_by y at (subst (λ z. missing_step cs from (map-Statement Statement (Option Position) (missing_of cs from) z) ≡ Some at) (sym is)
      (sym (fold-roll-Statement (Option Position) (missing_step cs from) x) ∙ e))))

  -- and the other way round
  pub body_told : (body : List Statement) (at : Position) → missing cs from body ≡ Some at → BodyMisses cs from body at
  unfolding Told
  body_told [] at e = elim (none_some at e) [ ]
  body_told (s ∷ ss) at e = body_turn s ss at (missing_of cs from s) refl (statement_by s) (body_told ss at) e
