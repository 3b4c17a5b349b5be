-- Each point of a well-formed filter is that of a statement of the text, or of the end. So each instruction finds what it names, since the
-- filter's form says of each statement that what it calls is there; and there is one graph.
use Rattle.std.proofs.Common.{◌≡◌, ℕ, zero, suc, ◌+◌, ◌-◌, ◌<◌, ◌≤◌, Bool, true, List, [], ◌∷◌, ◌++◌}
use Rattle.std.proofs.Common.{length, Option, Some, None, ap, sym, subst, refl, ◌∙◌, arith, inl, inr}
use Rattle.std.specs.Prelude.{slice_get, is_some, ◌&&◌}
use Rattle.std.proofs.lemmas.Bool.{and_parts, cases_lt, cases_eq}
use Rattle.std.proofs.lemmas.List.{get_or_past, ext_get_or}
use Rattle.flt_rules.specs.declared.call.LockKind.{LockKind}
use Rattle.flt_rules.specs.declared.place.Place.{Place}
use Rattle.flt_tree.specs.Filter.{head_place}
use Rattle.flt_tree.specs.Declarations.{has_event, AreNewCallbacks, AreWhole, IsServed, finds_routine}
use Rattle.flt_tree.specs.Declarations.{test_finds, finds_step, statement_finds, finds_routines}
use Rattle.flt_rules.specs.Limits.{max_depth, max_repeats}
use Rattle.flt_tree.specs.Measures.{points_of, points, points_step}
use Rattle.flt_tree.specs.Registered.{numbered}
use Rattle.flt_tree.specs.WellFormed as fine
use Rattle.flt_tree.specs.WellFormed.{IsWellFormed, IsCondition, IsFallible, IsStatement, IsElse, AreStatements, AreCallbacks}
use Rattle.flt_tree.specs.declared.filter.Callback.{Callback}
use Rattle.flt_tree.specs.declared.filter.Condition.{Condition}
use Rattle.flt_tree.specs.declared.filter.Condition.TheVariants as condition
use Rattle.flt_tree.specs.declared.filter.FallibleCall.{FallibleCall}
use Rattle.flt_tree.specs.declared.filter.FallibleCall.TheVariants as fallible_call
use Rattle.flt_tree.specs.declared.filter.Filter.{Filter}
use Rattle.flt_tree.specs.declared.filter.Head.{Head}
use Rattle.flt_tree.specs.declared.filter.Head.TheVariants.{Canceled}
use Rattle.flt_tree.specs.declared.filter.Lock.{Lock}
use Rattle.flt_tree.specs.declared.filter.PlainCall.{PlainCall}
use Rattle.flt_tree.specs.declared.filter.PlainCall.TheVariants as plain_call
use Rattle.flt_tree.specs.declared.filter.Position.{Position}
use Rattle.flt_tree.specs.declared.filter.Routine.{Routine}
use Rattle.flt_tree.specs.declared.filter.Statement.{Statement, out-Statement}
use Rattle.flt_tree.specs.declared.filter.Statement.TheFolds.{map-Statement, fold_out-Statement}
use Rattle.flt_tree.specs.declared.filter.Statement.TheOpen.{Statement-F}
use Rattle.flt_tree.specs.declared.filter.Statement.TheVariants as tree
use Rattle.flt_tree.specs.declared.filter.Statement.TheViews.{outs-Act, outs-Call, outs-Return, outs-If, outs-Repeat}
use Rattle.flt_graph.specs.Graph.{callback_at, place_at, instruction_at, point_in, no_callback, no_point}
use Rattle.flt_graph.specs.Instruction.{plain, fallible}
use Rattle.flt_graph.specs.Kept.{edges_of, is_repeat, IsRising}
use Rattle.flt_graph.specs.Lowering.{IsGraphOf, AreGraphsOf, IsLowered, end_of}
use Rattle.flt_graph.specs.Points.{In, top, later, granted_block, refused_block, turn, entry, choice, instruction_of}
use Rattle.flt_graph.specs.Served.{IsCallServed, IsInstructionServed}
use Rattle.flt_graph.specs.declared.graph.CallbackGraph.{CallbackGraph}
use Rattle.flt_graph.specs.declared.graph.Graph.{Graph}
use Rattle.flt_graph.specs.declared.graph.Point.{Point}
use Rattle.flt_graph.proofs.Codes.{out_points, points_cons}
use Rattle.flt_graph.proofs.Remaining.{callbacks_there, callbacks_counted}
use Rattle.flt_graph.proofs.Rising.{Rises, statement_rises}
use Rattle.flt_graph.proofs.Routines.{deferred_there, generic_there}

-- no edge leads out of an end
none_out : (p q : Point) (to : ℕ) → p ≡ q → 0 < edges_of p.instruction to → edges_of q.instruction to ≡ 0 → ⊥
none_out p q to e h none =
    let some : 0 < edges_of q.instruction to = subst (λ (x : Point). 0 < edges_of x.instruction to) e h in
    absurd (omega arith)

-- ---- one statement

-- in a callback of a head, in a filter with these callbacks: where the filter has a queue it has a `canceled`, and no callback is
-- declared twice
module _ (cs : List Callback) (locks : List Lock) (queue : Bool) (from : Head)
    (canceled : queue ≡ true → has_event Canceled cs ≡ true) (new : AreNewCallbacks [] cs) where
  call_served : (c : FallibleCall Routine) → IsFallible queue c → finds_routine cs from c ≡ true →
      IsCallServed cs (head_place from) (fallible (numbered cs c)).call (fallible (numbered cs c)).routine
  call_served (fallible_call.AllocateContext d) h e = tt
  call_served (fallible_call.GetContext a d) h e = tt
  call_served (fallible_call.SetContext a x c d) h e = tt
  call_served (fallible_call.DeleteContextOf a d) h e = tt
  call_served (fallible_call.InsertIo c) h e = canceled h
  call_served (fallible_call.RemoveNextIo o d) h e = canceled h
  call_served (fallible_call.QueueDeferredIoWorkItem r c) h e = deferred_there cs from r new e
  call_served (fallible_call.QueueGenericWorkItem r c) h e = generic_there cs r new e

  choice_served : (c : Condition) (granted refused : ℕ) → IsCondition queue c → test_finds cs from c ≡ true →
      IsInstructionServed cs (head_place from) (choice cs c granted refused)
  choice_served (condition.Test t) granted refused h e = tt
  choice_served (condition.Succeeds c) granted refused h e = call_served c h e

  plain_served : (c : PlainCall) → IsCallServed cs (head_place from) (plain c).call (plain c).routine
  plain_served (plain_call.DeleteContext d) = tt
  plain_served (plain_call.ReferenceContext d e) = tt
  plain_served (plain_call.ReleaseContext d) = tt
  plain_served (plain_call.AcquireLock k l) = tt
  plain_served (plain_call.AcquirePushLockShared l) = tt
  plain_served (plain_call.ReleaseLock k l) = tt
  plain_served (plain_call.CompletePendedPreOperation d st) = tt
  plain_served plain_call.CompletePendedPostOperation = tt

  out_finds : (s : Statement) (layer : Statement-F Statement) → out-Statement s ≡ layer →
      statement_finds cs from s ≡ finds_step cs from (map-Statement Statement Bool (statement_finds cs from) layer)
  out_finds s layer o = fold_out-Statement Bool (finds_step cs from) s
      ∙ ap (λ (y : Statement-F Statement). finds_step cs from (map-Statement Statement Bool (statement_finds cs from) y)) o

  out_size : (s : Statement) (layer : Statement-F Statement) → out-Statement s ≡ layer →
      points_of s ≡ points_step (map-Statement Statement ℕ points_of layer)
  out_size s layer o = out_points s ∙ ap (λ (y : Statement-F Statement). points_step (map-Statement Statement ℕ points_of y)) o

  -- ---- one body

  module _ (body : List Statement) where
    -- a point is that of a statement of the text, which is as the filter's form has it
    record IsPoint (m : ℕ) : Type 0 where
      depth : ℕ
      repeats : ℕ
      after : ℕ
      statement : Statement
      rest : List Statement
      follows : List Statement
      within : In body (statement ∷ rest) m after follows
      fits : IsStatement locks queue depth repeats statement
      finds : statement_finds cs from statement ≡ true

    -- a statement's own point
    own_point : {d r n q : ℕ} {rest follows : List Statement} (s : Statement) (m : ℕ) → IsStatement locks queue d r s →
        statement_finds cs from s ≡ true →
        In body (s ∷ rest) n q follows → m ≡ n → IsPoint m
    own_point {d = d} {r = r} {n = n} {q = q} {rest = rest} {follows = follows} s m h e i same =
        rw same (record {
          depth = d;
          repeats = r;
          after = q;
          statement = s;
          rest = rest;
          follows = follows;
          within = i;
          fits = h;
          finds = e;
        })

    -- each point of a statement, and of a block
    mutual
      statement_points : {d r : ℕ} (s : Statement) (rest follows : List Statement) (n q : ℕ) → IsStatement locks queue d r s →
          statement_finds cs from s ≡ true →
          In body (s ∷ rest) n q follows → (m : ℕ) → n ≤ m → m < n + points_of s → IsPoint m
      statement_points _ rest follows n q (fine.act {d = d} {r = r} {at = at} {a = a} h) e i m low high =
          own_point {d = d} {r = r} (tree.Act at a) m (fine.act h) e i
          (omega (arith, out_size (tree.Act at a) (Statement-F.Act at a) (outs-Act at a)))
      statement_points _ rest follows n q (fine.call {d = d} {r = r} {at = at} {c = k} h) e i m low high =
          own_point {d = d} {r = r} (tree.Call at k) m (fine.call h) e i
          (omega (arith, out_size (tree.Call at k) (Statement-F.Call at k) (outs-Call at k)))
      statement_points _ rest follows n q (fine.return {d = d} {r = r} {at = at} {s = st}) e i m low high =
          own_point {d = d} {r = r} (tree.Return at st) m fine.return e i
          (omega (arith, out_size (tree.Return at st) (Statement-F.Return at st) (outs-Return at st)))
      statement_points _ rest follows n q
          (fine.choice {at = at} {c = k} {granted = yes_block} {refused = no_block} h (fine.block p) f) e i m low high =
          let s = tree.If at k yes_block no_block in
          let o = outs-If at k yes_block no_block in
          let size : points_of s ≡ 1 + (points yes_block + points no_block) = out_size s (Statement-F.If at k yes_block no_block) o in
          let parts = and_parts (test_finds cs from k) (finds_routines cs from yes_block && finds_routines cs from no_block)
          (sym (out_finds s (Statement-F.If at k yes_block no_block) o) ∙ e) in
          let blocks = and_parts (finds_routines cs from yes_block) (finds_routines cs from no_block) parts.1 in
          elim (cases_eq m n) [
            | inl same ↦ own_point s m (fine.choice h (fine.block p) f) e i same
            | inr other ↦ elim (cases_lt m (n + 1 + points yes_block)) [
              | inl below ↦ block_points yes_block (rest ++ follows) (n + 1) (entry rest (n + points_of s) q) p blocks.0
                  (granted_block i o) m (omega arith) (omega arith)
              | inr above ↦ else_points no_block (rest ++ follows) (n + 1 + points yes_block)
                  (entry rest (n + points_of s) q) f blocks.1 (refused_block i o) m (omega arith) (omega arith)
            ]
          ]
      statement_points _ rest follows n q (fine.repeat {at = at} {n = turns} {body = inner} h (fine.block p)) e i m low high =
          let s = tree.Repeat at turns inner in
          let o = outs-Repeat at turns inner in
          let size : points_of s ≡ 1 + points inner = out_size s (Statement-F.Repeat at turns inner) o in
          let found : finds_routines cs from inner ≡ true = sym (out_finds s (Statement-F.Repeat at turns inner) o) ∙ e in
          elim (cases_eq m n) [
            | inl same ↦ own_point s m (fine.repeat h (fine.block p)) e i same
            | inr other ↦ block_points inner (tree.Repeat at turns inner ∷ (rest ++ follows)) (n + 1) n p found
                (turn i o (omega arith)) m (omega arith) (omega arith)
          ]

      else_points : {d r : ℕ} (ss follows : List Statement) (n q : ℕ) → IsElse locks queue d r ss → finds_routines cs from ss ≡ true →
          In body ss n q follows → (m : ℕ) → n ≤ m → m < n + points ss → IsPoint m
      else_points [] follows n q fine.no_else e i m low high = absurd (omega arith)
      else_points (s ∷ ss) follows n q (fine.some_else (fine.block p)) e i m low high = block_points (s ∷ ss) follows n q p e i m low high

      block_points : {d r : ℕ} (ss follows : List Statement) (n q : ℕ) → AreStatements locks queue d r ss →
          finds_routines cs from ss ≡ true →
          In body ss n q follows → (m : ℕ) → n ≤ m → m < n + points ss → IsPoint m
      block_points [] follows n q fine.empty e i m low high = absurd (omega arith)
      block_points (s ∷ ss) follows n q (fine.go_on h t) e i m low high =
          let parts = and_parts (statement_finds cs from s) (finds_routines cs from ss) e in
          let size = points_cons s ss in
          elim (cases_lt m (n + points_of s)) [
            | inl below ↦ statement_points s ss follows n q h parts.0 i m low below
            | inr above ↦ block_points ss follows (n + points_of s) q t parts.1 (later i) m above (omega arith)
          ]

    -- each point of a body
    body_points : {d r : ℕ} → AreStatements locks queue d r body → finds_routines cs from body ≡ true → (m : ℕ) →
        m < points body → IsPoint m
    body_points p e m below = block_points body [] 0 (points body) p e top m (omega arith) (omega arith)

  -- what a statement names is there
  layer_served : {d r : ℕ} (s : Statement) → IsStatement locks queue d r s → statement_finds cs from s ≡ true →
      (at after : ℕ) → IsInstructionServed cs (head_place from) (instruction_of cs (out-Statement s) at after)
  layer_served _ (fine.act {at = l} {a = a} h) e at after = rw (outs-Act l a) tt
  layer_served _ (fine.call {at = l} {c = k} h) e at after = rw (outs-Call l k) (plain_served k)
  layer_served _ (fine.return {at = l} {s = st}) e at after = rw (outs-Return l st) tt
  layer_served _ (fine.choice {at = l} {c = k} {granted = yes_block} {refused = no_block} h p f) e at after =
      let o = outs-If l k yes_block no_block in
      let parts = and_parts (test_finds cs from k) (finds_routines cs from yes_block && finds_routines cs from no_block)
      (sym (out_finds (tree.If l k yes_block no_block) (Statement-F.If l k yes_block no_block) o) ∙ e) in
      rw o (choice_served k (entry yes_block (at + 1) after) (entry no_block (at + 1 + points yes_block) after) h parts.0)
  layer_served _ (fine.repeat {at = l} {n = turns} {body = inner} h p) e at after = rw (outs-Repeat l turns inner) tt

  -- each point of a callback
  body_served : {d r : ℕ} (c : Callback) (g : CallbackGraph) → IsGraphOf cs c g → AreStatements locks queue d r c.body →
      finds_routines cs from c.body ≡ true →
      (m : ℕ) → IsInstructionServed cs (head_place from) (point_in g m).instruction
  body_served c g made p e m =
      elim (cases_lt m (points c.body)) [
        | inl below ↦
            let q = body_points c.body p e m below in
            rw (made.statements q.statement q.rest q.follows m q.after q.within)
            (layer_served q.statement q.fits q.finds m (entry q.rest (m + points_of q.statement) q.after))
        | inr above ↦ elim (cases_eq m (points c.body)) [
          | inl same ↦ let point : point_in g (points c.body) ≡ end_of c = made.end in rw (same, point) tt
          | inr other ↦ let point : point_in g m ≡ no_point = get_or_past g.points m no_point (omega (arith, made.count)) in rw point tt
        ]
      ]

  -- each edge of a callback leads onwards, or to a `repeat`
  body_rises : {d r : ℕ} (c : Callback) (g : CallbackGraph) → IsGraphOf cs c g → AreStatements locks queue d r c.body →
      finds_routines cs from c.body ≡ true →
      (m to : ℕ) → 0 < edges_of (point_in g m).instruction to → Rises g m to
  body_rises c g made p e m to h =
      elim (cases_lt m (points c.body)) [
        | inl below ↦
            let q = body_points c.body p e m below in
            statement_rises cs c g made q.statement q.rest q.follows m q.after to q.within h
        | inr above ↦ elim (cases_eq m (points c.body)) [
          | inl same ↦
              let point : point_in g m ≡ end_of c = ap (point_in g) same ∙ made.end in
              absurd (none_out (point_in g m) (end_of c) to point h refl)
          | inr other ↦
              let point : point_in g m ≡ no_point = get_or_past g.points m no_point (omega (arith, made.count)) in
              absurd (none_out (point_in g m) no_point to point h refl)
        ]
      ]

  -- two graphs of a callback are one
  callback_once : {d r : ℕ} (c : Callback) (g h : CallbackGraph) → IsGraphOf cs c g → IsGraphOf cs c h →
      AreStatements locks queue d r c.body → finds_routines cs from c.body ≡ true → g ≡ h
  callback_once c g h made also p e =
      let places : g.place ≡ h.place = made.place ∙ sym also.place in
      let lengths : length g.points ≡ length h.points = made.count ∙ sym also.count in
      let all : g.points ≡ h.points = ext_get_or no_point g.points h.points lengths (λ m low. same m low) in
      ap (λ (x : Place). record { place = x; points = g.points }) places
      ∙ ap (λ (x : List Point). record { place = h.place; points = x }) all
    where
      same : (m : ℕ) → m < length g.points → point_in g m ≡ point_in h m
      same m low =
          elim (cases_lt m (points c.body)) [
            | inl below ↦
                let q = body_points c.body p e m below in
                made.statements q.statement q.rest q.follows m q.after q.within
                ∙ sym (also.statements q.statement q.rest q.follows m q.after q.within)
            | inr above ↦
                let last : m ≡ points c.body = omega (arith, made.count) in
                rw last (made.end ∙ sym also.end)
          ]

-- ---- a filter

-- the body of a well-formed filter's callback is as the form asks
pub body_at : (locks : List Lock) (queue : Bool) (cs : List Callback) (k : ℕ) (c : Callback) → AreCallbacks locks queue cs →
    slice_get cs k ≡ Some c →
    AreStatements locks queue (max_depth - 1) max_repeats c.body
body_at locks queue [] k c w e = absurd (cc)
body_at locks queue (x ∷ cs) zero c w e = let same : x ≡ c = cc in
    subst (λ (y : Callback). AreStatements locks queue (max_depth - 1) max_repeats y.body) same w.1
body_at locks queue (x ∷ cs) (suc k) c w e = body_at locks queue cs k c w.2 e

whole_at : (all cs : List Callback) (k : ℕ) (c : Callback) → AreWhole all cs → slice_get cs k ≡ Some c →
    finds_routines all c.head c.body ≡ true
whole_at all [] k c w e = absurd (cc)
whole_at all (x ∷ cs) zero c w e = let same : x ≡ c = cc in subst (λ (y : Callback). finds_routines all y.head y.body ≡ true) same w.1
whole_at all (x ∷ cs) (suc k) c w e = whole_at all cs k c w.2 e

has_canceled : (queue : Option Position) (cs : List Callback) → IsServed queue cs → is_some queue ≡ true → has_event Canceled cs ≡ true
has_canceled (Some at) cs h e = h
has_canceled None cs h e = absurd (cc)

at_callback : (f : Filter) (g : Graph) (k n : ℕ) → IsWellFormed f → IsLowered f g → (found : Option Callback) →
    slice_get f.callbacks k ≡ found → IsInstructionServed f.callbacks (place_at g k) (instruction_at g k n)
at_callback f g k n w low None e =
    let none : callback_at g k ≡ no_callback =
    get_or_past g.callbacks k no_callback (omega (arith, callbacks_counted f g low, past f.callbacks k e)) in
    subst (λ (x : CallbackGraph). IsInstructionServed f.callbacks x.place (point_in x n).instruction) (sym none) tt
  where
    past : (cs : List Callback) (i : ℕ) → slice_get cs i ≡ None → length cs ≤ i
    past [] i e = omega arith
    past (c ∷ cs) zero e = absurd (cc)
    past (c ∷ cs) (suc i) e = let h = past cs i e in omega arith
at_callback f g k n w low (Some c) e =
    let made = callbacks_there f g k c low e in
    subst (λ (at : Place). IsInstructionServed f.callbacks at (instruction_at g k n)) (sym made.place)
    (body_served f.callbacks f.locks (is_some f.queue) c.head (has_canceled f.queue f.callbacks w.served) w.new_callbacks c
    (callback_at g k) made
    (body_at f.locks (is_some f.queue) f.callbacks k c w.bodies e) (whole_at f.callbacks f.callbacks k c w.whole e) n)

-- what each instruction of a well-formed filter names is there
pub instructions_served : (f : Filter) (g : Graph) (k n : ℕ) → IsWellFormed f → IsLowered f g →
    IsInstructionServed f.callbacks (place_at g k) (instruction_at g k n)
instructions_served f g k n w low = at_callback f g k n w low (slice_get f.callbacks k) refl

-- ---- edges

rises_at : (f : Filter) (g : Graph) (k n to : ℕ) → IsWellFormed f → IsLowered f g → (found : Option Callback) →
    slice_get f.callbacks k ≡ found → 0 < edges_of (instruction_at g k n) to → Rises (callback_at g k) n to
rises_at f g k n to w low None e h =
    let none : callback_at g k ≡ no_callback =
    get_or_past g.callbacks k no_callback (omega (arith, callbacks_counted f g low, past f.callbacks k e)) in
    let point : point_in (callback_at g k) n ≡ point_in no_callback n = ap (λ (x : CallbackGraph). point_in x n) none in
    absurd (none_out (point_in (callback_at g k) n) (point_in no_callback n) to point h refl)
  where
    past : (cs : List Callback) (i : ℕ) → slice_get cs i ≡ None → length cs ≤ i
    past [] i e = omega arith
    past (c ∷ cs) zero e = absurd (cc)
    past (c ∷ cs) (suc i) e = let h = past cs i e in omega arith
rises_at f g k n to w low (Some c) e h =
    let made = callbacks_there f g k c low e in
    body_rises f.callbacks f.locks (is_some f.queue) c.head (has_canceled f.queue f.callbacks w.served) w.new_callbacks c
    (callback_at g k) made
    (body_at f.locks (is_some f.queue) f.callbacks k c w.bodies e) (whole_at f.callbacks f.callbacks k c w.whole e) n to h

-- each edge of a well-formed filter's graph leads onwards, or to a `repeat`
pub edges_rise : (f : Filter) (g : Graph) → IsWellFormed f → IsLowered f g → IsRising g
edges_rise f g w low k n to h = rises_at f g k n to w low (slice_get f.callbacks k) refl h

-- ---- one graph

callbacks_once : (f : Filter) (cs : List Callback) (gs hs : List CallbackGraph) → IsWellFormed f → AreGraphsOf f.callbacks cs gs →
    AreGraphsOf f.callbacks cs hs →
    AreCallbacks f.locks (is_some f.queue) cs → AreWhole f.callbacks cs → gs ≡ hs
callbacks_once f [] [] [] w made also b e = refl
callbacks_once f [] [] (h ∷ hs) w made also b e = absurd also
callbacks_once f [] (g ∷ gs) hs w made also b e = absurd made
callbacks_once f (c ∷ cs) [] hs w made also b e = absurd made
callbacks_once f (c ∷ cs) (g ∷ gs) [] w made also b e = absurd also
callbacks_once f (c ∷ cs) (g ∷ gs) (h ∷ hs) w made also b e =
    let first : g ≡ h = callback_once f.callbacks f.locks (is_some f.queue) c.head
    (has_canceled f.queue f.callbacks w.served) w.new_callbacks c g h made.0 also.0 b.1 e.1 in
    let others = callbacks_once f cs gs hs w made.1 also.1 b.2 e.2 in
    ap (λ (x : CallbackGraph). x ∷ gs) first ∙ ap (λ (l : List CallbackGraph). h ∷ l) others

-- a well-formed filter has one graph
pub lowered_once : (f : Filter) (g h : Graph) → IsWellFormed f → IsLowered f g → IsLowered f h → g ≡ h
lowered_once f g h w made also =
    let locks : g.locks ≡ h.locks = made.locks ∙ sym also.locks in
    let callbacks = callbacks_once f f.callbacks g.callbacks h.callbacks w made.callbacks also.callbacks w.bodies w.whole in
    ap (λ (l : List LockKind). record { locks = l; callbacks = g.callbacks }) locks
    ∙ ap (λ (l : List CallbackGraph). record { locks = h.locks; callbacks = l }) callbacks
