-- What no point starts no statement asks for: all other callbacks are a closed set.
use Rattle.std.proofs.Common.{◌≡◌, ℕ, zero, suc, ◌+◌, ◌<◌, ◌≤◌, Bool, true, false, not, ◌||◌, List, [], ◌∷◌, Option, Some, None, refl, sym}
use Rattle.std.proofs.Common.{ap, subst, ◌∙◌, arith}
use Rattle.std.proofs.lemmas.Bool.{and_from, or_parts, eqb-true, eq-eqb}
use Rattle.std.proofs.lemmas.List.Sums.{passes_at_first, sum-map, sum_by-cons}
use Rattle.std.proofs.lemmas.Option.{get_or_from_slice_get, slice_get-get_or}
use Rattle.std.specs.Prelude.{◌&&◌, ◌==◌, length, get_or, slice_get}
use Rattle.std.specs.List.{list_any}
use Rattle.flt_rules.proofs.Operations.{of_all, same_turned}
use Rattle.flt_rules.specs.Place.{same_operation}
use Rattle.flt_rules.specs.declared.call.Call.TheVariants as call
use Rattle.flt_rules.specs.declared.call.Possessed.{Possessed}
use Rattle.flt_rules.specs.declared.place.Operation.{Operation}
use Rattle.flt_rules.specs.declared.place.Place.TheVariants as place
use Rattle.flt_tree.specs.Filter.{head_place, is_named}
use Rattle.flt_tree.specs.Measures.{points, points_of, points_step}
use Rattle.flt_tree.specs.Registered.{has_post, is_pre_of, is_post_of, numbered, routine_of}
use Rattle.flt_tree.specs.Variable.{whose}
use Rattle.flt_tree.specs.declared.filter.Callback.{Callback}
use Rattle.flt_tree.specs.declared.filter.Condition.{Condition}
use Rattle.flt_tree.specs.declared.filter.Condition.TheVariants as condition
use Rattle.flt_tree.specs.declared.filter.FallibleCall.{FallibleCall}
use Rattle.flt_tree.specs.declared.filter.FallibleCall.TheVariants as fallible_call
use Rattle.flt_tree.specs.declared.filter.Filter.{Filter}
use Rattle.flt_tree.specs.declared.filter.Head.{Head}
use Rattle.flt_tree.specs.declared.filter.Head.TheVariants as head
use Rattle.flt_tree.specs.declared.filter.PlainCall.{PlainCall}
use Rattle.flt_tree.specs.declared.filter.PlainCall.TheVariants as plain_call
use Rattle.flt_tree.specs.declared.filter.Routine.{Routine}
use Rattle.flt_tree.specs.declared.filter.Statement.{Statement, out-Statement}
use Rattle.flt_tree.specs.declared.filter.Statement.TheFolds.{map-Statement, fold_out-Statement}
use Rattle.flt_tree.specs.declared.filter.Statement.TheOpen.{Statement-F}
use Rattle.flt_tree.specs.declared.filter.Status.{Status}
use Rattle.flt_tree.specs.declared.filter.Status.TheVariants as status
use Rattle.flt_graph.specs.Graph.{callback_at, no_callback, no_point, place_at, point_in}
use Rattle.flt_graph.specs.Instruction.{fallible, plain}
use Rattle.flt_graph.specs.Lowering.{IsGraphOf, IsLowered}
use Rattle.flt_graph.specs.Points.{In, choice, entry, instruction_of}
use Rattle.flt_graph.specs.declared.graph.CallbackGraph.{CallbackGraph}
use Rattle.flt_graph.specs.declared.graph.Graph.{Graph}
use Rattle.flt_graph.specs.declared.graph.Point.{Point}
use Rattle.flt_graph.specs.declared.instruction.Instruction.{Instruction}
use Rattle.flt_graph.specs.declared.instruction.Invocation.{Invocation}
use Rattle.flt_model.specs.Program.{is_canceled, body_of, place_for}
use Rattle.flt_model.specs.Settling.{asks_for_frame, way_before}
use Rattle.flt_starts.specs.Closed.{IsClosed, body_within, condition_within, fallible_within, number_for, plain_within}
use Rattle.flt_starts.specs.Closed.{return_within, statement_within, status_within, step_within}
use Rattle.flt_starts.specs.Starts.{NeverStarts}
use Rattle.flt_search_started.specs.Triggers.{is_calling_back, is_item_of, is_started, is_started_alone, is_started_by}
use Rattle.flt_search_started.specs.Triggers.{is_started_by_status, is_started_in, is_started_to, is_started_within}

-- ---- tests

-- a test doesn't come out both ways
both : {A : Type 0} (b : Bool) → b ≡ true → b ≡ false → A
both true h k = absurd (cc)
both false h k = absurd (cc)

-- where no element of a list passes a test, none passes at a place, nor what is taken where there is none
none_at : {X : Type 0} (test : X → Bool) (d : X) → test d ≡ false → (xs : List X) → list_any test xs ≡ false → (n : ℕ) →
    test (get_or xs n d) ≡ false
none_at test d last [] none n = last
none_at test d last (x ∷ xs) none zero = (or_parts (test x) (list_any test xs) none).0
none_at test d last (x ∷ xs) none (suc n) = none_at test d last xs (or_parts (test x) (list_any test xs) none).1 n

-- the points of a list are those of its first statement and those of the others
points_cons : (s : Statement) (rest : List Statement) → points (s ∷ rest) ≡ points_of s + points rest
points_cons s rest =
    sum-map points_of (s ∷ rest) ∙ (sum_by-cons points_of s rest ∙ ap (λ n. points_of s + n) (sym (sum-map points_of rest)))

-- ---- what a callback at a place is asked for by

-- a status that doesn't have a post callback called asks for none
calm : (post returned : Bool) (st : Option Status) → is_calling_back st ≡ false → asks_for_frame (way_before post returned st) ≡ false
calm post returned None h = refl
calm post returned (Some (status.WithCallback c)) h = absurd (cc)
calm post returned (Some (status.Synchronize c)) h = absurd (cc)
calm post returned (Some status.NoCallback) h = refl
calm post returned (Some (status.Complete final)) h = refl
calm post true (Some status.Pending) h = refl
calm post false (Some status.Pending) h = refl
calm post true (Some status.DisallowFastIo) h = refl
calm post false (Some status.DisallowFastIo) h = refl
calm post returned (Some status.FinishedProcessing) h = refl
calm post returned (Some status.MoreProcessingRequired) h = refl

-- of a post callback: by a completion, by a status of its pre callback
completed : (h : Head) (w : Possessed) (c : Invocation) (k : ℕ) →
    is_started_to (call.CompletePendedPreOperation w) c k (head_place h) ≡ false → (kind : Operation) → is_post_of kind h ≡ true →
    is_calling_back c.status ≡ false
completed (head.Pre own) w c k none kind e = absurd (cc)
completed (head.Post own) w c k none kind e = none
completed head.Canceled w c k none kind e = absurd (cc)
completed (head.DeferredPre name) w c k none kind e = absurd (cc)
completed (head.DeferredPost name) w c k none kind e = absurd (cc)
completed (head.Generic name) w c k none kind e = absurd (cc)

answered : (own : Operation) (h : Head) (st : Option Status) → is_started_by_status (place.Pre own) st (head_place h) ≡ false →
    is_post_of own h ≡ true → is_calling_back st ≡ false
answered own (head.Pre kind) st none e = absurd (cc)
answered own (head.Post kind) st none e = subst (λ b. (b && is_calling_back st) ≡ false) (same_turned kind own e) none
answered own head.Canceled st none e = absurd (cc)
answered own (head.DeferredPre name) st none e = absurd (cc)
answered own (head.DeferredPost name) st none e = absurd (cc)
answered own (head.Generic name) st none e = absurd (cc)

-- of `canceled`: by an insert
inserted : (h : Head) (c : Invocation) (k : ℕ) → is_started_to call.InsertIo c k (head_place h) ≡ false → is_canceled h ≡ false
inserted (head.Pre kind) c k none = refl
inserted (head.Post kind) c k none = refl
inserted head.Canceled c k none = absurd (cc)
inserted (head.DeferredPre name) c k none = refl
inserted (head.DeferredPost name) c k none = refl
inserted (head.Generic name) c k none = refl

-- of a routine: by a call that queues it
deferred : (h : Head) (c : Invocation) (k : ℕ) (name : List ℕ) → is_started_to call.QueueDeferredIoWorkItem c k (head_place h) ≡ false →
    is_named name h ≡ true → is_item_of c k ≡ false
deferred (head.Pre kind) c k name none e = absurd (cc)
deferred (head.Post kind) c k name none e = absurd (cc)
deferred head.Canceled c k name none e = absurd (cc)
deferred (head.DeferredPre own) c k name none e = none
deferred (head.DeferredPost own) c k name none e = none
deferred (head.Generic own) c k name none e = none

generic : (h : Head) (c : Invocation) (k : ℕ) (name : List ℕ) → is_started_to call.QueueGenericWorkItem c k (head_place h) ≡ false →
    is_named name h ≡ true → is_item_of c k ≡ false
generic (head.Pre kind) c k name none e = absurd (cc)
generic (head.Post kind) c k name none e = absurd (cc)
generic head.Canceled c k name none e = absurd (cc)
generic (head.DeferredPre own) c k name none e = none
generic (head.DeferredPost own) c k name none e = none
generic (head.Generic own) c k name none e = none

-- of a pre callback: by the system
alone : (kind : Operation) (h : Head) → is_started_alone (head_place h) ≡ false → is_pre_of kind h ≡ false
alone kind (head.Pre own) none = absurd (cc)
alone kind (head.Post own) none = refl
alone kind head.Canceled none = refl
alone kind (head.DeferredPre name) none = refl
alone kind (head.DeferredPost name) none = refl
alone kind (head.Generic name) none = refl

-- ---- all callbacks but one

module _ (cs : List Callback) (k : ℕ) (c : Callback) (within : k < length cs) (there : get_or cs k c ≡ c) where
  abbrev may : ℕ → Bool
  may n = not (n == k)

  -- what is found by a test that it doesn't pass is another one
  other : (test : Head → Bool) → test c.head ≡ false → may (number_for test cs) ≡ true
  other test fails = by (number_for test cs == k) refl
    where
      passes : number_for test cs ≡ k → test c.head ≡ true
      passes e = subst (λ (d : Callback). test d.head ≡ true) there
          (subst (λ n. test (get_or cs n c).head ≡ true) e
          (passes_at_first (λ (d : Callback). test d.head) cs c (subst (λ n. n < length cs) (sym e) within)))

      by : (b : Bool) → (number_for test cs == k) ≡ b → not b ≡ true
      by false e = refl
      by true e = both (test c.head) (passes (eqb-true (number_for test cs) k e)) fails

  status_by : (returned : Bool) (st : Option Status) (kind : Operation) → (is_post_of kind c.head ≡ true → is_calling_back st ≡ false) →
      status_within cs may returned st kind ≡ true
  status_by returned st kind h = by (is_post_of kind c.head) refl
    where
      by : (b : Bool) → is_post_of kind c.head ≡ b → status_within cs may returned st kind ≡ true
      by true e = ap (λ b. not b || may (number_for (is_post_of kind) cs)) (calm (has_post cs kind) returned st (h e))
      by false e = second (not (asks_for_frame (way_before (has_post cs kind) returned st))) _ (other (is_post_of kind) e)
        where
          second : (a b : Bool) → b ≡ true → (a || b) ≡ true
          second true b e = refl
          second false b e = e

  routine_by : (r : Routine) → (is_named r.name c.head ≡ true → (routine_of cs r == k) ≡ false) → may (routine_of cs r) ≡ true
  routine_by r h = by (is_named r.name c.head) refl
    where
      by : (b : Bool) → is_named r.name c.head ≡ b → may (routine_of cs r) ≡ true
      by true e = ap not (h e)
      by false e = other (is_named r.name) e

  plain_by : (x : PlainCall) → is_started_to (plain x).call (plain x) k (head_place c.head) ≡ false → plain_within cs may x ≡ true
  plain_by (plain_call.CompletePendedPreOperation d st) none =
      let asked = completed c.head (whose d) (plain (plain_call.CompletePendedPreOperation d st)) k none in
      let one : (o : Operation) → status_within cs may false (Some st) o ≡ true = λ o. status_by false (Some st) o (asked o) in
      of_all (status_within cs may false (Some st)) one
  plain_by _ none = refl

  fallible_by : (x : FallibleCall Routine) →
      is_started_to (fallible (numbered cs x)).call (fallible (numbered cs x)) k (head_place c.head) ≡ false →
      fallible_within cs may x ≡ true
  fallible_by (fallible_call.InsertIo a) none = other is_canceled (inserted c.head (fallible (fallible_call.InsertIo a)) k none)
  fallible_by (fallible_call.QueueDeferredIoWorkItem r a) none =
      routine_by r (deferred c.head (fallible (numbered cs (fallible_call.QueueDeferredIoWorkItem r a))) k r.name none)
  fallible_by (fallible_call.QueueGenericWorkItem r a) none =
      routine_by r (generic c.head (fallible (numbered cs (fallible_call.QueueGenericWorkItem r a))) k r.name none)
  fallible_by _ none = refl

  return_by : (from : Head) (st : Option Status) → is_started_by_status (head_place from) st (head_place c.head) ≡ false →
      return_within cs may (head_place from) st ≡ true
  return_by (head.Pre own) st none = status_by true st own (answered own c.head st none)
  return_by (head.Post own) st none = refl
  return_by head.Canceled st none = refl
  return_by (head.DeferredPre name) st none = refl
  return_by (head.DeferredPost name) st none = refl
  return_by (head.Generic name) st none = refl

  -- what is done in a callback with this head doesn't start it
  abbrev Passes : Head → Instruction → Type 0
  Passes from i = is_started_by (head_place from) i k (head_place c.head) ≡ false

  -- ---- the statements of a callback of which no point starts it

  module _ (d : Callback) (g : CallbackGraph) (is : IsGraphOf cs d g) (none : (n : ℕ) → Passes d.head (point_in g n).instruction) where
    abbrev one : Statement → Bool
    one = statement_within cs may (head_place d.head)

    abbrev Within : List Statement → Type 0
    Within list = body_within cs may (head_place d.head) list ≡ true

    -- what is done at the point of a statement, by its kind
    done : (s : Statement) (rest follows : List Statement) (n q : ℕ) → In d.body (s ∷ rest) n q follows → (o : Statement-F Statement) →
        out-Statement s ≡ o → Passes d.head (instruction_of cs o n (entry rest (n + points_of s) q))
    done s rest follows n q i o e =
        subst (λ x. Passes d.head (instruction_of cs x n (entry rest (n + points_of s) q))) e
        (subst (λ (p : Point). Passes d.head p.instruction) (is.statements s rest follows n q i) (none n))

    -- a statement by its kind
    layer : (s : Statement) (o : Statement-F Statement) → out-Statement s ≡ o →
        one s ≡ step_within cs may (head_place d.head) (map-Statement Statement Bool one o)
    layer s o e =
        fold_out-Statement Bool (step_within cs may (head_place d.head)) s
        ∙ ap (λ x. step_within cs may (head_place d.head) (map-Statement Statement Bool one x)) e

    -- its points
    size : (s : Statement) (o : Statement-F Statement) → out-Statement s ≡ o →
        points_of s ≡ points_step (map-Statement Statement ℕ points_of o)
    size s o e = fold_out-Statement ℕ points_step s ∙ ap (λ x. points_step (map-Statement Statement ℕ points_of x)) e

    some_point : (s : Statement) (o : Statement-F Statement) → out-Statement s ≡ o → 0 < points_of s
    some_point s (Statement-F.Act span x) e = let z = size s _ e in omega (arith, z)
    some_point s (Statement-F.Call span x) e = let z = size s _ e in omega (arith, z)
    some_point s (Statement-F.Return span st) e = let z = size s _ e in omega (arith, z)
    some_point s (Statement-F.If span asked yes_block no_block) e = let z = size s _ e in omega (arith, z)
    some_point s (Statement-F.Repeat span turns block) e = let z = size s _ e in omega (arith, z)

    choice_by : (asked : Condition) (m q : ℕ) → Passes d.head (choice cs asked m q) → condition_within cs may asked ≡ true
    choice_by (condition.Test t) m q h = refl
    choice_by (condition.Succeeds x) m q h = fallible_by x h

    -- a statement, where lists of fewer points are known
    statement_by : (fuel : ℕ) →
        ((list : List Statement) → points list ≤ fuel → (n q : ℕ) (follows : List Statement) → In d.body list n q follows → Within list) →
        (s : Statement) (rest follows : List Statement) (n q : ℕ) → In d.body (s ∷ rest) n q follows → points_of s ≤ suc fuel →
        (o : Statement-F Statement) → out-Statement s ≡ o → one s ≡ true
    statement_by fuel rows s rest follows n q i le (Statement-F.Act span x) e = layer s _ e
    statement_by fuel rows s rest follows n q i le (Statement-F.Call span x) e =
        layer s _ e ∙ plain_by x (done s rest follows n q i (Statement-F.Call span x) e)
    statement_by fuel rows s rest follows n q i le (Statement-F.Return span st) e =
        layer s _ e ∙ return_by d.head st (done s rest follows n q i (Statement-F.Return span st) e)
    statement_by fuel rows s rest follows n q i le (Statement-F.If span asked yes_block no_block) e =
        let z : points_of s ≡ 1 + (points yes_block + points no_block) = size s _ e in
        layer s _ e
        ∙ and_from (condition_within cs may asked) _
        (choice_by asked _ _ (done s rest follows n q i (Statement-F.If span asked yes_block no_block) e))
        (and_from (body_within cs may (head_place d.head) yes_block) (body_within cs may (head_place d.head) no_block)
        (rows yes_block (omega (arith, z, le)) _ _ _ (In.granted_block i e))
        (rows no_block (omega (arith, z, le)) _ _ _ (In.refused_block i e)))
    statement_by fuel rows s rest follows n q i le (Statement-F.Repeat span turns block) e =
        let z : points_of s ≡ 1 + points block = size s _ e in
        layer s _ e ∙ rows block (omega (arith, z, le)) _ _ _ (In.turn {left = turns} i e (omega arith))

    -- a list that the text has
    row : (fuel : ℕ) (list : List Statement) → points list ≤ fuel → (n q : ℕ) (follows : List Statement) → In d.body list n q follows →
        Within list
    row fuel [] le n q follows i = refl
    row zero (s ∷ rest) le n q follows i =
        let z = some_point s (out-Statement s) refl in
        let total = points_cons s rest in
        absurd (omega (arith, z, total, le))
    row (suc fuel) (s ∷ rest) le n q follows i =
        let z = some_point s (out-Statement s) refl in
        let total = points_cons s rest in
        and_from (one s) (body_within cs may (head_place d.head) rest)
        (statement_by fuel (row fuel) s rest follows n q i (omega (arith, total, le)) (out-Statement s) refl)
        (row fuel rest (omega (arith, z, total, le)) _ _ _ (In.later i))

-- ---- the law

module _ (f : Filter) (g : Graph) (k : ℕ) (c : Callback)
    (graphs : (j : ℕ) (d : Callback) → slice_get f.callbacks j ≡ Some d → IsGraphOf f.callbacks d (callback_at g j))
    (within : k < length f.callbacks) (there : slice_get f.callbacks k ≡ Some c) (none : is_started g k ≡ false) where
  parts : (is_started_alone (place_at g k) ≡ false) × (is_started_within g k ≡ false)
  parts = or_parts (is_started_alone (place_at g k)) (is_started_within g k) none

  -- no point does
  at_point : (j : ℕ) (d : Callback) → slice_get f.callbacks j ≡ Some d → (n : ℕ) →
      is_started_by (head_place d.head) (point_in (callback_at g j) n).instruction k (head_place c.head) ≡ false
  at_point j d is n =
      subst (λ p. is_started_by p (point_in (callback_at g j) n).instruction k (head_place c.head) ≡ false) (graphs j d is).place
      (subst (λ p. is_started_by (callback_at g j).place (point_in (callback_at g j) n).instruction k p ≡ false) (graphs k c there).place
      (none_at (λ (p : Point). is_started_by (callback_at g j).place p.instruction k (place_at g k)) no_point refl (callback_at g j).points
      (none_at (is_started_in g k) no_callback refl g.callbacks parts.1 j) n))

  closed : IsClosed f.callbacks (λ n. not (n == k))
  closed = record {
    pre = λ kind has. other f.callbacks k c within (get_or_from_slice_get f.callbacks k c c there) (is_pre_of kind)
        (alone kind c.head (subst (λ p. is_started_alone p ≡ false) (graphs k c there).place parts.0));
    asked = λ j is. by j (slice_get f.callbacks j) refl;
  }
    where
      by : (j : ℕ) (o : Option Callback) → slice_get f.callbacks j ≡ o →
          body_within f.callbacks (λ n. not (n == k)) (place_for o) (body_of o) ≡ true
      by j None is = refl
      by j (Some d) is =
          row f.callbacks k c within (get_or_from_slice_get f.callbacks k c c there) d (callback_at g j) (graphs j d is) (at_point j d is)
          (points d.body) d.body (omega arith) _ _ _ In.top

-- what isn't started by a point of the graph never starts
pub never : ((f : Filter) (g : Graph) (k : ℕ) (c : Callback) → IsLowered f g → slice_get f.callbacks k ≡ Some c →
    IsGraphOf f.callbacks c (callback_at g k)) →
    ((cs : List Callback) (may_start : ℕ → Bool) (k : ℕ) → IsClosed cs may_start → may_start k ≡ false → NeverStarts cs k) →
    (f : Filter) (g : Graph) (k : ℕ) → IsLowered f g → k < length f.callbacks → is_started g k ≡ false → NeverStarts f.callbacks k
never graphs law f g k lowered within none = by f.callbacks refl within
  where
    by : (cs : List Callback) → f.callbacks ≡ cs → k < length cs → NeverStarts f.callbacks k
    by [] e w = absurd (omega arith)
    by (first ∷ rest) e w =
        law f.callbacks (λ n. not (n == k)) k
        (closed f g k (get_or f.callbacks k first) (λ j d is. graphs f g j d lowered is) within
        (slice_get-get_or f.callbacks k first within) none)
        (ap not (eq-eqb k k refl))
