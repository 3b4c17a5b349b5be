-- Why callbacks can't deadlock. An activation that can't go on waits for a lock that another one of its filter holds; that one hasn't
-- ended, and if it waits too, it waits for a lock of greater rank. So the ranks say how often one can go from one to the next.
-- Here p is the program, m the moment, a and b are activations, g their filter, n a lock's place.
use Rattle.std.proofs.Common.{◌≡◌, ℕ, zero, suc, ◌+◌, ◌<◌, ◌≤◌, Bool, true, false, List, [], ◌∷◌, length}
use Rattle.std.proofs.Common.{Option, Some, None, ap, sym, subst, refl, ◌∙◌, arith, inl, inr, ◌⊎◌}
use Rattle.std.specs.Prelude.{not, ◌&&◌, ◌||◌, ◌==◌, if◌then◌else◌, option_map, is_some}
use Rattle.std.specs.List.{All, list_all}
use Rattle.std.proofs.Math.ListN.{get_or, get_or-map}
use Rattle.std.proofs.lemmas.Bool.{eqb-true}
use Rattle.std.proofs.lemmas.Option.{slice_get_within}
use Rattle.flt_rules.specs.Call.{place_of}
use Rattle.flt_rules.specs.declared.call.LockNumber.{LockNumber}
use Rattle.flt_rules.specs.declared.call.LockNumber.TheVariants.{L0, L1, L2, L3, L4, L5, L6, L7}
use Rattle.flt_rules.specs.declared.held.Access.{Access}
use Rattle.flt_rules.specs.declared.held.Access.TheVariants.{Exclusive, Shared}
use Rattle.flt_rules.specs.declared.held.HeldLock.{HeldLock}
use Rattle.flt_tree.specs.declared.filter.Action.{Action}
use Rattle.flt_tree.specs.declared.filter.Action.TheVariants as action
use Rattle.flt_tree.specs.declared.filter.Condition.{Condition}
use Rattle.flt_tree.specs.declared.filter.Condition.TheVariants as condition
use Rattle.flt_tree.specs.declared.filter.FallibleCall.TheVariants as fallible
use Rattle.flt_tree.specs.declared.filter.Filter.{Filter}
use Rattle.flt_tree.specs.declared.filter.PlainCall.{PlainCall}
use Rattle.flt_tree.specs.declared.filter.PlainCall.TheVariants as plain_call
use Rattle.flt_tree.specs.declared.filter.Span.{Span}
use Rattle.flt_tree.specs.declared.filter.Statement.{Statement, out-Statement}
use Rattle.flt_tree.specs.declared.filter.Statement.TheOpen.{Statement-F}
use Rattle.flt_tree.specs.declared.filter.Test.TheVariants as test
use Rattle.flt_graph.specs.Graph.{instruction_at, line_at}
use Rattle.flt_graph.specs.Instruction.{plain}
use Rattle.flt_graph.specs.Lowering.{IsLowered}
use Rattle.flt_model.specs.Effects.{Step}
use Rattle.flt_model.specs.LocalSteps.{local_step, after_statement}
use Rattle.flt_model.specs.Locks.{holders_of, may_join, is_free_for}
use Rattle.flt_model.specs.Program.{no_filter}
use Rattle.flt_model.specs.Runs.{Moment, next}
use Rattle.flt_model.specs.Steps.{Local, Board, leaves_choice, may_take, may_go, statement_step, list_step, moved_on}
use Rattle.flt_model.specs.declared.parts.Holder.{Holder}
use Rattle.flt_model.specs.World.{Activation, nobody, actor_at, activation_at}
use Rattle.flt_order.specs.Order.{taken_by, taken_by_call}
use Rattle.flt_order.specs.declared.order.Acquisition.{Acquisition}
use Rattle.flt_sound.specs.Progress.{IsOrderly, AreOrderly, can_go_on, NoDeadlock}
use Rattle.flt_sound.specs.Soundness.{AreAccepted}
use Rattle.flt_sound.proofs.sums.Eaches.{Each}
use Rattle.flt_sound.proofs.sums.Shadows.{Shadow, no_one, plain as forgotten, shadow_at, with_rest}
use Rattle.flt_sound.proofs.points.Kept.{Kept, IsAt, owned_of}
use Rattle.flt_sound.proofs.points.Legal.{spot, filter_there}
use Rattle.flt_sound.proofs.points.Placed.{Laws, same_here, call_here}
use Rattle.flt_sound.proofs.rest.Gone.{Rests, rests_after}
use Rattle.flt_sound.proofs.rest.Holding.{has_place, Holds}

-- ---- choices

-- the choice of the system that adds nothing: what it may refuse it refuses
abbrev pub modest : Statement-F Statement → Bool
modest (Statement-F.If span asked granted refused) = not (leaves_choice asked)
modest _ = true

-- the same of what remains of an activation
abbrev pub modest_list : List Statement → Bool
modest_list [] = true
modest_list (st ∷ rest) = modest (out-Statement st)

-- whether an activation can make a step so
abbrev pub can_go_modestly : List Filter → Moment → ℕ → Bool
can_go_modestly p m a = is_some (next p m (Local a)) || is_some (next p m (Board a (modest_list (activation_at m.world a).rest)))

-- an activation that can go on, whichever way the system chooses
pub record Goer (p : List Filter) (m : Moment) : Type 0 where
  pub by : ℕ
  pub runs : (activation_at m.world by).ended ≡ false
  pub granted : can_go_on p m by ≡ true
  pub modestly : can_go_modestly p m by ≡ true

-- ---- an activation goes on, or waits

module _ (p : List Filter) (m : Moment) (a : ℕ) where
  -- the activation's first statement takes a lock that others hold in a way that refuses it
  pub record Waits : Type 0 where
    pub statement : Statement
    pub rest : List Statement
    pub is : (activation_at m.world a).rest ≡ statement ∷ rest
    pub span : Span
    pub call : PlainCall
    pub layer : out-Statement statement ≡ Statement-F.Call span call
    pub lock : LockNumber
    pub takes : taken_by_call (plain call).call (plain call).lock ≡ Some lock
    pub access : Access
    pub blocked : is_free_for a access (holders_of m.world.store (actor_at m.world a).filter lock) ≡ false

  abbrev act : Activation
  act = activation_at m.world a

  abbrev draining : Bool
  draining = (actor_at m.world a).draining

  -- a local step or one that others see, where the activation hasn't ended
  abbrev some_step : Option Activation → Option Step → Bool
  some_step local seen = is_some (option_map (moved_on p m.trace m.world a) local) || is_some seen

  module _ (st : Statement) (rest : List Statement) (is : act.rest ≡ st ∷ rest) where
    -- it can go on with its first statement by a choice
    abbrev GoesBy : Bool → Statement-F Statement → Type 0
    GoesBy grant layer =
        some_step (after_statement draining act rest layer)
        (if may_go m.world a grant layer then statement_step p m.trace m.world a rest grant layer else None) ≡ true

    -- it can go on with its first statement either way, or waits
    abbrev Goes : Statement-F Statement → Type 0
    Goes layer = (GoesBy true layer × GoesBy (modest layer) layer) ⊎ Waits

    act_goes : (span : Span) (x : Action) → Goes (Statement-F.Act span x)
    act_goes span (action.SetNumber n x) = inl (refl, refl)
    act_goes span (action.ClearContext c) = inl (refl, refl)
    act_goes span (action.ClearOperation o) = inl (refl, refl)
    act_goes span (action.ReadValue n c) = inl (refl, refl)
    act_goes span (action.ReadFile n d) = inl (refl, refl)
    act_goes span (action.WriteValue c x) = inl (refl, refl)

    -- a lock is free, or isn't
    lock_goes : (span : Span) (c : PlainCall) → out-Statement st ≡ Statement-F.Call span c → (l : LockNumber) (access : Access) →
        taken_by_call (plain c).call (plain c).lock ≡ Some l → (b : Bool) → may_take m.world a l access ≡ b → (s : Step) →
        ((some_step None (if true && b then Some s else None) ≡ true) × (some_step None (if true && b then Some s else None) ≡ true))
        ⊎ Waits
    lock_goes span c e l access takes true free s = inl (refl, refl)
    lock_goes span c e l access takes false free s = inr (record {
      statement = st;
      rest = rest;
      is = is;
      span = span;
      call = c;
      layer = e;
      lock = l;
      takes = takes;
      access = access;
      blocked = free;
    })

    call_goes : (span : Span) (c : PlainCall) → out-Statement st ≡ Statement-F.Call span c → Goes (Statement-F.Call span c)
    call_goes span (plain_call.DeleteContext c) e = inl (refl, refl)
    call_goes span (plain_call.ReferenceContext c d) e = inl (refl, refl)
    call_goes span (plain_call.ReleaseContext c) e = inl (refl, refl)
    call_goes span (plain_call.AcquireLock kind l) e =
        lock_goes span (plain_call.AcquireLock kind l) e l Exclusive refl (may_take m.world a l Exclusive) refl _
    call_goes span (plain_call.AcquirePushLockShared l) e =
        lock_goes span (plain_call.AcquirePushLockShared l) e l Shared refl (may_take m.world a l Shared) refl _
    call_goes span (plain_call.ReleaseLock kind l) e = inl (refl, refl)
    call_goes span (plain_call.CompletePendedPreOperation d status) e = inl (refl, refl)
    call_goes span plain_call.CompletePendedPostOperation e = inl (refl, refl)

    if_goes : (span : Span) (asked : Condition) (granted refused : List Statement) → Goes (Statement-F.If span asked granted refused)
    if_goes span (condition.Test (test.ContextIsSome c)) granted refused = inl (refl, refl)
    if_goes span (condition.Test (test.OperationIsSome o)) granted refused = inl (refl, refl)
    if_goes span (condition.Test (test.Equal n x)) granted refused = inl (refl, refl)
    if_goes span (condition.Test (test.Less n x)) granted refused = inl (refl, refl)
    if_goes span (condition.Test test.IsDraining) granted refused = inl (refl, refl)
    if_goes span (condition.Test test.IsIrp) granted refused = inl (refl, refl)
    if_goes span (condition.Succeeds (fallible.AllocateContext d)) granted refused = inl (refl, refl)
    if_goes span (condition.Succeeds (fallible.GetContext on d)) granted refused = inl (refl, refl)
    if_goes span (condition.Succeeds (fallible.SetContext on existing c old)) granted refused = inl (refl, refl)
    if_goes span (condition.Succeeds (fallible.DeleteContextOf on old)) granted refused = inl (refl, refl)
    if_goes span (condition.Succeeds (fallible.InsertIo c)) granted refused = inl (refl, refl)
    if_goes span (condition.Succeeds (fallible.RemoveNextIo o d)) granted refused = inl (refl, refl)
    if_goes span (condition.Succeeds (fallible.QueueDeferredIoWorkItem r c)) granted refused = inl (refl, refl)
    if_goes span (condition.Succeeds (fallible.QueueGenericWorkItem r c)) granted refused = inl (refl, refl)

    layer_goes : (layer : Statement-F Statement) → out-Statement st ≡ layer → Goes layer
    layer_goes (Statement-F.Act span x) e = act_goes span x
    layer_goes (Statement-F.Call span c) e = call_goes span c e
    layer_goes (Statement-F.Return span status) e = inl (refl, refl)
    layer_goes (Statement-F.If span asked granted refused) e = if_goes span asked granted refused
    layer_goes (Statement-F.Repeat span turns block) e = inl (refl, refl)

  list_goes : (list : List Statement) → act.rest ≡ list →
      ((some_step (local_step draining act list) (list_step p m.trace m.world a list true) ≡ true)
      × (some_step (local_step draining act list) (list_step p m.trace m.world a list (modest_list list)) ≡ true)) ⊎ Waits
  list_goes [] is = inl (refl, refl)
  list_goes (st ∷ rest) is = layer_goes st rest is (out-Statement st) refl

  not_ended : (b : Bool) (local : Option Step) (seen : Option Step) → b ≡ false → (is_some local || is_some seen) ≡ true →
      (is_some (if b then None else local) || is_some (if b then None else seen)) ≡ true
  not_ended true local seen on h = absurd (cc)
  not_ended false local seen on h = h

  -- an activation that hasn't ended can go on, or waits
  pub goes_or_waits : act.ended ≡ false → (Goer p m) ⊎ Waits
  goes_or_waits on = elim (list_goes act.rest refl) [
    | inl h ↦ inl (record {
      by = a;
      runs = on;
      granted = not_ended act.ended _ _ on h.0;
      modestly = not_ended act.ended _ _ on h.1;
    })
    | inr w ↦ inr w
  ]

-- ---- who holds the lock

-- one of the holders refuses it
refusing : (P : Holder → Type 0) (test : Holder → Bool) (hs : List Holder) → Each P hs → list_all test hs ≡ false →
    (h : Holder) × (P h) × (test h ≡ false)
refusing P test [] k e = absurd (cc)
refusing P test (h ∷ hs) k e = by (test h) refl e (λ e. refusing P test hs k.1 e)
  where
    by : (b : Bool) → test h ≡ b → (b && list_all test hs) ≡ false →
        (list_all test hs ≡ false → (h : Holder) × (P h) × (test h ≡ false)) → (h : Holder) × (P h) × (test h ≡ false)
    by true t e others = others e
    by false t e others = (h, k.0, t)

-- a lock in the list whose rank is below
pub below_by : (rank : ℕ → ℕ) (r n : ℕ) (locks : List HeldLock) → All (λ (h : HeldLock). rank (place_of h.lock) < r) locks →
    has_place n locks ≡ true → rank n < r
below_by rank r n [] all h = absurd (cc)
below_by rank r n (k ∷ locks) all h =
    by (n == place_of k.lock) refl h (λ h. below_by rank r n locks (λ i d lt. all (suc i) d (omega (arith, lt))) h)
  where
    by : (b : Bool) → (n == place_of k.lock) ≡ b → (b || has_place n locks) ≡ true → (has_place n locks ≡ true → rank n < r) → rank n < r
    by true e h others = let same = eqb-true n (place_of k.lock) e in rw same (all 0 k (omega arith))
    by false e h others = others h

-- the greatest rank of all is at most their sum
abbrev ranks : (ℕ → ℕ) → ℕ
ranks rank = rank 0 + rank 1 + rank 2 + rank 3 + rank 4 + rank 5 + rank 6 + rank 7

rank_below : (rank : ℕ → ℕ) (l : LockNumber) → rank (place_of l) ≤ ranks rank
rank_below rank L0 = omega arith
rank_below rank L1 = omega arith
rank_below rank L2 = omega arith
rank_below rank L3 = omega arith
rank_below rank L4 = omega arith
rank_below rank L5 = omega arith
rank_below rank L6 = omega arith
rank_below rank L7 = omega arith

-- ---- along the ranks

module _ (p : List Filter) (m : Moment) (r : Rests p m) where
  abbrev k : Kept p m
  k = r.kept

  -- the world's activation is its shadow's
  is_plain : (a : ℕ) → activation_at m.world a ≡ forgotten (shadow_at k.shadows a)
  is_plain a = ap (λ l. get_or l a nobody) k.same ∙ get_or-map forgotten k.shadows a no_one

  -- who holds a lock hasn't ended
  holder_runs : (f n : ℕ) (h : Holder) → Holds m.world f n h → (activation_at m.world h.activation).ended ≡ false
  holder_runs f n h one = by (activation_at m.world h.activation).ended refl
    where
      by : (b : Bool) → (activation_at m.world h.activation).ended ≡ b → b ≡ false
      by false e = refl
      by true e =
          let idle = k.idle h.activation (sym (ap (λ (act : Activation). act.ended) (is_plain h.activation)) ∙ e) in
          let none : (activation_at m.world h.activation).locks ≡ [] = ap (λ (act : Activation). act.locks) (is_plain h.activation) ∙
          idle.locks in
          let bad : false ≡ true = sym (ap (has_place n) none) ∙ one.has in absurd (cc)

  -- another activation of the filter holds the lock for which one waits
  pub record HasIt (a : ℕ) (n : ℕ) : Type 0 where
    pub by : ℕ
    pub filter : (actor_at m.world by).filter ≡ (actor_at m.world a).filter
    pub runs : (activation_at m.world by).ended ≡ false
    pub has : has_place n (activation_at m.world by).locks ≡ true

  -- the lock for which one waits is held by another that runs
  pub held_by : (a : ℕ) (w : Waits p m a) → HasIt a (place_of w.lock)
  held_by a w =
      let g = (actor_at m.world a).filter in
      let n = place_of w.lock in
      let h = refusing (Holds m.world g n) (may_join a w.access) (holders_of m.world.store g w.lock) (r.held g n) w.blocked in
      record { by = h.0.activation; filter = h.1.of; runs = holder_runs g n h.0 h.1; has = h.1.has }

  module _ (ok : AreOrderly p) (g : ℕ) (there : g < length p) where
    -- the filter's own certificate and order
    abbrev own : IsOrderly (get_or p g no_filter)
    own = ok g no_filter there

    abbrev rank : ℕ → ℕ
    rank = own.ordered.rank

    -- each lock that one has who waits is of smaller rank than the one for which it waits
    ranked_at : (a : ℕ) (s : Shadow) (w : Waits p m a) (at : IsAt p m a (with_rest s (w.statement ∷ w.rest))) →
        (actor_at m.world a).filter ≡ g → (l : LockNumber) → has_place (place_of l) s.locks ≡ true →
        rank (place_of l) < rank (place_of w.lock)
    ranked_at a s w at same l has =
        let q = spot at in
        let is_filter : get_or p g no_filter ≡ q.filter =
        ap (λ i. get_or p i no_filter) (sym same) ∙ filter_there p (actor_at m.world a).filter q.filter q.there in
        let low : IsLowered q.filter own.accepted.graph =
        subst (λ x. IsLowered x own.accepted.graph) is_filter own.accepted.lowered in
        let meant = q.covered own.accepted.graph own.accepted.cert low own.accepted.covers in
        let called = call_here q w.span w.call w.layer in
        let takes : taken_by (instruction_at own.accepted.graph q.number q.point) ≡ Some w.lock =
        ap taken_by (same_here q own.accepted.graph low ∙ called.1) ∙ w.takes in
        let acquired : Acquisition =
        record { callback = q.number; point = q.point; line = line_at own.accepted.graph q.number q.point; taken = w.lock; holding = l } in
        own.ordered.ordered acquired (record {
          state = meant.state;
          reached = meant.reached;
          line = refl;
          takes = takes;
          holds = subst (λ locks. has_place (place_of l) locks ≡ true) (sym meant.means.locks) has;
        })

    ranked : (a : ℕ) (w : Waits p m a) → (activation_at m.world a).ended ≡ false → (actor_at m.world a).filter ≡ g → (l : LockNumber) →
        has_place (place_of l) (activation_at m.world a).locks ≡ true → rank (place_of l) < rank (place_of w.lock)
    ranked a w on same l has =
        let s = shadow_at k.shadows a in
        let list = w.statement ∷ w.rest in
        let is_list : s.rest ≡ list = sym (ap (λ (act : Activation). act.rest) (is_plain a)) ∙ w.is in
        let is_shadow : s ≡ with_rest s list = ap (λ (l : List Statement). with_rest s l) is_list in
        let at : IsAt p m a (with_rest s list) = record {
          kept = k;
          is = is_shadow;
          on = sym (ap (λ (act : Activation). act.ended) (is_plain a)) ∙ on;
          owned = λ v h. owned_of k a v h;
        } in
        ranked_at a s w at same l (ap (λ (act : Activation). has_place (place_of l) act.locks) (sym (is_plain a)) ∙ has)

    -- one that can go on is found in so many steps from a lock to the next
    climbs : (fuel a : ℕ) → (activation_at m.world a).ended ≡ false → (actor_at m.world a).filter ≡ g →
        ((w : Waits p m a) → ranks rank < rank (place_of w.lock) + fuel) →
        Goer p m
    climbs zero a on same h = elim (goes_or_waits p m a on) [
      | inl goes ↦ goes
      | inr w ↦ absurd (omega (arith, h w, rank_below rank w.lock))
    ]
    climbs (suc fuel) a on same h = elim (goes_or_waits p m a on) [
      | inl goes ↦ goes
      | inr w ↦
          let b = held_by a w in
          climbs fuel b.by b.runs (b.filter ∙ same) (λ v.
          let up = ranked b.by v b.runs (b.filter ∙ same) w.lock b.has in omega (arith, h w, up))
    ]

  -- as long as one runs, one can go on
  pub one_goes : AreOrderly p → (a : ℕ) → (activation_at m.world a).ended ≡ false → Goer p m
  one_goes ok a on =
      let s = shadow_at k.shadows a in
      let stood = k.each a (sym (ap (λ (act : Activation). act.ended) (is_plain a)) ∙ on) in
      let g = (actor_at m.world a).filter in
      let there = slice_get_within p g stood.placed.filter stood.placed.there in
      climbs ok g there (ranks (rank ok g there) + 1) a on refl (λ w. omega arith)

-- filters that take their locks in an order are accepted
pub accepted_of : (p : List Filter) → AreOrderly p → AreAccepted p
accepted_of p ok i d there = (ok i d there).accepted

-- no deadlock
pub no_deadlock : Laws → NoDeadlock
no_deadlock laws p xs m ok e a on =
    let b = one_goes p m (rests_after laws p (accepted_of p ok) xs m e) ok a on in (b.by, b.runs, b.granted)
