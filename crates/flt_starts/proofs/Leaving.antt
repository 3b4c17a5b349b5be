-- Each call, read, test and return keeps a world as it has to stay, where all that its statement asks for may start.
use Rattle.std.proofs.Common.{◌≡◌, ◌≢◌, ◌⊎◌, ℕ, Bool, true, false, List, [], ◌∷◌, ◌++◌, Option}
use Rattle.std.proofs.Common.{Some, None, IfSome, inl, inr, refl, sym, subst, ◌∙◌, arith}
use Rattle.std.proofs.Math.ListN.{get_or, set}
use Rattle.std.proofs.lemmas.List.{get_or-set_other, length-set}
use Rattle.std.proofs.lemmas.List.Elements.{All-head, All-rest}
use Rattle.std.specs.List.{All}
use Rattle.std.specs.Prelude.{if◌then◌else◌, is_some}
use Rattle.flt_rules.proofs.Operations.{of_each}
use Rattle.flt_rules.specs.Held.{holds_lock}
use Rattle.flt_rules.specs.Place.{answers, is_irp}
use Rattle.flt_rules.specs.declared.call.Existing.{Existing}
use Rattle.flt_rules.specs.declared.call.Existing.TheVariants.{Keep, Replace}
use Rattle.flt_rules.specs.declared.call.LockNumber.{LockNumber}
use Rattle.flt_rules.specs.declared.held.Access.{Access}
use Rattle.flt_rules.specs.declared.held.Access.TheVariants.{Exclusive, Shared}
use Rattle.flt_rules.specs.declared.place.Operation.{Operation}
use Rattle.flt_rules.specs.declared.place.Place.{Place}
use Rattle.flt_rules.specs.declared.place.Place.TheVariants as place
use Rattle.flt_rules.specs.declared.place.Stage.TheVariants as stage
use Rattle.flt_tree.specs.Filter.{context_of, named_context}
use Rattle.flt_tree.specs.Variable.{operation_place, whose}
use Rattle.flt_tree.specs.Registered.{routine_of}
use Rattle.flt_tree.specs.declared.filter.Callback.{Callback}
use Rattle.flt_tree.specs.declared.filter.FallibleCall.{FallibleCall}
use Rattle.flt_tree.specs.declared.filter.FallibleCall.TheVariants as fallible
use Rattle.flt_tree.specs.declared.filter.PlainCall.{PlainCall}
use Rattle.flt_tree.specs.declared.filter.PlainCall.TheVariants as plain
use Rattle.flt_tree.specs.declared.filter.Routine.{Routine}
use Rattle.flt_tree.specs.declared.filter.Statement.{Statement}
use Rattle.flt_tree.specs.declared.filter.Status.{Status}
use Rattle.flt_tree.specs.declared.filter.Status.TheVariants as status
use Rattle.flt_tree.specs.declared.variable.Atom.{Atom}
use Rattle.flt_tree.specs.declared.variable.ContextVariable.{ContextVariable}
use Rattle.flt_tree.specs.declared.variable.NumberVariable.{NumberVariable}
use Rattle.flt_tree.specs.declared.variable.OperationVariable.{OperationVariable}
use Rattle.flt_tree.specs.declared.variable.OperationVariable.TheVariants.{Data, Removed}
use Rattle.flt_tree.specs.declared.variable.RemovedVariable.{RemovedVariable}
use Rattle.flt_tree.specs.declared.variable.RemovedVariable.TheVariants.{O0, O1, O2, O3}
use Rattle.flt_model.specs.declared.event.Answer.TheVariants.{Returned, CompletesPre, CompletesPost}
use Rattle.flt_model.specs.declared.event.Event.{Event}
use Rattle.flt_model.specs.Calls.{link_of, allocate, got, get_by, kept, set_there, cannot_set, set_by, unlinked}
use Rattle.flt_model.specs.Calls.{delete_by, deleted, referenced, released, taken, given_up, enqueued, insert_by}
use Rattle.flt_model.specs.Calls.{removed, defer_by, queue_by, completed, complete_by, complete_post_by}
use Rattle.flt_model.specs.Effects.{Step, onward}
use Rattle.flt_model.specs.Program.{callbacks_at, place_at, routine_of}
use Rattle.flt_model.specs.Reads.{read_value_of, write_value_of, put_value, read_file_of, test_irp_of}
use Rattle.flt_model.specs.Returns.{there, returned, returns}
use Rattle.flt_model.specs.Settling.{way_of}
use Rattle.flt_model.specs.Steps.{plain_step, fallible_step}
use Rattle.flt_model.specs.Variables.{context_in, operation_in, named_in, with_old, atom_value}
use Rattle.flt_model.specs.declared.parts.Entry.{Entry}
use Rattle.flt_model.specs.declared.parts.Link.{Link}
use Rattle.flt_model.specs.World.{World, Store, Activation, Actor, activation_at, actor_at, arrival_of, context_at}
use Rattle.flt_model.specs.World.{is_attached, is_freed, linked_at, nobody, presence_at, queue_at, visit_at}
use Rattle.flt_starts.specs.Closed.{canceled_number, body_within, status_within, return_within, plain_within, fallible_within}
use Rattle.flt_starts.proofs.Found.{routine_elsewhere}
use Rattle.flt_starts.proofs.Kept.{Setting, callbacks, Owns, Fits, Waits, Runs, RunsIn, Kept}
use Rattle.flt_starts.proofs.Lists.{set_keeps, set_or}
use Rattle.flt_starts.proofs.Stores.{Still, still, asked_by, entry_still, queue_still, item_still, settled_still}

-- ---- steps that go on with one of two lists, of which all that they ask for may start

module _ (q : Setting) (w : World) (k : Kept q w) (a : ℕ) where
  abbrev here : Activation
  here = activation_at w a

  abbrev actor : Actor
  actor = actor_at w a

  -- the world after the step is as it has to stay
  abbrev pub To : Step → Type 0
  To s = Kept q s.world

  -- all that the list asks for may start, where the activation is the filter's
  abbrev pub Left : List Statement → Type 0
  Left rest = actor.filter ≡ q.own → body_within (callbacks q) q.may_start actor.place rest ≡ true

  abbrev Same : Store → Type 0
  Same = Still q w.store k.store

  abbrev same : Same w.store
  same = still q w.store k.store

  -- the activation is now this, and what activations share is that
  pub goes : (act : Activation) (s : Store) → Same s → Runs q w.store.arrivals w.store.visits actor act →
      Kept q (record w { activations = set w.activations a act; store = s })
  goes act s st r = record {
    store = st.2;
    as_many = k.as_many ∙ sym (length-set w.activations a act);
    runs = λ b.
        subst (λ arrivals. Runs q arrivals s.visits (actor_at w b) (get_or (set w.activations a act) b nobody)) (sym st.0)
        (subst (λ visits. Runs q w.store.arrivals visits (actor_at w b) (get_or (set w.activations a act) b nobody)) (sym st.1)
        (set_keeps (λ n one. Runs q w.store.arrivals w.store.visits (actor_at w n) one) w.activations a act nobody k.runs r b));
  }

  -- its variables of operations are as they were
  pub on : (rest : List Statement) → Left rest → Runs q w.store.arrivals w.store.visits actor (onward w a rest)
  on rest h = record { owned = (k.runs a).owned; fits = (k.runs a).fits; within = h }

  if_to : (b : Bool) (r s : Step) → To r → To s → To (if b then r else s)
  if_to true r s h k = h
  if_to false r s h k = k

  abbrev own_filter : ℕ
  own_filter = actor.filter

  abbrev Own : ℕ → Type 0
  Own v = Owns w.store.arrivals w.store.visits own_filter v

  -- the visit that a variable names is of its filter
  named_own : (d : OperationVariable) → IfSome (operation_in here d) Own
  named_own d = by (operation_in here d) refl
    where
      by : (o : Option ℕ) → operation_in here d ≡ o → IfSome o Own
      by None is = tt
      by (Some v) is = (k.runs a).owned (operation_place d) v is

  -- a variable of operations that is set names another visit of the filter, or none; it isn't `data`
  pub removed_on : (o : RemovedVariable) (x : Option ℕ) (rest : List Statement) → Left rest → IfSome x Own →
      RunsIn q w.store.arrivals w.store.visits actor (set here.operations (operation_place (Removed o)) x) rest
  removed_on o x rest h own = record {
    owned = λ d v is. by x own v (set_or here.operations (operation_place (Removed o)) x d v is) ((k.runs a).owned d v);
    fits = λ v is. (k.runs a).fits v (sym (get_or-set_other here.operations (operation_place (Removed o)) 4 x None (other o)) ∙ is);
    within = h;
  }
    where
      by : (x : Option ℕ) → IfSome x Own → (v : ℕ) {B : Type 0} → (x ≡ Some v) ⊎ B → (B → Own v) → Own v
      by None own v (inl e) old = absurd (cc)
      by (Some u) own v (inl e) old = let equal : u ≡ v = cc in subst Own equal own
      by x own v (inr b) old = old b

      other : (o : RemovedVariable) → 4 ≢ operation_place (Removed o)
      other O0 = λ e. absurd (omega arith)
      other O1 = λ e. absurd (omega arith)
      other O2 = λ e. absurd (omega arith)
      other O3 = λ e. absurd (omega arith)

  module _ (rest : List Statement) (h : Left rest) where
    goes_old : (old : Option ContextVariable) (x : Option ℕ) (s : Store) → Same s →
        Kept q (record w { activations = set w.activations a (with_old (onward w a rest) old x); store = s })
    goes_old None x s st = goes _ s st (on rest h)
    goes_old (Some d) x s st = goes _ s st (on rest h)

    -- ---- calls that always succeed

    deleted_to : (x : Option ℕ) → To (deleted w a rest x)
    deleted_to None = goes _ _ same (on rest h)
    deleted_to (Some x) = if_to (is_some (context_at w.store x).link) _ _ (goes _ _ same (on rest h)) (goes _ _ same (on rest h))

    referenced_to : (d : ContextVariable) (x : Option ℕ) → To (referenced w a d rest x)
    referenced_to d None = goes _ _ same (on rest h)
    referenced_to d (Some x) = goes _ _ same (on rest h)

    released_to : (x : Option ℕ) → To (released w a rest x)
    released_to None = goes _ _ same (on rest h)
    released_to (Some x) = goes _ _ same (on rest h)

    taken_to : (l : LockNumber) (access : Access) → To (taken w a l access rest)
    taken_to l access = if_to (holds_lock l here.locks) _ _ (goes _ _ same (on rest h)) (goes _ _ same (on rest h))

    given_up_to : (l : LockNumber) → To (given_up w a l rest)
    given_up_to l = if_to (holds_lock l here.locks) _ _ (goes _ _ same (on rest h)) (goes _ _ same (on rest h))

    -- a status that is handed on asks for post callbacks of the visit's own filter
    completed_to : (v : ℕ) (x : Option ℕ) (st : Status) (d : OperationVariable) → Own v →
        (own_filter ≡ q.own → plain_within (callbacks q) q.may_start (plain.CompletePendedPreOperation d st) ≡ true) →
        To (completed w a q.filters rest v x (CompletesPre (whose d) v st))
    completed_to v x st d o m =
        goes _ _
        (settled_still q w.store k.store v x (way_of q.filters w.store v (CompletesPre (whose d) v st)) (λ asks own.
        asked_by q (visit_at w.store v).filter (arrival_of w.store v).kind (visit_at w.store v).stage false (Some st)
        (λ pre.
        of_each (status_within (callbacks q) q.may_start false (Some st)) (m (sym o.filter_is ∙ own))
        (arrival_of w.store v).kind) asks own)) (on rest h)

    complete_to : (d : OperationVariable) (st : Status) (v : Option ℕ) (c : Option (Option ℕ)) → IfSome v Own →
        (own_filter ≡ q.own → plain_within (callbacks q) q.may_start (plain.CompletePendedPreOperation d st) ≡ true) →
        To (complete_by w a q.filters d st rest v c)
    complete_to d st None c o m = goes _ _ same (on rest h)
    complete_to d st (Some v) (Some None) o m = goes _ _ same (on rest h)
    complete_to d st (Some v) (Some (Some x)) o m = completed_to v (Some x) st d o m
    complete_to d st (Some v) None o m = completed_to v None st d o m

    complete_post_to : (v : Option ℕ) → To (complete_post_by w a q.filters rest v)
    complete_post_to None = goes _ _ same (on rest h)
    complete_post_to (Some v) =
        goes _ _
        (settled_still q w.store k.store v None (way_of q.filters w.store v (CompletesPost v)) (λ asks own.
        asked_by q (visit_at w.store v).filter (arrival_of w.store v).kind (visit_at w.store v).stage false (Some status.FinishedProcessing)
        (λ pre. refl) asks own))
        (on rest h)

    -- a call that always succeeds
    pub plain_to : (t : List Event) (c : PlainCall) → (own_filter ≡ q.own → plain_within (callbacks q) q.may_start c ≡ true) →
        To (plain_step q.filters t w a rest c)
    plain_to t (plain.DeleteContext c) m = deleted_to (context_in here c)
    plain_to t (plain.ReferenceContext c d) m = referenced_to d (context_in here c)
    plain_to t (plain.ReleaseContext c) m = released_to (context_in here c)
    plain_to t (plain.AcquireLock kind l) m = taken_to l Exclusive
    plain_to t (plain.AcquirePushLockShared l) m = taken_to l Shared
    plain_to t (plain.ReleaseLock kind l) m = given_up_to l
    plain_to t (plain.CompletePendedPreOperation d st) m =
        complete_to d st (operation_in here d) (named_in here (context_of st)) (named_own d) m
    plain_to t plain.CompletePendedPostOperation m = complete_post_to (operation_in here Data)

    -- ---- reads

    -- to read a context's value keeps the world as it has to stay
    pub value_read : (m : NumberVariable) (x : Option ℕ) → To (read_value_of w a m rest x)
    value_read m None = goes _ _ same (on rest h)
    value_read m (Some x) = goes _ _ same (on rest h)

    put_same : (x value : ℕ) → Same (put_value w.store x value)
    put_same x value = by (is_freed (context_at w.store x))
      where
        by : (b : Bool) → Same (if b then w.store
            else record w.store { contexts = set w.store.contexts x (record (context_at w.store x) { value = value }) })
        by true = same
        by false = same

    -- to write a context's value keeps the world as it has to stay
    pub value_written : (value : Atom) (x : Option ℕ) → To (write_value_of w a value rest x)
    value_written value None = goes _ _ same (on rest h)
    value_written value (Some x) = goes _ _ (put_same x (atom_value here value)) (on rest h)

    -- to read an operation's file keeps the world as it has to stay
    pub file_read : (m : NumberVariable) (v : Option ℕ) → To (read_file_of w a m rest v)
    file_read m None = goes _ _ same (on rest h)
    file_read m (Some v) = goes _ _ same (on rest h)

  -- ---- calls that can fail, and a test

  module _ (granted refused : List Statement) (g : Left granted) (r : Left refused) where
    tested_by : (b : Bool) → Left (if b then granted else refused)
    tested_by true = g
    tested_by false = r

    -- to test an operation's mode keeps the world as it has to stay
    pub irp_tested : (v : Option ℕ) → To (test_irp_of w a granted refused v)
    irp_tested None = goes _ _ same (on refused r)
    irp_tested (Some v) = goes _ _ same (on _ (tested_by (is_irp (arrival_of w.store v).mode)))

    allocate_to : (d : ContextVariable) (grant : Bool) → To (allocate w a d grant granted refused)
    allocate_to d true = goes _ _ same (on granted g)
    allocate_to d false = goes _ _ same (on refused r)

    got_to : (d : ContextVariable) (x : Option ℕ) → To (got w a d granted refused x)
    got_to d None = goes _ _ same (on refused r)
    got_to d (Some x) = goes _ _ same (on granted g)

    get_by_to : (d : ContextVariable) (l : Option Link) → To (get_by w a d granted refused l)
    get_by_to d None = goes _ _ same (on refused r)
    get_by_to d (Some l) = got_to d (linked_at w.store l)

    kept_to : (old : Option ContextVariable) (y : ℕ) → To (kept w a old refused y)
    kept_to None y = goes _ _ same (on refused r)
    kept_to (Some d) y = goes _ _ same (on refused r)

    there_to : (existing : Existing) (old : Option ContextVariable) (x : ℕ) (l : Link) (y : Option ℕ) →
        To (set_there w a existing old granted refused x l y)
    there_to existing old x l None = goes_old granted g old None _ same
    there_to Keep old x l (Some y) = kept_to old y
    there_to Replace None x l (Some y) = goes _ _ same (on granted g)
    there_to Replace (Some d) x l (Some y) = goes _ _ same (on granted g)

    set_to : (existing : Existing) (old : Option ContextVariable) (x : Option ℕ) (l : Option Link) →
        To (set_by w a existing old granted refused x l)
    set_to existing old None l = goes _ _ same (on refused r)
    set_to existing old (Some x) None = goes _ _ same (on refused r)
    set_to existing old (Some x) (Some l) =
        if_to (cannot_set w a x) _ _ (goes_old refused r old None _ same) (there_to existing old x l (linked_at w.store l))

    unlinked_to : (old : Option ContextVariable) (y : Option ℕ) → To (unlinked w a old granted refused y)
    unlinked_to old None = goes_old refused r old None _ same
    unlinked_to None (Some y) = goes _ _ same (on granted g)
    unlinked_to (Some d) (Some y) = goes _ _ same (on granted g)

    delete_by_to : (old : Option ContextVariable) (l : Option Link) → To (delete_by w a old granted refused l)
    delete_by_to old None = goes _ _ same (on refused r)
    delete_by_to old (Some l) = unlinked_to old (linked_at w.store l)

    -- the entry's visit is of the queue's filter
    enqueued_to : (v : ℕ) (x : Option ℕ) → Own v → (own_filter ≡ q.own → q.may_start (canceled_number (callbacks q)) ≡ true) →
        To (enqueued w a granted refused v x)
    enqueued_to v x o m =
        if_to (is_attached (presence_at w.store own_filter)) _ _
        (goes _ _ (entry_still q w.store k.store own_filter (record { visit = v; context = x }) (o, m)) (on granted g))
        (goes _ _ same (on refused r))

    insert_to : (v : Option ℕ) (c : Option (Option ℕ)) → IfSome v Own →
        (own_filter ≡ q.own → q.may_start (canceled_number (callbacks q)) ≡ true) → To (insert_by w a granted refused v c)
    insert_to None c o m = goes _ _ same (on refused r)
    insert_to (Some v) (Some None) o m = goes _ _ same (on refused r)
    insert_to (Some v) (Some (Some x)) o m = enqueued_to v (Some x) o m
    insert_to (Some v) None o m = enqueued_to v None o m

    removed_to : (o : RemovedVariable) (d : ContextVariable) (queue : List Entry) → queue_at w.store own_filter ≡ queue →
        To (removed w a o d granted refused queue)
    removed_to o d [] is = goes _ _ same (removed_on o None refused r tt)
    removed_to o d (e ∷ queue) is =
        let all = k.store.waiting own_filter in
        let P = Waits q w.store.arrivals w.store.visits own_filter in
        let front = All-head P e queue (subst (λ (entries : List Entry). All P entries) is all) in
        goes _ _ (queue_still q w.store k.store own_filter queue (All-rest P e queue (queue_at w.store own_filter) is all))
        (removed_on o (Some e.visit) granted g front.0)

    -- a work item of a visit of its filter, or of none
    item_to : (routine : ℕ) (v x : Option ℕ) → IfSome v Own → answers (place_at (callbacks_at q.filters own_filter) routine) ≡ false →
        (own_filter ≡ q.own → q.may_start routine ≡ true) →
        Kept q (record w {
          activations = set w.activations a (onward w a granted);
          store = record w.store
              { items = w.store.items ++ Some (record { filter = own_filter; routine = routine; visit = v; context = x }) ∷ [] };
        })
    item_to routine v x o e m =
        goes _ _
        (item_still q w.store k.store (record { filter = own_filter; routine = routine; visit = v; context = x })
        (record { owned = o; elsewhere = e; routine = m }))
        (on granted g)

    module _ (routine : ℕ) (grant : Bool) (e : answers (place_at (callbacks_at q.filters own_filter) routine) ≡ false)
        (m : own_filter ≡ q.own → q.may_start routine ≡ true) where
      defer_to : (v : Option ℕ) (c : Option (Option ℕ)) → IfSome v Own → To (defer_by w a routine grant granted refused v c)
      defer_to None c o = goes _ _ same (on refused r)
      defer_to (Some v) (Some None) o = goes _ _ same (on refused r)
      defer_to (Some v) (Some (Some x)) o = if_to grant _ _ (item_to routine (Some v) (Some x) o e m) (goes _ _ same (on refused r))
      defer_to (Some v) None o = if_to grant _ _ (item_to routine (Some v) None o e m) (goes _ _ same (on refused r))

      queue_to : (c : Option (Option ℕ)) → To (queue_by w a routine grant granted refused c)
      queue_to (Some None) = goes _ _ same (on refused r)
      queue_to (Some (Some x)) = if_to grant _ _ (item_to routine None (Some x) tt e m) (goes _ _ same (on refused r))
      queue_to None = if_to grant _ _ (item_to routine None None tt e m) (goes _ _ same (on refused r))

    abbrev own_callbacks : List Callback
    own_callbacks = callbacks_at q.filters own_filter

    -- the routine that a call names, of the activation's own filter
    routine_may : (c : Routine) → (own_filter ≡ q.own → q.may_start (routine_of (callbacks q) c) ≡ true) → own_filter ≡ q.own →
        q.may_start (routine_of own_callbacks c) ≡ true
    routine_may c m own =
        subst (λ (n : ℕ). q.may_start (routine_of (callbacks_at q.filters n) c) ≡ true) (sym own) (m own)

    -- a call that can fail
    pub fallible_to : (t : List Event) (grant : Bool) (c : FallibleCall Routine) →
        (own_filter ≡ q.own → fallible_within (callbacks q) q.may_start c ≡ true) →
        To (fallible_step q.filters t w a grant granted refused c)
    fallible_to t grant (fallible.AllocateContext d) m = allocate_to d grant
    fallible_to t grant (fallible.GetContext anchor d) m = get_by_to d (link_of w.store own_filter anchor (operation_in here Data))
    fallible_to t grant (fallible.SetContext anchor existing c old) m =
        set_to existing old (context_in here c) (link_of w.store own_filter anchor (operation_in here Data))
    fallible_to t grant (fallible.DeleteContextOf anchor old) m =
        delete_by_to old (link_of w.store own_filter anchor (operation_in here Data))
    fallible_to t grant (fallible.InsertIo c) m = insert_to (operation_in here Data) (named_in here c) (named_own Data) m
    fallible_to t grant (fallible.RemoveNextIo o d) m = removed_to o d (queue_at w.store own_filter) refl
    fallible_to t grant (fallible.QueueDeferredIoWorkItem c x) m =
        defer_to (routine_of own_callbacks c) grant (routine_elsewhere own_callbacks c) (routine_may c m) (operation_in here Data)
        (named_in here x) (named_own Data)
    fallible_to t grant (fallible.QueueGenericWorkItem c x) m =
        queue_to (routine_of own_callbacks c) grant (routine_elsewhere own_callbacks c) (routine_may c m) (named_in here x)

  -- ---- returns

  -- it ends, and what activations share is this
  ends_to : (s : Store) → Same s →
      Kept q (record w { activations = set w.activations a (record here { rest = []; ended = true }); store = s })
  ends_to s st = goes _ s st (record { owned = (k.runs a).owned; fits = (k.runs a).fits; within = λ own. refl })

  module _ (t : List Event) (st : Option Status)
      (m : own_filter ≡ q.own → return_within (callbacks q) q.may_start actor.place st ≡ true) where
    -- what a callback that answers returns asks for the post callback of the operation that it was given
    asks : (at : Place) (v : ℕ) → answers at ≡ true → Fits w.store.arrivals w.store.visits at v →
        return_within (callbacks q) q.may_start at st ≡ true → (visit_at w.store v).stage ≡ stage.Pre →
        status_within (callbacks q) q.may_start true st (arrival_of w.store v).kind ≡ true
    asks (place.Pre kind) v is f h pre = subst (λ (o : Operation). status_within (callbacks q) q.may_start true st o ≡ true) (sym f) h
    asks (place.Post kind) v is f h pre = absurd (cc)
    asks place.Canceled v is f h pre = absurd (cc)
    asks place.DeferredPre v is f h pre = absurd (cc)
    asks place.DeferredPost v is f h pre = absurd (cc)
    asks place.Generic v is f h pre = absurd (cc)

    returned_to : (b : Bool) (v : Option ℕ) → answers actor.place ≡ b → operation_in here Data ≡ v → To (returned q.filters t w a st b v)
    returned_to true (Some v) is given =
        ends_to _
        (settled_still q w.store k.store v (there (named_in here (named_context st)))
        (way_of q.filters w.store v (Returned st)) (λ asked own.
        let mine = (k.runs a).owned 4 v given in
        asked_by q (visit_at w.store v).filter (arrival_of w.store v).kind (visit_at w.store v).stage true st
        (asks actor.place v is ((k.runs a).fits v given) (m (sym mine.filter_is ∙ own))) asked own))
    returned_to true None is given = ends_to _ same
    returned_to false v is given = ends_to _ same

    -- `return`
    pub returns_to : To (returns q.filters t w a st)
    returns_to = returned_to (answers actor.place) (operation_in here Data) refl refl
