-- Calls on contexts, but for those that set one: allocate, get, delete, reference, release. Each changes one context's references
-- as it changes what variables, links and events say of it, so that the count of references still holds and a context is freed
-- just where its last reference goes.
-- p is the program, m the moment, a the activation, s its shadow; c, d and old are variables, x and y contexts, l is a link.
use Rattle.std.proofs.Common.{◌≡◌, ℕ, ◌+◌, ◌<◌, ◌≤◌, Bool, true, false, List, [], ◌∷◌, ◌++◌}
use Rattle.std.proofs.Common.{length, Option, Some, None, sym, subst, refl, ◌∙◌, arith}
use Rattle.std.specs.Prelude.{is_some, if◌then◌else◌}
use Rattle.std.proofs.lemmas.List.{length-set}
use Rattle.flt_rules.specs.declared.call.Anchor.{Anchor}
use Rattle.flt_rules.specs.declared.call.Anchor.TheVariants as anchor
use Rattle.flt_rules.specs.declared.call.Call.TheVariants as call
use Rattle.flt_tree.specs.Variable.{context_place}
use Rattle.flt_tree.specs.declared.filter.Callback.{Callback}
use Rattle.flt_tree.specs.declared.filter.FallibleCall.TheVariants as fallible_call
use Rattle.flt_tree.specs.declared.filter.Filter.{Filter}
use Rattle.flt_tree.specs.declared.filter.PlainCall.TheVariants as plain_call
use Rattle.flt_tree.specs.declared.filter.Statement.{Statement}
use Rattle.flt_tree.specs.declared.variable.ContextVariable.{ContextVariable}
use Rattle.flt_tree.specs.declared.variable.OperationVariable.TheVariants.{Data}
use Rattle.flt_graph.specs.Instruction as graph
use Rattle.flt_abs.specs.Breaks.{may_hold_context}
use Rattle.flt_abs.specs.Outcome.{put_context as put}
use Rattle.flt_abs.specs.State as status
use Rattle.flt_abs.specs.Variables.{context_in as state_context}
use Rattle.flt_model.specs.Calls.{release, allocate, got, get, unlinked, delete_at, delete, reference}
use Rattle.flt_model.specs.declared.event.Event.{Event}
use Rattle.flt_model.specs.declared.moves.Key.TheVariants.{Stream, Instance}
use Rattle.flt_model.specs.declared.event.Event.TheVariants as event
use Rattle.flt_model.specs.declared.event.Object.TheVariants.{Context, Visit}
use Rattle.flt_model.specs.Effects.{onward, freed_by_drop, after_unlink, goes_on, unchanged, gives_nothing}
use Rattle.flt_model.specs.Runs.{Moment}
use Rattle.flt_model.specs.Trace.{gains, frees}
use Rattle.flt_model.specs.Variables.{with_context_in, with_old}
use Rattle.flt_model.specs.declared.parts.Link.{Link}
use Rattle.flt_model.specs.World.{Store, no_context, is_linked_to, same_key, with_link, add_reference}
use Rattle.flt_model.specs.World.{drop_reference, actor_at, activation_at, arrival_of, context_at, linked_at}
use Rattle.flt_model.specs.World as world
use Rattle.flt_sound.proofs.sums.Counts.{counts, of_actor-same, made_self}
use Rattle.flt_sound.proofs.sums.Ledger.{Ledger}
use Rattle.flt_sound.proofs.sums.Shadows.{Unset, Owns, Past, own, own_all, own_all-set, Shadow}
use Rattle.flt_sound.proofs.sums.Shadows.{context_slot, with_rest, put_context, put_old}
use Rattle.flt_sound.proofs.sums.Slots.{owned_there, not_held, context_there, own_all-put}
use Rattle.flt_sound.proofs.points.Events.{none, lost, gained, dropped}
use Rattle.flt_sound.proofs.points.Kept.{Good, IsAt, held_one}
use Rattle.flt_sound.proofs.points.Legal.{spot}
use Rattle.flt_sound.proofs.points.Rows.{before, state_of, was, owned_operation, operation_is, situation-put_context, plain-past_context}
use Rattle.flt_sound.proofs.points.Rows.{draining_of, PlacedAt, AtCall, owned_context, context_is, onward_is}
use Rattle.flt_sound.proofs.calls.Effects.{GoodBehind, own_filter, has_owned_context, has_owned_visit}
use Rattle.flt_sound.proofs.calls.Effects.{same_store, no_ledger, unchanged_good}
use Rattle.flt_sound.proofs.calls.Links.{some_link, IsAvailable, IsLinked, link_refs, link_available, available_touch, found_link}
use Rattle.flt_sound.proofs.points.Opened.{Opened, opened_call, opened_use, given_good, behind, ledger_after, clean_after}
use Rattle.flt_sound.proofs.points.Stepping.{row_good, CalmStore, same_calm, calm_of, running}
use Rattle.flt_sound.proofs.points.Stepping.{Touched, held_touch, held_refs, stood_contexts}
use Rattle.flt_sound.proofs.sums.Belonging.{newest}
use Rattle.flt_sound.proofs.sums.Handovers.{gains-dropped, loses-dropped, settles-dropped}
use Rattle.flt_sound.proofs.sums.Touching.{CleanBy, drop_clean}
use Rattle.std.proofs.lemmas.Bool.{or_parts}
use Rattle.flt_sound.proofs.sums.References as references

module _ {p : List Filter} {m : Moment} {a : ℕ} {s : Shadow} (at : IsAt p m a s) where
  -- ---- outputs

  -- by R03 a variable that receives a context owns none
  out_free : (d : ContextVariable) → (state_context (state_of at) d).held ≡ false → (y : ℕ) → own y (context_slot s d) ≡ 0
  out_free d h y = not_held (state_of at).contexts s.contexts (context_place d) y (spot at).means.contexts h

  -- each context variable has its place in the list
  place_there : (d : ContextVariable) → context_place d < length s.contexts
  place_there d = omega (arith, context_there d, (was at).wide)

  -- a variable that receives a context then owns one more
  gives_one : (d : ContextVariable) (n : ℕ) → (state_context (state_of at) d).held ≡ false → (y : ℕ) →
      own_all y (put_old s (Some d) (Owns n)).contexts ≡ gains (event.Gain a (Context n) ∷ []) a (Context y) + own_all y s.contexts
  gives_one d n h y = simp (counts, of_actor-same)
      (omega (arith, own_all-put y s.contexts (context_place d) (Owns n) (out_free d h y) (place_there d)))

  -- a variable that becomes NULL leaves as many owned as before
  gives_none : (old : Option ContextVariable) → may_hold_context (state_of at) old ≡ false → (y : ℕ) →
      own_all y (put_old s old Unset).contexts ≡ gains [] a (Context y) + own_all y s.contexts
  gives_none None h y = simp counts (omega arith)
  gives_none (Some d) h y = simp counts (omega (arith, own_all-put y s.contexts (context_place d) Unset (out_free d h y) (place_there d)))

  -- ---- effects behind what opens a call

  module _ (pre : List Event) (o : Opened at pre) where
    -- a step after which a variable is NULL, and which changes no owner and no reference, is good
    pub nulls : (old : Option ContextVariable) (list : List Statement) (store : Store) → may_hold_context (state_of at) old ≡ false →
        CalmStore at store → Ledger a m.world.store store [] → PlacedAt at list (put old (Some status.Null) (before at)) →
        GoodBehind at pre (goes_on m.world a (with_old (onward m.world a list) old None) store [])
    nulls old list store h c l placed =
        given_good at pre [] old Unset list store o (λ t. none t) c.change (calm_of at c [] (λ v. simp counts) (λ v. simp counts)) l tt
        (λ x. simp counts) (λ v. simp counts) (gives_none old h) placed

    -- a call that gives nothing is good
    pub nothing_given : (old : Option ContextVariable) (list : List Statement) → may_hold_context (state_of at) old ≡ false →
        PlacedAt at list (put old (Some status.Null) (before at)) → GoodBehind at pre (gives_nothing m.world a old list)
    nothing_given old list h placed = nulls old list m.world.store h (same_store at) (no_ledger at) placed

    -- a step that gives a variable a context is good
    pub gets : (d : ContextVariable) (x : ℕ) (list : List Statement) (store : Store) → (state_context (state_of at) d).held ≡ false →
        CalmStore at store → Ledger a m.world.store store (event.Gain a (Context x) ∷ []) → Touched at store a x →
        PlacedAt at list (put (Some d) (Some status.Held) (before at)) →
        GoodBehind at pre (goes_on m.world a (with_context_in (onward m.world a list) d (Some x)) store (event.Gain a (Context x) ∷ []))
    gets d x list store h c l own placed =
        let es = event.Gain a (Context x) ∷ [] in
        given_good at pre es (Some d) (Owns x) list store o (λ t. gained (Context x) (none _)) c.change
        (calm_of at c es (λ v. simp (counts, of_actor-same)) (λ v. simp counts)) l (own, tt)
        (λ x. simp counts) (λ v. simp (counts, of_actor-same)) (gives_one d x h) placed

    -- a step that drops a reference is good
    pub drops : (x : ℕ) (list : List Statement) (store : Store) → CalmStore at store →
        Ledger a m.world.store store (freed_by_drop m.world.store x) →
        PlacedAt at list (before at) → GoodBehind at pre (goes_on m.world a (onward m.world a list) store (freed_by_drop m.world.store x))
    drops x list store c l placed =
        let es = freed_by_drop m.world.store x in
        let gains_none = gains-dropped m.world.store x a in
        let loses_none = loses-dropped m.world.store x a in
        given_good at pre es None Unset list store o (λ t. dropped t m.world.store x) c.change
        (calm_of at c es (λ v. gains_none (Visit v) ∙ sym (loses_none (Visit v))) (λ v. settles-dropped m.world.store x v)) l
        (drop_clean (Touched at store) m.world.store x) loses_none (λ v. gains_none (Visit v))
        (λ y. rw (gains_none (Context y)) (omega arith)) placed

    -- a step that removes a link and drops its reference is good
    pub unlinks : (x : ℕ) (l : Link) (list : List Statement) → 1 ≤ (context_at m.world.store x).references →
        (context_at m.world.store x).link ≡ Some l →
        PlacedAt at list (before at) →
        GoodBehind at pre (goes_on m.world a (onward m.world a list) (after_unlink m.world.store x None) (freed_by_drop m.world.store x))
    unlinks x l list refs is placed =
        drops x list (after_unlink m.world.store x None) (same_calm at (after_unlink m.world.store x None) refl refl refl refl refl refl)
        (references.drops_link a m.world.store at.kept.mine x l refs is) placed

    -- a step that gives a variable a new reference of an available context is good
    pub adds : (d : ContextVariable) (x : ℕ) (list : List Statement) → (state_context (state_of at) d).held ≡ false → IsAvailable at x →
        PlacedAt at list (put (Some d) (Some status.Held) (before at)) → GoodBehind at pre (got m.world a d list list (Some x))
    adds d x list h available placed =
        let store = add_reference m.world.store x in
        let l = references.gets a m.world.store at.kept.mine x available.refs in
        gets d x list store h (same_calm at store refl refl refl refl refl refl) l (available_touch at store l.older x available) placed

    -- a step that gives the context that was found, or NULL where there is none, is good
    got_good : (d : ContextVariable) (granted refused : List Statement) → (state_context (state_of at) d).held ≡ false →
        PlacedAt at granted (put (Some d) (Some status.Held) (before at)) →
        PlacedAt at refused (put (Some d) (Some status.Null) (before at)) →
        (x : Option ℕ) → ((y : ℕ) → x ≡ Some y → IsAvailable at y) → GoodBehind at pre (got m.world a d granted refused x)
    got_good d granted refused h ok fail None available = nothing_given (Some d) refused h fail
    got_good d granted refused h ok fail (Some x) available = adds d x granted h (available x refl) ok

    -- a step that removes a context's link, if it has one, is good
    deleted_good : (list : List Statement) (x : ℕ) (b : Bool) → 1 ≤ (context_at m.world.store x).references →
        is_some (context_at m.world.store x).link ≡ b → PlacedAt at list (before at) →
        GoodBehind at pre (if b
        then goes_on m.world a (onward m.world a list) (after_unlink m.world.store x None) (freed_by_drop m.world.store x)
        else unchanged m.world a list)
    deleted_good list x true h e placed = let l = some_link (context_at m.world.store x).link e in unlinks x l.0 list h l.1 placed
    deleted_good list x false h e placed = unchanged_good at pre list o placed

    -- a step that removes a link is good: its reference goes to the variable that receives it, or is dropped
    unlinked_good : (old : Option ContextVariable) (granted refused : List Statement) → may_hold_context (state_of at) old ≡ false →
        PlacedAt at granted (put old (Some status.Held) (before at)) → PlacedAt at refused (put old (Some status.Null) (before at)) →
        (x : Option ℕ) → ((y : ℕ) → x ≡ Some y → IsLinked at y) → GoodBehind at pre (unlinked m.world a old granted refused x)
    unlinked_good old granted refused h ok fail None at_link = nothing_given old refused h fail
    unlinked_good None granted refused h ok fail (Some y) at_link =
        let k = at_link y refl in unlinks y k.link granted (link_refs at y k) k.is ok
    unlinked_good (Some d) granted refused h ok fail (Some y) at_link =
        let k = at_link y refl in
        let store = after_unlink m.world.store y (Some d) in
        let l = references.unlinks a m.world.store at.kept.mine y k.link (link_refs at y k) k.is in
        gets d y granted store h (same_calm at store refl refl refl refl refl refl) l
        (available_touch at store l.older y (link_available at y k)) ok

  -- ---- calls

  -- the number of the next context was never freed
  unborn : frees m.trace (length m.world.store.contexts) ≡ 0
  unborn = omega (arith, at.kept.freed (length m.world.store.contexts), made_self (length m.world.store.contexts))

  -- FltAllocateContext is good, whether the system grants it or not
  pub allocate_good : (d : ContextVariable) (grant : Bool) (granted refused : List Statement) →
      AtCall at (graph.fallible (fallible_call.AllocateContext d)) granted refused →
      Good p m (allocate m.world a d grant granted refused)
  allocate_good d true granted refused k =
      let n = length m.world.store.contexts in
      let new : world.Context = record { owner = (actor_at m.world a).filter; references = 1; value = 0; link = None } in
      let store = record m.world.store { contexts = m.world.store.contexts ++ new ∷ [] } in
      let opened = opened_call at call.AllocateContext k.clear refl in
      gets (event.Call a call.AllocateContext ∷ []) opened d n granted store (or_parts _ _ k.fine.r03).0
      (same_calm at store refl refl refl refl refl refl) (references.allocates a m.world.store at.kept.mine (own_filter at))
      (unborn, newest m.world.store.contexts (own_filter at)) (k.ok true)
  allocate_good d false granted refused k =
      nothing_given (event.Call a call.AllocateContext ∷ []) (opened_call at call.AllocateContext k.clear refl) (Some d) refused
      (or_parts _ _ k.fine.r03).0 (k.fails _ refl true)

  -- FltGetStreamContext and FltGetInstanceContext are good
  pub get_good : (on : Anchor) (d : ContextVariable) (granted refused : List Statement) →
      AtCall at (graph.fallible (fallible_call.GetContext on d)) granted refused → Good p m (get m.world a on d granted refused)
  get_good anchor.Instance d granted refused k =
      let l : Link = record { filter = (actor_at m.world a).filter; key = Instance } in
      let opened = opened_call at (call.GetContext anchor.Instance) k.clear refl in
      got_good (event.Call a (call.GetContext anchor.Instance) ∷ []) opened d granted refused (or_parts _ _ k.fine.r03).0
      (k.ok true) (k.fails _ refl true)
      (linked_at m.world.store l) (λ y e. link_available at y (found_link at l refl y e))
  get_good anchor.Stream d granted refused k =
      let o = owned_operation at Data k.fine.r04 in
      let l : Link = record { filter = (actor_at m.world a).filter; key = Stream (arrival_of m.world.store o.object).file } in
      let opened = opened_use at (call.GetContext anchor.Stream) (Visit o.object) k.clear refl (has_owned_visit at Data o) in
      rw (operation_is at Data (Owns o.object) o.is)
      (got_good (event.Call a (call.GetContext anchor.Stream) ∷ event.Use a (Visit o.object) ∷ []) opened d granted refused
      (or_parts _ _ k.fine.r03).0
      (k.ok true) (k.fails _ refl true) (linked_at m.world.store l) (λ y e. link_available at y (found_link at l refl y e)))

  -- FltDeleteStreamContext and FltDeleteInstanceContext are good
  pub delete_at_good : (on : Anchor) (old : Option ContextVariable) (granted refused : List Statement) →
      AtCall at (graph.fallible (fallible_call.DeleteContextOf on old)) granted refused →
      Good p m (delete_at m.world a on old granted refused)
  delete_at_good anchor.Instance old granted refused k =
      let l : Link = record { filter = (actor_at m.world a).filter; key = Instance } in
      let opened = opened_call at (call.DeleteContextOf anchor.Instance) k.clear refl in
      unlinked_good (event.Call a (call.DeleteContextOf anchor.Instance) ∷ []) opened old granted refused (or_parts _ _ k.fine.r03).0
      (k.ok true) (k.fails _ refl true) (linked_at m.world.store l) (found_link at l refl)
  delete_at_good anchor.Stream old granted refused k =
      let o = owned_operation at Data k.fine.r04 in
      let l : Link = record { filter = (actor_at m.world a).filter; key = Stream (arrival_of m.world.store o.object).file } in
      let opened = opened_use at (call.DeleteContextOf anchor.Stream) (Visit o.object) k.clear refl (has_owned_visit at Data o) in
      rw (operation_is at Data (Owns o.object) o.is)
      (unlinked_good (event.Call a (call.DeleteContextOf anchor.Stream) ∷ event.Use a (Visit o.object) ∷ []) opened old granted
      refused (or_parts _ _ k.fine.r03).0
      (k.ok true) (k.fails _ refl true) (linked_at m.world.store l) (found_link at l refl))

  -- FltDeleteContext is good: the context, which is held, loses its link
  pub delete_good : (c : ContextVariable) (list : List Statement) → AtCall at (graph.plain (plain_call.DeleteContext c)) list list →
      Good p m (delete m.world a c list)
  delete_good c list k =
      let o = owned_context at c k.fine.r01 in
      let x = o.object in
      let has = has_owned_context at c o in
      let opened = opened_use at call.DeleteContext (Context x) k.clear refl has in
      rw (context_is at c (Owns x) o.is)
      (deleted_good (event.Call a call.DeleteContext ∷ event.Use a (Context x) ∷ []) opened list x
      (is_some (context_at m.world.store x).link) (held_refs at x has) refl (k.ok true))

  -- FltReferenceContext is good: a second variable gets a reference of the context, which is held
  pub reference_good : (c d : ContextVariable) (list : List Statement) →
      AtCall at (graph.plain (plain_call.ReferenceContext c d)) list list →
      Good p m (reference m.world a c d list)
  reference_good c d list k =
      let o = owned_context at c k.fine.r01 in
      let x = o.object in
      let has = has_owned_context at c o in
      let opened = opened_use at call.ReferenceContext (Context x) k.clear refl has in
      let available : IsAvailable at x = record { refs = held_refs at x has; own = at.kept.owns a x (held_one at.kept a x has) } in
      rw (context_is at c (Owns x) o.is)
      (adds (event.Call a call.ReferenceContext ∷ event.Use a (Context x) ∷ []) opened d x list
      (or_parts _ _ k.fine.r03).0 available (k.ok true))

  -- FltReleaseContext is good: the reference is held, and goes
  pub release_good : (c : ContextVariable) (list : List Statement) → AtCall at (graph.plain (plain_call.ReleaseContext c)) list list →
      Good p m (release m.world a c list)
  release_good c list k =
      let o = owned_context at c k.fine.r01 in
      let x = o.object in
      let i = context_place c in
      let has = has_owned_context at c o in
      let pre = event.Call a call.ReleaseContext ∷ event.Use a (Context x) ∷ [] in
      let es = event.Lose a (Context x) ∷ freed_by_drop m.world.store x in
      let opened = opened_use at call.ReleaseContext (Context x) k.clear refl has in
      let new = put_context (with_rest s list) c (Past x) in
      let store = drop_reference m.world.store x in
      let calm = same_calm at store refl refl refl refl refl refl in
      let turned = calm_of at calm es (λ v. simp (counts, gains-dropped, loses-dropped, of_actor-same))
      (λ v. simp (counts, settles-dropped)) in
      let l = references.lets_go a m.world.store at.kept.mine x (held_refs at x has) in
      let clean : CleanBy (Touched at store) es = (held_touch at store l.older x has, drop_clean (Touched at store) m.world.store x) in
      rw (context_is at c (Owns x) o.is)
      (row_good at new store (pre ++ es) (onward m.world a list) (onward_is at list ∙ plain-past_context (with_rest s list) c x o.is)
      (opened.events es (λ t k. lost (k (Context x) has) (dropped _ m.world.store x)))
      (stood_contexts at new refl refl (length-set s.contexts i (Past x))
      (subst (λ t. PlacedAt at list t) (situation-put_context (draining_of at) (with_rest s list) c (Past x)) (k.ok true)))
      calm.change
      (λ v. simp (counts, gains-dropped, loses-dropped, of_actor-same) (omega arith))
      (λ y. simp (counts, gains-dropped, loses-dropped, of_actor-same)
      (let e = rw o.is at (own_all-set y s.contexts i (Past x) (owned_there s.contexts i x o.is)) in
      omega (arith, e)))
      (behind at pre es store opened turned) (running at new refl) (ledger_after at pre es store opened l)
      (clean_after at pre es store opened l clean))
