-- What the rules that aren't broken at a return say of the machine. R10: no lock is held. R02 and R05: no context and no operation
-- is held but what goes with the status, so the end leaks nothing. R06: the status is one that the callback may return about the
-- operation as it has it. The machine's tests of all this follow.
-- p is the program, m the moment, a the activation, s its shadow; st is the status, v the visit that the callback was given, c and
-- x the status's context variable and its context, q a place.
use Rattle.std.proofs.Common.{◌≡◌, ℕ, zero, suc, ◌<◌, Bool, true, false, List, [], ◌∷◌, take}
use Rattle.std.proofs.Common.{Option, Some, None, ap, sym, subst, refl, ◌∙◌, arith, inl, inr}
use Rattle.std.specs.Prelude.{not, ◌&&◌, ◌||◌, slice_index_or}
use Rattle.std.specs.List.{list_any}
use Rattle.std.proofs.Math.ListN.{set, get_or}
use Rattle.std.proofs.lemmas.Bool.{and_from, and_parts, cases_eq, cases_lt, or_parts, not-false}
use Rattle.std.proofs.lemmas.List.{get_or_past, get_or-set_same, get_or-set_other}
use Rattle.std.proofs.lemmas.List.Sums.{sum_by-cons}
use Rattle.flt_rules.specs.Place.{answers, fits_stage, is_pre_create, same_mode}
use Rattle.flt_rules.specs.Status.{status_row}
use Rattle.flt_rules.specs.declared.held.HeldLock.{HeldLock}
use Rattle.flt_rules.specs.declared.place.Mode.{Mode}
use Rattle.flt_rules.specs.declared.place.Mode.TheVariants.{Irp, Fast}
use Rattle.flt_rules.specs.declared.place.Place.{Place}
use Rattle.flt_rules.specs.declared.place.Place.TheVariants as place
use Rattle.flt_rules.specs.declared.place.Stage.{Stage}
use Rattle.flt_rules.specs.declared.place.Stage.TheVariants as stage
use Rattle.flt_rules.specs.declared.status.Possession.{Possession}
use Rattle.flt_rules.specs.declared.status.Possession.TheVariants as possession
use Rattle.flt_tree.specs.Filter.{word_of, named_context, completes_pending}
use Rattle.flt_tree.specs.Variable.{context_place}
use Rattle.flt_tree.specs.declared.filter.Filter.{Filter}
use Rattle.flt_tree.specs.declared.filter.Status.{Status}
use Rattle.flt_tree.specs.declared.variable.ContextVariable.{ContextVariable}
use Rattle.flt_tree.specs.declared.variable.OperationVariable.TheVariants.{Data}
use Rattle.flt_abs.specs.Breaks as abs
use Rattle.flt_abs.specs.Breaks.{return_breaks, owes_data}
use Rattle.flt_abs.specs.Setting.{is_registered}
use Rattle.flt_abs.specs.Sets.{StatusSet, ModeSet, DrainingSet, null_alone}
use Rattle.flt_abs.specs.State.{has_status, has_mode, has_draining}
use Rattle.flt_model.specs.declared.event.Answer.TheVariants.{Returned}
use Rattle.flt_model.specs.declared.event.Object.TheVariants.{Visit}
use Rattle.flt_model.specs.Moves.{is_empty}
use Rattle.flt_model.specs.Program.{callbacks_at, has_post}
use Rattle.flt_model.specs.Runs.{Moment}
use Rattle.flt_model.specs.Statuses.{may_answer, is_possessed, is_of_mode}
use Rattle.flt_model.specs.World.{Activation, actor_at, activation_at, arrival_of, visit_at}
use Rattle.flt_model.specs.Trace.{is_held}
use Rattle.flt_sound.proofs.sums.Shadows.{Slot, Unset, Owns, Past, value_of, status_of, own, own_all, Shadow, operation_slot}
use Rattle.flt_sound.proofs.sums.Slots.{slot_has, not_held, owned_there}
use Rattle.flt_sound.proofs.points.Kept.{IsAt, activation_is}
use Rattle.flt_sound.proofs.points.Legal.{spot, place_same, callbacks_there}
use Rattle.flt_sound.proofs.points.Placed.{Fine}
use Rattle.flt_sound.proofs.points.Rows.{setting, state_of, was, operation_is}
use Rattle.flt_sound.proofs.calls.Effects.{own_filter, own_place, GivenAt, given_as}
use Rattle.flt_sound.proofs.ends.Tests.{allowed}
use Rattle.flt_sound.proofs.points.Handed.{Names, handed}
use Rattle.flt_sound.proofs.points.Stored.{given_is}

-- ---- sets and lists

-- where no set of a list may be held, none at any place may
none_passes : (sets : List StatusSet) (i : ℕ) → list_any (λ (s : StatusSet). s.held) sets ≡ false →
    (slice_index_or sets i null_alone).held ≡ false
none_passes [] i e = refl
none_passes (s ∷ sets) zero e = (or_parts s.held _ e).0
none_passes (s ∷ sets) (suc i) e = none_passes sets i (or_parts s.held _ e).1

-- where none of the first n may be held, none at one of those places may
none_passes_in : (n : ℕ) (sets : List StatusSet) (i : ℕ) → list_any (λ (s : StatusSet). s.held) (take n sets) ≡ false → i < n →
    (slice_index_or sets i null_alone).held ≡ false
none_passes_in zero sets i e h = absurd (omega arith)
none_passes_in (suc n) [] i e h = refl
none_passes_in (suc n) (s ∷ sets) zero e h = (or_parts s.held _ e).0
none_passes_in (suc n) (s ∷ sets) (suc i) e h = none_passes_in n sets i (or_parts s.held _ e).1 (omega arith)

-- variables own nothing where none of them does
pub own_none : (x : ℕ) (slots : List Slot) → ((i : ℕ) → own x (get_or slots i Unset) ≡ 0) → own_all x slots ≡ 0
unfolding own_all
own_none x [] h = refl
own_none x (s ∷ slots) h = omega (arith, sum_by-cons (own x) s slots, h zero, own_none x slots (λ i. h (suc i)))

-- where the rule finds no lock kept, the machine finds none
none_kept : (locks : List HeldLock) → not (abs.is_empty locks) ≡ false → is_empty locks ≡ true
none_kept [] h = refl
none_kept (l ∷ locks) h = absurd (cc)

-- a list of locks that is found empty has none
nothing_in : (locks : List HeldLock) → is_empty locks ≡ true → locks ≡ []
nothing_in [] h = refl
nothing_in (l ∷ locks) h = absurd (cc)

-- a set of modes that is one mode alone means that mode
mode_by : (irp fast : Bool) (mode wanted : Mode) → abs.is_mode_alone (record { irp = irp; fast = fast }) wanted ≡ true →
    has_mode (record { irp = irp; fast = fast }) mode ≡ true → same_mode mode wanted ≡ true
mode_by irp fast Irp Irp e h = refl
mode_by irp fast Fast Fast e h = refl
mode_by true true Fast Irp e h = absurd (cc)
mode_by true false Fast Irp e h = absurd (cc)
mode_by false fast Fast Irp e h = absurd (cc)
mode_by true true Irp Fast e h = absurd (cc)
mode_by false true Irp Fast e h = absurd (cc)
mode_by irp false Irp Fast e h = absurd (cc)

-- so a mode that a row asks for is the activation's
of_mode : (k : ModeSet) (mode : Mode) (wanted : Option Mode) → abs.is_of_mode k wanted ≡ true → has_mode k mode ≡ true →
    is_of_mode mode wanted ≡ true
of_mode k mode None e h = refl
of_mode k mode (Some wanted) e h = mode_by k.irp k.fast mode wanted e h

-- a status that a draining callback may not return isn't returned by one
in_draining_by : (d : DrainingSet) (may draining : Bool) → (may || not d.yes) ≡ true → has_draining d draining ≡ true →
    (may || not draining) ≡ true
in_draining_by d true draining e h = refl
in_draining_by d false false e h = refl
in_draining_by d false true e h = let no : not true ≡ true = ap not (sym h) ∙ e in absurd (cc)

-- a set that may be held is surely possessed only as held
held_wanted : (k : StatusSet) (want : Possession) → k.held ≡ true → abs.is_possessed k want ≡ true → want ≡ possession.Held
held_wanted k possession.Held h e = refl
held_wanted k possession.GivenAway h e = let no : not true ≡ true = ap not (sym h)
    ∙ (and_parts (not k.null) _ (and_parts k.stale _ e).1).1 in absurd (cc)

-- a set that may be stale is surely possessed only as given away
stale_wanted : (k : StatusSet) (want : Possession) → k.stale ≡ true → abs.is_possessed k want ≡ true → want ≡ possession.GivenAway
stale_wanted k possession.GivenAway h e = refl
stale_wanted k possession.Held h e = let no : not true ≡ true = ap not (sym h)
    ∙ (and_parts (not k.null) _ (and_parts k.held _ e).1).1 in absurd (cc)

module _ {p : List Filter} {m : Moment} {a : ℕ} {s : Shadow} (at : IsAt p m a s) where
  -- no rule is broken at a return of the status, or at an end without one
  abbrev pub AtReturn : Option Status → Type 0
  AtReturn st = Fine (return_breaks (setting at) (state_of at) st)

  -- ---- R10

  -- no lock is held
  pub no_locks : (st : Option Status) → AtReturn st → is_empty (activation_at m.world a).locks ≡ true
  no_locks st f =
      ap (λ (act : Activation). is_empty act.locks) (activation_is at) ∙ none_kept s.locks (rw (sym (spot at).means.locks) f.r10)

  -- so its list of locks is empty
  pub without_locks : (st : Option Status) → AtReturn st → s.locks ≡ []
  without_locks st f = nothing_in s.locks (none_kept s.locks (rw (sym (spot at).means.locks) f.r10))

  -- ---- R02

  -- no context is held but the one that goes with the status
  pub contexts_free : (st : Option Status) (c : Option ContextVariable) (x : Option ℕ) → AtReturn st → Names at c x → named_context st ≡ c →
      (y : ℕ) → own_all y (handed at c x) ≡ 0
  contexts_free st None None r n e y =
      own_none y s.contexts (λ i. not_held (state_of at).contexts s.contexts i y (spot at).means.contexts
      (none_passes (state_of at).contexts i (rw e at r.r02)))
  contexts_free st None (Some x) r n e y = absurd n
  contexts_free st (Some c) None r n e y = absurd n
  contexts_free st (Some c) (Some x) r n e y = own_none y (set s.contexts (context_place c) (Past x)) each
    where
      -- the state without the variable
      rest : List StatusSet
      rest = set (state_of at).contexts (context_place c) null_alone

      each : (i : ℕ) → own y (get_or (set s.contexts (context_place c) (Past x)) i Unset) ≡ 0
      each i = elim (cases_eq i (context_place c)) [
        | inl same ↦ rw (
          same,
          get_or-set_same s.contexts (context_place c) (Past x) Unset
              (owned_there s.contexts (context_place c) x n),
        ) refl
        | inr ne ↦ rw (get_or-set_other s.contexts (context_place c) i (Past x) Unset ne)
            (not_held (state_of at).contexts s.contexts i y (spot at).means.contexts
            (rw (get_or-set_other (state_of at).contexts (context_place c) i null_alone null_alone ne) at
            (none_passes rest i (rw e at r.r02))))
      ]

  -- ---- R05: no operation is held but the one that was given, and that neither where the callback owes it

  -- an operation that was taken out of the queue
  removed_free : (st : Option Status) → AtReturn st → (v i : ℕ) → i < 4 → own v (get_or s.operations i Unset) ≡ 0
  removed_free st f v i h =
      not_held (state_of at).operations s.operations i v (spot at).means.operations
      (none_passes_in 4 (state_of at).operations i (or_parts _ _ f.r05).0 h)

  -- where `data` isn't held either, no operation is
  pub none_held : (st : Option Status) → AtReturn st → (v : ℕ) → own v (operation_slot s Data) ≡ 0 → own_all v s.operations ≡ 0
  none_held st f v h = own_none v s.operations each
    where
      each : (i : ℕ) → own v (get_or s.operations i Unset) ≡ 0
      each i = elim (cases_lt i 4) [
        | inl below ↦ removed_free st f v i below
        | inr above ↦ elim (cases_eq i 4) [
          | inl same ↦ rw same h
          | inr ne ↦ rw (get_or_past s.operations i Unset (omega (arith, (was at).broad, ne))) refl
        ]
      ]

  -- after `data` was given back, no operation is held
  pub all_past : (st : Option Status) → AtReturn st → (v u : ℕ) → own_all u (set s.operations 4 (Past v)) ≡ 0
  all_past st f v u = own_none u (set s.operations 4 (Past v)) each
    where
      each : (i : ℕ) → own u (get_or (set s.operations 4 (Past v)) i Unset) ≡ 0
      each i = elim (cases_eq i 4) [
        | inl same ↦ rw (same, get_or-set_same s.operations 4 (Past v) Unset (omega (arith, (was at).broad))) refl
        | inr ne ↦ rw (get_or-set_other s.operations 4 i (Past v) Unset ne) (elim (cases_lt i 4) [
          | inl below ↦ removed_free st f u i below
          | inr above ↦ rw (get_or_past s.operations i Unset (omega (arith, (was at).broad, ne, above))) refl
        ])
      ]

  -- a callback that doesn't answer for its operation has given it away, or was given none
  silent_by : (q : Place) (slot : Slot) (holds : Bool) (u : ℕ) → answers q ≡ false → (owes_data q && holds) ≡ false →
      (holds ≡ false → own u slot ≡ 0) →
      GivenAt at s.mode q (value_of slot) → own u slot ≡ 0
  silent_by (place.Pre kind) slot holds u h e f g = absurd (cc)
  silent_by (place.Post kind) slot holds u h e f g = absurd (cc)
  silent_by place.Canceled slot holds u h e f g = f e
  silent_by place.DeferredPre slot holds u h e f g = f e
  silent_by place.DeferredPost slot holds u h e f g = f e
  silent_by place.Generic Unset holds u h e f g = refl
  silent_by place.Generic (Owns x) holds u h e f g = absurd g
  silent_by place.Generic (Past x) holds u h e f g = refl

  -- such a callback's `data` owns nothing
  pub silent_free : (st : Option Status) → AtReturn st → answers (own_place at) ≡ false → (u : ℕ) → own u (operation_slot s Data) ≡ 0
  silent_free st r silent u =
      let sets = (state_of at).operations in
      let holds = (slice_index_or sets 4 null_alone).held in
      silent_by (own_place at) (operation_slot s Data) holds u silent
      (subst (λ q. (owes_data q && holds) ≡ false) (place_same (spot at)) (or_parts _ _ r.r05).1)
      (λ h. not_held sets s.operations 4 u (spot at).means.operations h) (was at).given

  -- ---- R06: the status may be returned

  -- the state's set of what `data` may be
  abbrev given_set : StatusSet
  given_set = slice_index_or (state_of at).operations 4 null_alone

  -- what the row of a status asks, each at the callback's place
  pub record IsReturnable (st : Status) : Type 0 where
    pub stage : fits_stage (own_place at) (status_row (word_of st)).stage ≡ true
    pub registered : ((setting at).registered || not (status_row (word_of st)).needs_post) ≡ true
    pub in_create : ((status_row (word_of st)).in_create || not (is_pre_create (own_place at))) ≡ true
    pub possessed : abs.is_possessed given_set (status_row (word_of st)).data ≡ true
    pub mode : abs.is_of_mode (state_of at).modes (status_row (word_of st)).mode ≡ true
    pub in_draining : ((status_row (word_of st)).in_draining || not (state_of at).draining.yes) ≡ true
    pub completes : not (completes_pending st) ≡ true

  -- where R06 isn't broken the status may be returned
  pub returnable : (st : Status) → AtReturn (Some st) → IsReturnable st
  returnable st f =
      let row = status_row (word_of st) in
      let all = and_parts _ _ (not-false _ f.r06) in
      let both = and_parts _ _ all.0 in
      let by_setting = and_parts _ _ both.0 in
      let by_place = and_parts _ _ by_setting.0 in
      let by_state = and_parts _ _ both.1 in
      let by_data = and_parts _ _ by_state.0 in
      record {
        stage = subst (λ q. fits_stage q row.stage ≡ true) (place_same (spot at)) by_place.0;
        registered = by_place.1;
        in_create = subst (λ q. (row.in_create || not (is_pre_create q)) ≡ true) (place_same (spot at)) by_setting.1;
        possessed = by_data.0;
        mode = by_data.1;
        in_draining = by_state.1;
        completes = all.1;
      }

  -- where `data` owns the operation, the row asks for one that is held
  pub held_asked : (st : Status) → IsReturnable st → (v : ℕ) → operation_slot s Data ≡ Owns v →
      (status_row (word_of st)).data ≡ possession.Held
  held_asked st k v e =
      let may = slot_has (state_of at).operations s.operations 4 (spot at).means.operations in
      held_wanted given_set _ (subst (λ slot. has_status given_set (status_of slot) ≡ true) e may) k.possessed

  -- where `data` is past the operation, the row asks for one that was given away
  pub away_asked : (st : Status) → IsReturnable st → (v : ℕ) → operation_slot s Data ≡ Past v →
      (status_row (word_of st)).data ≡ possession.GivenAway
  away_asked st k v e =
      let may = slot_has (state_of at).operations s.operations 4 (spot at).means.operations in
      stale_wanted given_set _ (subst (λ slot. has_status given_set (status_of slot) ≡ true) e may) k.possessed

  -- the visit is of the stage that the row asks for
  stage_by : (q : Place) (g : Stage) (v : ℕ) → fits_stage q g ≡ true → GivenAt at s.mode q (Some v) → (visit_at m.world.store v).stage ≡ g
  stage_by (place.Pre kind) stage.Pre v h g = g.given.visit.stage
  stage_by (place.Pre kind) stage.Post v h g = absurd (cc)
  stage_by (place.Post kind) stage.Post v h g = g.given.visit.stage
  stage_by (place.Post kind) stage.Pre v h g = absurd (cc)
  stage_by place.Canceled g v h given = absurd (cc)
  stage_by place.DeferredPre g v h given = absurd (cc)
  stage_by place.DeferredPost g v h given = absurd (cc)
  stage_by place.Generic g v h given = absurd (cc)

  -- the visit that the callback was given is of the stage of the status
  pub stage_is : (st : Status) (v : ℕ) → IsReturnable st → value_of (operation_slot s Data) ≡ Some v →
      (visit_at m.world.store v).stage ≡ (status_row (word_of st)).stage
  stage_is st v k e = stage_by (own_place at) (status_row (word_of st)).stage v k.stage (given_as at (Some v) e)

  -- where a pre callback's operation is registered, its filter has the post callback
  has_post_by : (q : Place) (v : ℕ) → GivenAt at s.mode q (Some v) → is_registered (spot at).graph.callbacks q ≡ true →
      has_post (callbacks_at p (own_filter at)) (arrival_of m.world.store v).kind ≡ true
  has_post_by (place.Pre kind) v g h =
      let x = spot at in
      let posts : has_post x.filter.callbacks kind ≡ true =
      sym (x.laws.posts x.filter.callbacks x.filter.callbacks x.graph.callbacks kind x.lowered.callbacks) ∙ h in
      rw (g.kind_is, callbacks_there p (own_filter at) x.filter x.there) posts
  has_post_by (place.Post kind) v g h = absurd (cc)
  has_post_by place.Canceled v g h = absurd (cc)
  has_post_by place.DeferredPre v g h = absurd (cc)
  has_post_by place.DeferredPost v g h = absurd (cc)
  has_post_by place.Generic v g h = absurd (cc)

  -- the visit's operation has a post callback, where the row needs one
  pub post_is : (st : Status) (v : ℕ) → IsReturnable st → value_of (operation_slot s Data) ≡ Some v →
      (not (status_row (word_of st)).needs_post || has_post (callbacks_at p (own_filter at)) (arrival_of m.world.store v).kind) ≡ true
  post_is st v k e =
      let there : (setting at).registered ≡ true → has_post (callbacks_at p (own_filter at)) (arrival_of m.world.store v).kind ≡ true = λ h.
      has_post_by (own_place at) v (given_as at (Some v) e)
      (subst (λ q. is_registered (spot at).graph.callbacks q ≡ true) (place_same (spot at)) h) in
      allowed (setting at).registered _ (status_row (word_of st)).needs_post there k.registered

  -- the status is legal on the machine, where the row asks for the operation as the activation has it
  pub answer_legal : (st : Status) (v : ℕ) → IsReturnable st → value_of (operation_slot s Data) ≡ Some v →
      is_possessed (is_held m.trace a (Visit v)) (status_row (word_of st)).data ≡ true →
      may_answer p m.world m.trace a (Returned (Some st)) ≡ true
  answer_legal st v k e possessed =
      let row = status_row (word_of st) in
      let given_mode = (given_is m.world.store.visits m.world.store.arrivals (own_filter at) s.mode (own_place at) v
      (given_as at (Some v) e)).mode_is in
      let mode : is_of_mode (arrival_of m.world.store v).mode row.mode ≡ true =
      rw given_mode (of_mode (state_of at).modes s.mode row.mode k.mode (spot at).means.mode) in
      let drains : (row.in_draining || not (actor_at m.world a).draining) ≡ true =
      in_draining_by (state_of at).draining row.in_draining (actor_at m.world a).draining k.in_draining (spot at).means.draining in
      let value : get_or (activation_at m.world a).operations 4 None ≡ Some v = operation_is at Data (operation_slot s Data) refl ∙ e in
      let place_fits = and_from _ _ (and_from _ _ k.stage (post_is st v k e)) k.in_create in
      rw value (and_from _ _ (and_from _ _ (and_from _ _ (and_from _ _ place_fits possessed) mode) drains) k.completes)
