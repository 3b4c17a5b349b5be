-- Steps of the filter manager keep the invariant: the store changes, and perhaps an activation starts. A new activation's shadow is
-- added at the end of the list, so that all others stay as they are; what it is given it owns.
-- p is the program, m the moment, k its invariant, s the store after the step, es the events; `gift` and `arg` are the visit and the
-- context that the activation is given, b an activation, v a visit, x and y contexts.
use Rattle.std.proofs.Common.{◌≡◌, ◌≢◌, ℕ, ◌+◌, ◌≤◌, Bool, List, [], ◌∷◌, ◌++◌, length, map, replicate}
use Rattle.std.proofs.Common.{Option, Some, ap, sym, subst, refl, ◌∙◌, arith, inl, inr, sum_by}
use Rattle.std.proofs.Math.ListN.{get_or, get_or-append}
use Rattle.std.proofs.Math.Seq.{get_or-append_seam}
use Rattle.std.proofs.lemmas.Bool.{cases_eq, cases_lt}
use Rattle.std.proofs.lemmas.List.{get_or_past, length-append, length-map, map-append}
use Rattle.std.proofs.lemmas.List.Sums.{sum_by-cons, sum_by_push}
use Rattle.std.specs.Prelude.{slice_get}
use Rattle.flt_rules.specs.declared.place.Mode.{Mode}
use Rattle.flt_rules.specs.declared.place.Place.{Place}
use Rattle.flt_tree.specs.Variable.{operation_place}
use Rattle.flt_tree.specs.declared.filter.Filter.{Filter}
use Rattle.flt_tree.specs.declared.filter.Statement.{Statement}
use Rattle.flt_tree.specs.declared.variable.OperationVariable.TheVariants.{Removed}
use Rattle.flt_tree.specs.declared.variable.RemovedVariable.{RemovedVariable}
use Rattle.flt_tree.specs.declared.variable.RemovedVariable.TheVariants.{O0, O1, O2, O3}
use Rattle.flt_tree.specs.Filter.{head_place}
use Rattle.flt_tree.specs.declared.filter.Callback.{Callback}
use Rattle.flt_model.specs.declared.event.Event.{Event}
use Rattle.flt_model.specs.declared.event.Object.{Object}
use Rattle.flt_model.specs.declared.event.Object.TheVariants.{Context, Visit}
use Rattle.flt_model.specs.Moves.{stores, starts}
use Rattle.flt_model.specs.Runs.{Moment}
use Rattle.flt_model.specs.Trace.{gains, loses, settles, frees}
use Rattle.flt_model.specs.Variables.{starting}
use Rattle.flt_model.specs.World.{Store, Actor, actor_at, no_actor, context_at, World}
use Rattle.flt_model.specs.Program.{callbacks_at}
use Rattle.flt_model.specs.Violations.{in_some}
use Rattle.flt_sound.specs.Soundness.{AreAccepted}
use Rattle.flt_sound.proofs.sums.Counts.{counts, gains-append, loses-append, settles-append, frees-append, one_if-same, made}
use Rattle.flt_sound.proofs.sums.Differences.{queued, working, unsettled, elsewhere}
use Rattle.flt_sound.proofs.sums.Ledger.{Ledger, alive, not_freed}
use Rattle.flt_sound.proofs.sums.Owners.{keeps_visit}
use Rattle.flt_sound.proofs.sums.Shadows.{Slot, Unset, Owns, given, own, own_all, no_one, plain, situation, Shadow}
use Rattle.flt_sound.proofs.points.Placed.{Laws, Placed}
use Rattle.flt_sound.proofs.points.Events.{Events}
use Rattle.flt_sound.proofs.points.Growing.{Grows, stood_grows}
use Rattle.flt_sound.proofs.points.Kept.{Kept, Good, keeps_context}
use Rattle.flt_sound.proofs.calls.Removing.{given_value}
use Rattle.flt_sound.proofs.ends.ReturnRules.{own_none}
use Rattle.flt_sound.proofs.moves.Entering.{fresh, plain-fresh, Enters, enters, entered}
use Rattle.flt_sound.proofs.moves.Gifts.{own_given, own_of_given, gifts, gifts-visits, gifts-contexts}
use Rattle.flt_sound.proofs.moves.Gifts.{gifts-loses, gifts-settles, gifts_clean, gifts_events}
use Rattle.flt_sound.proofs.points.Stored.{Stood, Stored, Given}
use Rattle.flt_sound.proofs.sums.Belonging.{IsOf, Belongs}
use Rattle.flt_sound.proofs.sums.Touching.{CleanBy, Touch, clean_from}

-- each place but the added one has what it had
pub get_or-other : {X : Type 0} (xs : List X) (x d : X) (i : ℕ) → i ≢ length xs → get_or (xs ++ x ∷ []) i d ≡ get_or xs i d
get_or-other xs x d i ne =
    elim (cases_lt i (length xs)) [
      | inl h ↦ get_or-append xs (x ∷ []) d i h
      | inr h ↦ get_or_past (xs ++ x ∷ []) i d (omega (arith, length-append xs (x ∷ []))) ∙ sym (get_or_past xs i d h)
    ]

-- of five variables the last alone is set, so it alone owns
own_operations : (v : ℕ) (x : Slot) → own_all v (replicate 4 Unset ++ x ∷ []) ≡ own v x
unfolding own_all
own_operations v x =
    let one = x ∷ [] in
    let two = Unset ∷ one in
    let three = Unset ∷ two in
    let four = Unset ∷ three in
    omega (
      arith,
      sum_by-cons (own v) Unset four,
      sum_by-cons (own v) Unset three,
      sum_by-cons (own v) Unset two,
      sum_by-cons (own v) Unset one,
      sum_by-cons (own v) x [],
    )

-- and so of nine
own_contexts : (y : ℕ) (x : Slot) → own_all y (replicate 8 Unset ++ x ∷ []) ≡ own y x
unfolding own_all
own_contexts y x =
    let five = replicate 4 Unset ++ x ∷ [] in
    let six = Unset ∷ five in
    let seven = Unset ∷ six in
    let eight = Unset ∷ seven in
    omega (
      arith,
      sum_by-cons (own y) Unset eight,
      sum_by-cons (own y) Unset seven,
      sum_by-cons (own y) Unset six,
      sum_by-cons (own y) Unset five,
      own_operations y x,
    )

-- no variables own nothing
no_slots : (v : ℕ) → own_all v [] ≡ 0
no_slots v = own_none v [] (λ i. refl)

-- no variable for operations taken out of the queue is set at the start
removed_unset : (gift : Option ℕ) (o : RemovedVariable) (v : ℕ) →
    get_or (replicate 4 Unset ++ given gift ∷ []) (operation_place (Removed o)) Unset ≡ Owns v → ⊥
removed_unset gift O0 v e = absurd (cc)
removed_unset gift O1 v e = absurd (cc)
removed_unset gift O2 v e = absurd (cc)
removed_unset gift O3 v e = absurd (cc)

module _ (p : List Filter) (m : Moment) (k : Kept p m) where
  -- ---- no activation starts

  -- a store in which visits stand where they stood
  pub record SameVisits (s : Store) : Type 0 where
    pub visits : s.visits ≡ m.world.store.visits
    pub queues : s.queues ≡ m.world.store.queues
    pub items : s.items ≡ m.world.store.items
    pub settled : s.settled ≡ m.world.store.settled

  -- a change of the store is good, by events that gain, lose and settle nothing; `a` is any activation
  pub stores_good : (s : Store) (a : ℕ) (es : List Event) →
      Grows m.world.store.visits m.world.store.arrivals s.visits s.arrivals → Stored p s →
      Events p m a m.trace es → ((b : ℕ) (o : Object) → gains es b o ≡ 0) → ((b : ℕ) (o : Object) → loses es b o ≡ 0) →
      ((v : ℕ) → settles es v ≡ 0) →
      SameVisits s → Ledger a m.world.store s es → CleanBy (Touch (record m.world { store = s }) m.trace) es →
      Good p m (stores m.world s es)
  stores_good s a es g stored e gain loss settle same ledger clean = record {
    had = e.had;
    leak = e.leak;
    legal = e.legal;
    low = e.low;
    disciplined = e.disciplined;
    in_place = e.in_place;
    clean = clean_from (record m.world { store = s }) m.trace m.trace es (λ x. refl) clean;
    kept = record {
      shadows = k.shadows;
      same = k.same;
      long = k.long;
      each = λ b on. stood_grows g p (actor_at m.world b) (get_or k.shadows b no_one) (k.each b on);
      visits = λ b v. simp counts (omega (arith, k.visits b v, gain b (Visit v), loss b (Visit v)));
      contexts = λ b x. simp counts (let h = k.contexts b x in omega (arith, h, gain b (Context x), loss b (Context x)));
      stored = stored;
      owners = rw (same.queues, same.items, same.settled) k.owners;
      once = λ v. rw (same.settled, same.visits) (simp counts (omega (arith, settle v, k.once v)));
      idle = k.idle;
      settled_long = ap length same.settled ∙ (k.settled_long ∙ ap length (sym same.visits));
      seats = ap length same.queues ∙ k.seats;
      count = λ x. omega (arith, k.count x, ledger.refs x, gain a (Context x), loss a (Context x));
      freed = λ x. simp counts (omega (arith, k.freed x, ledger.freed x));
      mine = ledger.mine;
      owns = λ b x h. ledger.older (actor_at m.world b).filter x (k.owns b x h);
    };
  }

  -- ---- an activation starts

  -- the number of the activation that starts
  abbrev pub next_one : ℕ
  next_one = length m.world.activations

  -- a visit that is given leaves its place, or is new
  pub record Begins (s : Store) (gift : Option ℕ) : Type 0 where
    -- what the new activation owns has left queues and items, or is unsettled only now
    pub owners : (v : ℕ) → own v (given gift) + ((queued v s + working v s) + unsettled v m.world.store) ≡
        (queued v m.world.store + working v m.world.store) + unsettled v s
    -- a visit that is there only now is unsettled
    pub once : (v : ℕ) → unsettled v s + made v (length m.world.store.visits) ≡ unsettled v m.world.store + made v (length s.visits)
    -- there is a mark for each visit, and a queue for each filter
    pub long : length s.settled ≡ length s.visits
    pub seats : length s.queues ≡ length p

  -- the store after a start of filter f's callback of a place, with what it is given, keeps its invariants: the gift is what such a
  -- callback is given, and visit and context leave where they stood
  pub record Gives (s : Store) (f : ℕ) (q : Place) (mode : Mode) (gift arg : Option ℕ) : Type 0 where
    pub grows : Grows m.world.store.visits m.world.store.arrivals s.visits s.arrivals
    pub stored : Stored p s
    pub given : Given s.visits s.arrivals f mode q gift
    pub begins : Begins s gift
    pub ledger : Ledger next_one m.world.store s (gifts next_one gift arg)
    pub belongs : Belongs s.contexts f arg

  -- activations and shadows are as many
  next_one_is : next_one ≡ length k.shadows
  next_one_is = rw k.same (length-map k.shadows plain)

  module _ (s : Store) (actor : Actor) (body : List Statement) (gift arg : Option ℕ) (mode : Mode) where
    -- the new activation's shadow
    abbrev new : Shadow
    new = fresh body mode gift arg

    -- its events
    abbrev es : List Event
    es = gifts next_one gift arg

    -- the world afterwards
    abbrev started : World
    started = (starts m.world s actor body gift arg).world

    -- the new actor is at the new number
    new_actor : get_or (m.world.actors ++ actor ∷ []) next_one no_actor ≡ actor
    new_actor =
        subst (λ i. get_or (m.world.actors ++ actor ∷ []) i no_actor ≡ actor) (k.long ∙ sym next_one_is)
        (get_or-append_seam m.world.actors actor [] no_actor)

    -- references are counted: the new activation has that of its context
    counted : Gives s actor.filter actor.place mode gift arg → (y : ℕ) →
        (context_at s y).references ≡ elsewhere y s + sum_by (keeps_context y) (k.shadows ++ new ∷ [])
    counted g y =
        omega (
          arith,
          sum_by_push (keeps_context y) k.shadows new,
          own_contexts y (given arg),
          own_given y arg,
          k.count y,
          g.ledger.refs y,
          gifts-contexts next_one gift arg y,
          gifts-loses next_one gift arg next_one (Context y),
        )

    -- contexts without references are those that were freed
    freed_all : Gives s actor.filter actor.place mode gift arg → (y : ℕ) →
        frees (m.trace ++ es) y + alive (context_at s y).references ≡ made y (length s.contexts)
    freed_all g y = omega (arith, frees-append m.trace es y, k.freed y, g.ledger.freed y)

    -- so the context that it is given wasn't freed, and is its filter's
    touched : Gives s actor.filter actor.place mode gift arg → (y : ℕ) → arg ≡ Some y → Touch started m.trace next_one y
    touched g y e =
        let one : in_some y arg ≡ 1 = ap (in_some y) e ∙ one_if-same y in
        let has : 1 ≤ (context_at s y).references =
        omega (arith, counted g y, sum_by_push (keeps_context y) k.shadows new, own_contexts y (given arg), own_given y arg, one) in
        let free = not_freed (frees (m.trace ++ es) y) (context_at s y).references y (length s.contexts) (freed_all g y) has in
        let own : IsOf s.contexts actor.filter y = subst (λ x. Belongs s.contexts actor.filter x) e g.belongs in
        (omega (arith, free, frees-append m.trace es y), subst (λ (x : Actor). IsOf s.contexts x.filter y) (sym new_actor) own)

    -- it stands at its first statement
    stood : Gives s actor.filter actor.place mode gift arg →
        Placed p actor.filter actor.place body (situation actor.draining new) → Stood s.visits s.arrivals p actor new
    stood g placed = record {
      placed = placed;
      given = rw (given_value gift) g.given;
      removed = λ o v e. absurd (removed_unset gift o v e);
      wide = refl;
      broad = refl;
    }

    -- the start of an activation is good
    pub starts_good : Placed p actor.filter actor.place body (situation actor.draining new) →
        Gives s actor.filter actor.place mode gift arg →
        Good p m (starts m.world s actor body gift arg)
    starts_good placed g =
        let n = length k.shadows in
        let events : Events p m next_one m.trace es = gifts_events next_one gift arg m.trace in
        let past : get_or k.shadows n no_one ≡ no_one = get_or_past k.shadows n no_one (omega arith) in
        let is_new = get_or-append_seam k.shadows new [] no_one in
        let is_actor = get_or-append_seam m.world.actors actor [] no_actor in
        let other = λ (b : ℕ) (ne : b ≢ n). get_or-other k.shadows new no_one b ne in
        let other_actor = λ (b : ℕ) (ne : b ≢ n). get_or-other m.world.actors actor no_actor b (λ e. ne (e ∙ k.long)) in
        let others = λ (b : ℕ) (ne : b ≢ n) (e : next_one ≡ b). ne (sym e ∙ next_one_is) in
        record {
          had = events.had;
          leak = events.leak;
          legal = events.legal;
          low = events.low;
          disciplined = events.disciplined;
          in_place = events.in_place;
          clean = clean_from started m.trace m.trace es (λ x. refl) (gifts_clean next_one (Touch started m.trace) gift arg (touched g));
          kept = record {
            shadows = k.shadows ++ new ∷ [];
            same = ap (λ l. l ++ starting body gift arg ∷ []) k.same
                ∙ (ap (λ x. map plain k.shadows ++ x ∷ []) (plain-fresh body mode gift arg) ∙ sym (map-append plain k.shadows (new ∷ [])));
            long = omega (arith, length-append m.world.actors (actor ∷ []), length-append k.shadows (new ∷ []), k.long);
            each = λ b. elim (cases_eq b n) [
              | inl e ↦ rw (e, is_new, ← k.long, is_actor) (λ on. stood g placed)
              | inr ne ↦ rw (other b ne, other_actor b ne)
                  (λ on. stood_grows g.grows p (actor_at m.world b) (get_or k.shadows b no_one) (k.each b on))
            ];
            visits = λ b v. elim (cases_eq b n) [
              | inl e ↦ rw (e, is_new)
                  (let before = rw past at (k.visits n v) in
                  let gained = subst (λ i. gains es i (Visit v) ≡ in_some v gift) next_one_is (gifts-visits next_one gift arg v) in
                  omega (
                    arith,
                    before,
                    no_slots v,
                    own_operations v (given gift),
                    own_given v gift,
                    gained,
                    gifts-loses next_one gift arg n (Visit v),
                    gains-append m.trace es n (Visit v),
                    loses-append m.trace es n (Visit v),
                  ))
              | inr ne ↦ rw (other b ne)
                  (omega (
                    arith,
                    k.visits b v,
                    events.no_gain b (others b ne) (Visit v),
                    gifts-loses next_one gift arg b (Visit v),
                    gains-append m.trace es b (Visit v),
                    loses-append m.trace es b (Visit v),
                  ))
            ];
            contexts = λ b y. elim (cases_eq b n) [
              | inl e ↦ rw (e, is_new)
                  (let before = rw past at (k.contexts n y) in
                  let gained = subst (λ i. gains es i (Context y) ≡ in_some y arg) next_one_is (gifts-contexts next_one gift arg y) in
                  omega (
                    arith,
                    before,
                    no_slots y,
                    own_contexts y (given arg),
                    own_given y arg,
                    gained,
                    gifts-loses next_one gift arg n (Context y),
                    gains-append m.trace es n (Context y),
                    loses-append m.trace es n (Context y),
                  ))
              | inr ne ↦ rw (other b ne)
                  (let h = k.contexts b y in
                  omega (
                    arith,
                    h,
                    events.no_gain b (others b ne) (Context y),
                    gifts-loses next_one gift arg b (Context y),
                    gains-append m.trace es b (Context y),
                    loses-append m.trace es b (Context y),
                  ))
            ];
            stored = g.stored;
            owners = λ v. omega (
              arith,
              sum_by_push (keeps_visit v) k.shadows new,
              own_operations v (given gift),
              k.owners v,
              g.begins.owners v,
            );
            once = λ v. omega (arith, settles-append m.trace es v, gifts-settles next_one gift arg v, k.once v, g.begins.once v);
            idle = λ b. elim (cases_eq b n) [
              | inl e ↦ rw (e, is_new) (λ on. absurd (cc))
              | inr ne ↦ rw (other b ne) (k.idle b)
            ];
            settled_long = g.begins.long;
            seats = g.begins.seats;
            count = counted g;
            freed = freed_all g;
            mine = g.ledger.mine;
            owns = λ b y. elim (cases_eq b n) [
              | inl e ↦ rw (e, is_new, ← k.long, is_actor)
                  (λ has. own_of_given (λ y. IsOf s.contexts actor.filter y) arg
                  (λ y e. subst (λ x. Belongs s.contexts actor.filter x) e g.belongs) y
                  (omega (arith, has, own_contexts y (given arg))))
              | inr ne ↦ rw (other b ne, other_actor b ne) (λ has. g.ledger.older (actor_at m.world b).filter y (k.owns b y has))
            ];
          };
        }

module _ (laws : Laws) (p : List Filter) (ok : AreAccepted p) (m : Moment) (k : Kept p m) where
  -- the start of an accepted filter's callback is good, on a store that gives what it is entered with
  pub entered_good : (store : Store) (f : ℕ) (q : Place) (draining : Bool) (gift arg : Option ℕ) (mode : Mode) (n : ℕ) (c : Callback) →
      slice_get (callbacks_at p f) n ≡ Some c → q ≡ head_place c.head → Enters q mode draining gift arg →
      Gives p m k store f q mode gift arg →
      Good p m (starts m.world store (record { filter = f; place = q; draining = draining }) c.body gift arg)
  entered_good store f q draining gift arg mode n c there same e gives =
      starts_good p m k store (record { filter = f; place = q; draining = draining }) c.body gift arg mode
      (entered laws p ok f n c there q same (situation draining (fresh c.body mode gift arg))
      (enters q c.body mode draining gift arg e)) gives
