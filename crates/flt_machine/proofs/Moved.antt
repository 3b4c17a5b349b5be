-- A move: what is decided is made, and the board stands after it with an entry more.
use Rattle.std.proofs.Common.{◌≡◌, ◌≢◌, ℕ, ◌+◌, ◌==◌, ◌≤◌, true, List, [], ◌∷◌, ◌++◌, Option, Some}
use Rattle.std.proofs.Common.{None, length, ap, sym, subst, refl, ◌∙◌, inl, inr, arith, append-nil}
use Rattle.std.proofs.Math.ListN.{get_or, get_or-append}
use Rattle.std.proofs.Math.Seq.{get_or-append_seam}
use Rattle.std.proofs.lemmas.Bool.{cases_eq, cases_lt, eq-eqb}
use Rattle.std.proofs.lemmas.List.{length-append, get_or_past}
use Rattle.flt_tree.specs.declared.filter.Filter.{Filter}
use Rattle.flt_model.specs.declared.event.Event.{Event}
use Rattle.flt_model.specs.declared.event.Event.TheVariants as event
use Rattle.flt_model.specs.declared.event.Object.TheVariants.{Visit}
use Rattle.flt_model.specs.declared.moves.JournalEntry.{JournalEntry}
use Rattle.flt_model.specs.declared.moves.Move.{Move}
use Rattle.flt_model.specs.Effects.{Step}
use Rattle.flt_model.specs.Program.{callbacks_at, body_at}
use Rattle.flt_model.specs.Runs.{Moment, after, next}
use Rattle.flt_model.specs.Steps.{Make}
use Rattle.flt_model.specs.Effects.{gains_context}
use Rattle.flt_model.specs.Moves.{gains_visit}
use Rattle.flt_model.specs.Trace.{gains, loses, of_actor, one_if}
use Rattle.flt_model.specs.Variables.{starting}
use Rattle.flt_model.specs.World.{World, Store, Actor, Activation, no_actor, nobody, activation_at, actor_at}
use Rattle.flt_machine_store.specs.Changes.{after_change}
use Rattle.flt_machine_calls.specs.Own.{AreOf}
use Rattle.flt_machine_dispatch.specs.Decisions.{IsDecided, actors_by, activations_by, gains_by, frees_by, events_by}
use Rattle.flt_machine_dispatch.specs.declared.decision.Decision.{Decision}
use Rattle.flt_machine_dispatch.specs.declared.decision.Start.{Start}
use Rattle.flt_machine_frames.specs.declared.standing.Standing.{Standing}
use Rattle.flt_machine.specs.Calls.{Makes}
use Rattle.flt_machine.specs.Situations.{Situation, IsKept, KeptFor, IsAt, standing_of}
use Rattle.flt_machine.specs.Moving.{gained_by, Begins, moved_by}
use Rattle.flt_machine.proofs.Stepped.{gains-append, loses-append, gains_other, loses_other, other_kept}
use Rattle.flt_machine.proofs.Local.{given_there}
use Rattle.flt_machine.proofs.Planned.{filters_stay}

-- ---- events

frees_of : (a : ℕ) (x : Option ℕ) → AreOf a (frees_by x)
frees_of a None = tt
frees_of a (Some x) = (tt, tt)

-- the events of a move are the new activation's own
events_of : (n : ℕ) (start : Option Start) (x : Option ℕ) → AreOf n (gains_by n start ++ frees_by x)
events_of n None x = frees_of n x
events_of n (Some start) x = by start.given start.arg
  where
    by : (given arg : Option ℕ) → AreOf n ((gains_visit n given ++ gains_context n arg) ++ frees_by x)
    by None None = frees_of n x
    by None (Some c) = (refl, frees_of n x)
    by (Some v) None = (refl, frees_of n x)
    by (Some v) (Some c) = (refl, (refl, frees_of n x))

-- none frees what an activation gains
frees_gain : (a v : ℕ) (x : Option ℕ) → (gains (frees_by x) a (Visit v) ≡ 0) × (loses (frees_by x) a (Visit v) ≡ 0)
unfolding gains loses
frees_gain a v None = (refl, refl)
frees_gain a v (Some x) = (refl, refl)

module _ (n v : ℕ) where
  here : (n == n) ≡ true
  here = eq-eqb n n refl

  same_visit : (v == v) ≡ true
  same_visit = eq-eqb v v refl

  one_gain : (arg x : Option ℕ) → gains ((event.Gain n (Visit v) ∷ gains_context n arg) ++ frees_by x) n (Visit v) ≡ 1
  unfolding gains of_actor one_if
  one_gain None None = rw (here, same_visit) refl
  one_gain None (Some x) = rw (here, same_visit) refl
  one_gain (Some c) None = rw (here, same_visit) refl
  one_gain (Some c) (Some x) = rw (here, same_visit) refl

  one_lose : (u : ℕ) (arg x : Option ℕ) → loses ((event.Gain n (Visit u) ∷ gains_context n arg) ++ frees_by x) n (Visit v) ≡ 0
  unfolding loses
  one_lose u None None = refl
  one_lose u None (Some x) = refl
  one_lose u (Some c) None = refl
  one_lose u (Some c) (Some x) = refl

-- the new activation gains the visit that it is given once, and loses nothing
start_counts : (n v : ℕ) (given arg x : Option ℕ) → given ≡ Some v →
    (gains ((gains_visit n given ++ gains_context n arg) ++ frees_by x) n (Visit v) ≡ gained_by given)
    × (loses ((gains_visit n given ++ gains_context n arg) ++ frees_by x) n (Visit v) ≡ 0)
start_counts n v None arg x is = absurd (cc)
start_counts n v (Some u) arg x is =
    let same : v ≡ u = cc in (
      subst (λ (w : ℕ). gains ((event.Gain n (Visit w) ∷ gains_context n arg) ++ frees_by x) n (Visit v) ≡ 1) same (one_gain n v arg x),
      one_lose n v u arg x,
    )

-- ---- lists that grow at the end

module _ {A : Type 0} (xs ys : List A) (d : A) where
  -- what was there stays
  grown_other : (k : ℕ) → (length ys ≡ 1) → k ≢ length xs → get_or (xs ++ ys) k d ≡ get_or xs k d
  grown_other k one differs = elim (cases_lt k (length xs)) [
    | inl less ↦ get_or-append xs ys d k less
    | inr more ↦
        get_or_past (xs ++ ys) k d (subst (λ (n : ℕ). n ≤ k) (sym (length-append xs ys)) (omega (arith, one, more, differs))) ∙
        sym (get_or_past xs k d more)
  ]

-- ---- the move

module _ (p : List Filter) (b : Situation) (m : Moment) (d : Decision) (step : Step) (at : IsAt p b m)
    (is : IsDecided p m.world d step) where
  nobody_starts : (entries : List JournalEntry) → d.start ≡ None → IsAt p (moved_by b d None entries) (after m step)
  nobody_starts entries none = record {
    actors = actors;
    count = count;
    both = both;
    filters = ap (λ (w : World). length w.store.presences) is.world ∙ filters_stay m.world.store d.change ∙ at.filters;
    kept = kept;
    store = ap (λ (s : Store). after_change s d.change) at.store ∙ sym (ap (λ (w : World). w.store) is.world);
    young = young;
  }
    where
      actors_same : step.world.actors ≡ m.world.actors
      actors_same = ap (λ (w : World). w.actors) is.world ∙ ap (λ (o : Option Start). m.world.actors ++ actors_by o) none ∙
          append-nil m.world.actors

      acts_same : step.world.activations ≡ m.world.activations
      acts_same = ap (λ (w : World). w.activations) is.world ∙ ap (λ (o : Option Start). m.world.activations ++ activations_by p o) none ∙
          append-nil m.world.activations

      events_are : step.events ≡ frees_by d.freed
      events_are = is.events ∙ ap (λ (o : Option Start). gains_by (length m.world.activations) o ++ frees_by d.freed) none

      standings_same : b.standings ++ [] ≡ b.standings
      standings_same = append-nil b.standings

      actors : b.actors ++ actors_by d.start ≡ step.world.actors
      actors = ap (λ (o : Option Start). b.actors ++ actors_by o) none ∙ append-nil b.actors ∙ at.actors ∙ sym actors_same

      count : length (b.standings ++ []) ≡ length step.world.activations
      count = ap (λ (l : List (Option Standing)). length l) standings_same ∙ at.count ∙
          ap (λ (l : List Activation). length l) (sym acts_same)

      both : length step.world.actors ≡ length step.world.activations
      both = ap (λ (l : List Actor). length l) actors_same ∙ at.both ∙ ap (λ (l : List Activation). length l) (sym acts_same)

      quiet : (k v : ℕ) → (gains step.events k (Visit v) ≡ 0) × (loses step.events k (Visit v) ≡ 0)
      quiet k v = subst (λ (es : List Event). (gains es k (Visit v) ≡ 0) × (loses es k (Visit v) ≡ 0)) (sym events_are)
          (frees_gain k v d.freed)

      young : (k v : ℕ) → length step.world.activations ≤ k → (gains (m.trace ++ step.events) k (Visit v) ≡ 0) ×
          (loses (m.trace ++ step.events) k (Visit v) ≡ 0)
      young k v past =
          let before = at.young k v (subst (λ (l : List Activation). length l ≤ k) acts_same past) in (
            omega (arith, before.0, gains-append m.trace step.events k (Visit v), (quiet k v).0),
            omega (arith, before.1, loses-append m.trace step.events k (Visit v), (quiet k v).1),
          )

      on : (k : ℕ) (act : Activation) (s : Option Standing) (f : ℕ) →
          KeptFor (callbacks_at p f) m.trace k act s → KeptFor (callbacks_at p f) (m.trace ++ step.events) k act s
      on k act None f it = it
      on k act (Some s) f it = record {
        stands = it.stands;
        counted = record {
          gained = λ v given. omega (arith, it.counted.gained v given, gains-append m.trace step.events k (Visit v), (quiet k v).0);
          lost = λ v given. omega (arith, it.counted.lost v given, loses-append m.trace step.events k (Visit v), (quiet k v).1);
        };
      }

      kept : (k : ℕ) → KeptFor (callbacks_at p (get_or step.world.actors k no_actor).filter) (m.trace ++ step.events) k
          (get_or step.world.activations k nobody) (get_or (b.standings ++ []) k None)
      kept k =
          subst (λ (l : List Actor). KeptFor (callbacks_at p (get_or l k no_actor).filter) (m.trace ++ step.events) k
          (get_or step.world.activations k nobody) (get_or (b.standings ++ []) k None)) (sym actors_same)
          (subst (λ (l : List Activation). KeptFor (callbacks_at p (get_or m.world.actors k no_actor).filter) (m.trace ++ step.events) k
          (get_or l k nobody) (get_or (b.standings ++ []) k None)) (sym acts_same)
          (subst (λ (l : List (Option Standing)). KeptFor (callbacks_at p (get_or m.world.actors k no_actor).filter)
          (m.trace ++ step.events) k (get_or m.world.activations k nobody) (get_or l k None)) (sym standings_same)
          (on k (activation_at m.world k) (standing_of b k) (actor_at m.world k).filter (at.kept k))))

  one_starts : (start : Start) (s : Standing) (entries : List JournalEntry) →
      d.start ≡ Some start → Begins p (Some start) (Some s) → IsAt p (moved_by b d (Some s) entries) (after m step)
  one_starts start s entries some (stands, (gained, lost)) = record {
    actors = ap (λ (l : List Actor). l ++ actors_by d.start) at.actors ∙ sym (ap (λ (w : World). w.actors) is.world);
    count = length-append b.standings (Some s ∷ []) ∙ ap (λ (n : ℕ). n + 1) at.count ∙ sym (length-append m.world.activations (new ∷ [])) ∙
        ap (λ (l : List Activation). length l) (sym acts_are);
    both = ap (λ (l : List Actor). length l) actors_are ∙ length-append m.world.actors (actor ∷ []) ∙ ap (λ (n : ℕ). n + 1) at.both ∙
        sym (length-append m.world.activations (new ∷ [])) ∙ ap (λ (l : List Activation). length l) (sym acts_are);
    filters = ap (λ (w : World). length w.store.presences) is.world ∙ filters_stay m.world.store d.change ∙ at.filters;
    kept = kept;
    store = ap (λ (s : Store). after_change s d.change) at.store ∙ sym (ap (λ (w : World). w.store) is.world);
    young = young;
  }
    where
      n : ℕ
      n = length m.world.activations

      new : Activation
      new = starting (body_at (callbacks_at p start.filter) start.callback) start.given start.arg

      actor : Actor
      actor = record { filter = start.filter; place = start.place; draining = start.draining }

      actors_are : step.world.actors ≡ m.world.actors ++ actor ∷ []
      actors_are = ap (λ (w : World). w.actors) is.world ∙ ap (λ (o : Option Start). m.world.actors ++ actors_by o) some

      acts_are : step.world.activations ≡ m.world.activations ++ new ∷ []
      acts_are = ap (λ (w : World). w.activations) is.world ∙ ap (λ (o : Option Start). m.world.activations ++ activations_by p o) some

      events_are : step.events ≡ (gains_visit n start.given ++ gains_context n start.arg) ++ frees_by d.freed
      events_are = is.events ∙ ap (λ (o : Option Start). gains_by (length m.world.activations) o ++ frees_by d.freed) some

      own : AreOf n step.events
      own = subst (AreOf n) (sym (is.events)) (events_of n d.start d.freed)

      young : (k v : ℕ) → length step.world.activations ≤ k → (gains (m.trace ++ step.events) k (Visit v) ≡ 0) ×
          (loses (m.trace ++ step.events) k (Visit v) ≡ 0)
      young k v past =
          let longer : length step.world.activations ≡ n + 1 =
          ap (λ (l : List Activation). length l) acts_are ∙ length-append m.world.activations (new ∷ []) in
          let apart : k ≢ n = λ same. absurd (omega (arith, past, longer, same)) in
          let before = at.young k v (omega (arith, past, longer)) in (
            omega (arith, before.0, gains-append m.trace step.events k (Visit v), gains_other n k (Visit v) step.events apart own),
            omega (arith, before.1, loses-append m.trace step.events k (Visit v), loses_other n k (Visit v) step.events apart own),
          )

      actor_there : get_or (m.world.actors ++ actor ∷ []) n no_actor ≡ actor
      actor_there = subst (λ (j : ℕ). get_or (m.world.actors ++ actor ∷ []) j no_actor ≡ actor) at.both
          (get_or-append_seam m.world.actors actor [] no_actor)

      standing_there : get_or (b.standings ++ Some s ∷ []) n None ≡ Some s
      standing_there = subst (λ (j : ℕ). get_or (b.standings ++ Some s ∷ []) j None ≡ Some s) at.count
          (get_or-append_seam b.standings (Some s) [] None)

      begun : IsKept (callbacks_at p start.filter) (m.trace ++ step.events) n new s
      begun = record {
        stands = stands;
        counted = record {
          gained = λ v given.
              let it : start.given ≡ Some v = sym (given_there s new stands.same) ∙ given in
              let counts = start_counts n v start.given start.arg d.freed it in
              let none = at.young n v (omega arith) in
              let told = ap (λ (es : List Event). gains es n (Visit v)) events_are in
              omega (arith, gained, counts.0, none.0, told, gains-append m.trace step.events n (Visit v));
          lost = λ v given.
              let it : start.given ≡ Some v = sym (given_there s new stands.same) ∙ given in
              let counts = start_counts n v start.given start.arg d.freed it in
              let none = at.young n v (omega arith) in
              let told = ap (λ (es : List Event). loses es n (Visit v)) events_are in
              omega (arith, lost, counts.1, none.1, told, loses-append m.trace step.events n (Visit v));
        };
      }

      Kept : ℕ → List Actor → List Activation → List (Option Standing) → Type 0
      Kept k actors acts standings = KeptFor (callbacks_at p (get_or actors k no_actor).filter) (m.trace ++ step.events) k
          (get_or acts k nobody) (get_or standings k None)

      fresh : KeptFor (callbacks_at p (get_or (m.world.actors ++ actor ∷ []) n no_actor).filter) (m.trace ++ step.events) n
          (get_or (m.world.activations ++ new ∷ []) n nobody) (get_or (b.standings ++ Some s ∷ []) n None)
      fresh =
          subst (λ (x : Actor). KeptFor (callbacks_at p x.filter) (m.trace ++ step.events) n
          (get_or (m.world.activations ++ new ∷ []) n nobody) (get_or (b.standings ++ Some s ∷ []) n None)) (sym actor_there)
          (subst (λ (x : Activation). KeptFor (callbacks_at p start.filter) (m.trace ++ step.events) n x
          (get_or (b.standings ++ Some s ∷ []) n None)) (sym (get_or-append_seam m.world.activations new [] nobody))
          (subst (KeptFor (callbacks_at p start.filter) (m.trace ++ step.events) n new) (sym standing_there) begun))

      others : (k : ℕ) → k ≢ n → KeptFor (callbacks_at p (get_or (m.world.actors ++ actor ∷ []) k no_actor).filter)
          (m.trace ++ step.events) k (get_or (m.world.activations ++ new ∷ []) k nobody) (get_or (b.standings ++ Some s ∷ []) k None)
      others k differs =
          subst (λ (x : Actor). KeptFor (callbacks_at p x.filter) (m.trace ++ step.events) k
          (get_or (m.world.activations ++ new ∷ []) k nobody) (get_or (b.standings ++ Some s ∷ []) k None))
          (sym (grown_other m.world.actors (actor ∷ []) no_actor k refl (λ it. differs (it ∙ at.both))))
          (subst (λ (x : Activation). KeptFor (callbacks_at p (actor_at m.world k).filter) (m.trace ++ step.events) k x
          (get_or (b.standings ++ Some s ∷ []) k None)) (sym (grown_other m.world.activations (new ∷ []) nobody k refl differs))
          (subst (KeptFor (callbacks_at p (actor_at m.world k).filter) (m.trace ++ step.events) k (activation_at m.world k))
          (sym (grown_other b.standings (Some s ∷ []) None k refl (λ it. differs (it ∙ at.count))))
          (other_kept (callbacks_at p (actor_at m.world k).filter) m.trace step.events n k (activation_at m.world k)
          (standing_of b k) differs own (at.kept k))))

      kept : (k : ℕ) → KeptFor (callbacks_at p (get_or step.world.actors k no_actor).filter) (m.trace ++ step.events) k
          (get_or step.world.activations k nobody) (get_or (b.standings ++ Some s ∷ []) k None)
      kept k =
          subst (λ (l : List Actor). KeptFor (callbacks_at p (get_or l k no_actor).filter) (m.trace ++ step.events) k
          (get_or step.world.activations k nobody) (get_or (b.standings ++ Some s ∷ []) k None)) (sym actors_are)
          (subst (λ (l : List Activation). KeptFor (callbacks_at p (get_or (m.world.actors ++ actor ∷ []) k no_actor).filter)
          (m.trace ++ step.events) k (get_or l k nobody) (get_or (b.standings ++ Some s ∷ []) k None)) (sym acts_are)
          (elim (cases_eq k n) [
            | inl same ↦ subst (λ (j : ℕ). KeptFor (callbacks_at p (get_or (m.world.actors ++ actor ∷ []) j no_actor).filter)
                (m.trace ++ step.events) j (get_or (m.world.activations ++ new ∷ []) j nobody) (get_or (b.standings ++ Some s ∷ []) j None))
                (sym same) fresh
            | inr differs ↦ others k differs
          ]))

  -- the board after a move stands after its step
  pub stands_after : (s : Option Standing) (entries : List JournalEntry) →
      Begins p d.start s → IsAt p (moved_by b d s entries) (after m step)
  stands_after s entries begins = by d.start s refl begins
    where
      by : (o : Option Start) (s : Option Standing) → d.start ≡ o → Begins p o s → IsAt p (moved_by b d s entries) (after m step)
      by None None same begins = nobody_starts entries same
      by None (Some s) same begins = absurd begins
      by (Some start) None same begins = absurd begins
      by (Some start) (Some s) same begins = one_starts start s entries same begins

  -- the move is made
  pub makes : (move : Move) (s : Option Standing) (entries : List JournalEntry) → next p m (Make move) ≡ Some step → Begins p d.start s →
      Makes p (moved_by b d s entries) [] (Make move) (events_by m.world d) m
  makes move s entries made begins =
      record { middle = m; step = step; reached = refl; made = made; told = sym is.events; at = stands_after s entries begins }
