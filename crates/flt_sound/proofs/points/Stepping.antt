-- A step of an activation is good: from its events, from where the activation then stands, and from the two equations of what it gains and
-- loses, `row_good` makes all of `Good`. The other lemmas give its premises where a part of the machine stays as it was.
-- Here at says that an activation a with shadow s runs at a moment m; new is the shadow after, store the store after, es the events.
use Rattle.std.proofs.Common.{◌≡◌, ℕ, ◌+◌, ◌≤◌, Bool, true, false, List, ◌++◌, length, map, None, ap, sym, refl, ◌∙◌}
use Rattle.std.specs.Prelude.{if◌then◌else◌}
use Rattle.std.proofs.Math.ListN.{set, get_or, get_or-map}
use Rattle.flt_tree.specs.Variable.{operation_place}
use Rattle.flt_tree.specs.declared.filter.Filter.{Filter}
use Rattle.flt_tree.specs.declared.variable.OperationVariable.TheVariants.{Removed, Data}
use Rattle.flt_model.specs.declared.event.Event.{Event}
use Rattle.flt_model.specs.Effects.{Step}
use Rattle.flt_model.specs.Runs.{Moment}
use Rattle.flt_model.specs.Trace.{gains, loses, settles, frees}
use Rattle.flt_model.specs.declared.event.Object.TheVariants.{Context, Visit}
use Rattle.flt_model.specs.World.{Store, Activation, context_at, actor_at}
use Rattle.flt_sound.proofs.sums.Belonging.{IsOf, Older}
use Rattle.flt_sound.proofs.sums.Counts.{Has}
use Rattle.flt_sound.proofs.sums.Ledger.{still, Ledger, not_freed}
use Rattle.flt_sound.proofs.sums.Shadows.{Unset, Owns, value_of, own_all, Shadow, plain, situation, operation_slot}
use Rattle.flt_sound.proofs.sums.Touching.{CleanBy, clean_from, gained_of}
use Rattle.flt_sound.proofs.sums.Turns.{Turned, calm_turned}
use Rattle.flt_sound.proofs.points.Events.{Events}
use Rattle.flt_sound.proofs.points.Kept.{Good, StoreChange, IsAt, IsIdle, kept_after, refs_of, held_one, StoodAt}
use Rattle.flt_sound.proofs.points.Rows.{draining_of, PlacedAt, was}

module _ {p : List Filter} {m : Moment} {a : ℕ} {s : Shadow} (at : IsAt p m a s) where
  -- ---- what may be touched

  -- what may be touched in a step: a context that wasn't freed, and is the activation's filter's own
  abbrev pub Touched : Store → ℕ → ℕ → Type 0
  Touched store b x = (frees m.trace x ≡ 0) × IsOf store.contexts (actor_at m.world b).filter x

  -- a context that it has has a reference
  pub held_refs : (x : ℕ) → Has m.trace a (Context x) → 1 ≤ (context_at m.world.store x).references
  held_refs x h = refs_of at.kept a x (held_one at.kept a x h)

  -- a context that has a reference wasn't freed
  pub alive_fresh : (x : ℕ) → 1 ≤ (context_at m.world.store x).references → frees m.trace x ≡ 0
  alive_fresh x h = not_freed (frees m.trace x) (context_at m.world.store x).references x (length m.world.store.contexts)
      (at.kept.freed x) h

  -- a context that it has may be touched
  pub held_touch : (store : Store) → Older m.world.store.contexts store.contexts → (x : ℕ) → Has m.trace a (Context x) → Touched store a x
  held_touch store older x h = (
    alive_fresh x (held_refs x h),
    older (actor_at m.world a).filter x (at.kept.owns a x (held_one at.kept a x h)),
  )

  -- events that gain as they lose and free nothing, in a store that is the same
  pub quiet_ledger : (es : List Event) → ((x : ℕ) → gains es a (Context x) ≡ loses es a (Context x)) → ((x : ℕ) → frees es x ≡ 0) →
      Ledger a m.world.store m.world.store es
  quiet_ledger es h f = still a m.world.store m.world.store es at.kept.mine refl refl refl refl h f

  -- ---- the store stays

  -- a store in which all that `Stored` looks at is the same
  pub same_parts : (store : Store) → store.visits ≡ m.world.store.visits → store.arrivals ≡ m.world.store.arrivals →
      store.queues ≡ m.world.store.queues →
      store.items ≡ m.world.store.items → store.routes ≡ m.world.store.routes → StoreChange p m.world.store store
  same_parts store v r q i o = record {
    visits = v;
    arrivals = r;
    stored = (let k = at.kept.stored in record {
      entries = rw (v, r, q) k.entries;
      items = rw (v, r, i) k.items;
      frames = rw (r, o) k.frames;
      modes = rw r k.modes;
      paths = ap length o ∙ (k.paths ∙ ap length (sym r));
      before = rw (v, r) k.before;
    });
  }

  -- a store in which what the second part looks at is the same too
  pub record CalmStore (store : Store) : Type 0 where
    pub change : StoreChange p m.world.store store
    pub queues : store.queues ≡ m.world.store.queues
    pub items : store.items ≡ m.world.store.items
    pub settled : store.settled ≡ m.world.store.settled

  -- such a store, by its parts
  pub same_calm : (store : Store) → store.visits ≡ m.world.store.visits → store.arrivals ≡ m.world.store.arrivals →
      store.queues ≡ m.world.store.queues →
      store.items ≡ m.world.store.items → store.routes ≡ m.world.store.routes → store.settled ≡ m.world.store.settled → CalmStore store
  same_calm store v r q i o t = record { change = same_parts store v r q i o; queues = q; items = i; settled = t }

  -- events that gain as they lose and settle nothing, in such a store
  pub calm_of : {store : Store} → CalmStore store → (es : List Event) → ((v : ℕ) → gains es a (Visit v) ≡ loses es a (Visit v)) →
      ((v : ℕ) → settles es v ≡ 0) →
      Turned a m.world.store store es
  calm_of {store} c es h g = calm_turned a m.world.store store es c.queues c.items c.settled h g

  -- ---- the activation goes on

  -- an activation that goes on hasn't ended: it owes nothing
  pub running : (new : Shadow) → new.ended ≡ s.ended → new.ended ≡ true → IsIdle new
  running new same e = let no : true ≡ false = sym e ∙ (same ∙ at.on) in absurd (cc)

  -- where only contexts change it stands as it stood
  pub stood_contexts : (new : Shadow) → new.operations ≡ s.operations → new.mode ≡ s.mode → length new.contexts ≡ length s.contexts →
      PlacedAt at new.rest (situation (draining_of at) new) →
      new.ended ≡ false → StoodAt p m a new
  stood_contexts new o d w placed on = record {
    placed = placed;
    given = rw (o, d) (was at).given;
    removed = rw o (was at).removed;
    wide = w ∙ (was at).wide;
    broad = ap length o ∙ (was at).broad;
  }

  -- it stands where its operation variables name what they named, and own no more
  pub stood_after : (new : Shadow) → map value_of new.operations ≡ map value_of s.operations →
      ((i v : ℕ) → get_or new.operations i Unset ≡ Owns v → get_or s.operations i Unset ≡ Owns v) →
      new.mode ≡ s.mode → length new.contexts ≡ length s.contexts → length new.operations ≡ length s.operations →
      PlacedAt at new.rest (situation (draining_of at) new) →
      new.ended ≡ false → StoodAt p m a new
  stood_after new values owned d w b placed on =
      let same : value_of (operation_slot new Data) ≡ value_of (operation_slot s Data) =
      sym (get_or-map value_of new.operations 4 Unset) ∙ (ap (λ l. get_or l 4 None) values ∙ get_or-map value_of s.operations 4 Unset) in
      record {
        placed = placed;
        given = rw (same, d) (was at).given;
        removed = λ o v e. (was at).removed o v (owned (operation_place (Removed o)) v e);
        wide = w ∙ (was at).wide;
        broad = b ∙ (was at).broad;
      }

  -- ---- the step

  -- a step of the activation is good
  pub row_good : (new : Shadow) (store : Store) (es : List Event) (act : Activation) → act ≡ plain new → Events p m a m.trace es →
      (new.ended ≡ false → StoodAt p m a new) → StoreChange p m.world.store store →
      ((v : ℕ) → gains es a (Visit v) + own_all v s.operations ≡ loses es a (Visit v) + own_all v new.operations) →
      ((x : ℕ) → gains es a (Context x) + own_all x s.contexts ≡ loses es a (Context x) + own_all x new.contexts) →
      Turned a m.world.store store es → (new.ended ≡ true → IsIdle new) → Ledger a m.world.store store es →
      CleanBy (Touched store) es →
      Good p m (record { world = record m.world { activations = set m.world.activations a act; store = store }; events = es })
  row_good new store es act e events stood c visits contexts turned idle ledger clean =
      record {
        had = events.had;
        leak = events.leak;
        legal = events.legal;
        low = events.low;
        disciplined = events.disciplined;
        in_place = events.in_place;
        clean = clean_from (record m.world { activations = set m.world.activations a act; store = store }) m.trace m.trace es
            (λ x. refl) clean;
        kept = kept_after p m a s new store es act at (record {
          stood = stood;
          store = c;
          change = record { visits = visits; contexts = contexts; no_gain = events.no_gain; no_loss = events.no_loss };
          plain_is = e;
          turned = turned;
          idle = idle;
          ledger = ledger;
          gained = λ x g. (gained_of (Touched store) a x es clean g).1;
        });
      }

  -- so is one of two, whichever it is
  pub if_good : (pre : List Event) (b : Bool) (x y : Step) → Good p m (record { world = x.world; events = pre ++ x.events }) →
      Good p m (record { world = y.world; events = pre ++ y.events }) →
      Good p m (record { world = (if b then x else y).world; events = pre ++ (if b then x else y).events })
  if_good pre true x y f g = f
  if_good pre false x y f g = g
