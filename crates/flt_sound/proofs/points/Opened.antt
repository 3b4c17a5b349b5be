-- What stands before a call's effect: the Call itself and the uses of what it names (`Opened`). These events neither gain nor lose, so the
-- effect may be shown as if it stood alone. With it `given_good`, the step of all calls that give something to an output, or NULL.
-- Here at says that an activation a with shadow s runs at a moment m; pre are such events, es those of the effect, k is a call,
-- o an object.
use Rattle.std.proofs.Common.{append_assoc, ◌≡◌, ℕ, ◌+◌, true, false, List, [], ◌∷◌, ◌++◌, Option, Some, None, ap, subst, refl, ◌∙◌, arith}
use Rattle.std.proofs.Math.ListN.{set}
use Rattle.std.proofs.lemmas.List.{length-set}
use Rattle.flt_rules.specs.declared.call.Call.{Call}
use Rattle.flt_tree.specs.Variable.{context_place}
use Rattle.flt_tree.specs.declared.filter.Filter.{Filter}
use Rattle.flt_tree.specs.declared.filter.Statement.{Statement}
use Rattle.flt_tree.specs.declared.variable.ContextVariable.{ContextVariable}
use Rattle.flt_abs.specs.Outcome.{put_context as put}
use Rattle.flt_model.specs.declared.event.Event.{Event}
use Rattle.flt_model.specs.declared.event.Event.TheVariants as event
use Rattle.flt_model.specs.declared.event.Object.{Object}
use Rattle.flt_model.specs.Statuses.{may_pend}
use Rattle.flt_model.specs.Effects.{onward}
use Rattle.flt_model.specs.Runs.{Moment}
use Rattle.flt_model.specs.Trace.{gains, loses, settles, frees, lose}
use Rattle.flt_model.specs.declared.event.Object.TheVariants.{Context, Visit}
use Rattle.flt_model.specs.Variables.{with_old}
use Rattle.flt_model.specs.World.{Store}
use Rattle.flt_sound.proofs.sums.Belonging.{Older}
use Rattle.flt_sound.proofs.sums.Counts.{counts, Has, has_after}
use Rattle.flt_sound.proofs.sums.Ledger.{Ledger, ledger_behind}
use Rattle.flt_sound.proofs.sums.Shadows.{Slot, value_of, status_of, own_all, Shadow, with_rest, put_context, put_old, plain-put_old}
use Rattle.flt_sound.proofs.sums.Touching.{CleanBy, use_clean}
use Rattle.flt_sound.proofs.sums.Turns.{Turned, turned_behind}
use Rattle.flt_sound.proofs.points.Events.{Events, uses, called as event_called}
use Rattle.flt_sound.proofs.points.Kept.{Good, StoreChange, IsAt, StoodAt}
use Rattle.flt_sound.proofs.points.Legal.{Cleared}
use Rattle.flt_sound.proofs.points.Rows.{situation-put_context, draining_of, before, PlacedAt, onward_is}
use Rattle.flt_sound.proofs.points.Stepping.{Touched, held_touch, running, stood_contexts, row_good}

module _ {p : List Filter} {m : Moment} {a : ℕ} {s : Shadow} (at : IsAt p m a s) where
  -- after a trace the activation has still what it had
  abbrev pub Keeps : List Event → Type 0
  Keeps t = (o : Object) → Has m.trace a o → Has t a o

  -- so it has after an event that loses nothing
  pub keeps_on : (t : List Event) (e : Event) → ((o : Object) → lose a o e ≡ 0) → Keeps t → Keeps (t ++ e ∷ [])
  keeps_on t e n k o h = has_after t e a o (n o) (k o h)

  -- events that neither gain nor lose, settle nor free, and use what the activation has
  pub record Opened (pre : List Event) : Type 0 where
    -- with the effect's events behind them they break nothing, where those break nothing after them
    pub events : (es : List Event) → ((t : List Event) → Keeps t → Events p m a t es) → Events p m a m.trace (pre ++ es)
    -- they count nothing
    pub gains_none : (b : ℕ) (o : Object) → gains pre b o ≡ 0
    pub loses_none : (b : ℕ) (o : Object) → loses pre b o ≡ 0
    pub settles_none : (v : ℕ) → settles pre v ≡ 0
    pub frees_none : (x : ℕ) → frees pre x ≡ 0
    -- what they touch may be touched
    pub clean : (store : Store) → Older m.world.store.contexts store.contexts → (es : List Event) → CleanBy (Touched at store) es →
        CleanBy (Touched at store) (pre ++ es)

  -- ---- the calls that use up to two objects

  -- a call that uses nothing
  pub opened_call : (k : Call) → Cleared p m a k → may_pend p m.world m.trace a k ≡ true → Opened (event.Call a k ∷ [])
  opened_call k c h = record {
    events = λ es f. event_called k c h (f (m.trace ++ event.Call a k ∷ []) (keeps_on m.trace (event.Call a k) (λ o. refl) (λ o h. h)));
    gains_none = λ b o. simp counts;
    loses_none = λ b o. simp counts;
    settles_none = λ v. simp counts;
    frees_none = λ x. simp counts;
    clean = λ store older es c. c;
  }

  -- one use more, of what the activation has
  then_use : (pre : List Event) (o : Object) → Opened pre → Has m.trace a o → Opened (pre ++ event.Use a o ∷ [])
  then_use pre o k has = record {
    events = λ es f. rw append_assoc
        (k.events (event.Use a o ∷ es) (λ t keeps. uses (keeps o has)
        (f (t ++ event.Use a o ∷ []) (keeps_on t (event.Use a o) (λ q. refl) keeps))));
    gains_none = λ b q. simp counts (omega (arith, k.gains_none b q));
    loses_none = λ b q. simp counts (omega (arith, k.loses_none b q));
    settles_none = λ v. simp counts (omega (arith, k.settles_none v));
    frees_none = λ x. simp counts (omega (arith, k.frees_none x));
    clean = λ store older es c. rw append_assoc
        (k.clean store older (event.Use a o ∷ es)
        (use_clean (Touched at store) a o es (λ x e. held_touch at store older x (subst (λ o. Has m.trace a o) e has)) c));
  }

  -- a call that uses one object
  pub opened_use : (k : Call) (o : Object) → Cleared p m a k → may_pend p m.world m.trace a k ≡ true → Has m.trace a o →
      Opened (event.Call a k ∷ event.Use a o ∷ [])
  opened_use k o c h has = then_use (event.Call a k ∷ []) o (opened_call k c h) has

  -- a call that uses two
  pub opened_uses : (k : Call) (o q : Object) → Cleared p m a k → may_pend p m.world m.trace a k ≡ true → Has m.trace a o →
      Has m.trace a q →
      Opened (event.Call a k ∷ event.Use a o ∷ event.Use a q ∷ [])
  opened_uses k o q c h first second = then_use (event.Call a k ∷ event.Use a o ∷ []) q (opened_use k o c h first) second

  -- ---- an effect behind them

  -- the second part's equations, behind such events
  pub behind : (pre es : List Event) (store : Store) → Opened pre → Turned a m.world.store store es →
      Turned a m.world.store store (pre ++ es)
  behind pre es store o t = turned_behind a m.world.store store pre es (λ v. o.gains_none a (Visit v))
      (λ v. o.loses_none a (Visit v)) o.settles_none t

  -- the third part's ledger, behind such events
  pub ledger_after : (pre es : List Event) (store : Store) → Opened pre → Ledger a m.world.store store es →
      Ledger a m.world.store store (pre ++ es)
  ledger_after pre es store o l = ledger_behind a m.world.store store pre es (λ x. o.gains_none a (Context x))
      (λ x. o.loses_none a (Context x)) o.frees_none l

  -- what is touched may be touched, behind such events
  pub clean_after : (pre es : List Event) (store : Store) → Opened pre → Ledger a m.world.store store es → CleanBy (Touched at store) es →
      CleanBy (Touched at store) (pre ++ es)
  clean_after pre es store o l c = o.clean store l.older es c

  -- ---- a call that gives

  -- a step that gives something to an output, or nothing, where one is wanted, is good
  pub given_good : (pre es : List Event) (old : Option ContextVariable) (x : Slot) (list : List Statement) (store : Store) → Opened pre →
      ((t : List Event) → Events p m a t es) →
      StoreChange p m.world.store store → Turned a m.world.store store es → Ledger a m.world.store store es →
      CleanBy (Touched at store) es →
      ((o : Object) → loses es a o ≡ 0) → ((v : ℕ) → gains es a (Visit v) ≡ 0) →
      ((y : ℕ) → own_all y (put_old s old x).contexts ≡ gains es a (Context y) + own_all y s.contexts) →
      PlacedAt at list (put old (Some (status_of x)) (before at)) →
      Good p m (record {
        world = record m.world {
          activations = set m.world.activations a (with_old (onward m.world a list) old (value_of x));
          store = store;
        };
        events = pre ++ es;
      })
  given_good pre es old x list store o f c turned ledger clean loss gain owns placed =
      row_good at (put_old (with_rest s list) old x) store (pre ++ es) (with_old (onward m.world a list) old (value_of x))
      (ap (λ act. with_old act old (value_of x)) (onward_is at list) ∙ plain-put_old (with_rest s list) old x)
      (o.events es (λ t k. f t)) (stood old placed) c
      (λ v. simp counts (rw (operations old) (omega (arith, o.gains_none a (Visit v), o.loses_none a (Visit v), loss (Visit v), gain v))))
      (λ y. simp counts (let h = owns y in
      rw (contexts old) (omega (arith, o.gains_none a (Context y), o.loses_none a (Context y), loss (Context y), h))))
      (behind pre es store o turned) (running at (put_old (with_rest s list) old x) (going old)) (ledger_after pre es store o ledger)
      (clean_after pre es store o ledger clean)
    where
      going : (old : Option ContextVariable) → (put_old (with_rest s list) old x).ended ≡ s.ended
      going None = refl
      going (Some d) = refl

      operations : (old : Option ContextVariable) → (put_old (with_rest s list) old x).operations ≡ s.operations
      operations None = refl
      operations (Some d) = refl

      contexts : (old : Option ContextVariable) → (put_old (with_rest s list) old x).contexts ≡ (put_old s old x).contexts
      contexts None = refl
      contexts (Some d) = refl

      stood : (old : Option ContextVariable) → PlacedAt at list (put old (Some (status_of x)) (before at)) →
          (put_old (with_rest s list) old x).ended ≡ false →
          StoodAt p m a (put_old (with_rest s list) old x)
      stood None placed = stood_contexts at (with_rest s list) refl refl refl placed
      stood (Some d) placed =
          stood_contexts at (put_context (with_rest s list) d x) refl refl (length-set s.contexts (context_place d) x)
          (subst (λ t. PlacedAt at list t) (situation-put_context (draining_of at) (with_rest s list) d x) placed)
