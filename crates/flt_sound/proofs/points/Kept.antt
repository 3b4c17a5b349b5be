-- The invariant. All three parts stand in one record, `Kept`, which each step keeps: what variables own is what the trace says (places,
-- visits, contexts), an unsettled visit stands in one place and is settled once, each reference of a context stands somewhere. They are
-- equations between sums, so that a step of one activation is shown by a few linear equations (`StepOf`), whatever the call was.
-- Here p is the program, m a moment, a, b are activations, s, old, new shadows or stores, es the events of the step.
use Rattle.std.proofs.Common.{◌≡◌, ◌≢◌, ℕ, ◌+◌, ◌<◌, ◌≤◌, Bool, true, false, List, [], length, map}
use Rattle.std.proofs.Common.{Some, refl, sym, ap, ◌∙◌, subst, arith, inl, inr, sum_by, ◌++◌}
use Rattle.std.specs.List.{list_all}
use Rattle.std.specs.Prelude.{if◌then◌else◌}
use Rattle.std.proofs.lemmas.List.Sums.{get_or-le-sum_by, sum_by-set}
use Rattle.std.proofs.Math.ListN.{set, get_or, get_or-map}
use Rattle.std.proofs.lemmas.Bool.{cases_lt}
use Rattle.std.proofs.lemmas.List.{length-set, map-set}
use Rattle.flt_tree.specs.declared.filter.Filter.{Filter}
use Rattle.flt_model.specs.declared.event.Event.{Event}
use Rattle.flt_model.specs.declared.event.Object.{Object}
use Rattle.flt_model.specs.declared.event.Object.TheVariants.{Context, Visit}
use Rattle.flt_model.specs.Effects.{Step}
use Rattle.flt_model.specs.Runs.{Moment, after}
use Rattle.flt_model.specs.Trace.{gains, loses, settles, frees}
use Rattle.flt_model.specs.Violations.{no_leak, legal_statuses, levels_kept, is_disciplined, legal_places, along}
use Rattle.flt_model.specs.declared.parts.Link.{Link}
use Rattle.flt_model.specs.World.{Store, context_at, Activation, nobody, actor_at, activation_at, is_settled}
use Rattle.flt_sound.proofs.sums.Belonging.{IsOf, Mine}
use Rattle.flt_sound.proofs.sums.Counts.{counts, Has, made}
use Rattle.flt_sound.proofs.sums.Differences.{queued, working, unsettled, elsewhere, linked}
use Rattle.flt_sound.proofs.sums.Eaches.{at_set, within}
use Rattle.flt_sound.proofs.sums.Ledger.{alive, Ledger}
use Rattle.flt_sound.proofs.sums.Owners.{keeps_visit, owners_after}
use Rattle.flt_sound.proofs.sums.Shadows.{own_all-nil, shadow_at, own_all, Shadow, no_one, plain}
use Rattle.flt_sound.proofs.sums.Turns.{Turned}
use Rattle.flt_sound.proofs.sums.Uses.{AreHad, is_clean}
use Rattle.flt_sound.proofs.points.Stored.{Stored, Stood}

-- how many variables of an activation own the context
abbrev pub keeps_context : ℕ → Shadow → ℕ
keeps_context x s = own_all x s.contexts

-- an activation that has ended owns nothing and holds no lock
pub record IsIdle (s : Shadow) : Type 0 where
  -- it owns no visit
  pub visits : (v : ℕ) → own_all v s.operations ≡ 0
  -- and no context
  pub contexts : (x : ℕ) → own_all x s.contexts ≡ 0
  -- and holds no lock
  pub locks : s.locks ≡ []

-- an activation of a moment stands at a point of its callback
abbrev pub StoodAt : List Filter → Moment → ℕ → Shadow → Type 0
StoodAt p m a s = Stood m.world.store.visits m.world.store.arrivals p (actor_at m.world a) s

-- ---- the invariant

-- what is kept of each moment of a run
pub record Kept (p : List Filter) (m : Moment) : Type 0 where
  -- what the variables of each activation own
  pub shadows : List Shadow
  -- the world's activations are these shadows, with that forgotten
  pub same : m.world.activations ≡ map plain shadows
  -- each activation has its filter, place and number
  pub long : length m.world.actors ≡ length shadows
  -- first part: an activation that runs stands at a point of its callback
  pub each : (a : ℕ) → (shadow_at shadows a).ended ≡ false → StoodAt p m a (shadow_at shadows a)
  -- its variables own its visits, each as often as it has it by the trace
  pub visits : (a v : ℕ) → gains m.trace a (Visit v) ≡ loses m.trace a (Visit v) + own_all v (shadow_at shadows a).operations
  -- and its contexts
  pub contexts : (a x : ℕ) → gains m.trace a (Context x) ≡ loses m.trace a (Context x) + own_all x (shadow_at shadows a).contexts
  -- what stands in the store fits the program
  pub stored : Stored p m.world.store
  -- second part: an unsettled visit stands in one place, and a settled one in none
  pub owners : (v : ℕ) → sum_by (keeps_visit v) shadows + (queued v m.world.store + working v m.world.store) ≡ unsettled v m.world.store
  -- a visit that has come is settled once, or not yet
  pub once : (v : ℕ) → settles m.trace v + unsettled v m.world.store ≡ made v (length m.world.store.visits)
  -- an activation that has ended owns nothing
  pub idle : (a : ℕ) → (shadow_at shadows a).ended ≡ true → IsIdle (shadow_at shadows a)
  -- each visit has its mark, settled or not
  pub settled_long : length m.world.store.settled ≡ length m.world.store.visits
  -- each filter has its queue
  pub seats : length m.world.store.queues ≡ length p
  -- third part: each reference of a context stands somewhere
  pub count : (x : ℕ) → (context_at m.world.store x).references ≡ elsewhere x m.world.store + sum_by (keeps_context x) shadows
  -- a context that was made is alive or was freed, once
  pub freed : (x : ℕ) → frees m.trace x + alive (context_at m.world.store x).references ≡ made x (length m.world.store.contexts)
  -- what stands in queues, frames, items and links of a filter is its own
  pub mine : Mine m.world.store
  -- and what its activations own
  pub owns : (a x : ℕ) → 1 ≤ own_all x (shadow_at shadows a).contexts → IsOf m.world.store.contexts (actor_at m.world a).filter x

-- a step breaks nothing, and keeps the invariant
pub record Good (p : List Filter) (m : Moment) (s : Step) : Type 0 where
  -- V1: what is used or lost is held
  pub had : AreHad m.trace s.events
  -- V2: an end leaks nothing
  pub leak : no_leak m.trace s.events ≡ true
  -- V5: statuses are legal
  pub legal : legal_statuses p m.world m.trace s.events ≡ true
  -- V6: calls are low enough
  pub low : levels_kept p m.world m.trace s.events ≡ true
  -- V7: locks are disciplined. That they exclude one another is a law of steps, whatever the filters
  pub disciplined : list_all (is_disciplined p m.world m.trace) s.events ≡ true
  -- V8: calls are in place
  pub in_place : legal_places p m.world m.trace s.events ≡ true
  -- V1: what is touched is live and the filter's own
  pub clean : along (is_clean s.world) m.trace s.events ≡ true
  -- the invariant holds of the moment after; V3 and V4 follow from it
  pub kept : Kept p (after m s)

-- ---- what changes

-- what the events of an activation gain and lose is what its variables come to hold and no longer hold
pub record Change (a : ℕ) (old new : Shadow) (es : List Event) : Type 0 where
  pub visits : (v : ℕ) → gains es a (Visit v) + own_all v old.operations ≡ loses es a (Visit v) + own_all v new.operations
  pub contexts : (x : ℕ) → gains es a (Context x) + own_all x old.contexts ≡ loses es a (Context x) + own_all x new.contexts
  -- no other activation gains or loses
  pub no_gain : (b : ℕ) → a ≢ b → (o : Object) → gains es b o ≡ 0
  pub no_loss : (b : ℕ) → a ≢ b → (o : Object) → loses es b o ≡ 0

-- a store in which visits and arrivals are as they were, and all else fits still
pub record StoreChange (p : List Filter) (old new : Store) : Type 0 where
  pub visits : new.visits ≡ old.visits
  pub arrivals : new.arrivals ≡ old.arrivals
  pub stored : Stored p new

-- an activation that runs at a moment, as its shadow has it
pub record IsAt (p : List Filter) (m : Moment) (a : ℕ) (old : Shadow) : Type 0 where
  -- the invariant holds of the moment
  pub kept : Kept p m
  -- the activation's shadow is this one
  pub is : shadow_at kept.shadows a ≡ old
  -- it hasn't ended
  pub on : old.ended ≡ false
  -- what it has isn't settled: so much of the second part the first one needs
  pub owned : (v : ℕ) → Has m.trace a (Visit v) → is_settled m.world.store v ≡ false

-- an activation that runs is there
there_if : (l : List Shadow) (a : ℕ) (s : Shadow) → get_or l a no_one ≡ s → s.ended ≡ false → a < length l
there_if l a s e on = within l a no_one (λ d. let bad : true ≡ false = ap (λ (s : Shadow). s.ended) (sym d ∙ e) ∙ on in absurd (cc))

-- ---- a step of one activation

module _ (p : List Filter) (m : Moment) (a : ℕ) (old new : Shadow) (s : Store) (es : List Event) (act : Activation) where
  -- what a step of an activation has to show: that it stands still where it runs on, and for each part of the invariant its equations
  pub record StepOf : Type 0 where
    -- it stands at a point still, where it runs on
    pub stood : new.ended ≡ false → StoodAt p m a new
    -- visits and arrivals stay, and all else in the store fits still
    pub store : StoreChange p m.world.store s
    -- the first part's equations
    pub change : Change a old new es
    -- the world's activation is the new shadow's
    pub plain_is : act ≡ plain new
    -- the second part's equations
    pub turned : Turned a m.world.store s es
    -- where it ends it owns nothing
    pub idle : new.ended ≡ true → IsIdle new
    -- the third part's equations
    pub ledger : Ledger a m.world.store s es
    -- what it gains is its filter's own
    pub gained : (x : ℕ) → 1 ≤ gains es a (Context x) → IsOf s.contexts (actor_at m.world a).filter x

  abbrev stepped : Step
  stepped = record { world = record m.world { activations = set m.world.activations a act; store = s }; events = es }

  module _ (q : IsAt p m a old) (r : StepOf) where
    there : a < length q.kept.shadows
    there = there_if q.kept.shadows a old q.is q.on

    -- an object's balance with each activation, where this one's changes by what the events gain and lose
    balance_after : (o : Object) (count : Shadow → ℕ) →
        ((b : ℕ) → gains m.trace b o ≡ loses m.trace b o + count (shadow_at q.kept.shadows b)) →
        gains es a o + count old ≡ loses es a o + count new →
        (b : ℕ) → gains (m.trace ++ es) b o ≡ loses (m.trace ++ es) b o + count (shadow_at (set q.kept.shadows a new) b)
    balance_after o count before change =
        at_set (λ b (s : Shadow). gains (m.trace ++ es) b o ≡ loses (m.trace ++ es) b o + count s) q.kept.shadows a new no_one there
        (simp counts (let own = rw q.is at (before a) in omega (arith, change, own)))
        (λ b ne.
        let other = λ (e : a ≡ b). ne (sym e) in
        simp counts (omega (arith, before b, r.change.no_gain b other o, r.change.no_loss b other o)))

    -- such a step keeps the invariant
    pub kept_after : Kept p (after m stepped)
    kept_after =
        let k = q.kept in
        record {
          shadows = set k.shadows a new;
          same = ap (λ l. set l a act) k.same ∙ (ap (λ x. set (map plain k.shadows) a x) r.plain_is ∙ sym (map-set plain k.shadows a new));
          long = rw (length-set k.shadows a new) k.long;
          each = at_set (λ b (o : Shadow). o.ended ≡ false →
              Stood s.visits s.arrivals p (actor_at m.world b) o) k.shadows a new no_one there
              (rw (r.store.visits, r.store.arrivals) r.stood)
              (λ b ne. rw (r.store.visits, r.store.arrivals) (k.each b));
          visits = λ b v. balance_after (Visit v) (keeps_visit v) (λ b. k.visits b v) (r.change.visits v) b;
          contexts = λ b x. balance_after (Context x) (keeps_context x) (λ b. k.contexts b x) (r.change.contexts x) b;
          stored = r.store.stored;
          owners = λ v.
              let change : gains es a (Visit v) + own_all v (shadow_at k.shadows a).operations ≡ loses es a
              (Visit v) + own_all v new.operations =
              rw q.is (r.change.visits v) in
              owners_after a k.shadows new m.world.store s es v there (k.owners v) change r.turned.turns;
          once = λ v. rw r.store.visits (simp counts (omega (arith, k.once v, r.turned.once v)));
          idle = at_set (λ b (o : Shadow). o.ended ≡ true → IsIdle o) k.shadows a new no_one there r.idle (λ b ne. k.idle b);
          settled_long = r.turned.long ∙ (k.settled_long ∙ ap length (sym r.store.visits));
          seats = r.turned.seats ∙ k.seats;
          count = λ x.
              let sum = rw q.is at (sum_by-set (keeps_context x) k.shadows a new no_one there) in
              omega (arith, sum, k.count x, r.ledger.refs x, r.change.contexts x);
          freed = λ x. simp counts (omega (arith, k.freed x, r.ledger.freed x));
          mine = r.ledger.mine;
          owns = λ b x. at_set (λ b (o : Shadow). 1 ≤ own_all x o.contexts →
              IsOf s.contexts (actor_at m.world b).filter x) k.shadows a new no_one there
              (λ has. elim (cases_lt 0 (own_all x old.contexts)) [
                | inl had ↦ r.ledger.older (actor_at m.world a).filter x (k.owns a x (rw q.is (omega (arith, had))))
                | inr none ↦ r.gained x (omega (arith, r.change.contexts x, none, has))
              ])
              (λ b ne has. r.ledger.older (actor_at m.world b).filter x (k.owns b x has)) b;
        }

-- ---- what an activation holds it may use

module _ {p : List Filter} {m : Moment} {a : ℕ} {s : Shadow} (q : IsAt p m a s) where
  -- it has its visits as often as its variables own them
  pub visits_at : (v : ℕ) → gains m.trace a (Visit v) ≡ loses m.trace a (Visit v) + own_all v s.operations
  visits_at v = rw q.is at (q.kept.visits a v)

  -- it has its contexts as often as its variables own them
  pub contexts_at : (x : ℕ) → gains m.trace a (Context x) ≡ loses m.trace a (Context x) + own_all x s.contexts
  contexts_at x = rw q.is at (q.kept.contexts a x)

  -- the world's activation is its shadow's
  pub activation_is : activation_at m.world a ≡ plain s
  activation_is = ap (λ l. get_or l a nobody) q.kept.same ∙ (get_or-map plain q.kept.shadows a no_one ∙ ap plain q.is)

  -- it stands at a point of its callback
  pub stood_at : StoodAt p m a s
  stood_at = subst (λ (s : Shadow). s.ended ≡ false → StoodAt p m a s) q.is (q.kept.each a) q.on

-- ---- what it has, by the invariant

-- what is unsettled once isn't settled
open_by : (b : Bool) → 1 ≤ (if b then 0 else 1) → b ≡ false
open_by true h = absurd (omega arith)
open_by false h = refl

-- an activation of which something counts is there
counted_there : (f : Shadow → ℕ) (l : List Shadow) (a : ℕ) → f no_one ≡ 0 → 1 ≤ f (shadow_at l a) → a < length l
counted_there f l a none one =
    within l a no_one (λ d.
    let nothing : f (shadow_at l a) ≡ 0 = ap f d ∙ none in absurd (omega (arith, one, nothing)))

-- a context that a variable owns has a reference
pub refs_of : {p : List Filter} {m : Moment} (k : Kept p m) (a x : ℕ) → 1 ≤ own_all x (shadow_at k.shadows a).contexts →
    1 ≤ (context_at m.world.store x).references
refs_of {p} {m} k a x one =
    let there = counted_there (keeps_context x) k.shadows a (own_all-nil x) one in
    omega (arith, one, k.count x, get_or-le-sum_by (keeps_context x) k.shadows a no_one there)

-- a context that an activation has is owned by one of its variables
pub held_one : {p : List Filter} {m : Moment} (k : Kept p m) (a x : ℕ) → Has m.trace a (Context x) →
    1 ≤ own_all x (shadow_at k.shadows a).contexts
held_one {p} {m} k a x h = omega (arith, h.holds, k.contexts a x)

-- a context that is linked has a reference: the link's
pub linked_refs : {p : List Filter} {m : Moment} → Kept p m → (x : ℕ) (l : Link) → (context_at m.world.store x).link ≡ Some l →
    1 ≤ (context_at m.world.store x).references
linked_refs {p} {m} k x l e = let one : linked (context_at m.world.store x).link ≡ 1 = ap linked e in omega (arith, k.count x, one)

-- what an activation has isn't settled
pub owned_of : {p : List Filter} {m : Moment} → Kept p m → (a v : ℕ) → Has m.trace a (Visit v) → is_settled m.world.store v ≡ false
owned_of {p} {m} k a v h =
    let one : 1 ≤ own_all v (shadow_at k.shadows a).operations = omega (arith, h.holds, k.visits a v) in
    let there = counted_there (keeps_visit v) k.shadows a (own_all-nil v) one in
    open_by (is_settled m.world.store v) (omega (arith, one, k.owners v, get_or-le-sum_by (keeps_visit v) k.shadows a no_one there))
