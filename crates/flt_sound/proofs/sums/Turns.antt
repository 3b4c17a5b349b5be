-- How the owners of a visit change with a step of an activation: what its variables gain and lose, what stands in queues and work
-- items, and what is unsettled, in one equation (`Turns`). With it the second invariant, that an unsettled visit has one owner and is
-- settled once, is kept by each step. Here s is the store before the step and new the one after, u, v are visits, f is a filter.
use Rattle.std.proofs.Common.{◌≡◌, ℕ, ◌+◌, ◌<◌, Bool, true, false, List, [], ◌∷◌, ◌++◌}
use Rattle.std.proofs.Common.{length, Option, Some, None, ap, sym, refl, ◌∙◌, arith}
use Rattle.std.specs.Prelude.{if◌then◌else◌}
use Rattle.std.proofs.Math.ListN.{set}
use Rattle.std.proofs.lemmas.List.{length-set}
use Rattle.flt_model.specs.declared.event.Event.{Event}
use Rattle.flt_model.specs.declared.event.Event.TheVariants as event
use Rattle.flt_model.specs.declared.event.Object.TheVariants.{Visit}
use Rattle.flt_model.specs.Effects.{loses_context, gains_context}
use Rattle.flt_model.specs.declared.settling.Way.{Way}
use Rattle.flt_model.specs.Settling.{settles_visit, is_led, led, lead, settled_by}
use Rattle.flt_model.specs.Trace.{gains, loses, settles, one_if}
use Rattle.flt_model.specs.Violations.{in_some}
use Rattle.flt_model.specs.declared.parts.Entry.{Entry}
use Rattle.flt_model.specs.declared.parts.Item.{Item}
use Rattle.flt_model.specs.World.{Store, visit_at, route_at, queue_at, is_settled, with_queue, with_route}
use Rattle.flt_sound.proofs.sums.Counts.{counts, of_actor-same}
use Rattle.flt_sound.proofs.sums.Differences.{queued, working, unsettled, queue_push, queue_pop, item_push, open_settle}
use Rattle.flt_sound.proofs.sums.Eaches.{within}
use Rattle.flt_sound.proofs.sums.Handovers.{lost_visit, lost_gains, lost_settles, gained_visit, gained_loses, gained_settles}

-- what a step's events gain the activation, against what they lose it, what stands in queues and items, and what is unsettled
abbrev pub Turns : ℕ → Store → Store → List Event → Type 0
Turns a s new es =
    (v : ℕ) → gains es a (Visit v) + ((queued v new + working v new) + unsettled v s) ≡ loses es a (Visit v) +
    ((queued v s + working v s) + unsettled v new)

-- all that the second invariant asks of a step of an activation
pub record Turned (a : ℕ) (s new : Store) (es : List Event) : Type 0 where
  -- the equation of the owners
  pub turns : Turns a s new es
  -- what is settled was unsettled
  pub once : (v : ℕ) → settles es v + unsettled v new ≡ unsettled v s
  -- there are as many queues as before
  pub seats : length new.queues ≡ length s.queues
  -- there are as many visits as before
  pub long : length new.settled ≡ length s.settled

-- ---- queues, items and what is settled stay

-- events that gain as they lose and settle nothing, in a store where visits stand as they stood
pub calm_turned : (a : ℕ) (s new : Store) (es : List Event) → new.queues ≡ s.queues → new.items ≡ s.items → new.settled ≡ s.settled →
    ((v : ℕ) → gains es a (Visit v) ≡ loses es a (Visit v)) → ((v : ℕ) → settles es v ≡ 0) → Turned a s new es
calm_turned a s new es q i t h g = record {
  turns = λ v. rw (q, i, t) (omega (arith, h v));
  once = λ v. rw t (omega (arith, g v));
  seats = ap length q;
  long = ap length t;
}

-- a step behind events that neither gain, lose nor settle
pub turned_behind : (a : ℕ) (s new : Store) (pre es : List Event) → ((v : ℕ) → gains pre a (Visit v) ≡ 0) →
    ((v : ℕ) → loses pre a (Visit v) ≡ 0) → ((v : ℕ) → settles pre v ≡ 0) → Turned a s new es → Turned a s new (pre ++ es)
turned_behind a s new pre es g l t h = record {
  turns = λ v. simp counts (omega (arith, g v, l v, h.turns v));
  once = λ v. simp counts (omega (arith, t v, h.once v));
  seats = h.seats;
  long = h.long;
}

module _ (a : ℕ) where
  -- ---- queues and work items

  -- a visit goes from a variable into a queue, with a context or without
  pub enqueue_turned : (s : Store) (f : ℕ) (e : Entry) → f < length s.queues →
      Turned a s (with_queue s f (queue_at s f ++ e ∷ [])) (event.Lose a (Visit e.visit) ∷ loses_context a e.context)
  enqueue_turned s f e h = record {
    turns = λ v. simp (counts, of_actor-same)
        (omega (arith, queue_push v s.queues f e h, lost_visit a e.context v, lost_gains a e.context a (Visit v)));
    once = λ v. simp counts (omega (arith, lost_settles a e.context v));
    seats = length-set s.queues f (queue_at s f ++ e ∷ []);
    long = refl;
  }

  -- the first visit of a queue goes to a variable
  pub dequeue_turned : (s : Store) (f : ℕ) (e : Entry) (queue : List Entry) → queue_at s f ≡ e ∷ queue →
      Turned a s (with_queue s f queue) (event.Gain a (Visit e.visit) ∷ gains_context a e.context)
  dequeue_turned s f e queue same =
      let there : f < length s.queues = within s.queues f [] (λ d. let bad : [] ≡ e ∷ queue = sym d ∙ same in absurd (cc)) in
      record {
        turns = λ v. simp (counts, of_actor-same)
            (omega (arith, queue_pop v s.queues f e queue there same, gained_visit a e.context v, gained_loses a e.context a (Visit v)));
        once = λ v. simp counts (omega (arith, gained_settles a e.context v));
        seats = length-set s.queues f queue;
        long = refl;
      }

  -- a visit goes from a variable to a work item
  pub defer_turned : (s : Store) (i : Item) (u : ℕ) → i.visit ≡ Some u →
      Turned a s (record s { items = s.items ++ Some i ∷ [] }) (event.Lose a (Visit u) ∷ loses_context a i.context)
  defer_turned s i u e = record {
    turns = λ v.
        let one : in_some v i.visit ≡ one_if u v = ap (in_some v) e in
        simp (counts, of_actor-same) (omega
        (arith, item_push v s.items i, one, lost_visit a i.context v, lost_gains a i.context a (Visit v)));
    once = λ v. simp counts (omega (arith, lost_settles a i.context v));
    seats = refl;
    long = refl;
  }

  -- a work item without a visit is queued
  pub item_turned : (s : Store) (i : Item) (es : List Event) → i.visit ≡ None → ((v : ℕ) → gains es a (Visit v) ≡ 0) →
      ((v : ℕ) → loses es a (Visit v) ≡ 0) → ((v : ℕ) → settles es v ≡ 0) → Turned a s (record s { items = s.items ++ Some i ∷ [] }) es
  item_turned s i es e g l t = record {
    turns = λ v. let none : in_some v i.visit ≡ 0 = ap (in_some v) e in omega (arith, item_push v s.items i, none, g v, l v);
    once = λ v. omega (arith, t v);
    seats = refl;
    long = refl;
  }

  -- ---- settling

  -- in the new store the visit is settled, and all other owners are as they were
  record IsSettling (s new : Store) (u : ℕ) : Type 0 where
    queues : new.queues ≡ s.queues
    items : new.items ≡ s.items
    left : (v : ℕ) → unsettled v new + one_if u v ≡ unsettled v s
    long : length new.settled ≡ length s.settled

  -- wherever the operation is led, its owners stay
  record IsLedOnly (s new : Store) : Type 0 where
    queues : new.queues ≡ s.queues
    items : new.items ≡ s.items
    settled : new.settled ≡ s.settled

  led_only : (s : Store) (u : ℕ) (x : Option ℕ) (way : Way) → IsLedOnly s (lead s u x way)
  led_only s u x way = by (is_led s u)
    where
      by : (b : Bool) →
          IsLedOnly s (if b then with_route s (visit_at s u).operation
          (led (visit_at s u).filter x way (route_at s (visit_at s u).operation)) else s)
      by true = record { queues = refl; items = refl; settled = refl }
      by false = record { queues = refl; items = refl; settled = refl }

  settling : (s mid : Store) (u : ℕ) (b : Bool) → b ≡ true → IsLedOnly s mid → u < length s.settled → is_settled s u ≡ false →
      IsSettling s (if b then record mid { settled = set mid.settled u true } else s) u
  settling s mid u true e k there h = record {
    queues = k.queues;
    items = k.items;
    left = λ v. rw k.settled (open_settle s u v there h);
    long = rw k.settled (length-set s.settled u true);
  }
  settling s mid u false e k there h = absurd (cc)

  -- an unsettled visit is settled, by events that lose and settle it alone
  pub settle_turned : (s : Store) (u : ℕ) (x : Option ℕ) (way : Way) (es : List Event) → settles_visit way ≡ true → is_settled s u ≡ false →
      ((v : ℕ) → gains es a (Visit v) ≡ 0) → ((v : ℕ) → loses es a (Visit v) ≡ one_if u v) → ((v : ℕ) → settles es v ≡ one_if u v) →
      Turned a s (settled_by s u x way) es
  settle_turned s u x way es e h g l t =
      let there : u < length s.settled = within s.settled u true (λ d. let bad : true ≡ false = sym d ∙ h in absurd (cc)) in
      settled (settling s (lead s u x way) u (settles_visit way) e (led_only s u x way) there h)
    where
      settled : IsSettling s (settled_by s u x way) u → Turned a s (settled_by s u x way) es
      settled k = record {
        turns = λ v. rw (k.queues, k.items) (omega (arith, k.left v, g v, l v));
        once = λ v. omega (arith, k.left v, t v);
        seats = ap length k.queues;
        long = k.long;
      }
