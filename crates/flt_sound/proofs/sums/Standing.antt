-- The ledgers of references that go between variables and queues, frames and items: contexts stay as they are, and stand elsewhere.
-- Here a is the activation that steps, s the store before, k says that what stands there is the filters' own; f is a filter, o an
-- operation, x, y are contexts, es the events of the step.
use Rattle.std.proofs.Common.{◌≡◌, ℕ, ◌+◌, ◌<◌, Bool, true, false, List, [], ◌∷◌, ◌++◌, length, Option, refl, arith}
use Rattle.std.specs.Prelude.{◌&&◌, if◌then◌else◌}
use Rattle.std.proofs.Math.ListN.{set}
use Rattle.std.proofs.lemmas.List.Sums.{sum_by-set, sum_by_push}
use Rattle.flt_model.specs.declared.event.Event.{Event}
use Rattle.flt_model.specs.declared.event.Event.TheVariants as event
use Rattle.flt_model.specs.declared.event.Object.TheVariants.{Context, Visit}
use Rattle.flt_model.specs.Effects.{loses_context}
use Rattle.flt_model.specs.declared.settling.Way.{Way}
use Rattle.flt_model.specs.declared.settling.Way.TheVariants.{Passes, Frames, Ends, Rises, Stays}
use Rattle.flt_model.specs.Settling.{settles_visit, asks_for_frame}
use Rattle.flt_model.specs.Settling.{led, is_led, makes_frame, lead, settled_by}
use Rattle.flt_model.specs.Trace.{gains, loses, frees}
use Rattle.flt_model.specs.Violations.{in_some}
use Rattle.flt_model.specs.declared.parts.Entry.{Entry}
use Rattle.flt_model.specs.World.{Store, Route, Frame, queue_at, route_at, no_route, visit_at, with_route, with_queue}
use Rattle.flt_sound.proofs.sums.Belonging.{Belongs, Mine}
use Rattle.flt_sound.proofs.sums.Counts.{counts, of_actor-same}
use Rattle.flt_sound.proofs.sums.Differences.{in_frame, in_route, in_line}
use Rattle.flt_sound.proofs.sums.Eaches.{Each, each_push, each_set, route_set}
use Rattle.flt_sound.proofs.sums.Handovers.{lost_one, lost_gains, lost_free}
use Rattle.flt_sound.proofs.sums.Ledger.{Ledger, still, moved}

module _ (a : ℕ) (s : Store) (k : Mine s) where
  -- ---- queues

  queue_mine : (f : ℕ) (queue : List Entry) → Each (λ (e : Entry). Belongs s.contexts f e.context) queue → Mine (with_queue s f queue)
  queue_mine f queue h = record {
    entries = each_set (λ g (e : Entry). Belongs s.contexts g e.context) s.queues f queue k.entries h;
    frames = k.frames;
    items = k.items;
    links = k.links;
  }

  -- a visit goes into a queue, and the context that it may have goes with it
  pub enqueues : (f : ℕ) (e : Entry) → f < length s.queues → Belongs s.contexts f e.context →
      Ledger a s (with_queue s f (queue_at s f ++ e ∷ [])) (event.Lose a (Visit e.visit) ∷ loses_context a e.context)
  enqueues f e h b =
      let queue = queue_at s f ++ e ∷ [] in
      moved a s (with_queue s f queue) (event.Lose a (Visit e.visit) ∷ loses_context a e.context) refl
      (queue_mine f queue (each_push (λ (e : Entry). Belongs s.contexts f e.context) (queue_at s f) e (k.entries f) b))
      (λ x.
      let lines = sum_by-set (in_line x) s.queues f queue [] h in
      let push = sum_by_push (λ (e : Entry). in_some x e.context) (queue_at s f) e in
      simp (counts, of_actor-same) (omega (arith, lines, push, lost_one a e.context x, lost_gains a e.context a (Context x))))
      (λ x. simp counts (omega (arith, lost_free a e.context x)))

  -- a visit leaves a queue, of which the others stay, and the context that it may have goes to a variable
  pub leaves_queue : (f : ℕ) (e : Entry) (queue : List Entry) (es : List Event) → f < length s.queues →
      ((x : ℕ) → in_line x queue + in_some x e.context ≡ in_line x (queue_at s f)) →
      Each (λ (e : Entry). Belongs s.contexts f e.context) queue →
      ((x : ℕ) → gains es a (Context x) ≡ in_some x e.context) → ((x : ℕ) → loses es a (Context x) ≡ 0) → ((x : ℕ) → frees es x ≡ 0) →
      Ledger a s (with_queue s f queue) es
  leaves_queue f e queue es h sum b g l r =
      moved a s (with_queue s f queue) es refl (queue_mine f queue b)
      (λ x. omega (arith, sum_by-set (in_line x) s.queues f queue [] h, sum x, g x, l x)) r

  -- ---- frames

  -- an operation that is led on has a frame more where the way asks for one, with the context
  led_sum : (y f : ℕ) (x : Option ℕ) (way : Way) (r : Route) →
      in_route y (led f x way r) ≡ in_route y r + (if asks_for_frame way then in_some y x else 0)
  led_sum y f x Passes r = omega arith
  led_sum y f x Frames r = sum_by_push (in_frame y) r.frames (record { filter = f; context = x })
  led_sum y f x (Ends outcome) r = omega arith
  led_sum y f x Rises r = omega arith
  led_sum y f x Stays r = omega arith

  abbrev OwnFrames : List Frame → Type 0
  OwnFrames frames = Each (λ (r : Frame). Belongs s.contexts r.filter r.context) frames

  led_each : (f : ℕ) (x : Option ℕ) (way : Way) (r : Route) → OwnFrames r.frames → Belongs s.contexts f x → OwnFrames (led f x way r).frames
  led_each f x Passes r h b = h
  led_each f x Frames r h b = each_push (λ (r : Frame). Belongs s.contexts r.filter r.context) r.frames
      (record { filter = f; context = x }) h b
  led_each f x (Ends outcome) r h b = h
  led_each f x Rises r h b = h
  led_each f x Stays r h b = h

  -- an operation's frames change to others that are the filters' own
  pub route_mine : (o : ℕ) (r : Route) → Each (λ (r : Frame). Belongs s.contexts r.filter r.context) r.frames → Mine (with_route s o r)
  route_mine o r h = record {
    entries = k.entries;
    frames = route_set (λ q (r : Frame). Belongs s.contexts r.filter r.context) s.routes o r k.frames h;
    items = k.items;
    links = k.links;
  }

  -- ---- settling

  -- what a step loses beyond what it gains, where a frame takes the context over
  abbrev LostTo : Option ℕ → Bool → List Event → Type 0
  LostTo x frame es = (y : ℕ) → loses es a (Context y) ≡ gains es a (Context y) + (if frame then in_some y x else 0)

  and_none : (b : Bool) (n : ℕ) → (if b && false then n else 0) ≡ 0
  and_none true n = refl
  and_none false n = refl

  and_all : (b : Bool) (n : ℕ) → (if b && true then n else 0) ≡ (if b then n else 0)
  and_all true n = refl
  and_all false n = refl

  stays_asks : (way : Way) (b : Bool) (n : ℕ) → settles_visit way ≡ false → (if asks_for_frame way && b then n else 0) ≡ 0
  stays_asks Passes b n e = absurd (cc)
  stays_asks Frames b n e = absurd (cc)
  stays_asks (Ends outcome) b n e = absurd (cc)
  stays_asks Rises b n e = absurd (cc)
  stays_asks Stays b n e = refl

  lead_ledger : (o f : ℕ) (x : Option ℕ) (way : Way) (es : List Event) → o < length s.routes → Belongs s.contexts f x → (b : Bool) →
      LostTo x (asks_for_frame way && b) es → ((y : ℕ) → frees es y ≡ 0) →
      Ledger a s (if b then with_route s o (led f x way (route_at s o)) else s) es
  lead_ledger o f x way es there own true l r =
      let route = led f x way (route_at s o) in
      moved a s (with_route s o route) es refl (route_mine o route (led_each f x way (route_at s o) (k.frames o) own))
      (λ y.
      let routes = sum_by-set (in_route y) s.routes o route no_route there in
      omega (arith, routes, led_sum y f x way (route_at s o), and_all (asks_for_frame way) (in_some y x), l y)) r
  lead_ledger o f x way es there own false l r =
      still a s s es k refl refl refl refl (λ y. omega (arith, l y, and_none (asks_for_frame way) (in_some y x))) r

  settle_by : (mid : Store) (u : ℕ) (x : Option ℕ) (way : Way) (is_so : Bool) (es : List Event) → Ledger a s mid es →
      LostTo x (asks_for_frame way && is_so) es → ((y : ℕ) → frees es y ≡ 0) → (b : Bool) → settles_visit way ≡ b →
      Ledger a s (if b then record mid { settled = set mid.settled u true } else s) es
  settle_by mid u x way is_so es n l r true e = record {
    refs = n.refs;
    freed = n.freed;
    older = n.older;
    mine = record { entries = n.mine.entries; frames = n.mine.frames; items = n.mine.items; links = n.mine.links };
  }
  settle_by mid u x way is_so es n l r false e =
      still a s s es k refl refl refl refl (λ y. omega (arith, l y, stays_asks way is_so (in_some y x) e)) r

  -- a visit is settled and its operation led on: the context that the answer may name goes to the frame, where one is made
  pub settle_ledger : (u : ℕ) (x : Option ℕ) (way : Way) (es : List Event) → (visit_at s u).operation < length s.routes →
      Belongs s.contexts (visit_at s u).filter x →
      ((y : ℕ) → loses es a (Context y) ≡ gains es a (Context y) + (if makes_frame s u way then in_some y x else 0)) →
      ((y : ℕ) → frees es y ≡ 0) →
      Ledger a s (settled_by s u x way) es
  settle_ledger u x way es there own l r =
      let visit = visit_at s u in
      let ledger = lead_ledger visit.operation visit.filter x way es there own (is_led s u) l r in
      settle_by (lead s u x way) u x way (is_led s u) es ledger l r (settles_visit way) refl
