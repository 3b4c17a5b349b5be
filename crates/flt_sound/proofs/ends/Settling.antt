-- What becomes of the store where a visit is settled: its operation is led on, and perhaps a frame is made of it. A frame is made only
-- for a filter with a post callback, so the frames of each route still fit.
-- p is the program, s the store, v the visit, x the context that goes with the status, way where the status leads the operation.
use Rattle.std.proofs.Common.{◌≡◌, ℕ, Bool, true, false, List, Option, Some, None, refl, ◌∙◌}
use Rattle.std.specs.Prelude.{if◌then◌else◌}
use Rattle.std.proofs.Math.ListN.{set}
use Rattle.std.proofs.lemmas.List.{length-set}
use Rattle.flt_rules.specs.declared.place.Stage.{Stage}
use Rattle.flt_rules.specs.declared.place.Stage.TheVariants as stage
use Rattle.flt_tree.specs.declared.filter.Filter.{Filter}
use Rattle.flt_tree.specs.declared.filter.Status.{Status}
use Rattle.flt_tree.specs.declared.filter.Status.TheVariants as status
use Rattle.flt_model.specs.declared.event.Answer.{Answer}
use Rattle.flt_model.specs.Program.{callbacks_at, has_post}
use Rattle.flt_model.specs.declared.settling.Way.{Way}
use Rattle.flt_model.specs.declared.settling.Way.TheVariants.{Passes, Frames, Ends, Rises, Stays}
use Rattle.flt_model.specs.Settling.{way_before, way_after, way_by, way_of, settles_visit}
use Rattle.flt_model.specs.Settling.{asks_for_frame, led, is_led, lead, settled_by, is_returned, given_by}
use Rattle.flt_model.specs.World.{Store, Route, Frame, visit_at, arrival_of, arrival_at, route_at, with_route}
use Rattle.flt_sound.proofs.sums.Eaches.{Each, each_push, route_set}
use Rattle.flt_sound.proofs.points.Kept.{StoreChange}
use Rattle.flt_sound.proofs.points.Stored.{FitsFrame, Stored}

-- ---- a frame is made only where a post callback is

-- a way before the filters below asks for a frame only where a post callback is
before_frames : (post returned : Bool) (st : Option Status) → asks_for_frame (way_before post returned st) ≡ true → post ≡ true
before_frames true returned st e = refl
before_frames false returned None e = absurd (cc)
before_frames false returned (Some (status.WithCallback c)) e = absurd (cc)
before_frames false returned (Some (status.Synchronize c)) e = absurd (cc)
before_frames false returned (Some status.NoCallback) e = absurd (cc)
before_frames false returned (Some (status.Complete f)) e = absurd (cc)
before_frames false true (Some status.Pending) e = absurd (cc)
before_frames false false (Some status.Pending) e = absurd (cc)
before_frames false true (Some status.DisallowFastIo) e = absurd (cc)
before_frames false false (Some status.DisallowFastIo) e = absurd (cc)
before_frames false returned (Some status.FinishedProcessing) e = absurd (cc)
before_frames false returned (Some status.MoreProcessingRequired) e = absurd (cc)

-- a way after the filters below asks for none
after_frames : (returned : Bool) (st : Option Status) → asks_for_frame (way_after returned st) ≡ true → ⊥
after_frames returned None e = absurd (cc)
after_frames returned (Some (status.WithCallback c)) e = absurd (cc)
after_frames returned (Some (status.Synchronize c)) e = absurd (cc)
after_frames returned (Some status.NoCallback) e = absurd (cc)
after_frames returned (Some (status.Complete f)) e = absurd (cc)
after_frames returned (Some status.Pending) e = absurd (cc)
after_frames returned (Some status.DisallowFastIo) e = absurd (cc)
after_frames returned (Some status.FinishedProcessing) e = absurd (cc)
after_frames true (Some status.MoreProcessingRequired) e = absurd (cc)
after_frames false (Some status.MoreProcessingRequired) e = absurd (cc)

-- at each stage a way asks for a frame only where a post callback is
way_frames : (post : Bool) (at : Stage) (returned : Bool) (st : Option Status) →
    asks_for_frame (way_by post at returned st) ≡ true → post ≡ true
way_frames post stage.Pre returned st e = before_frames post returned st e
way_frames post stage.Post returned st e = absurd (after_frames returned st e)

-- whether the filter of a visit has a post callback for the visit's operation
abbrev pub has_post_of : List Filter → Store → ℕ → Bool
has_post_of p s v = has_post (callbacks_at p (visit_at s v).filter) (arrival_of s v).kind

-- it has, where an answer about the visit asks for a frame
pub frames_by : (p : List Filter) (s : Store) (v : ℕ) (x : Answer) → asks_for_frame (way_of p s v x) ≡ true → has_post_of p s v ≡ true
frames_by p s v x e = way_frames (has_post_of p s v) (visit_at s v).stage (is_returned x) (given_by x) e

-- ---- the store

-- frames that fit still fit where a route is led on
led_frames : (P : Frame → Type 0) (f : ℕ) (x : Option ℕ) (way : Way) (r : Route) → Each P r.frames →
    (asks_for_frame way ≡ true → P (record { filter = f; context = x })) → Each P (led f x way r).frames
led_frames P f x Passes r h e = h
led_frames P f x Frames r h e = each_push P r.frames (record { filter = f; context = x }) h (e refl)
led_frames P f x (Ends outcome) r h e = h
led_frames P f x Rises r h e = h
led_frames P f x Stays r h e = h

-- the store keeps its invariants with another route whose frames fit
pub route_parts : (p : List Filter) (s : Store) (o : ℕ) (r : Route) → Stored p s →
    Each (FitsFrame p (arrival_at s o).kind) r.frames → StoreChange p s (with_route s o r)
route_parts p s o r k h = record {
  visits = refl;
  arrivals = refl;
  stored = record {
    entries = k.entries;
    items = k.items;
    frames = route_set (λ q. FitsFrame p (arrival_at s q).kind) s.routes o r k.frames h;
    modes = k.modes;
    paths = length-set s.routes o r ∙ k.paths;
    before = k.before;
  };
}

-- the store keeps its invariants where the visit's operation is led on
lead_parts : (p : List Filter) (s : Store) (v : ℕ) (x : Option ℕ) (way : Way) → Stored p s →
    (asks_for_frame way ≡ true → has_post_of p s v ≡ true) → StoreChange p s (lead s v x way)
lead_parts p s v x way k h = by (is_led s v)
  where
    o : ℕ
    o = (visit_at s v).operation

    r : Route
    r = led (visit_at s v).filter x way (route_at s o)

    by : (b : Bool) → StoreChange p s (if b then with_route s o r else s)
    by true = route_parts p s o r k (led_frames (FitsFrame p (arrival_at s o).kind) (visit_at s v).filter x way (route_at s o)
        (k.frames o) h)
    by false = record { visits = refl; arrivals = refl; stored = k }

-- the store keeps its invariants where the visit is settled
pub settled_parts : (p : List Filter) (s : Store) (v : ℕ) (x : Option ℕ) (way : Way) → Stored p s →
    (asks_for_frame way ≡ true → has_post_of p s v ≡ true) → StoreChange p s (settled_by s v x way)
settled_parts p s v x way k h = by (settles_visit way)
  where
    led_on : StoreChange p s (lead s v x way)
    led_on = lead_parts p s v x way k h

    by : (b : Bool) → StoreChange p s (if b then record (lead s v x way) { settled = set (lead s v x way).settled v true } else s)
    by true =
        let l = led_on.stored in
        record {
          visits = led_on.visits;
          arrivals = led_on.arrivals;
          stored = record { entries = l.entries; items = l.items; frames = l.frames; modes = l.modes; paths = l.paths; before = l.before };
        }
    by false = record { visits = refl; arrivals = refl; stored = k }
