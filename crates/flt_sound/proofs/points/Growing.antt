-- Visits and arrivals only become more: what fits those that are there fits them still after a move appends one. So a move of the machine
-- that adds a visit or an arrival keeps all that `Stored` says of the others. Here visits, arrivals are the lists before, more, later
-- those after; f is a filter, v a visit, p the program.
use Rattle.std.proofs.Common.{◌≡◌, ℕ, ◌<◌, ◌≤◌, List, [], ◌∷◌, ◌++◌, length, Option, Some, None, ap, refl, ◌∙◌, arith}
use Rattle.std.proofs.Math.ListN.{get_or, get_or-append}
use Rattle.std.proofs.lemmas.List.{length-append}
use Rattle.flt_rules.specs.declared.place.Mode.{Mode}
use Rattle.flt_rules.specs.declared.place.Place.{Place}
use Rattle.flt_rules.specs.declared.place.Place.TheVariants as place
use Rattle.flt_rules.specs.declared.place.Stage.{Stage}
use Rattle.flt_rules.specs.declared.place.Stage.TheVariants as stage
use Rattle.flt_tree.specs.declared.filter.Filter.{Filter}
use Rattle.flt_model.specs.World as world
use Rattle.flt_model.specs.declared.parts.Arrival.{Arrival}
use Rattle.flt_model.specs.declared.parts.Entry.{Entry}
use Rattle.flt_model.specs.declared.parts.Item.{Item}
use Rattle.flt_model.specs.World.{Actor, no_visit, no_arrival}
use Rattle.flt_sound.proofs.sums.Eaches.{Each}
use Rattle.flt_sound.proofs.sums.Shadows.{Shadow}
use Rattle.flt_sound.proofs.points.Stored.{visit_in, arrival_in, IsVisit, IsGiven, IsBefore, Given, FitsQueue, IsItem, Stood}

-- the lists after have the visits and arrivals of those before, each at its number
pub record Grows (visits : List world.Visit) (arrivals : List Arrival) (more : List world.Visit) (later : List Arrival) : Type 0 where
  pub visits_stay : (v : ℕ) → v < length visits → get_or more v no_visit ≡ get_or visits v no_visit
  pub visits_long : length visits ≤ length more
  pub arrivals_stay : (o : ℕ) → o < length arrivals → get_or later o no_arrival ≡ get_or arrivals o no_arrival
  pub arrivals_long : length arrivals ≤ length later

-- nothing is appended
pub grows_self : (visits : List world.Visit) (arrivals : List Arrival) → Grows visits arrivals visits arrivals
grows_self visits arrivals = record {
  visits_stay = λ v h. refl;
  visits_long = omega arith;
  arrivals_stay = λ o h. refl;
  arrivals_long = omega arith;
}

-- a visit is appended
pub grows_visit : (visits : List world.Visit) (arrivals : List Arrival) (x : world.Visit) →
    Grows visits arrivals (visits ++ x ∷ []) arrivals
grows_visit visits arrivals x =
    record {
      visits_stay = λ v h. get_or-append visits (x ∷ []) no_visit v h;
      visits_long = omega (arith, length-append visits (x ∷ []));
      arrivals_stay = λ o h. refl;
      arrivals_long = omega arith;
    }

-- an arrival is appended
pub grows_arrival : (visits : List world.Visit) (arrivals : List Arrival) (x : Arrival) → Grows visits arrivals visits (arrivals ++ x ∷ [])
grows_arrival visits arrivals x =
    record {
      visits_stay = λ v h. refl;
      visits_long = omega arith;
      arrivals_stay = λ o h. get_or-append arrivals (x ∷ []) no_arrival o h;
      arrivals_long = omega (arith, length-append arrivals (x ∷ []));
    }

module _ {visits more : List world.Visit} {arrivals later : List Arrival} (g : Grows visits arrivals more later) where
  -- a visit of a filter and stage is one still
  visit_grows : (f : ℕ) (at : Stage) (v : ℕ) → IsVisit visits arrivals f at v → IsVisit more later f at v
  visit_grows f at v h =
      let same = g.visits_stay v h.there in
      record {
        there = omega (arith, h.there, g.visits_long);
        operation = rw same (omega (arith, h.operation, g.arrivals_long));
        filter = rw same h.filter;
        stage = rw same h.stage;
      }

  -- its arrival is the same
  arrival_same : (f : ℕ) (at : Stage) (v : ℕ) → IsVisit visits arrivals f at v → arrival_in more later v ≡ arrival_in visits arrivals v
  arrival_same f at v h = rw (g.visits_stay v h.there) (g.arrivals_stay (visit_in visits arrivals v).operation h.operation)

  -- an operation that was given is one still
  given_grows : (f : ℕ) (at : Stage) (mode : Mode) (v : ℕ) → IsGiven visits arrivals f at mode v → IsGiven more later f at mode v
  given_grows f at mode v h = record {
    visit = visit_grows f at v h.visit;
    mode_is = ap (λ (x : Arrival). x.mode) (arrival_same f at v h.visit) ∙ h.mode_is;
  }

  -- what a callback was given it may be given still
  gift_grows : (f : ℕ) (mode : Mode) (q : Place) (x : Option ℕ) → Given visits arrivals f mode q x → Given more later f mode q x
  gift_grows f mode (place.Pre kind) None h = absurd h
  gift_grows f mode (place.Pre kind) (Some v) h =
      record {
        given = given_grows f _ mode v h.given;
        kind_is = ap (λ (x : Arrival). x.kind) (arrival_same f _ v h.given.visit)
            ∙ h.kind_is;
      }
  gift_grows f mode (place.Post kind) None h = absurd h
  gift_grows f mode (place.Post kind) (Some v) h =
      record {
        given = given_grows f _ mode v h.given;
        kind_is = ap (λ (x : Arrival). x.kind) (arrival_same f _ v h.given.visit)
            ∙ h.kind_is;
      }
  gift_grows f mode place.Canceled None h = absurd h
  gift_grows f mode place.Canceled (Some v) h = given_grows f _ mode v h
  gift_grows f mode place.DeferredPre None h = absurd h
  gift_grows f mode place.DeferredPre (Some v) h = given_grows f _ mode v h
  gift_grows f mode place.DeferredPost None h = absurd h
  gift_grows f mode place.DeferredPost (Some v) h = given_grows f _ mode v h
  gift_grows f mode place.Generic None h = h
  gift_grows f mode place.Generic (Some v) h = absurd h

  -- the entries of a queue fit still
  pub queue_grows : (p : List Filter) (f : ℕ) (queue : List Entry) → Each (FitsQueue visits arrivals p f) queue →
      Each (FitsQueue more later p f) queue
  queue_grows p f [] h = tt
  queue_grows p f (e ∷ queue) h = (record { given = given_grows f _ _ e.visit h.0.given; served = h.0.served }, queue_grows p f queue h.1)

  -- a work item fits still
  pub item_grows : (p : List Filter) (i : Option Item) → IsItem visits arrivals p i → IsItem more later p i
  item_grows p None h = tt
  item_grows p (Some i) h = record {
    given = gift_grows i.filter _ _ i.visit h.given;
    callback = h.callback;
    there = h.there;
    is_work = h.is_work;
  }

  -- a visit that was there, before the filters below, has its callback still
  pub before_grows : (p : List Filter) →
      ((v : ℕ) → v < length visits → (visit_in visits arrivals v).stage ≡ stage.Pre → IsBefore visits arrivals p v) →
      (v : ℕ) → v < length visits → (visit_in more later v).stage ≡ stage.Pre → IsBefore more later p v
  before_grows p h v there e =
      let same = g.visits_stay v there in
      let old = h v there (rw same at e) in
      record {
        operation = rw same (omega (arith, old.operation, g.arrivals_long));
        calm = rw same old.calm;
        asked = rw (same, g.arrivals_stay (visit_in visits arrivals v).operation old.operation) old.asked;
      }

  -- an activation stands where it stood
  pub stood_grows : (p : List Filter) (actor : Actor) (s : Shadow) → Stood visits arrivals p actor s → Stood more later p actor s
  stood_grows p actor s h = record {
    placed = h.placed;
    given = gift_grows actor.filter s.mode actor.place _ h.given;
    removed = λ o v e. visit_grows actor.filter _ v (h.removed o v e);
    wide = h.wide;
    broad = h.broad;
  }
