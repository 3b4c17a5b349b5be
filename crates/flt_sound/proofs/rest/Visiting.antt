-- Where an operation stands in a visit, an unsettled visit of it is there that will lead it on: one that doesn't drain. Settling that one
-- moves the operation, and nothing else settles it. So an operation never gets stuck in a visit.
-- Here s is a store, o an operation, v and u visits, r a route.
use Rattle.std.proofs.Common.{◌≡◌, ◌≢◌, ℕ, ◌<◌, Bool, true, false, [], ◌∷◌, ◌++◌, length}
use Rattle.std.proofs.Common.{Option, ap, sym, subst, refl, ◌∙◌, arith, inl, inr, ◌⊎◌}
use Rattle.std.specs.Prelude.{not, if◌then◌else◌}
use Rattle.std.proofs.Math.ListN.{set, get_or, get_or-append}
use Rattle.std.proofs.Math.Seq.{get_or-append_seam}
use Rattle.std.proofs.lemmas.Bool.{cases_eq, cases_lt, and_from}
use Rattle.std.proofs.lemmas.List.{get_or_past, get_or-set_same, get_or-set_other, set_past, length-append}
use Rattle.flt_model.specs.declared.settling.Way.{Way}
use Rattle.flt_model.specs.declared.settling.Way.TheVariants.{Passes, Frames, Ends, Rises, Stays}
use Rattle.flt_model.specs.Settling.{settles_visit, led, is_led, lead, settled_by}
use Rattle.flt_model.specs.declared.parts.Position.{Position}
use Rattle.flt_model.specs.declared.parts.Position.TheVariants.{Visiting}
use Rattle.flt_model.specs.World.{Store, Route, Visit, no_route, no_visit, route_at, visit_at, is_settled, with_route}
use Rattle.flt_sound.proofs.moves.Starting.{get_or-other}

-- in a visit
abbrev pub is_visiting : Position → Bool
is_visiting Visiting = true
is_visiting _ = false

-- an unsettled visit of the operation that doesn't drain
pub record IsVisited (s : Store) (o : ℕ) : Type 0 where
  pub visit : ℕ
  pub there : visit < length s.visits
  pub of : (visit_at s visit).operation ≡ o
  pub calm : (visit_at s visit).draining ≡ false
  pub unsettled : is_settled s visit ≡ false

-- so it is of each operation that stands in a visit
abbrev pub AreVisited : Store → Type 0
AreVisited s = (o : ℕ) → is_visiting (route_at s o).position ≡ true → IsVisited s o

-- ---- what leaves it so

-- routes, visits and what is settled stay
pub same_visited : (s new : Store) → new.routes ≡ s.routes → new.visits ≡ s.visits → new.settled ≡ s.settled → AreVisited s → AreVisited new
same_visited s new r v t k o h =
    let x = k o (ap (λ l. is_visiting (get_or l o no_route).position) (sym r) ∙ h) in
    record {
      visit = x.visit;
      there = subst (λ l. x.visit < length l) (sym v) x.there;
      of = ap (λ l. (get_or l x.visit no_visit).operation) v ∙ x.of;
      calm = ap (λ l. (get_or l x.visit no_visit).draining) v ∙ x.calm;
      unsettled = ap (λ l. get_or l x.visit true) t ∙ x.unsettled;
    }

-- a position after a route is set: the new one's, or what it was
position_set : (s : Store) (q : ℕ) (r : Route) (o : ℕ) → is_visiting (route_at (with_route s q r) o).position ≡ true →
    ((o ≡ q) × (is_visiting r.position ≡ true)) ⊎ (is_visiting (route_at s o).position ≡ true)
position_set s q r o h = elim (cases_eq o q) [
  | inl same ↦ elim (cases_lt q (length s.routes)) [
    | inl there ↦
        let now : route_at (with_route s q r) o ≡ r = ap (λ i. get_or (set s.routes q r) i no_route) same
        ∙ get_or-set_same s.routes q r no_route there in
        inl (same, ap (λ (x : Route). is_visiting x.position) (sym now) ∙ h)
    | inr past ↦ inr (ap (λ l. is_visiting (get_or l o no_route).position) (sym (set_past s.routes q r past)) ∙ h)
  ]
  | inr ne ↦ inr (ap (λ (x : Route). is_visiting x.position) (sym (get_or-set_other s.routes q o r no_route ne)) ∙ h)
]

-- a route changes, and its operation stands in a visit only if it did
pub route_visited : (s : Store) (q : ℕ) (r : Route) → (is_visiting r.position ≡ true → is_visiting (route_at s q).position ≡ true) →
    AreVisited s → AreVisited (with_route s q r)
route_visited s q r on k o h = by (position_set s q r o h)
  where
    same : IsVisited s o → IsVisited (with_route s q r) o
    same x = record { visit = x.visit; there = x.there; of = x.of; calm = x.calm; unsettled = x.unsettled }

    by : ((o ≡ q) × (is_visiting r.position ≡ true)) ⊎ (is_visiting (route_at s o).position ≡ true) → IsVisited (with_route s q r) o
    by (inl e) = same (k o (ap (λ i. is_visiting (route_at s i).position) e.0 ∙ on e.1))
    by (inr e) = same (k o e)

-- one visit more, of an operation that stands in it, or that stands where it stood
pub push_visited : (s : Store) (q : ℕ) (r : Route) (x : Visit) → length s.settled ≡ length s.visits → x.operation ≡ q →
    (is_visiting r.position ≡ true → (x.draining ≡ false) ⊎ (is_visiting (route_at s q).position ≡ true)) → AreVisited s →
    AreVisited (record (with_route s q r) { visits = s.visits ++ x ∷ []; settled = s.settled ++ false ∷ [] })
push_visited s q r x long of on k o h = by (position_set s q r o h)
  where
    new : Store
    new = record (with_route s q r) { visits = s.visits ++ x ∷ []; settled = s.settled ++ false ∷ [] }

    -- a visit that was there is there
    older : IsVisited s o → IsVisited new o
    older y =
        let is : visit_at new y.visit ≡ visit_at s y.visit = get_or-append s.visits (x ∷ []) no_visit y.visit y.there in
        record {
          visit = y.visit;
          there = omega (arith, y.there, length-append s.visits (x ∷ []));
          of = ap (λ (v : Visit). v.operation) is ∙ y.of;
          calm = ap (λ (v : Visit). v.draining) is ∙ y.calm;
          unsettled = get_or-append s.settled (false ∷ []) true y.visit (omega (arith, y.there, long)) ∙ y.unsettled;
        }

    -- the new one
    newer : x.draining ≡ false → o ≡ q → IsVisited new o
    newer calm same =
        let n = length s.visits in
        let is : visit_at new n ≡ x = get_or-append_seam s.visits x [] no_visit in
        record {
          visit = n;
          there = omega (arith, length-append s.visits (x ∷ []));
          of = ap (λ (v : Visit). v.operation) is ∙ (of ∙ sym same);
          calm = ap (λ (v : Visit). v.draining) is ∙ calm;
          unsettled = subst (λ i. get_or (s.settled ++ false ∷ []) i true ≡ false) long (get_or-append_seam s.settled false [] true);
        }

    by_start : (o ≡ q) → (x.draining ≡ false) ⊎ (is_visiting (route_at s q).position ≡ true) → IsVisited new o
    by_start same (inl calm) = newer calm same
    by_start same (inr was) = older (k o (ap (λ i. is_visiting (route_at s i).position) same ∙ was))

    by : ((o ≡ q) × (is_visiting r.position ≡ true)) ⊎ (is_visiting (route_at s o).position ≡ true) → IsVisited new o
    by (inl e) = by_start e.0 (on e.1)
    by (inr e) = older (k o e)

-- ---- a visit is settled

-- where a visit is settled its operation is led out of it
led_away : (g : ℕ) (x : Option ℕ) (way : Way) (r : Route) → settles_visit way ≡ true → is_visiting (led g x way r).position ≡ false
led_away g x Passes r h = refl
led_away g x Frames r h = refl
led_away g x (Ends outcome) r h = refl
led_away g x Rises r h = refl
led_away g x Stays r h = absurd (cc)

-- settling a visit keeps that each operation at a filter has one that isn't settled
pub settled_visited : (s : Store) (v : ℕ) (x : Option ℕ) (way : Way) → AreVisited s → AreVisited (settled_by s v x way)
settled_visited s v x way k = mark (settles_visit way) refl
  where
    q : ℕ
    q = (visit_at s v).operation

    r : Route
    r = led (visit_at s v).filter x way (route_at s q)

    -- another visit isn't settled by it
    other : (o : ℕ) (y : IsVisited s o) (mid : Store) → mid.visits ≡ s.visits → mid.settled ≡ s.settled → y.visit ≢ v →
        IsVisited (record mid { settled = set mid.settled v true }) o
    other o y mid vs ts ne = record {
      visit = y.visit;
      there = subst (λ l. y.visit < length l) (sym vs) y.there;
      of = ap (λ l. (get_or l y.visit no_visit).operation) vs ∙ y.of;
      calm = ap (λ l. (get_or l y.visit no_visit).draining) vs ∙ y.calm;
      unsettled = get_or-set_other mid.settled v y.visit true true ne ∙ (ap (λ l. get_or l y.visit true) ts ∙ y.unsettled);
    }

    -- the visit that is settled leads its operation away; where it doesn't lead, it isn't the one
    by_led : (b : Bool) → is_led s v ≡ b → settles_visit way ≡ true → AreVisited
        (record (if b then with_route s q r else s) { settled = set (if b then with_route s q r else s).settled v true })
    by_led true e h o p = by (position_set s q r o p)
      where
        by : ((o ≡ q) × (is_visiting r.position ≡ true)) ⊎ (is_visiting (route_at s o).position ≡ true) →
            IsVisited (record (with_route s q r) { settled = set s.settled v true }) o
        by (inl y) = let bad : false ≡ true = sym (led_away (visit_at s v).filter x way (route_at s q) h) ∙ y.1 in absurd (cc)
        by (inr y) = elim (cases_eq (k o y).visit v) [
          | inl same ↦
              let is_q : o ≡ q = sym (k o y).of ∙ ap (λ i. (visit_at s i).operation) same in
              elim (cases_lt q (length s.routes)) [
                | inl there ↦
                    let now : route_at (with_route s q r) o ≡ r = ap (λ i. get_or (set s.routes q r) i no_route) is_q
                    ∙ get_or-set_same s.routes q r no_route there in
                    let bad : false ≡ true = sym (led_away (visit_at s v).filter x way (route_at s q) h)
                    ∙ (ap (λ (z : Route). is_visiting z.position) (sym now) ∙ p) in absurd (cc)
                | inr past ↦
                    let none : route_at s o ≡ no_route = ap (λ i. route_at s i) is_q ∙ get_or_past s.routes q no_route past in
                    let bad : false ≡ true = ap (λ (z : Route). is_visiting z.position) (sym none) ∙ y in absurd (cc)
              ]
          | inr ne ↦ other o (k o y) (with_route s q r) refl refl ne
        ]
    by_led false e h o p = elim (cases_eq (k o p).visit v) [
      | inl same ↦
          let y = k o p in
          let waits : is_settled s v ≡ false = ap (λ i. is_settled s i) (sym same) ∙ y.unsettled in
          let calm : (visit_at s v).draining ≡ false = ap (λ i. (visit_at s i).draining) (sym same) ∙ y.calm in
          let bad : true ≡ false = sym (and_from _ _ (ap not waits) (ap not calm)) ∙ e in absurd (cc)
      | inr ne ↦ other o (k o p) s refl refl ne
    ]

    mark : (b : Bool) → settles_visit way ≡ b →
        AreVisited (if b then record (lead s v x way) { settled = set (lead s v x way).settled v true } else s)
    mark true e = by_led (is_led s v) refl e
    mark false e = k

-- one operation more, that hasn't come to a visit yet
pub arrival_visited : (s new : Store) (r : Route) → new.routes ≡ s.routes ++ r ∷ [] → new.visits ≡ s.visits → new.settled ≡ s.settled →
    is_visiting r.position ≡ false → AreVisited s → AreVisited new
arrival_visited s new r e v t down k o h =
    same_visited (record s { routes = s.routes ++ r ∷ [] }) new e v t more o h
  where
    more : AreVisited (record s { routes = s.routes ++ r ∷ [] })
    more o h = elim (cases_eq o (length s.routes)) [
      | inl same ↦
          let now : get_or (s.routes ++ r ∷ []) o no_route ≡ r =
          ap (λ i. get_or (s.routes ++ r ∷ []) i no_route) same ∙ get_or-append_seam s.routes r [] no_route in
          let bad : false ≡ true = sym down ∙ (ap (λ (z : Route). is_visiting z.position) (sym now) ∙ h) in absurd (cc)
      | inr ne ↦
          let now : get_or (s.routes ++ r ∷ []) o no_route ≡ route_at s o = get_or-other s.routes r no_route o ne in
          let y = k o (ap (λ (z : Route). is_visiting z.position) (sym now) ∙ h) in
          record { visit = y.visit; there = y.there; of = y.of; calm = y.calm; unsettled = y.unsettled }
    ]
