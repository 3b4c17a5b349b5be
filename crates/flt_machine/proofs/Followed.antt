-- The operation that a change moves.
use Rattle.std.proofs.Common.{◌≡◌, ◌≢◌, ℕ, ◌+◌, ◌<◌, Bool, true, false, not, ◌&&◌, List, [], ◌∷◌, ◌++◌, Option}
use Rattle.std.proofs.Common.{Some, None, length, map, if◌then◌else◌, ap, sym, subst, refl, ◌∙◌, inl, inr, arith}
use Rattle.std.proofs.Math.ListN.{set, get_or, get_or-append}
use Rattle.std.proofs.lemmas.Bool.{cases_eq, cases_lt, ne_eqb}
use Rattle.std.proofs.lemmas.List.{get_or-set_same, get_or-set_other, get_or_past, length-append}
use Rattle.std.specs.Prelude.{nat_lt}
use Rattle.flt_model.specs.declared.subject.Subject.{Subject}
use Rattle.flt_model.specs.declared.subject.Subject.TheVariants as subject
use Rattle.flt_model.specs.Moves.{are_settled, carried_out, is_done, is_empty, is_up, with_arrival}
use Rattle.flt_model.specs.Settling as settling
use Rattle.flt_model.specs.declared.settling.Way.{Way}
use Rattle.flt_model.specs.declared.settling.Way.TheVariants.{Passes, Frames, Ends, Rises, Stays}
use Rattle.flt_model.specs.declared.parts.Arrival.{Arrival}
use Rattle.flt_model.specs.declared.parts.Position.{Position}
use Rattle.flt_model.specs.declared.parts.Position.TheVariants.{Down, Visiting, Up}
use Rattle.flt_model.specs.World.{Store, Route, no_route, route_at, visit_at, with_route}
use Rattle.flt_ops.specs.Operating.{filter_in, is_below, past_filter, lowered}
use Rattle.flt_machine.specs.Tickets.{newcomer, goes_on, is_left, lands, operations}
use Rattle.flt_machine.proofs.Passing.{passing_none, passing_one, newcomer_none, newcomer_one}
use Rattle.flt_machine.proofs.Quiet.{at_set, no_operation, same_operations, stays}

-- ---- an operation that arrives

-- it gets a ticket, and no other does
pub arrived : (s : Store) (a : Arrival) → operations s (with_arrival s a) ≡ subject.Operation (length s.arrivals) ∷ []
arrived s a =
    ap (λ (l : List ℕ). map subject.Operation l ++ newcomer subject.Operation (length s.arrivals) (length (s.arrivals ++ a ∷ [])))
    (passing_none (is_left s (with_arrival s a)) (length s.routes)
    (λ o less. ap (λ (b : Bool). b && not (is_done (with_arrival s a) o))
    (ap (λ (r : Route). goes_on (route_at s o).position r.position) (get_or-append s.routes (new ∷ []) no_route o less) ∙
    stays (route_at s o).position))) ∙
    newcomer_one subject.Operation (length s.arrivals) (length (s.arrivals ++ a ∷ [])) (length-append s.arrivals (a ∷ []))
  where
    new : Route
    new = record { position = Down 0; frames = []; cancelled = false; outcome = None }

-- ---- one operation that has another route

-- where it stands, it is over
abbrev pub is_over : Store → ℕ → Route → Bool
is_over t o r = is_up r.position && is_empty r.frames && are_settled o t.visits t.settled

module _ (s t : Store) (o : ℕ) (r : Route) (routes : t.routes ≡ set s.routes o r) (arrivals : length t.arrivals ≡ length s.arrivals) where
  other_route : (k : ℕ) → k ≢ o → route_at t k ≡ route_at s k
  other_route k differs = ap (λ (l : List Route). get_or l k no_route) routes ∙ get_or-set_other s.routes o k r no_route differs

  own_route : o < length s.routes → route_at t o ≡ r
  own_route there = ap (λ (l : List Route). get_or l o no_route) routes ∙ get_or-set_same s.routes o r no_route there

  -- one that goes on is there
  is_there : goes_on (route_at s o).position r.position ≡ true → o < length s.routes
  is_there goes = elim (cases_lt o (length s.routes)) [
    | inl there ↦ there
    | inr past ↦ absurd (let none : goes_on (route_at s o).position r.position ≡
        false = ap (λ (x : Route). goes_on x.position r.position) (get_or_past s.routes o no_route past) in cc)
  ]

  others_stay : (k : ℕ) → k ≢ o → is_left s t k ≡ false
  others_stay k differs =
      ap (λ (b : Bool). b && not (is_done t k))
      (ap (λ (x : Route). goes_on (route_at s k).position x.position) (other_route k differs) ∙ stays (route_at s k).position)

  own_left : o < length s.routes → is_left s t o ≡ (goes_on (route_at s o).position r.position && not (is_over t o r))
  own_left there =
      ap (λ (x : Route). goes_on (route_at s o).position x.position &&
      not (is_up x.position && is_empty x.frames && are_settled o t.visits t.settled)) (own_route there)

  -- it has gone on, and isn't over
  pub one_left : goes_on (route_at s o).position r.position ≡ true → is_over t o r ≡ false → operations s t ≡ subject.Operation o ∷ []
  one_left goes over =
      ap (λ (l : List ℕ). map subject.Operation l ++ newcomer subject.Operation (length s.arrivals) (length t.arrivals))
      (passing_one (is_left s t) (length s.routes) o (is_there goes)
      (own_left (is_there goes) ∙ ap (λ (b : Bool). b && not (is_over t o r)) goes ∙ ap not over)
      (λ k less differs. others_stay k differs)) ∙
      ap (λ (l : List Subject). subject.Operation o ∷ l) (newcomer_none subject.Operation (length s.arrivals) (length t.arrivals) arrivals)

  -- it hasn't gone on
  pub one_stays : goes_on (route_at s o).position r.position ≡ false → operations s t ≡ []
  one_stays stands =
      no_operation s t (λ k.
      ap (λ (l : List Route). goes_on (route_at s k).position (get_or l k no_route).position) routes ∙
      at_set (λ (x : Route). goes_on (route_at s k).position x.position ≡ false) s.routes o k r no_route
      (λ same. ap (λ (j : ℕ). goes_on (route_at s j).position r.position) same ∙ stands) (stays (route_at s k).position)) arrivals

  -- it is over
  pub one_over : is_over t o r ≡ true → operations s t ≡ []
  one_over over = by (goes_on (route_at s o).position r.position) refl
    where
      by : (b : Bool) → goes_on (route_at s o).position r.position ≡ b → operations s t ≡ []
      by false stands = one_stays stands
      by true goes =
          ap (λ (l : List ℕ). map subject.Operation l ++ newcomer subject.Operation (length s.arrivals) (length t.arrivals))
          (passing_none (is_left s t) (length s.routes) (λ k less. elim (cases_eq k o) [
            | inl same ↦
                subst (λ (j : ℕ). is_left s t j ≡ false) (sym same)
                (own_left (is_there goes) ∙ ap (λ (b : Bool). b && not (is_over t o r)) goes ∙ ap not over)
            | inr differs ↦ others_stay k differs
          ])) ∙
          newcomer_none subject.Operation (length s.arrivals) (length t.arrivals) arrivals

-- ---- an operation passes a filter, or is carried out

down_of : (n : ℕ) (q : Position) (f : ℕ) → filter_in n q ≡ Some f → q ≡ Down f
down_of n (Down g) f is = by (nat_lt g n) is
  where
    by : (b : Bool) → (if b then Some g else None) ≡ Some f → Down g ≡ Down f
    by true is = let same : g ≡ f = cc in ap Down same
    by false is = absurd (cc)
down_of n Visiting f is = absurd (cc)
down_of n Up f is = absurd (cc)

next_filter : (f : ℕ) → goes_on (Down f) (Down (f + 1)) ≡ true
next_filter f = ap not (ne_eqb f (f + 1) (λ it. absurd (omega (arith, it))))

-- an operation that passes a filter is the one that is moved
pub passed_on : (s : Store) (o f : ℕ) → filter_in (length s.presences) (route_at s o).position ≡ Some f →
    operations s (past_filter o f s) ≡ subject.Operation o ∷ []
passed_on s o f is =
    one_left s (past_filter o f s) o (record (route_at s o) { position = Down (f + 1) }) refl refl
    (ap (λ (q : Position). goes_on q (Down (f + 1))) (down_of (length s.presences) (route_at s o).position f is) ∙ next_filter f) refl

up_from : (n : ℕ) (q : Position) → is_below n q ≡ true → goes_on q Up ≡ true
up_from n (Down f) is = refl
up_from n Visiting is = refl
up_from n Up is = absurd (cc)

module _ (s : Store) (o : ℕ) (is : is_below (length s.presences) (route_at s o).position ≡ true) where
  -- an operation that goes back through the stack is moved where it isn't over
  pub lowered_left : (is_empty (route_at s o).frames && are_settled o s.visits s.settled) ≡ false →
      operations s (lowered o s) ≡ subject.Operation o ∷ []
  lowered_left more = one_left s (lowered o s) o (carried_out (route_at s o)) refl refl
      (up_from (length s.presences) (route_at s o).position is) more

  -- an operation that goes back through the stack and is over isn't moved
  pub lowered_over : (is_empty (route_at s o).frames && are_settled o s.visits s.settled) ≡ true → operations s (lowered o s) ≡ []
  lowered_over none = one_over s (lowered o s) o (carried_out (route_at s o)) refl refl none

-- ---- a visit is settled

module _ (s : Store) (v : ℕ) (x : Option ℕ) (way : Way) where
  abbrev led_store : Bool → Store
  led_store led = if led then with_route s (visit_at s v).operation
      (settling.led (visit_at s v).filter x way (route_at s (visit_at s v).operation)) else s

  abbrev settled_store : Bool → Bool → Store
  settled_store settles led = if settles then record (led_store led) { settled = set (led_store led).settled v true } else s

  abbrev later : Route
  later = settling.led (visit_at s v).filter x way (route_at s (visit_at s v).operation)

  -- a visit that is settled, or a draining one, moves nothing
  pub not_led : settling.is_led s v ≡ false → operations s (settling.settled_by s v x way) ≡ []
  not_led is = ap (λ (b : Bool). operations s (settled_store (settling.settles_visit way) b)) is ∙ by (settling.settles_visit way)
    where
      by : (b : Bool) → operations s (settled_store b false) ≡ []
      by true = same_operations s (settled_store true false) refl refl
      by false = same_operations s s refl refl

  -- a status that leads nowhere moves nothing
  pub not_settled : settling.settles_visit way ≡ false → operations s (settling.settled_by s v x way) ≡ []
  not_settled is = ap (λ (b : Bool). operations s (settled_store b (settling.is_led s v))) is ∙ same_operations s s refl refl

  module _ (is : settling.is_led s v ≡ true) (settles : settling.settles_visit way ≡ true) where
    store_is : settling.settled_by s v x way ≡ settled_store true true
    store_is = ap (λ (b : Bool). settled_store (settling.settles_visit way) b) is ∙ ap (λ (b : Bool). settled_store b true) settles

    pub led_left : goes_on (route_at s (visit_at s v).operation).position later.position ≡ true →
        is_over (settled_store true true) (visit_at s v).operation later ≡ false →
        operations s (settling.settled_by s v x way) ≡ subject.Operation (visit_at s v).operation ∷ []
    led_left goes over = ap (operations s) store_is ∙ one_left s (settled_store true true)
        (visit_at s v).operation later refl refl goes over

    pub led_stays : goes_on (route_at s (visit_at s v).operation).position later.position ≡ false →
        operations s (settling.settled_by s v x way) ≡ []
    led_stays stands = ap (operations s) store_is ∙ one_stays s (settled_store true true) (visit_at s v).operation later refl refl stands

    pub led_over : is_over (settled_store true true) (visit_at s v).operation later ≡ true →
        operations s (settling.settled_by s v x way) ≡ []
    led_over over = ap (operations s) store_is ∙ one_over s (settled_store true true) (visit_at s v).operation later refl refl over

-- by what its way leads to
module _ (s : Store) (v : ℕ) (x : Option ℕ) (is : settling.is_led s v ≡ true) where
  abbrev goes : Way → Bool
  goes way = goes_on (route_at s (visit_at s v).operation).position
      (lands (visit_at s v).filter way (route_at s (visit_at s v).operation).position)

  abbrev spent : Bool
  spent = is_empty (route_at s (visit_at s v).operation).frames && are_settled (visit_at s v).operation s.visits (set s.settled v true)

  abbrev over : Way → Bool
  over way = is_over (settled_store s v x way true true) (visit_at s v).operation (later s v x way)

  follows : (way : Way) (g o : Bool) → settling.settles_visit way ≡ true →
      goes_on (route_at s (visit_at s v).operation).position (later s v x way).position ≡ g → over way ≡ o →
      operations s (settling.settled_by s v x way) ≡ (if g && not o then subject.Operation (visit_at s v).operation ∷ [] else [])
  follows way true false settles hits misses = led_left s v x way is settles hits misses
  follows way true true settles hits misses = led_over s v x way is settles misses
  follows way false o settles hits misses = led_stays s v x way is settles hits

  -- the operation that settling a visit leaves
  pub settled_one : (way : Way) (b : Bool) →
      (goes way && not (is_up (lands (visit_at s v).filter way (route_at s (visit_at s v).operation).position) && spent)) ≡ b →
      operations s (settling.settled_by s v x way) ≡ (if b then subject.Operation (visit_at s v).operation ∷ [] else [])
  settled_one Passes b same =
      follows Passes _ _ refl refl refl ∙ ap (λ (y : Bool). if y then subject.Operation (visit_at s v).operation ∷ [] else []) same
  settled_one Frames b same =
      follows Frames _ _ refl refl refl ∙ ap (λ (y : Bool). if y then subject.Operation (visit_at s v).operation ∷ [] else []) same
  settled_one (Ends outcome) b same =
      follows (Ends outcome) _ _ refl refl refl ∙
      ap (λ (y : Bool). if y then subject.Operation (visit_at s v).operation ∷ [] else []) same
  settled_one Rises b same =
      follows Rises _ _ refl refl refl ∙ ap (λ (y : Bool). if y then subject.Operation (visit_at s v).operation ∷ [] else []) same
  settled_one Stays b same =
      not_settled s v x Stays refl ∙
      ap (λ (y : Bool). if y then subject.Operation (visit_at s v).operation ∷ [] else [])
      (ap (λ (y : Bool). y && not (is_up (route_at s (visit_at s v).operation).position && spent))
      (sym (stays (route_at s (visit_at s v).operation).position)) ∙ same)

-- the same of what is read
pub settled_read : (s : Store) (v : ℕ) (x : Option ℕ) (way : Way) (o f : ℕ) (from : Position) (spent b : Bool) →
    settling.is_led s v ≡ true →
    o ≡ (visit_at s v).operation → f ≡ (visit_at s v).filter → from ≡ (route_at s o).position →
    spent ≡ (is_empty (route_at s o).frames && are_settled o s.visits (set s.settled v true)) →
    b ≡ (goes_on from (lands f way from) && not (is_up (lands f way from) && spent)) →
    operations s (settling.settled_by s v x way) ≡ (if b then subject.Operation o ∷ [] else [])
settled_read s v x way o f from spent b led of_o of_f of_from of_spent same =
    rw (of_o) (settled_one s v x led way b (sym (rw (of_spent, of_from, of_f, of_o) at same)))
